use Rattle.std.proofs.Common.{rules, ◌≡◌, ◌≤◌, ◌++◌, ◌∷◌, [], refl, sym, ap, ◌∙◌, get_or, length}
use Rattle.kp_kore.specs.View.{sentence_view}
use Rattle.kp_kore.specs.Theory.{imports_in}
use Rattle.kp_imports.proofs.Sentences.{all_taken, one_further}
use Rattle.kp_modules.proofs.outlines.imports_alone.Goals as goal

pub loop-i-preserved : goal.loop-i-preserved
loop-i-preserved c =
    let i = c.loop-i.i in
    let ss = c.args.sentences.now in
    let s = c.index-sentences-i.result in
    let read : s ≡ get_or ss i s = search rules in
    let own = imports_in (sentence_view s ∷ []) in
    c.in_ok-add_import.ensures ∙ ap (λ l. l ++ own) c.loop-i.invariant ∙ sym (one_further ss i s own c.loop-i-test.true read refl)

pub returns : goal.returns
returns c =
    let past : length c.args.sentences.now ≤ c.loop-i.i = search rules in
    c.loop-i.invariant ∙ all_taken c.args.sentences.now c.loop-i.i past
