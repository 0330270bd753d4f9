use Rattle.std.proofs.Common.{rules, ◌≡◌, ◌≤◌, ◌+◌, ◌∙◌, sym, ap, subst, length, map, get_or, false, unwrap_or}
use Rattle.std.specs.List.{AllByRecursion}
use Rattle.std.proofs.lemmas.List.{take_all}
use Rattle.kp_kore.specs.View.{sentence_view}
use Rattle.kp_modules.specs.Extending.{is_declaration}
use Rattle.kp_modules.proofs.Unsound.{one_more_plain, first_declaration}
use Rattle.kp_modules.proofs.extension.check_sentences.Goals as goal

pub loop-i-preserved : goal.loop-i-preserved
loop-i-preserved c =
    let i = c.loop-i.i in
    let ss = c.args.sentences.now in
    let s = c.index-sentences-i.result in
    let read : s ≡ get_or ss i s = search rules in
    one_more_plain ss i s c.loop-i-test.true read c.loop-i.invariant (sym c.declares.ensures ∙ c.if-declares.false)

pub returns-then-declares-clause-err : goal.returns-then-declares-clause-err
returns-then-declares-clause-err c f told =
    let i = c.loop-i.i in
    let ss = c.args.sentences.now in
    let s = c.index-sentences-i.result in
    let read : s ≡ get_or ss i s = search rules in
    (i + 1, ap (λ o. unwrap_or o f) (sym told), first_declaration ss i s c.loop-i-test.true read c.loop-i.invariant (sym c.declares.ensures ∙ c.if-declares.true))

pub returns-clause-ok : goal.returns-clause-ok
returns-clause-ok c =
    let past : length c.args.sentences.now ≤ c.loop-i.i = search rules in
    subst (λ l. AllByRecursion (λ s. is_declaration s ≡ false) (map sentence_view l)) (take_all c.loop-i.i c.args.sentences.now past) c.loop-i.invariant
