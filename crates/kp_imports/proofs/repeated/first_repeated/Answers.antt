use Rattle.std.proofs.Common.{rules, ◌≡◌, ◌≤◌, ◌+◌, ◌++◌, ◌∷◌, [], sym, ap, subst, ◌∙◌, take, get_or, length, string_bytes}
use Rattle.std.proofs.lemmas.List.{take_all}
use Rattle.kp_imports.specs.Names.{AreOnce, Lists, texts_of}
use Rattle.kp_imports.specs.Reaching.{has}
use Rattle.kp_imports.proofs.Twice.{once_more, texts_more, was_there, was_not_there, repeated_here}
use Rattle.kp_imports.proofs.repeated.first_repeated.Goals as goal

pub returns-then-not-branch : goal.returns-then-not-branch
returns-then-not-branch c =
    let names = c.args.names.now in
    let i = c.loop-i.i in
    let x = c.index-names-i.result in
    let met = c.in_ok-meet.ensures (texts_of (take i names)) c.loop-i.invariant.1 in
    let read : x ≡ get_or names i x = search rules in
    repeated_here names i x c.loop-i-test.true read c.loop-i.invariant.0 (was_there (has (string_bytes x.now) (texts_of (take i names))) (sym met.0 ∙ c.if-not-branch.true))

pub loop-i-preserved : goal.loop-i-preserved
loop-i-preserved c =
    let names = c.args.names.now in
    let i = c.loop-i.i in
    let x = c.index-names-i.result in
    let met = c.in_ok-meet.ensures (texts_of (take i names)) c.loop-i.invariant.1 in
    let read : x ≡ get_or names i x = search rules in
    let more : texts_of (take (i + 1) names) ≡ texts_of (take i names) ++ string_bytes x.now ∷ [] = texts_more names i x c.loop-i-test.true ∙ ap (λ y. texts_of (take i names) ++ string_bytes y.now ∷ []) (sym read) in (
      subst AreOnce (sym more) (once_more (texts_of (take i names)) (string_bytes x.now) c.loop-i.invariant.0 (was_not_there (has (string_bytes x.now) (texts_of (take i names))) (sym met.0 ∙ c.if-not-branch.false))),
      subst (λ l. Lists l c.meet.new.met) (sym more) met.1,
    )

pub returns : goal.returns
returns c =
    let past : length c.args.names.now ≤ c.loop-i.i = search rules in
    subst (λ l. AreOnce (texts_of l)) (take_all c.loop-i.i c.args.names.now past) c.loop-i.invariant.0
