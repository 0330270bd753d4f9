use Rattle.std.proofs.Common.{rules, ◌≡◌, ◌≤◌, ◌+◌, ◌++◌, sym, ap, subst, ◌∙◌, false, [], MatchBool, drop, length}
use Rattle.std.specs.List.{flat_map}
use Rattle.std.proofs.lemmas.List.{drop_all}
use Rattle.kp_kore.specs.View.{view}
use Rattle.kp_compile.specs.Parts.{seen}
use Rattle.kp_claim_sentences.specs.Claims.{are_apart, bound_at}
use Rattle.kp_claim_sentences.proofs.Noting.{bound_left}
use Rattle.kp_claim_sentences.proofs.names.are_apart.Goals as goal

pub returns-then-not-branch : goal.returns-then-not-branch
returns-then-not-branch c names is =
    let ps = c.args.parts.now in
    let i = c.loop-part.part-index in
    let old = c.loop-part.invariant names is in
    let x = bound_at (view c.part-item.result.now) in
    let more = flat_map bound_at (seen (drop (i + 1) ps)) in
    let stop : are_apart old.0 (x ++ more) ≡ false =
    subst (λ b. MatchBool b (are_apart (old.0 ++ x) more ≡ are_apart old.0 (x ++ more)) (are_apart old.0 (x ++ more) ≡ false)) c.if-not-branch.true (c.in_ok-is_new.ensures.is old.0 more old.1) in
    sym (sym old.2 ∙ ap (are_apart old.0) (bound_left ps i c.part-item.result c.loop-part-test.true c.part-item.is) ∙ stop)

pub loop-part-preserved : goal.loop-part-preserved
loop-part-preserved c names is =
    let ps = c.args.parts.now in
    let i = c.loop-part.part-index in
    let old = c.loop-part.invariant names is in
    let x = bound_at (view c.part-item.result.now) in
    let more = flat_map bound_at (seen (drop (i + 1) ps)) in
    let on : are_apart (old.0 ++ x) more ≡ are_apart old.0 (x ++ more) =
    subst (λ b. MatchBool b (are_apart (old.0 ++ x) more ≡ are_apart old.0 (x ++ more)) (are_apart old.0 (x ++ more) ≡ false)) c.if-not-branch.false (c.in_ok-is_new.ensures.is old.0 more old.1) in
    (old.0 ++ x, c.in_ok-is_new.ensures.lists old.0 old.1 c.if-not-branch.false, on ∙ sym (ap (are_apart old.0) (bound_left ps i c.part-item.result c.loop-part-test.true c.part-item.is)) ∙ old.2)

pub returns : goal.returns
returns c names is =
    let old = c.loop-part.invariant names is in
    let past : length c.args.parts.now ≤ c.loop-part.part-index = search rules in
    sym (ap (λ l. are_apart old.0 (flat_map bound_at (seen l))) (drop_all c.loop-part.part-index c.args.parts.now past)) ∙ old.2
