use Rattle.std.proofs.Common.{rules, ◌≡◌, ◌≤◌, ◌+◌, sym, subst, Some, length, slice_get, take, get_or}
use Rattle.std.proofs.lemmas.Grind.{get_or_default_zero}
use Rattle.kp_kore.specs.Theory.{modules_reached, rewrite_axioms}
use Rattle.kp_modules.specs.Extending.{AreTakenFrom}
use Rattle.kp_modules.proofs.Gathering.{zip_at, zip_all}
use Rattle.kp_modules.proofs.Owned.{each_at, axioms_further}
use Rattle.kp_modules.proofs.own_rule_set.rules_at.Goals as goal

pub loop-i-preserved : goal.loop-i-preserved
loop-i-preserved c g d main ms keeps set stand =
    let i = c.loop-i.i in
    let ps = c.args.places.now in
    let p = get_or ps i 0 in
    let read : p ≡ get_or ps i p = sym (get_or_default_zero ps i p c.loop-i-test.true) in
    let here = zip_at (λ m q. slice_get (modules_reached d main) q ≡ Some m) ms ps i p (each_at (slice_get (modules_reached d main)) ms ps stand) c.loop-i-test.true read in
    subst (λ l. AreTakenFrom g l c.add_at.new.found.items) (axioms_further (take i ms) (take (i + 1) ms) here.0 here.1)
    (c.in_ok-add_at.ensures g d main here.0 (rewrite_axioms (take i ms)) keeps set here.2 (c.loop-i.invariant g d main ms keeps set stand))

pub returns : goal.returns
returns c g d main ms keeps set stand =
    let past : length c.args.places.now ≤ c.loop-i.i = search rules in
    subst (λ l. AreTakenFrom g (rewrite_axioms l) c.loop-i.found.items)
    (zip_all (λ m q. slice_get (modules_reached d main) q ≡ Some m) ms c.args.places.now c.loop-i.i (each_at (slice_get (modules_reached d main)) ms c.args.places.now stand) past)
    (c.loop-i.invariant g d main ms keeps set stand)
