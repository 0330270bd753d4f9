use Rattle.std.proofs.Common.{rules, ◌≡◌, ◌≤◌, ◌∙◌, [], sym, ap, subst, length, take, get_or}
use Rattle.std.specs.List.{AllZip, flat_map}
use Rattle.kp_modules.specs.Extending.{IsTakenFrom, AreTakenFrom, AreGathered}
use Rattle.kp_modules.specs.Made.{IsSetOf}
use Rattle.kp_book.specs.Books.{each_axiom_once}
use Rattle.kp_modules.proofs.Gathering.{zip_at, zip_all, lists_more}
use Rattle.kp_modules.proofs.Taken.{of_set}
use Rattle.kp_modules.proofs.joined_rules.rules_once.Goals as goal

pub loop-i-preserved : goal.loop-i-preserved
loop-i-preserved c g lists sets =
    let i = c.loop-i.i in
    let rs = c.args.sets.now in
    let r = c.index-sets-i.result in
    let read : r ≡ get_or rs i r = search rules in
    let here = zip_at (λ axioms s. IsSetOf g axioms s.value) lists rs i r sets c.loop-i-test.true read in
    let seen : c.deref-in-loop-i.result.now ≡ r.value.rules.items = c.deref-in-loop-i.ensures.value ∙ ap (λ s. s.rules.items) c.deref.ensures in
    subst (λ l. AreGathered g l c.gather.new.met c.gather.new.found.items) (lists_more lists i here.0 here.1)
    (c.in_ok-gather.ensures g (flat_map (λ x. x) (take i lists)) here.0 (subst (AllZip (IsTakenFrom g) here.0) (sym seen) (of_set g here.0 r.value here.2)) (c.loop-i.invariant g lists sets))

pub returns : goal.returns
returns c g lists sets =
    let past : length c.args.sets.now ≤ c.loop-i.i = search rules in
    subst (λ l. AreTakenFrom g (each_axiom_once [] (flat_map (λ x. x) l)) c.loop-i.found.items) (zip_all (λ axioms s. IsSetOf g axioms s.value) lists c.args.sets.now c.loop-i.i sets past) (c.loop-i.invariant g lists sets).rules
