use Rattle.std.proofs.Common.{rules, refl}
use Rattle.kp_rules.proofs.SplitLemmas.{none_is_over}
use Rattle.kp_rules.proofs.sort_index.SortIndex.covers.Goals as goal

pub returns-then-not-has-clause-tells : goal.returns-then-not-has-clause-tells
returns-then-not-has-clause-tells c = (λ h. absurd (cc), λ h. absurd (cc (c.has.ensures.1 h.0, c.if-not-has.true)))

pub returns-then-has-clause-tells : goal.returns-then-has-clause-tells
returns-then-has-clause-tells c = (λ h. absurd (cc), λ h. absurd (c.requires c.args.number (c.has-2.ensures.0 (search rules)) h.1))

pub returns-then-has_all-clause-tells : goal.returns-then-has_all-clause-tells
returns-then-has_all-clause-tells c = (λ _. (c.has.ensures.0 (search rules), λ o k. (c.in_ok-below.ensures o).0 (c.has_all.ensures.0 (search rules) o k)), λ _. refl)

pub returns-clause-tells : goal.returns-clause-tells
returns-clause-tells c = (λ h. absurd (cc), λ h. absurd (cc (c.has_all.ensures.1 (λ o k. (c.in_ok-below.ensures o).1 (h.1 o k)), c.if-has_all.false)))

pub returns-clause-kept : goal.returns-clause-kept
returns-clause-kept c =
    none_is_over c.args.self.now c.args.number c.args.others.now c.in_ok-below.below.keys c.args.failed.now.keys c.add_all.new.found.keys c.as_slice.result.now c.in_ok-below.ensures c.as_slice.ensures.keys
    (λ all. absurd (cc (c.has_all.ensures.1 all, c.if-has_all.false))) c.requires c.in_ok-add_all.ensures
