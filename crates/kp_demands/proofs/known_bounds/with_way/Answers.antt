use Rattle.std.proofs.Common.{rules, ap, ◌∙◌, sym, subst, ℕ, ℤ}
use Rattle.std.specs.List.{AllByRecursion}
use Rattle.kp_diff.specs.Bounds.{Meets}
use Rattle.kp_diff.specs.Rows.{Differences, bounds_of}
use Rattle.kp_demands.specs.Demands.{MeetsBound}
use Rattle.kp_demands.proofs.known_bounds.with_way.Goals as goal

pub take_all-requires-clause-sized : goal.take_all-requires-clause-sized
take_all-requires-clause-sized c = (c.requires.sized.0, c.requires.sized.1 ∙ ap (λ (m : Differences). m.size) (sym c.in_ok-own.ensures.same), c.requires.sized.2, c.requires.sized.3)

pub returns-then-not-take_all-clause-none : goal.returns-then-not-take_all-clause-none
returns-then-not-take_all-clause-none c = subst (λ m. (values : ℕ → ℤ) → Meets m.size (bounds_of m) values → ¬ AllByRecursion (MeetsBound values) c.args.way.now) c.in_ok-own.ensures.same (c.take_all.ensures.no (search rules))

pub returns-clause-met : goal.returns-clause-met
returns-clause-met c = subst (λ m. (values : ℕ → ℤ) → Meets m.size (bounds_of m) values → AllByRecursion (MeetsBound values) c.args.way.now → Meets m.size (bounds_of c.take_all.new.known.matrix) values) c.in_ok-own.ensures.same
    (λ values old all. c.take_all.ensures.met values old all (search rules))
