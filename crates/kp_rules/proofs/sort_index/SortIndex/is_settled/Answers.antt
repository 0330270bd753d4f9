use Rattle.std.proofs.Common.{rules, refl, inl, inr}
use Rattle.kp_rules.proofs.sort_index.SortIndex.is_settled.Goals as goal

pub returns-then-not-has : goal.returns-then-not-has
returns-then-not-has c = (λ _ h. absurd (cc (c.has.ensures.1 h, c.if-not-has.true)), λ _. refl)

pub returns-then-has : goal.returns-then-has
returns-then-has c = (λ _ h. inl (inl (c.has-2.ensures.0 (search rules))), λ _. refl)

pub returns-then-has-2 : goal.returns-then-has-2
returns-then-has-2 c = (λ _ h. inl (inr (c.has-3.ensures.0 (search rules))), λ _. refl)
