-- A clause that gives a bound variable says that the variable is what it gives.
use Rattle.std.specs.Prelude.{◌≡◌, ◌↔◌, Bool, true, false, Option, Some, None, List, [], ◌∷◌}
use Rattle.std.specs.List.{Contains}
use Rattle.std.specs.Bool.{Decides}
use Rattle.std.proofs.Common.{refl, sym}
use Rattle.kp_kore.specs.Syntax.{KoreSort}
use Rattle.kp_kore.specs.Parts.{SortedName}
use Rattle.kp_kore.specs.Signature.{KoreSignature}
use Rattle.kp_kore.specs.Value.{Value, values_same}
use Rattle.kp_kore.specs.Instance.{Valuation, GivesSorts}
use Rattle.kp_kore.proofs.SameLemmas.{same_values_decide}
use Rattle.kp_signature.proofs.NumberLemmas.{number_value}
use Rattle.kp_symbolic.specs.Terms.{SymbolicTerm, unknown, offset, known, headed, term_instance, term_variables}
use Rattle.kp_symbolic.specs.States.{Atom, same, has_head, quoted, Literal, IsClauseTrue}
use Rattle.kp_symbolic.specs.Solving.{Equation, first_equation, equation_of}
use Rattle.kp_symbolic.proofs.Distribution.{all_first, all_second}
use Rattle.kp_symbolic.proofs.Facts.{GoodTerm}
use Rattle.kp_symbolic_laws.proofs.Step.{at_hand_given}
use Rattle.kp_goals.specs.Consequents.{Consequent}
use Rattle.kp_goals.specs.Exact.{IsRightClause}
use Rattle.kp_goals.specs.Gives.{bound_side, given_by, bound_equation}
use Rattle.kp_goals.proofs.GoodGivens.{bound_is}
use Rattle.kp_goals.proofs.Matched.{SaysWhatItGives}
use Rattle.kp_goals.proofs.ShiftLemmas.{SideNumber, side_says}
use Rattle.kp_goals.proofs.SolvedIn.{equation_met}

stable_values : (u w : Value) → ¬ ¬ (u ≡ w) → u ≡ w
stable_values u w n = by_same (values_same u w) (same_values_decide u w)
  where
    by_same : (b : Bool) → Decides b (u ≡ w) → u ≡ w
    by_same true d = d.0 refl
    by_same false d = absurd (n (λ e. differ (d.1 e)))
      where
        differ : false ≡ true → ⊥
        differ e = cc

-- a clause of one equality says it
pub alone_says : (g : KoreSignature) (x : Valuation) (s : KoreSort) (t u : SymbolicTerm) → IsClauseTrue g x (record { holds = true; atom = same s t u } ∷ []) ↔ (term_instance g x t ≡ term_instance g x u)
alone_says g x s t u = (λ h. stable_values (term_instance g x t) (term_instance g x u) (λ n. h (n, tt)), λ e h. h.0 e)

both_ways : {A B C : Type 0} → A ↔ B → B ↔ C → A ↔ C
both_ways i j = (λ a. j.0 (i.0 a), λ c. i.1 (j.1 c))

first_or : (a b : Option Equation) (e : Equation) (P : Type 0) → first_equation a b ≡ Some e → (a ≡ Some e → P) → (b ≡ Some e → P) → P
first_or (Some d) b e P h i j = i h
first_or None b e P h i j = j h

given_says : (g : KoreSignature) (bound : List SortedName) (x : Valuation) (s : KoreSort) (t u : SymbolicTerm) (e : Equation) → SideNumber g x t → SideNumber g x u →
    given_by g bound (record { holds = true; atom = same s t u } ∷ []) ≡ Some e → IsClauseTrue g x (record { holds = true; atom = same s t u } ∷ []) ↔ (x e.variable.name ≡ term_instance g x e.term)
given_says g bound x s t u e i j h = first_or (bound_side g bound u t) (bound_side g bound t u) e _ h
    (λ k. both_ways (alone_says g x s t u) (side_says g bound x u t e j i k))
    (λ k. both_ways (alone_says g x s t u) (both_ways (λ a. sym a, λ a. sym a) (side_says g bound x t u e i j k)))

-- ---- clauses with the sorts of their places

none_is_some : {A : Type 0} {a : A} → None ≡ Some a → ⊥
none_is_some e = cc

pub side_number : (g : KoreSignature) (hand : List SortedName) (x : Valuation) (s : KoreSort) (t : SymbolicTerm) → GivesSorts g x hand → GoodTerm g hand s t → SideNumber g x t
side_number g hand x s (unknown y) sorts i = λ e. number_value g y.sort (x y.name) e (at_hand_given g x hand (y ∷ []) sorts i.1).0
side_number g hand x s (offset y c) sorts i = number_value g y.sort (x y.name) i.0.0 (at_hand_given g x hand (y ∷ []) sorts i.1).0
side_number g hand x s (known u) sorts i = tt
side_number g hand x s (headed f ts) sorts i = tt

literal_says : (g : KoreSignature) (hand bound : List SortedName) (x : Valuation) (b : Bool) (a : Atom) (e : Equation) → GivesSorts g x hand → IsRightClause g hand (record { holds = b; atom = a } ∷ []) → given_by g bound (record { holds = b; atom = a } ∷ []) ≡ Some e →
    IsClauseTrue g x (record { holds = b; atom = a } ∷ []) ↔ (x e.variable.name ≡ term_instance g x e.term)
literal_says g hand bound x true (same s t u) e sorts h q =
    let At = λ (y : SortedName). Contains hand y in
    let left : GoodTerm g hand s t = (h.0.0.0.0, all_first At (term_variables t) (term_variables u) h.0.0.1) in
    let right : GoodTerm g hand s u = (h.0.0.0.1, all_second At (term_variables t) (term_variables u) h.0.0.1) in
    given_says g bound x s t u e (side_number g hand x s t sorts left) (side_number g hand x s u sorts right) q
literal_says g hand bound x false (same s t u) e sorts h q = absurd (none_is_some q)
literal_says g hand bound x true (has_head y test) e sorts h q = absurd (none_is_some q)
literal_says g hand bound x false (has_head y test) e sorts h q = absurd (none_is_some q)
literal_says g hand bound x true (quoted p rs) e sorts h q = absurd (none_is_some q)
literal_says g hand bound x false (quoted p rs) e sorts h q = absurd (none_is_some q)

clause_says : (g : KoreSignature) (hand bound : List SortedName) (x : Valuation) (c : List Literal) (e : Equation) → GivesSorts g x hand → IsRightClause g hand c → given_by g bound c ≡ Some e → IsClauseTrue g x c ↔ (x e.variable.name ≡ term_instance g x e.term)
clause_says g hand bound x (l ∷ []) e sorts h q = literal_says g hand bound x l.holds l.atom e sorts h q
clause_says g hand bound x [] e sorts h q = absurd (none_is_some q)
clause_says g hand bound x (l ∷ m ∷ c) e sorts h q = absurd (none_is_some q)

pub all_say : (g : KoreSignature) (hand : List SortedName) (k : Consequent) (x : Valuation) → GivesSorts g x hand → SaysWhatItGives g hand k x
all_say g hand k x sorts = record {
  by_match = λ c e h q. clause_says g hand k.bound x c e sorts h q;
  by_goal = λ c e h q t. first_or (given_by g k.bound c) (bound_equation g k.bound (equation_of g c)) e _ q
      (λ i. (clause_says g hand k.bound x c e sorts h i).0 t)
      (λ i. equation_met g hand x c e sorts h t (bound_is g k.bound (equation_of g c) e i));
}
