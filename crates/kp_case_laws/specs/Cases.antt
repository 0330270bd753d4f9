-- The cases of a part under a rule's left side: the part that it meets, and those that it doesn't.
-- Source: K's Haskell backend, which unifies a rule's left side with a configuration; this project.
use Rattle.std.specs.Prelude.{◌≡◌, ◌↔◌, List, ◌∷◌, Option, Some, None, ⊤, MatchOption}
use Rattle.std.specs.List.{AllByRecursion}
use Rattle.kp_kore.specs.Parts.{SortedName, free_variables}
use Rattle.kp_kore.specs.Signature.{KoreSignature}
use Rattle.kp_kore.specs.Value.{Value}
use Rattle.kp_kore.specs.Instance.{Valuation, GivesSorts, instance}
use Rattle.kp_kore.specs.Rules.{Rewrite}
use Rattle.kp_symbolic.specs.Terms.{SymbolicTerm, term_instance, Replaced, replacement_for}
use Rattle.kp_symbolic.specs.States.{Literal, AreTrue}
use Rattle.kp_rules.specs.Skeletons.{Form, Admits}
use Rattle.kp_case_laws.specs.Parts.{StatePart, OfEachInstance, IsDivided}

-- the rule's valuation gives each bound variable the value of its term
abbrev pub IsBoundBy : KoreSignature → Valuation → List Replaced → Valuation → Type 0
IsBoundBy g w bindings r = AllByRecursion (λ b. r b.name ≡ term_instance g w b.term) bindings

-- each bound variable has one term
abbrev pub AreBoundOnce : List Replaced → Type 0
AreBoundOnce bindings = AllByRecursion (λ b. replacement_for bindings b.name ≡ Some b.term) bindings

-- a part that the left side meets, where the equations are true, and what the rule's variables stand for
pub record MetPart : Type 0 where
  pub part : StatePart
  pub equations : List (List Literal)
  pub bindings : List Replaced

-- The left side, by which values it stands for under a valuation of the rule's variables, stands for an instance of the
-- part exactly where the equations are true and the rule's valuation is that of the bindings.
pub record IsMetBy (g : KoreSignature) (left : Valuation → Value → Type 0) (m : MetPart) : Type 0 where
  pub exactly : OfEachInstance g m.part (λ w c. (r : Valuation) → left r c ↔ (AreTrue g w m.equations × IsBoundBy g w m.bindings r))
  pub once : AreBoundOnce m.bindings

-- the left side stands for no instance of the part
abbrev pub IsApart : KoreSignature → (Valuation → Value → Type 0) → StatePart → Type 0
IsApart g left p = OfEachInstance g p (λ w c. (r : Valuation) → ¬ left r c)

abbrev pub with_met : Option MetPart → List StatePart → List StatePart
with_met (Some m) parts = m.part ∷ parts
with_met None parts = parts

-- each instance of p lies in one case, met or apart
pub record AreCases (g : KoreSignature) (left : Valuation → Value → Type 0) (p : StatePart) (met : Option MetPart) (apart : List StatePart) : Type 0 where
  pub divided : IsDivided g p (with_met met apart)
  pub is_met : MatchOption met ⊤ (IsMetBy g left)
  pub are_apart : AllByRecursion (IsApart g left) apart

-- the left side of a rule, read or foreign, by its form
abbrev pub left_side : KoreSignature → Form → Valuation → Value → Type 0
left_side g form = λ r c. Admits g r form c

-- ---- the rule of a left side

-- the form stands for an instance of the part exactly where it is the rule's left term's
abbrev pub IsLeftOf : KoreSignature → Form → Rewrite → StatePart → Type 0
IsLeftOf g form rule p = OfEachInstance g p (λ w c. (r : Valuation) → Admits g r form c ↔ ((instance g r rule.left ≡ c) × GivesSorts g r (free_variables rule.left)))

-- each of these variables is bound
abbrev pub AreBoundIn : List Replaced → List SortedName → Type 0
AreBoundIn bindings xs = AllByRecursion (λ x. (t : SymbolicTerm) × (replacement_for bindings x.name ≡ Some t)) xs
