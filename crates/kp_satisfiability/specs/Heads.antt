-- The heads that a variable may have, as clauses ask.
-- Source: matching logic's models, as K reads constructors (each value is built from constructors, no junk).
use Rattle.std.specs.Prelude.{◌≡◌, Bool, true, not, ◌||◌, List, Option, Some, ⊤}
use Rattle.std.specs.Bool.{beq}
use Rattle.std.specs.List.{AllByRecursion, list_all, list_any}
use Rattle.std.specs.Str.{bytes_eq}
use Rattle.kp_kore.specs.Syntax.{Text}
use Rattle.kp_kore.specs.Parts.{SortedName}
use Rattle.kp_kore.specs.Signature.{KoreSignature, Head, is_head}
use Rattle.kp_heads.specs.Heads.{IsLive}
use Rattle.kp_symbolic.specs.Heads.{passes_head}
use Rattle.kp_symbolic.specs.Plain.{Form, asks, ReadLiteral}

-- the head is as the literal asks, where it asks for that of the variable of this name
abbrev pub head_agrees : KoreSignature → Head → Text → Option Form → Bool
head_agrees g h x (Some (asks y test b)) = not (bytes_eq y.name x) || beq (passes_head g test h) b
head_agrees g h x f = true

-- it is as one of the literals asks, and as one of each clause
abbrev pub agrees_with_one : KoreSignature → Head → Text → List ReadLiteral → Bool
agrees_with_one g h x c = list_any (λ l. head_agrees g h x l.form) c

abbrev pub agrees_with_all : KoreSignature → Head → Text → List (List ReadLiteral) → Bool
agrees_with_all g h x cs = list_all (agrees_with_one g h x) cs

-- the head is one of the variable's sort, some value has it, and it is as each clause asks
pub record MayBe (g : KoreSignature) (x : SortedName) (cs : List (List ReadLiteral)) (h : Head) : Type 0 where
  pub head : is_head g x.sort h ≡ true
  pub live : IsLive g h
  pub agrees : agrees_with_all g h x.name cs ≡ true

-- some head may be the variable's
abbrev pub HasHead : KoreSignature → List (List ReadLiteral) → SortedName → Type 0
HasHead g cs x = (h : Head) × MayBe g x cs h

-- the variable whose head the literal asks for, if it does, may have some head
abbrev pub IsStanding : KoreSignature → List (List ReadLiteral) → Option Form → Type 0
IsStanding g cs (Some (asks x test b)) = HasHead g cs x
IsStanding g cs f = ⊤

-- and so for each literal of a clause, of some clauses, of all
abbrev pub AllStand : KoreSignature → List (List ReadLiteral) → List ReadLiteral → Type 0
AllStand g cs c = AllByRecursion (λ l. IsStanding g cs l.form) c

abbrev pub StandIn : KoreSignature → List (List ReadLiteral) → List (List ReadLiteral) → Type 0
StandIn g cs some = AllByRecursion (AllStand g cs) some

abbrev pub AreStanding : KoreSignature → List (List ReadLiteral) → Type 0
AreStanding g cs = StandIn g cs cs
