-- What is told of a run's end besides, so that what is written for it is right.
-- Source: this project.
use Rattle.std.specs.Prelude.{◌≡◌, true, false, List, [], ◌∷◌, None, ⊤}
use Rattle.std.specs.List.{AllByRecursion, list_any}
use Rattle.std.specs.Str.{bytes_eq}
use Rattle.kp_kore.specs.Syntax.{Text, KorePattern}
use Rattle.kp_kore.specs.Signature.{KoreSignature}
use Rattle.kp_kore.specs.Instance.{is_predicate, conjoined_predicates}
use Rattle.kp_kore.specs.Foreign.{none_within, has_foreign_head}
use Rattle.kp_kore.specs.Replies.{IsAbsent}
use Rattle.kp_kore.specs.Theory.{Theory}
use Rattle.kp_signature.specs.Places.{Place}
use Rattle.kp_signature.specs.Verify.{first_fault}
use Rattle.kp_symbolic.specs.States.{SymbolicState, HasInstancesOf}
use Rattle.kp_symbolic.specs.Solving.{IsReadAs}
use Rattle.kp_symbolic_laws.specs.Runs.{IsSoundAtom, OfEachKept}
use Rattle.kp_symbolic_laws.specs.Kept.{CanBeWritten}
use Rattle.kp_case_laws.specs.Parts.{StatePart}
use Rattle.kp_unify.specs.Views.{part_view}
use Rattle.kp_unify.specs.declared.part.Part.{Part}
use Rattle.kp_step.specs.declared.outcome.Next.{Next}
use Rattle.kp_execute.specs.declared.ending.Ending.{Ending}
use Rattle.kp_execute.specs.declared.ending.Ending.TheVariants.{Branching, CutPoint}

-- each literal that was added to the part is written right where there is room for new names
abbrev pub IsAddedRight : KoreSignature → StatePart → Type 0
IsAddedRight g p = AllByRecursion (AllByRecursion (λ l. IsSoundAtom g l.atom)) p.added

-- of these next states and the parts that remain
pub record AreTold (t : Theory) (nexts : List Next) (remainder : List Part) : Type 0 where
  pub each_next : AllByRecursion (λ n. IsAddedRight t.signature (part_view n.part)) nexts
  pub each_part : AllByRecursion (λ p. IsAddedRight t.signature (part_view p)) remainder

-- of the end of a run with next states
abbrev pub IsToldEnd : Theory → Ending → Type 0
IsToldEnd t (Branching nexts remainder) = AreTold t nexts.items remainder.items
IsToldEnd t (CutPoint next) = AreTold t (next ∷ []) []
IsToldEnd t ending = ⊤

-- the request is read as the state s, which has its instances, and each name that stands in it is in use
pub record IsRequestOf (g : KoreSignature) (used : List Text) (request : KorePattern) (s : SymbolicState) : Type 0 where
  pub read : HasInstancesOf g request s
  pub read_as : IsReadAs g request s
  pub in_use : (x : Text) → list_any (bytes_eq x) used ≡ false → IsAbsent x request

-- a verified pattern of one term and predicates, read as the state; its large clauses can be written
pub record IsReadRight (g : KoreSignature) (p : KorePattern) (s : SymbolicState) : Type 0 where
  pub place : Place
  pub verified : first_fault g place p ≡ None
  pub known : none_within (has_foreign_head g) p ≡ true
  pub predicates : AllByRecursion (λ q. is_predicate q ≡ true) (conjoined_predicates p)
  pub read : IsReadAs g p s
  pub kept : OfEachKept g (CanBeWritten g) read.opened
