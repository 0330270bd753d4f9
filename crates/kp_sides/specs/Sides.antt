-- What is wrong with one side of an implication by itself, and with both: by their form alone.
-- Source: the K Haskell backend's JSON-RPC documentation (implies, its error codes 2 and 4); this project's order.
use Rattle.std.specs.Prelude.{◌≡◌, not, ◌&&◌, Option, Some, None, List, [], ◌∷◌, if◌then◌else◌}
use Rattle.std.specs.List.{flat_map}
use Rattle.std.specs.Option.{option_map, is_some}
use Rattle.kp_kore.specs.Syntax.{Text, KorePattern}
use Rattle.kp_kore.specs.Parts.{SortedName, free_variables}
use Rattle.kp_kore.specs.Signature.{KoreSignature}
use Rattle.kp_kore.specs.Instance.{is_named, conjoined_terms}
use Rattle.kp_kore.specs.Rules.{only_one, top_binders, under_binders}
use Rattle.kp_kore.specs.Sides.{HaveOneTermEach, first_unclear}
use Rattle.kp_compile.specs.Spelled.{first_foreign}
use Rattle.kp_clauses.specs.Faults.{StateFault, foreign_symbol, state_fault}

-- ---- one side

-- of a side with one term the first thing from the left that can't stand in a state; of any other side its first foreign symbol
abbrev pub side_fault : KoreSignature → KorePattern → Option StateFault
side_fault g p = if is_some (only_one (conjoined_terms p)) then state_fault g p else option_map foreign_symbol (first_foreign g p)

-- ---- both

-- a binder that stands in no term, or behind which another has its name: the first such
abbrev pub first_idle : List SortedName → List SortedName → Option Text
first_idle inside [] = None
first_idle inside (x ∷ xs) = if is_named x.name inside && not (is_named x.name xs) then first_idle inside xs else Some x.name

abbrev pub idle_binder : KorePattern → Option Text
idle_binder c = first_idle (flat_map free_variables (conjoined_terms (under_binders c))) (top_binders c)

-- a binder that is idle; sides that don't have one term each, of one sort; a free variable of two sorts, or with a binder's name
pub data SidesFault : Type 0 where
  idle : Text → SidesFault
  other_terms : SidesFault
  unclear_name : Text → SidesFault

-- the first of these, in this order
abbrev pub IsSidesFault : KoreSignature → KorePattern → KorePattern → SidesFault → Type 0
IsSidesFault g a c (idle n) = idle_binder c ≡ Some n
IsSidesFault g a c other_terms = (idle_binder c ≡ None) × ¬ HaveOneTermEach g a c
IsSidesFault g a c (unclear_name n) = (idle_binder c ≡ None) × HaveOneTermEach g a c × (first_unclear a c ≡ Some n)

-- none of them
pub record AreComparable (g : KoreSignature) (a c : KorePattern) : Type 0 where
  pub none_idle : idle_binder c ≡ None
  pub one_term_each : HaveOneTermEach g a c
  pub clear : first_unclear a c ≡ None

-- the first fault of the two sides, where they have one
abbrev pub IsFirstFault : KoreSignature → KorePattern → KorePattern → Option SidesFault → Type 0
IsFirstFault g a c (Some f) = IsSidesFault g a c f
IsFirstFault g a c None = AreComparable g a c
