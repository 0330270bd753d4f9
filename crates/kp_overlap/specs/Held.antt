-- What is told of holders while they are found.
use Rattle.std.specs.Prelude.{◌≡◌, ℕ, ◌<◌, ◌+◌, List, length, Option, Some, slice_set, ⊤}
use Rattle.kp_kore.specs.Signature.{KoreSignature}
use Rattle.kp_kore.specs.Value.{Value}
use Rattle.kp_overlap.specs.Graphs.{IsAt, Shape, any_value, never, leaf, made, Graph, HasShape, HasSolution, IsLeafValue}
use Rattle.kp_overlap.specs.Labels.{Follows, SaySame, IsClosed, AreHolders}
use Rattle.kp_overlap.specs.declared.label_holders.Agreement.{Agreement}
use Rattle.kp_overlap.specs.declared.label_holders.Agreement.TheVariants.{Same, Clash, Apart}
use Rattle.kp_overlap.specs.declared.label_holders.Holders.{Holders}
use Rattle.kp_overlap.specs.declared.label_holders.Holders.TheVariants as answer

-- the holders, or that there is no solution
abbrev pub TellsHolders : KoreSignature → Graph → ℕ → ℕ → List ℕ → Holders → Type 0
TellsHolders g x i j ls answer.Clash = ¬ HasSolution g x i j
TellsHolders g x i j ls (answer.Held hs) = AreHolders x ls hs.items

-- ---- two shapes

-- a leaf's value has no members
abbrev pub IsLeafShape : Shape → Type 0
IsLeafShape any_value = ⊤
IsLeafShape never = ⊤
IsLeafShape (leaf w) = IsLeafValue w
IsLeafShape (made f ns) = ⊤

-- they say the same, or no value has both
abbrev pub TellsShapes : List ℕ → Shape → Shape → Agreement → Type 0
TellsShapes ls s t Same = SaySame ls s t
TellsShapes ls s t Clash = (a : ℕ → Value) (u : Value) → IsLeafShape s → IsLeafShape t → HasShape a s u → HasShape a t u → ⊥
TellsShapes ls s t Apart = ⊤

-- the same of the shapes of two places
abbrev pub TellsShapesAt : List Shape → List ℕ → ℕ → ℕ → Agreement → Type 0
TellsShapesAt xs ls n m r = (s t : Shape) → IsAt xs n s → IsAt xs m t → TellsShapes ls s t r

-- ---- places one by one

-- each place that tells a head says the same as itself, and leaves have no members
pub record AreShapes (xs : List Shape) (ls : List ℕ) : Type 0 where
  pub same : (n : ℕ) (s : Shape) → IsAt xs n s → IsClosed s → SaySame ls s s
  pub leaves : (n : ℕ) (s : Shape) → IsAt xs n s → IsLeafShape s

-- the holders of the places below this one
pub record AreHoldersBelow (k : ℕ) (xs : List Shape) (ls : List ℕ) (hs : List (Option ℕ)) : Type 0 where
  pub long : length hs ≡ length ls
  pub none_never : (n : ℕ) → n < k → ¬ IsAt xs n never
  pub held : (n l : ℕ) (s : Shape) → n < k → IsAt xs n s → IsClosed s → IsAt ls n l → (h : ℕ) × (t : Shape) × IsAt hs l (Some h) × IsAt xs h t × SaySame ls s t
  pub holds : (l h : ℕ) → IsAt hs l (Some h) → (t : Shape) × IsAt xs h t × IsClosed t × IsAt ls h l

abbrev pub IsClosedAt : List Shape → ℕ → Type 0
IsClosedAt xs n = (s : Shape) × IsAt xs n s × IsClosed s

-- the place is the label's holder now
abbrev pub TellsSet : ℕ → ℕ → List (Option ℕ) → List (Option ℕ) → Agreement → Type 0
TellsSet l n old new Same = (l < length old) × (new ≡ slice_set old l (Some n))
TellsSet l n old new Clash = ⊥
TellsSet l n old new Apart = ⊤

-- the holders are those of one place more, or there is no solution
abbrev pub TellsPlace : List Shape → List ℕ → ℕ → List (Option ℕ) → List (Option ℕ) → Agreement → Type 0
TellsPlace xs ls n old new Same = AreShapes xs ls → AreHoldersBelow n xs ls old → AreHoldersBelow (n + 1) xs ls new
TellsPlace xs ls n old new Clash = (a : ℕ → Value) → AreShapes xs ls → AreHoldersBelow n xs ls old → ((m : ℕ) (s : Shape) → IsAt xs m s → HasShape a s (a m)) → Follows a ls → ⊥
TellsPlace xs ls n old new Apart = ⊤
