-- What is written for equalities says what they say; under valuations that give sorts, their sums are of numbers.
use Rattle.std.specs.Prelude.{◌↔◌, List, [], ◌∷◌, ◌++◌, Bool, true, false}
use Rattle.std.specs.List.{AllByRecursion, Contains, flat_map}
use Rattle.kp_kore.specs.Syntax.{KoreSort, KoreSorts, no_sorts, next_sort, conjunction}
use Rattle.kp_kore.specs.Parts.{SortedName, subpatterns, all_subpatterns}
use Rattle.kp_kore.specs.Signature.{KoreSignature}
use Rattle.kp_kore.specs.Instance.{Valuation, GivesSorts, IsTrueUnder, AllTrueUnder}
use Rattle.kp_signature.proofs.NumberLemmas.{number_value}
use Rattle.kp_compile.specs.Spelled.{places_of}
use Rattle.kp_compile.proofs.SpelledMeaning.{InjectsWell}
use Rattle.kp_symbolic.specs.Terms.{SymbolicTerm, unknown, offset, known, headed, SymbolicTerms, no_terms, next_term, term_variables, all_term_variables}
use Rattle.kp_symbolic.specs.States.{Atom, same, has_head, quoted, IsAtomTrue}
use Rattle.kp_symbolic.specs.WellFormed.{IsWellSorted, AreWellSorted, AreAtHand}
use Rattle.kp_symbolic.specs.Writing.{IsSaid, written_term, written_atom}
use Rattle.kp_symbolic.proofs.Distribution.{all_both, all_first, all_second}
use Rattle.kp_symbolic.proofs.Written.{equality_is_said, injects_left, injects_right}
use Rattle.kp_symbolic_laws.proofs.Step.{at_hand_given}
use Rattle.kp_symbolic_laws.proofs.WrittenUnder.{Well, well_behind}
use Rattle.kp_goals.proofs.OpenPlaces.{SumsAre, AllSumsAre}
use Rattle.kp_implies.specs.Printed.{only_if, Telling, tellings, told_by, without, begins_with, written_for, in_binders_order, patterns_from, joined_atoms}
use Rattle.kp_implies.proofs.Told.{AreSums}
use Rattle.kp_implies.proofs.Written.{IsRightEquality}

-- ---- sums

mutual
  sums_are : (g : KoreSignature) (hand : List SortedName) (v w : Valuation) (s : KoreSort) (t : SymbolicTerm) → GivesSorts g v hand → GivesSorts g w hand → IsWellSorted g s t → AreAtHand (term_variables t) hand → SumsAre v w t
  sums_are g hand v w s (unknown x) i j h a = tt
  sums_are g hand v w s (offset x c) i j h a = (number_value g x.sort (v x.name) h.0 (at_hand_given g v hand (x ∷ []) i a).0, number_value g x.sort (w x.name) h.0 (at_hand_given g w hand (x ∷ []) j a).0)
  sums_are g hand v w s (known u) i j h a = tt
  sums_are g hand v w s (headed f ts) i j h a = all_sums_are g hand v w (places_of g f) ts i j h.2 a

  all_sums_are : (g : KoreSignature) (hand : List SortedName) (v w : Valuation) (ss : KoreSorts) (ts : SymbolicTerms) → GivesSorts g v hand → GivesSorts g w hand → AreWellSorted g ss ts → AreAtHand (all_term_variables ts) hand → AllSumsAre v w ts
  all_sums_are g hand v w no_sorts no_terms i j h a = tt
  all_sums_are g hand v w (next_sort s ss) (next_term t ts) i j h a =
      let At = λ (x : SortedName). Contains hand x in (
        sums_are g hand v w s t i j h.0 (all_first At (term_variables t) (all_term_variables ts) a),
        all_sums_are g hand v w ss ts i j h.1 (all_second At (term_variables t) (all_term_variables ts) a),
      )
  all_sums_are g hand v w no_sorts (next_term t ts) i j h a = absurd h
  all_sums_are g hand v w (next_sort s ss) no_terms i j h a = absurd h

atom_sums : (g : KoreSignature) (hand : List SortedName) (v w : Valuation) (a : Atom) → GivesSorts g v hand → GivesSorts g w hand → IsRightEquality g hand a → AreSums v w a
atom_sums g hand v w (same s t u) i j h = (sums_are g hand v w s t i j h.0.0 h.0.1, sums_are g hand v w s u i j h.1.0 h.1.1)
atom_sums g hand v w (has_head x test) i j h = tt
atom_sums g hand v w (quoted p rs) i j h = tt

pub all_sums : (g : KoreSignature) (hand : List SortedName) (v w : Valuation) (all : List Atom) → GivesSorts g v hand → GivesSorts g w hand → AllByRecursion (IsRightEquality g hand) all → AllByRecursion (AreSums v w) all
all_sums g hand v w [] i j h = tt
all_sums g hand v w (a ∷ later) i j h = (atom_sums g hand v w a i j h.0, all_sums g hand v w later i j h.1)

-- ---- what is written

atom_said : (g : KoreSignature) (hand : List SortedName) (v : Valuation) (sort : KoreSort) (a : Atom) → IsRightEquality g hand a → Well g (written_atom g sort a) → IsSaid g v sort a
atom_said g hand v sort (same s t u) h i =
    let left = subpatterns (written_term g s t) in
    let right = subpatterns (written_term g s u) in
    let j = well_behind g (written_atom g sort (same s t u)) (left ++ right) i in
    equality_is_said g v sort s t u h.0.0 h.1.0 (injects_left g left right j) (injects_right g left right j)
atom_said g hand v sort (has_head x test) h i = absurd h
atom_said g hand v sort (quoted p rs) h i = absurd h

all_said : (g : KoreSignature) (hand : List SortedName) (v : Valuation) (sort : KoreSort) (all : List Atom) → AllByRecursion (IsRightEquality g hand) all → InjectsWell g (all_subpatterns (patterns_from g sort all)) →
    AllTrueUnder g v (patterns_from g sort all) ↔ AllByRecursion (IsAtomTrue g v) all
all_said g hand v sort [] h i = (λ t. t, λ t. t)
all_said g hand v sort (a ∷ later) h i =
    let these = subpatterns (written_atom g sort a) in
    let others = all_subpatterns (patterns_from g sort later) in
    let here = atom_said g hand v sort a h.0 (injects_left g these others i) in
    let rest = all_said g hand v sort later h.1 (injects_right g these others i) in
    (λ t. (here.0 t.0, rest.0 t.1), λ t. (here.1 t.0, rest.1 t.1))

pub joined_said : (g : KoreSignature) (hand : List SortedName) (v : Valuation) (sort : KoreSort) (all : List Atom) → AllByRecursion (IsRightEquality g hand) all → Well g (joined_atoms g sort all) →
    IsTrueUnder g v (joined_atoms g sort all) ↔ AllByRecursion (IsAtomTrue g v) all
joined_said g hand v sort [] h i = (λ t. t, λ t. t)
joined_said g hand v sort (a ∷ []) h i = let k = atom_said g hand v sort a h.0 i in (λ t. (k.0 t, tt), λ t. k.1 t.0)
joined_said g hand v sort (a ∷ b ∷ later) h i =
    all_said g hand v sort (a ∷ b ∷ later) h (well_behind g (conjunction sort (patterns_from g sort (a ∷ b ∷ later))) (all_subpatterns (patterns_from g sort (a ∷ b ∷ later))) i)

-- ---- what holds of all equalities holds of those that are written

told_have : (g : KoreSignature) (P : Atom → Type 0) (left : List SortedName) (all : List Atom) → AllByRecursion P all → AllByRecursion (λ t. P t.atom) (tellings g left all)
told_have g P left [] h = tt
told_have g P left (a ∷ later) h = (h.0, told_have g P (without (told_by g left a) left) later h.1)

pub repeated_have : (P : Atom → Type 0) (bound : List SortedName) (all : List Atom) → AllByRecursion P all → AllByRecursion P (flat_map (λ x. all) bound)
repeated_have P [] all h = tt
repeated_have P (x ∷ xs) all h = all_both P all (flat_map (λ y. all) xs) h (repeated_have P xs all h)

written_all : (P : Atom → Type 0) (x : SortedName) (ts : List Telling) → AllByRecursion (λ t. P t.atom) ts → AllByRecursion P (written_for ts x)
written_all P x [] h = tt
written_all P x (t ∷ ts) h = by_test (begins_with x t.told) (written_all P x ts h.1)
  where
    by_test : (b : Bool) → AllByRecursion P (written_for ts x) → AllByRecursion P (only_if b t.atom ++ written_for ts x)
    by_test true i = (h.0, i)
    by_test false i = i

ordered_all : (P : Atom → Type 0) (ts : List Telling) (bound : List SortedName) → AllByRecursion (λ t. P t.atom) ts → AllByRecursion P (in_binders_order ts bound)
ordered_all P ts [] h = tt
ordered_all P ts (x ∷ xs) h = all_both P (written_for ts x) (in_binders_order ts xs) (written_all P x ts h) (ordered_all P ts xs h)

pub written_have : (g : KoreSignature) (P : Atom → Type 0) (bound : List SortedName) (all : List Atom) → AllByRecursion P all → AllByRecursion P (in_binders_order (tellings g bound (flat_map (λ x. all) bound)) bound)
written_have g P bound all h = ordered_all P (tellings g bound (flat_map (λ x. all) bound)) bound (told_have g P bound (flat_map (λ x. all) bound) (repeated_have P bound all h))
