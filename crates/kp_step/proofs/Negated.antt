-- The opposite of clauses: each of its literals has the sorts of its places and is in normal form, and it is true where not all of
-- the clauses are.
use Rattle.std.proofs.Common.{◌≡◌, refl, Bool, true, false, ◌&&◌, List, [], ◌∷◌, ◌↔◌}
use Rattle.std.specs.Prelude.{if◌then◌else◌}
use Rattle.std.specs.Bool.{beq}
use Rattle.std.specs.List.{AllByRecursion, Contains}
use Rattle.kp_kore.specs.Syntax.{KoreSort, KorePatterns, conjunction}
use Rattle.kp_kore.specs.Parts.{SortedName, free_variables, all_free_variables}
use Rattle.kp_kore.specs.Signature.{KoreSignature}
use Rattle.kp_kore.specs.Instance.{Valuation, GivesSorts, AllTrueUnder, is_predicate, are_predicates}
use Rattle.kp_symbolic.specs.Terms.{unknown, term_variables}
use Rattle.kp_symbolic.specs.States.{Atom, same, has_head, quoted, atom_variables, Literal, AreTrue, SymbolicState}
use Rattle.kp_symbolic.specs.WellFormed.{IsWellSortedAtom, AreAtHand, IsGivenAtom, AreGivenLiterals}
use Rattle.kp_symbolic.specs.Opening.{literal_fact}
use Rattle.kp_symbolic.specs.Clauses.{distributed, is_too_large, opened_atom, opened_literals, denied_clauses, denied}
use Rattle.kp_symbolic.specs.Writing.{written_clause, written_clauses}
use Rattle.kp_symbolic.specs.Solving.{negated}
use Rattle.kp_symbolic.proofs.Distribution.{all_both, all_first, all_second}
use Rattle.kp_symbolic.proofs.Denied.{denied_is_opposite}
use Rattle.kp_symbolic.proofs.Facts.{AllFacts, AllIn, clauses_have, Good, opened_same_good}
use Rattle.kp_symbolic.proofs.Leaf.{one_literal}
use Rattle.kp_symbolic.proofs.OpenedState.{placed_as_they_are}
use Rattle.kp_symbolic.proofs.WellSorted.{term_sorted, term_given}
use Rattle.kp_symbolic_laws.specs.Runs.{HasRoomClause, IsPredicateAtom, IsSoundPredicate, AreSoundPredicates, IsSoundAtom, IsWrittenAtom}
use Rattle.kp_symbolic_laws.specs.Safe.{IsFormed, IsSoundQuote}
use Rattle.kp_symbolic_laws.proofs.FormedFacts.{same_formed, test_formed}
use Rattle.kp_symbolic_laws.proofs.Keeping.{test_good}
use Rattle.kp_symbolic_laws.proofs.OpenedGood.{by_size, flat_itself}
use Rattle.kp_symbolic_laws.proofs.SoundWritten.{IsReady, clause_sound}
use Rattle.kp_symbolic_laws.proofs.Step.{at_hand_given}
use Rattle.kp_symbolic_laws.proofs.WrittenForms.{clause_predicate}
use Rattle.kp_symbolic_laws.proofs.WrittenStates.{clause_says}
use Rattle.kp_symbolic_laws.proofs.WrittenVariables.{written_of_these}
use Rattle.kp_symbolic_laws.specs.Kept.{CanBeWrittenAt}
use Rattle.kp_step.proofs.OpenedWith.{Sound, Right}

abbrev At : List SortedName → SortedName → Type 0
At hand x = Contains hand x

abbrev AreGood : KoreSignature → List SortedName → List (List Literal) → Type 0
AreGood g hand = AllByRecursion (AllByRecursion (Good g hand))

abbrev AreSound : KoreSignature → List (List Literal) → Type 0
AreSound g = AllByRecursion (AllByRecursion (λ l. IsSoundAtom g l.atom))

-- ---- the literals of one of the opposites

atom_good : (g : KoreSignature) (hand : List SortedName) (alone b : Bool) (a : Atom) → IsWellSortedAtom g a × AreAtHand (atom_variables a) hand → AllFacts (Good g hand) (opened_atom g alone b a)
atom_good g hand alone b (same s t u) i = opened_same_good g hand alone b s t u (i.0.0, all_first (At hand) (term_variables t) (term_variables u) i.1) (i.0.1, all_second (At hand) (term_variables t) (term_variables u) i.1)
atom_good g hand alone b (has_head x test) i = test_good g hand b test (literal_fact b (has_head x test)) (unknown x) i i.1
atom_good g hand alone b (quoted p rs) i = i

literals_good : (g : KoreSignature) (hand : List SortedName) (alone b : Bool) (c : List Literal) → AllByRecursion (Good g hand) c → AllIn (Good g hand) (opened_literals g alone b c)
literals_good g hand alone b [] i = tt
literals_good g hand alone b (l ∷ c) i = (atom_good g hand alone (beq b l.holds) l.atom i.0, literals_good g hand alone b c i.1)

denied_good : (g : KoreSignature) (hand : List SortedName) (cs : List (List Literal)) → AreGood g hand cs → AllIn (Good g hand) (denied_clauses g cs)
denied_good g hand [] i = tt
denied_good g hand (c ∷ cs) i = (literals_good g hand false false c i.0, denied_good g hand cs i.1)

-- ---- what is written for the clauses

predicate_atom : (g : KoreSignature) (a : Atom) → IsSoundAtom g a → IsPredicateAtom a
predicate_atom g (same s t u) k = tt
predicate_atom g (has_head x test) k = tt
predicate_atom g (quoted p rs) k = k.0

predicate_atoms : (g : KoreSignature) (c : List Literal) → AllByRecursion (λ l. IsSoundAtom g l.atom) c → AllByRecursion (λ l. IsPredicateAtom l.atom) c
predicate_atoms g [] k = tt
predicate_atoms g (l ∷ c) k = (predicate_atom g l.atom k.0, predicate_atoms g c k.1)

written_at_hand : (g : KoreSignature) (s : SymbolicState) (cs : List (List Literal)) → AreGood g s.variables cs → AreSound g cs → AllByRecursion (At s.variables) (all_free_variables (written_clauses g s.sort cs))
written_at_hand g s [] i k = tt
written_at_hand g s (c ∷ cs) i k =
    all_both (At s.variables) (free_variables (written_clause g s.sort c)) (all_free_variables (written_clauses g s.sort cs)) (written_of_these g s c i.0 (predicate_atoms g c k.0)) (written_at_hand g s cs i.1 k.1)

abbrev denying : KoreSort → KorePatterns → Literal
denying sort ps = record { holds = false; atom = quoted (conjunction sort ps) [] }

denying_good : (g : KoreSignature) (hand : List SortedName) (sort : KoreSort) (ps : KorePatterns) → AllByRecursion (At hand) (all_free_variables ps) → Good g hand (denying sort ps)
denying_good g hand sort ps a = (placed_as_they_are g (all_free_variables ps), flat_itself hand (all_free_variables ps) a)

-- the opposite has the sorts of its places
pub negated_sorted : (g : KoreSignature) (s : SymbolicState) (cs : List (List Literal)) → AreGood g s.variables cs → AreSound g cs → AreGood g s.variables (negated g s.sort cs)
negated_sorted g s cs i k =
    let ps = written_clauses g s.sort cs in
    by_size (AllByRecursion (Good g s.variables)) (is_too_large 0 (denied g cs)) ((denying s.sort ps ∷ []) ∷ []) (distributed (denied g cs))
    ((denying_good g s.variables s.sort ps (written_at_hand g s cs i k), tt), tt)
    (clauses_have (Good g s.variables) (denied g cs) (denied_good g s.variables cs i))

-- ---- in normal form, and written right

atom_formed : (g : KoreSignature) (alone b : Bool) (a : Atom) → IsFormed g (IsSoundQuote g) a → AllFacts (Sound g) (opened_atom g alone b a)
atom_formed g alone b (same s t u) k = same_formed g (IsSoundQuote g) alone b s t u k.0 k.1
atom_formed g alone b (has_head x test) k = test_formed g (IsSoundQuote g) b test (literal_fact b (has_head x test)) (unknown x) k k
atom_formed g alone b (quoted p rs) k = k

literals_formed : (g : KoreSignature) (alone b : Bool) (c : List Literal) → AllByRecursion (Sound g) c → AllIn (Sound g) (opened_literals g alone b c)
literals_formed g alone b [] k = tt
literals_formed g alone b (l ∷ c) k = (atom_formed g alone (beq b l.holds) l.atom k.0, literals_formed g alone b c k.1)

denied_formed : (g : KoreSignature) (cs : List (List Literal)) → AllByRecursion (AllByRecursion (Sound g)) cs → AllIn (Sound g) (denied_clauses g cs)
denied_formed g [] k = tt
denied_formed g (c ∷ cs) k = (literals_formed g false false c k.0, denied_formed g cs k.1)

sound_atom : (g : KoreSignature) (a : Atom) → IsFormed g (IsSoundQuote g) a → IsSoundAtom g a
sound_atom g (same s t u) k = tt
sound_atom g (has_head x test) k = k
sound_atom g (quoted p rs) k = k.0

sound_atoms : (g : KoreSignature) (c : List Literal) → AllByRecursion (Sound g) c → AllByRecursion (λ l. IsSoundAtom g l.atom) c
sound_atoms g [] k = tt
sound_atoms g (l ∷ c) k = (sound_atom g l.atom k.0, sound_atoms g c k.1)

pub all_sound : (g : KoreSignature) (cs : List (List Literal)) → AllByRecursion (AllByRecursion (Sound g)) cs → AreSound g cs
all_sound g [] k = tt
all_sound g (c ∷ cs) k = (sound_atoms g c k.0, all_sound g cs k.1)

ready : (g : KoreSignature) (hand : List SortedName) (c : List Literal) → AllByRecursion (Good g hand) c → AllByRecursion (λ l. IsSoundAtom g l.atom) c → HasRoomClause g c → AllByRecursion (λ l. IsReady g l.atom) c
ready g hand [] i k m = tt
ready g hand (l ∷ c) i k m = ((i.0.0, k.0, m.0), ready g hand c i.1 k.1 m.1)

written_sound : (g : KoreSignature) (hand : List SortedName) (sort : KoreSort) (c : List Literal) → AllByRecursion (Good g hand) c → AllByRecursion (λ l. IsSoundAtom g l.atom) c → CanBeWrittenAt g sort c → IsSoundPredicate g (written_clause g sort c)
written_sound g hand sort c i k m = clause_sound g sort c m.1 (ready g hand c i k m.0)

written_all : (g : KoreSignature) (hand : List SortedName) (sort : KoreSort) (cs : List (List Literal)) → AreGood g hand cs → AreSound g cs → AllByRecursion (CanBeWrittenAt g sort) cs → (are_predicates (written_clauses g sort cs) ≡ true) × AreSoundPredicates g (written_clauses g sort cs)
written_all g hand sort [] i k m = (refl, tt)
written_all g hand sort (c ∷ cs) i k m =
    let rest = written_all g hand sort cs i.1 k.1 m.1 in
    (both_true (is_predicate (written_clause g sort c)) (are_predicates (written_clauses g sort cs)) (clause_predicate g sort c (predicate_atoms g c k.0)) rest.0, (written_sound g hand sort c i.0 k.0 m.0, rest.1))
  where
    both_true : (a b : Bool) → a ≡ true → b ≡ true → a && b ≡ true
    both_true a b e f = rw e f

negated_formed : (g : KoreSignature) (s : SymbolicState) (cs : List (List Literal)) → AreGood g s.variables cs → AllByRecursion (AllByRecursion (Sound g)) cs → (is_too_large 0 (denied g cs) ≡ true → AllByRecursion (CanBeWrittenAt g s.sort) cs) →
    AllByRecursion (AllByRecursion (Sound g)) (negated g s.sort cs)
negated_formed g s cs i k m = by (is_too_large 0 (denied g cs)) refl
  where
    by : (b : Bool) → is_too_large 0 (denied g cs) ≡ b → AllByRecursion (AllByRecursion (Sound g)) (if b then (denying s.sort (written_clauses g s.sort cs) ∷ []) ∷ [] else distributed (denied g cs))
    by true e = (((written_all g s.variables s.sort cs i (all_sound g cs k) (m e), tt), tt), tt)
    by false e = clauses_have (Sound g) (denied g cs) (denied_formed g cs k)

zipped : (P Q : Literal → Type 0) (c : List Literal) → AllByRecursion P c → AllByRecursion Q c → AllByRecursion (λ l. P l × Q l) c
zipped P Q [] a b = tt
zipped P Q (l ∷ c) a b = ((a.0, b.0), zipped P Q c a.1 b.1)

pub all_zipped : (P Q : Literal → Type 0) (cs : List (List Literal)) → AllByRecursion (AllByRecursion P) cs → AllByRecursion (AllByRecursion Q) cs → AllByRecursion (AllByRecursion (λ l. P l × Q l)) cs
all_zipped P Q [] a b = tt
all_zipped P Q (c ∷ cs) a b = (zipped P Q c a.0 b.0, all_zipped P Q cs a.1 b.1)

pub negated_right : (g : KoreSignature) (s : SymbolicState) (cs : List (List Literal)) → AreGood g s.variables cs → AllByRecursion (AllByRecursion (Sound g)) cs → (is_too_large 0 (denied g cs) ≡ true → AllByRecursion (CanBeWrittenAt g s.sort) cs) →
    AllByRecursion (AllByRecursion (Right g s.variables)) (negated g s.sort cs)
negated_right g s cs i k m = all_zipped (Good g s.variables) (Sound g) (negated g s.sort cs) (negated_sorted g s cs i (all_sound g cs k)) (negated_formed g s cs i k m)

-- ---- truth

atom_given : (g : KoreSignature) (v : Valuation) (hand : List SortedName) (a : Atom) → GivesSorts g v hand → IsWellSortedAtom g a → AreAtHand (atom_variables a) hand → IsGivenAtom g v a
atom_given g v hand (same s t u) h w a =
    let c = at_hand_given g v hand (term_variables t) h (all_first (At hand) (term_variables t) (term_variables u) a) in
    let d = at_hand_given g v hand (term_variables u) h (all_second (At hand) (term_variables t) (term_variables u) a) in
    (c, d, term_given g v s t w.0 c, term_given g v s u w.1 d, term_sorted g v s t w.0 c, term_sorted g v s u w.1 d)
atom_given g v hand (has_head x test) h w a = (at_hand_given g v hand (x ∷ []) h a).0
atom_given g v hand (quoted p rs) h w a = tt

clause_given : (g : KoreSignature) (v : Valuation) (hand : List SortedName) (c : List Literal) → GivesSorts g v hand → AllByRecursion (Good g hand) c → AllByRecursion (λ l. IsGivenAtom g v l.atom) c
clause_given g v hand [] h i = tt
clause_given g v hand (l ∷ c) h i = (atom_given g v hand l.atom h i.0.0 i.0.1, clause_given g v hand c h i.1)

pub clauses_given : (g : KoreSignature) (v : Valuation) (hand : List SortedName) (cs : List (List Literal)) → GivesSorts g v hand → AreGood g hand cs → AreGivenLiterals g v cs
clauses_given g v hand [] h i = tt
clauses_given g v hand (c ∷ cs) h i = (clause_given g v hand c h i.0, clauses_given g v hand cs h i.1)

written_atoms : (g : KoreSignature) (c : List Literal) → AllByRecursion (λ l. IsSoundAtom g l.atom) c → HasRoomClause g c → AllByRecursion (λ l. IsWrittenAtom g l.atom) c
written_atoms g [] k m = tt
written_atoms g (l ∷ c) k m = ((k.0, m.0), written_atoms g c k.1 m.1)

all_written : (g : KoreSignature) (v : Valuation) (s : SymbolicState) (cs : List (List Literal)) → GivesSorts g v s.variables → AreGood g s.variables cs → AreSound g cs → AllByRecursion (CanBeWrittenAt g s.sort) cs → AllTrueUnder g v (written_clauses g s.sort cs) ↔ AreTrue g v cs
all_written g v s [] h i k m = ((λ t. t), (λ t. t))
all_written g v s (c ∷ cs) h i k m =
    let first = clause_says g v s c m.0.1 h i.0 (written_atoms g c k.0 m.0.0) in
    let rest = all_written g v s cs h i.1 k.1 m.1 in
    ((λ t. (first.0 t.0, rest.0 t.1)), (λ t. (first.1 t.0, rest.1 t.1)))

denying_says : (g : KoreSignature) (v : Valuation) (sort : KoreSort) (ps : KorePatterns) (A : Type 0) → AllTrueUnder g v ps ↔ A → AreTrue g v ((denying sort ps ∷ []) ∷ []) ↔ (¬ A)
denying_says g v sort ps A e =
    let one = one_literal g v (denying sort ps) in
    ((λ t a. one.0 t (e.1 a)), (λ n. one.1 (λ t. n (e.0 t))))

-- the opposite is true where not all of the clauses are
pub negated_says : (g : KoreSignature) (v : Valuation) (s : SymbolicState) (cs : List (List Literal)) → GivesSorts g v s.variables → AreGood g s.variables cs → AreSound g cs → (is_too_large 0 (denied g cs) ≡ true → AllByRecursion (CanBeWrittenAt g s.sort) cs) →
    AreTrue g v (negated g s.sort cs) ↔ (¬ AreTrue g v cs)
negated_says g v s cs h i k m = by (is_too_large 0 (denied g cs)) refl
  where
    by : (b : Bool) → is_too_large 0 (denied g cs) ≡ b → AreTrue g v (if b then (denying s.sort (written_clauses g s.sort cs) ∷ []) ∷ [] else distributed (denied g cs)) ↔ (¬ AreTrue g v cs)
    by true e = denying_says g v s.sort (written_clauses g s.sort cs) (AreTrue g v cs) (all_written g v s cs h i k (m e))
    by false e = denied_is_opposite g v cs (clauses_given g v s.variables cs h i)
