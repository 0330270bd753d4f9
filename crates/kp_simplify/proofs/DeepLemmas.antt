-- A term of a state that is written too deep is shown.
use Rattle.std.proofs.Common.{◌≡◌, refl, sym, ap, ◌∙◌, subst, inl, inr, arith, ℕ, ◌<◌, Bool, true, false, nat_le, List, [], ◌∷◌, ◌++◌, Some, None}
use Rattle.std.specs.Prelude.{if◌then◌else◌}
use Rattle.std.specs.List.{AllByRecursion, Contains, flat_map}
use Rattle.std.specs.Option.{option_map}
use Rattle.std.proofs.lemmas.Bool.Decides.{nat_tests}
use Rattle.std.proofs.lemmas.List.{append-nil}
use Rattle.std.proofs.lemmas.List.Elements.{Contains-append_left, Contains-push}
use Rattle.kp_kore.specs.Syntax.{KoreSort, KorePattern}
use Rattle.kp_kore.specs.Limits.{most_depth}
use Rattle.kp_kore.specs.Signature.{KoreSignature, IsBelow}
use Rattle.kp_kore.specs.Value.{Value, whole, truth, token, constructed, HasSort}
use Rattle.kp_kore.specs.Steps.{AnyByRecursion}
use Rattle.kp_compile.specs.Spelled.{own_sort}
use Rattle.kp_symbolic.specs.Terms.{SymbolicTerm, unknown, offset, known, headed}
use Rattle.kp_symbolic.specs.States.{Atom, same, has_head, quoted, Literal, SymbolicState}
use Rattle.kp_symbolic.specs.WellFormed.{IsPlaced, IsWellSorted, IsWellSortedAtom, IsFolded, IsFoldedAtom, IsWellFormed}
use Rattle.kp_symbolic.specs.Folding.{replaced}
use Rattle.kp_symbolic.specs.Sources.{parts_of, atom_parts, clause_parts, state_parts}
use Rattle.kp_symbolic.specs.Shown.{IsShown, deep}
use Rattle.kp_symbolic.specs.Endings.{simplify_situation}
use Rattle.kp_simplify.specs.Answers.{Side, side_of, atom_sides, clause_sides, state_sides, depth_of, first_number, first_deep}

-- ---- a term's own sort is below its place's

placed_value : (g : KoreSignature) (s : KoreSort) (u : Value) → HasSort g s u → (own : KoreSort) × (own_sort g u ≡ Some own) × IsBelow g.subsorts own s
placed_value g s (whole n) h = h
placed_value g s (truth b) h = h
placed_value g s (token t x) h = (h.0, ap Some h.1.0, h.2)
placed_value g s (constructed c us) h = let head = h.0 in let d = head.1 in (head.0, ap (option_map (λ x. x.result)) d.1 ∙ ap Some d.3, head.2)

placed : (g : KoreSignature) (s : KoreSort) (t : SymbolicTerm) → IsWellSorted g s t → IsPlaced g s t
placed g s (unknown x) h = (x.sort, refl, h)
placed g s (offset x c) h = (x.sort, refl, h.2)
placed g s (known u) h = placed_value g s u h.0
placed g s (headed f ts) h = h.1

-- ---- the sides of a state are parts of it

-- a part of its place's sort in normal form, which is one of these
record IsPartAmong (g : KoreSignature) (parts : List SymbolicTerm) (x : Side) : Type 0 where
  sorted : IsWellSorted g x.sort x.term
  folded : IsFolded g x.term
  stands : AnyByRecursion (λ q. q ≡ x.term) parts

any_before : (P : SymbolicTerm → Type 0) (xs ys : List SymbolicTerm) → AnyByRecursion P xs → AnyByRecursion P (xs ++ ys)
any_before P [] ys h = absurd h
any_before P (x ∷ xs) ys (inl h) = inl h
any_before P (x ∷ xs) ys (inr h) = inr (any_before P xs ys h)

any_behind : (P : SymbolicTerm → Type 0) (xs ys : List SymbolicTerm) → AnyByRecursion P ys → AnyByRecursion P (xs ++ ys)
any_behind P [] ys h = h
any_behind P (x ∷ xs) ys h = inr (any_behind P xs ys h)

stands_in_itself : (t : SymbolicTerm) → AnyByRecursion (λ q. q ≡ t) (parts_of t)
stands_in_itself (unknown x) = inl refl
stands_in_itself (offset x c) = inl refl
stands_in_itself (known u) = inl refl
stands_in_itself (headed f ts) = inl refl

before : (g : KoreSignature) (ps qs : List SymbolicTerm) (x : Side) → IsPartAmong g ps x → IsPartAmong g (ps ++ qs) x
before g ps qs x h = record { sorted = h.sorted; folded = h.folded; stands = any_before (λ q. q ≡ x.term) ps qs h.stands }

behind : (g : KoreSignature) (ps qs : List SymbolicTerm) (x : Side) → IsPartAmong g qs x → IsPartAmong g (ps ++ qs) x
behind g ps qs x h = record { sorted = h.sorted; folded = h.folded; stands = any_behind (λ q. q ≡ x.term) ps qs h.stands }

abbrev ArePartsAmong : KoreSignature → List SymbolicTerm → List Side → Type 0
ArePartsAmong g parts = AllByRecursion (IsPartAmong g parts)

all_before : (g : KoreSignature) (ps qs : List SymbolicTerm) (xs : List Side) → ArePartsAmong g ps xs → ArePartsAmong g (ps ++ qs) xs
all_before g ps qs [] h = tt
all_before g ps qs (x ∷ xs) h = (before g ps qs x h.0, all_before g ps qs xs h.1)

all_behind : (g : KoreSignature) (ps qs : List SymbolicTerm) (xs : List Side) → ArePartsAmong g qs xs → ArePartsAmong g (ps ++ qs) xs
all_behind g ps qs [] h = tt
all_behind g ps qs (x ∷ xs) h = (behind g ps qs x h.0, all_behind g ps qs xs h.1)

together : (g : KoreSignature) (ps qs : List SymbolicTerm) (xs ys : List Side) → ArePartsAmong g ps xs → ArePartsAmong g qs ys → ArePartsAmong g (ps ++ qs) (xs ++ ys)
together g ps qs [] ys h k = all_behind g ps qs ys k
together g ps qs (x ∷ xs) ys h k = (before g ps qs x h.0, together g ps qs xs ys h.1 k)

atom_is : (g : KoreSignature) (a : Atom) → IsWellSortedAtom g a → IsFoldedAtom g a → ArePartsAmong g (atom_parts a) (atom_sides a)
atom_is g (same s t u) w f = (
  before g (parts_of t) (parts_of u) (side_of s t) (record { sorted = w.0; folded = f.0; stands = stands_in_itself t }),
  (behind g (parts_of t) (parts_of u) (side_of s u) (record { sorted = w.1; folded = f.1; stands = stands_in_itself u }), tt),
)
atom_is g (has_head x test) w f = tt
atom_is g (quoted p rs) w f = tt

clause_is : (g : KoreSignature) (c : List Literal) → AllByRecursion (λ l. IsWellSortedAtom g l.atom) c → AllByRecursion (λ l. IsFoldedAtom g l.atom) c → ArePartsAmong g (flat_map (λ l. atom_parts l.atom) c) (flat_map (λ l. atom_sides l.atom) c)
clause_is g [] w f = tt
clause_is g (l ∷ c) w f = together g (atom_parts l.atom) (flat_map (λ m. atom_parts m.atom) c) (atom_sides l.atom) (flat_map (λ m. atom_sides m.atom) c) (atom_is g l.atom w.0 f.0) (clause_is g c w.1 f.1)

clauses_are : (g : KoreSignature) (cs : List (List Literal)) → AllByRecursion (AllByRecursion (λ l. IsWellSortedAtom g l.atom)) cs → AllByRecursion (AllByRecursion (λ l. IsFoldedAtom g l.atom)) cs → ArePartsAmong g (clause_parts cs) (clause_sides cs)
clauses_are g [] w f = tt
clauses_are g (c ∷ cs) w f = together g (flat_map (λ l. atom_parts l.atom) c) (clause_parts cs) (flat_map (λ l. atom_sides l.atom) c) (clause_sides cs) (clause_is g c w.0 f.0) (clauses_are g cs w.1 f.1)

sides_are : (g : KoreSignature) (s : SymbolicState) → IsWellFormed g s → ArePartsAmong g (state_parts s) (state_sides s)
sides_are g s w =
    together g (parts_of s.term) (clause_parts s.clauses) (side_of s.sort s.term ∷ []) (clause_sides s.clauses)
    (record { sorted = w.term; folded = w.folded_term; stands = stands_in_itself s.term }, tt)
    (clauses_are g s.clauses w.literals w.folded_clauses)

-- ---- the first that is too deep

record IsFoundAt (g : KoreSignature) (parts : List SymbolicTerm) (n : ℕ) : Type 0 where
  side : Side
  part : IsPartAmong g parts side
  is : n ≡ depth_of g side
  above : most_depth < n

over : (m : ℕ) → nat_le m most_depth ≡ false → most_depth < m
over m e = grind (arith, nat_tests)

same_number : (m n : ℕ) → Some m ≡ Some n → m ≡ n
same_number m n e = cc

found_here : (g : KoreSignature) (parts : List SymbolicTerm) (x : Side) (n : ℕ) → IsPartAmong g parts x → nat_le (depth_of g x) most_depth ≡ false → depth_of g x ≡ n → IsFoundAt g parts n
found_here g parts x n p e d = record { side = x; part = p; is = sym d; above = subst (λ m. most_depth < m) d (over (depth_of g x) e) }

found : (g : KoreSignature) (parts : List SymbolicTerm) (xs : List Side) (n : ℕ) → ArePartsAmong g parts xs → first_deep g xs ≡ Some n → IsFoundAt g parts n
found g parts [] n h e = absurd (cc)
found g parts (x ∷ xs) n h e = by (nat_le (depth_of g x) most_depth) refl e (found g parts xs n h.1)
  where
    by : (b : Bool) → nat_le (depth_of g x) most_depth ≡ b → first_number (if b then None else Some (depth_of g x)) (first_deep g xs) ≡ Some n → (first_deep g xs ≡ Some n → IsFoundAt g parts n) → IsFoundAt g parts n
    by true f q k = k q
    by false f q k = found_here g parts x n h.0 f (same_number (depth_of g x) n q)

-- ---- it is shown

first_part : (t : SymbolicTerm) → Contains (parts_of t) t
first_part (unknown x) = Contains-push [] (unknown x)
first_part (offset x c) = Contains-push [] (offset x c)
first_part (known u) = Contains-push [] (known u)
first_part (headed f ts) = Contains-append_left (headed f ts ∷ []) _ (headed f ts) (Contains-push [] (headed f ts))

itself : (g : KoreSignature) (t : SymbolicTerm) → IsFolded g t → Contains (parts_of (replaced g [] t)) t
itself g t f = subst (λ x. Contains (parts_of x) t) (sym f) (first_part t)

sourced : (g : KoreSignature) (t : SymbolicTerm) (ps : List SymbolicTerm) → IsFolded g t → AnyByRecursion (λ q. q ≡ t) ps → AnyByRecursion (λ q. Contains (parts_of (replaced g [] q)) t) ps
sourced g t [] f h = absurd h
sourced g t (p ∷ ps) f (inl e) = inl (subst (λ q. Contains (parts_of (replaced g [] q)) t) (sym e) (itself g t f))
sourced g t (p ∷ ps) f (inr h) = inr (sourced g t ps f h)

pub deep_is_shown : (g : KoreSignature) (p : KorePattern) (s : SymbolicState) (n : ℕ) → IsWellFormed g s → first_deep g (state_sides s) ≡ Some n → IsShown g (simplify_situation p s) [] (λ v. ⊥) (deep n)
deep_is_shown g p s n w e =
    let f = found g (state_parts s) (state_sides s) n (sides_are g s w) e in
    let here = sourced g f.side.term (state_parts s) f.part.folded f.part.stands in (
      f.above,
      record {
        part = f.side.term;
        sourced = subst (AnyByRecursion (λ q. Contains (parts_of (replaced g [] q)) f.side.term)) (sym (append-nil (state_parts s))) here;
        sort = f.side.sort;
        placed = placed g f.side.sort f.side.term f.part.sorted;
        is_depth = f.is;
      },
    )
