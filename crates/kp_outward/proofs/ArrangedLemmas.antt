-- Clauses in the order of what is written for them.
use Rattle.std.proofs.Common.{◌≡◌, refl, sym, ap, ap₂, ◌∙◌, subst, ℕ, zero, suc, ◌<◌, List, [], ◌∷◌, map, length, get_or, set, Option, Some, arith, IsPermutation}
use Rattle.std.specs.Prelude.{Result, Ok, Err, IfOk}
use Rattle.std.specs.List.{AllZip, Contains, swap}
use Rattle.std.proofs.lemmas.List.{length-map, map-set, get_or-map}
use Rattle.std.proofs.lemmas.List.Sorted.{IsPermutation-refl, IsPermutation-swap, IsPermutation-trans, IsPermutation-keeps, IsPermutation-map, length_permutation}
use Rattle.kp_kore.specs.Syntax.{KoreSort, KorePattern, bottom, conjunction, disjunction, next_pattern}
use Rattle.kp_kore.specs.Signature.{KoreSignature}
use Rattle.kp_kore.specs.View.{patterns_of}
use Rattle.kp_symbolic.specs.Shown.{AreDifferent}
use Rattle.kp_symbolic.specs.States.{Literal, SymbolicState}
use Rattle.kp_symbolic.specs.Writing.{variable_first, written_literal, written_literals, written_clause, written_clauses, written_predicate, written_state, written_term}
use Rattle.kp_symbolic.specs.View.{literal_view, clauses_view}
use Rattle.kp_symbolic.specs.declared.clause.Clause.{Clause}
use Rattle.kp_symbolic.specs.declared.clause.Literal.{Literal as CodeLiteral}
use Rattle.kp_outward.specs.Arranged.{IsArrangedClause, IsWrittenClause, IsSpelledClause, Arranges, AreArranged, with_clauses}
use Rattle.kp_outward.specs.Joined.{joined_all, beside_term}
use Rattle.kp_outward.specs.Order.{AreInOrder, IsOrderedOnce}
use Rattle.kp_outward.specs.View.{spelled_view, patterns_in}
use Rattle.kp_outward.specs.declared.texts.Spelled.{Spelled}
use Rattle.kp_outward.proofs.OrderLemmas.{once_of_moved}

-- ---- what is made of each member moves with the members

map_swap : {X Y : Type 0} (f : X → Y) (xs : List X) (i j : ℕ) → i < length xs → j < length xs → map f (swap xs i j) ≡ swap (map f xs) i j
map_swap f [] i j h k = refl
map_swap f (d ∷ ys) i j h k =
    map-set f (set (d ∷ ys) i (get_or (d ∷ ys) j d)) j (get_or (d ∷ ys) i d)
    ∙ ap (λ l. set l j (f (get_or (d ∷ ys) i d))) (map-set f (d ∷ ys) i (get_or (d ∷ ys) j d))
    ∙ ap₂ (λ a b. set (set (map f (d ∷ ys)) i a) j b) (sym (get_or-map f (d ∷ ys) j d (f d) k)) (sym (get_or-map f (d ∷ ys) i d (f d) h))

-- a list that is moved so that its images are these
abbrev Moved : {X Y : Type 0} → (X → Y) → List X → List Y → Type 0
Moved {X} f xs ys = (zs : List X) × IsPermutation xs zs × (map f zs ≡ ys)

one_swap : {X Y : Type 0} (f : X → Y) (xs : List X) (l : List Y) (i j : ℕ) → i < length l → j < length l → Moved f xs l → Moved f xs (swap l i j)
one_swap f xs l i j h k (zs, p, e) =
    let long : length l ≡ length zs = sym (ap length e) ∙ length-map zs f in
    let hi : i < length zs = subst (λ n. i < n) long h in
    let hj : j < length zs = subst (λ n. j < n) long k in
    (swap zs i j, IsPermutation-trans xs zs (swap zs i j) p (IsPermutation-swap zs (swap zs i j) i j hi hj refl), map_swap f zs i j hi hj ∙ ap (λ m. swap m i j) e)

pub moved_back : {X Y : Type 0} (f : X → Y) (xs : List X) (ys : List Y) → IsPermutation (map f xs) ys → Moved f xs ys
moved_back f xs ys moved = IsPermutation-keeps (map f xs) (Moved f xs) (xs, IsPermutation-refl xs, refl) (one_swap f xs) ys moved

-- ---- one clause

pub literals_are : (g : KoreSignature) (s : KoreSort) (c : List Literal) → patterns_of (map (written_literal g s) c) ≡ written_literals g s c
literals_are g s [] = refl
literals_are g s (l ∷ c) = ap (next_pattern (written_literal g s l)) (literals_are g s c)

-- what is written for the literals, in order
pub several_written : (g : KoreSignature) (s : KoreSort) (c : List Literal) (old new : List Spelled) (p : KorePattern) → patterns_in old ≡ map (written_literal g s) c → IsPermutation old new →
    AreInOrder (patterns_in new) → p ≡ disjunction s (patterns_of (patterns_in new)) → (d : List Literal) × IsArrangedClause g s c d × (p ≡ disjunction s (written_literals g s d))
several_written g s c old new p are moved up is =
    let back = moved_back (written_literal g s) c (patterns_in new) (subst (λ l. IsPermutation l (patterns_in new)) are (IsPermutation-map spelled_view old new moved)) in
    let d = back.0 in
    (d, record { same = back.1; in_order = subst AreInOrder (sym back.2) up }, is ∙ ap (λ l. disjunction s (patterns_of l)) (sym back.2) ∙ ap (disjunction s) (literals_are g s d))

pub none_written : (g : KoreSignature) (s : KoreSort) (ls : List CodeLiteral) (p : KorePattern) → length ls ≡ 0 → p ≡ bottom s → IsWrittenClause g s (map literal_view ls) p
none_written g s [] p n is = ([], record { same = IsPermutation-refl []; in_order = tt }, is)
none_written g s (l ∷ ls) p n is = absurd (cc)

one_written : (g : KoreSignature) (s : KoreSort) (ls : List CodeLiteral) (l : CodeLiteral) (p : KorePattern) → length ls ≡ 1 → l ≡ get_or ls 0 l → p ≡ written_literal g s (variable_first g (literal_view l)) →
    IsWrittenClause g s (map literal_view ls) p
one_written g s [] l p n at is = absurd (cc)
one_written g s (k ∷ []) l p n at is =
    (literal_view k ∷ [], record { same = IsPermutation-refl (literal_view k ∷ []); in_order = (tt, tt) }, is ∙ ap (λ x. written_literal g s (variable_first g (literal_view x))) at)
one_written g s (k ∷ m ∷ ls) l p n at is = absurd (cc)

-- several literals stand under \or
several_are : (g : KoreSignature) (s : KoreSort) (d : List Literal) → 1 < length d → disjunction s (written_literals g s d) ≡ written_clause g s d
several_are g s [] h = absurd (omega (arith, h))
several_are g s (l ∷ []) h = absurd (omega (arith, h))
several_are g s (l ∷ m ∷ d) h = refl

more_than_one : (ls : List CodeLiteral) → (length ls ≡ 0 → ⊥) → (length ls ≡ 1 → ⊥) → 1 < length (map literal_view ls)
more_than_one [] none one = absurd (none refl)
more_than_one (l ∷ []) none one = absurd (one refl)
more_than_one (l ∷ m ∷ ls) none one = omega arith

two_written : (g : KoreSignature) (s : KoreSort) (ls : List CodeLiteral) (p : KorePattern) → (length ls ≡ 0 → ⊥) → (length ls ≡ 1 → ⊥) →
    (d : List Literal) × IsArrangedClause g s (map literal_view ls) d × (p ≡ disjunction s (written_literals g s d)) → IsWrittenClause g s (map literal_view ls) p
two_written g s ls p none one (d, a, is) =
    let long : length d ≡ length (map literal_view ls) = length_permutation (map literal_view ls) d a.same in
    (d, a, is ∙ several_are g s d (subst (λ n. 1 < n) (sym long) (more_than_one ls none one)))

pub one_written_ok : {P E : Type 0} (seen : P → KorePattern) (g : KoreSignature) (s : KoreSort) (ls : List CodeLiteral) (l : CodeLiteral) (r : Result P E) → length ls ≡ 1 → l ≡ get_or ls 0 l →
    IfOk r (λ p. seen p ≡ written_literal g s (variable_first g (literal_view l))) → IfOk r (λ p. IsWrittenClause g s (map literal_view ls) (seen p))
one_written_ok seen g s ls l (Ok p) n at told = one_written g s ls l (seen p) n at told
one_written_ok seen g s ls l (Err e) n at told = tt

pub two_written_ok : {P E : Type 0} (seen : P → KorePattern) (g : KoreSignature) (s : KoreSort) (ls : List CodeLiteral) (r : Result P E) → (length ls ≡ 0 → ⊥) → (length ls ≡ 1 → ⊥) →
    IfOk r (λ p. (d : List Literal) × IsArrangedClause g s (map literal_view ls) d × (seen p ≡ disjunction s (written_literals g s d))) → IfOk r (λ p. IsWrittenClause g s (map literal_view ls) (seen p))
two_written_ok seen g s ls (Ok p) none one told = two_written g s ls (seen p) none one told
two_written_ok seen g s ls (Err e) none one told = tt

-- ---- all clauses

-- each pattern is what is written for one of the clauses, and each clause is written by one of them
written_from : (g : KoreSignature) (s : KoreSort) (cs : List (List Literal)) (ps : List KorePattern) → AllZip (IsWrittenClause g s) cs ps → (p : KorePattern) → Contains ps p →
    (c : List Literal) × Contains cs c × IsWrittenClause g s c p
written_from g s [] [] all p (k, h, e) = absurd (omega (arith, h))
written_from g s [] (q ∷ ps) all p there = absurd all
written_from g s (c ∷ cs) [] all p there = absurd all
written_from g s (c ∷ cs) (q ∷ ps) all p (zero, h, e) = (c, (0, omega arith, refl), subst (IsWrittenClause g s c) e all.0)
written_from g s (c ∷ cs) (q ∷ ps) all p (suc k, h, e) =
    let found = written_from g s cs ps all.1 p (k, omega (arith, h), e) in
    (found.0, (suc found.1.0, omega (arith, found.1.1), found.1.2), found.2)

written_by : (g : KoreSignature) (s : KoreSort) (cs : List (List Literal)) (ps : List KorePattern) → AllZip (IsWrittenClause g s) cs ps → (c : List Literal) → Contains cs c →
    (p : KorePattern) × Contains ps p × IsWrittenClause g s c p
written_by g s [] [] all c (k, h, e) = absurd (omega (arith, h))
written_by g s [] (q ∷ ps) all c there = absurd all
written_by g s (b ∷ cs) [] all c there = absurd all
written_by g s (b ∷ cs) (q ∷ ps) all c (zero, h, e) = (q, (0, omega arith, refl), subst (λ x. IsWrittenClause g s x q) e all.0)
written_by g s (b ∷ cs) (q ∷ ps) all c (suc k, h, e) =
    let found = written_by g s cs ps all.1 c (k, omega (arith, h), e) in
    (found.0, (suc found.1.0, omega (arith, found.1.1), found.1.2), found.2)

-- the clauses in order that the patterns are written for
record Chosen (g : KoreSignature) (s : KoreSort) (cs : List (List Literal)) (qs : List KorePattern) : Type 0 where
  clauses : List (List Literal)
  from_these : (d : List Literal) → Contains clauses d → Arranges g s cs d
  are : map (written_clause g s) clauses ≡ qs

chosen : (g : KoreSignature) (s : KoreSort) (cs : List (List Literal)) (qs : List KorePattern) → ((q : KorePattern) → Contains qs q → (c : List Literal) × Contains cs c × IsWrittenClause g s c q) → Chosen g s cs qs
chosen g s cs [] all = record { clauses = []; from_these = λ d there. absurd (omega (arith, there.1)); are = refl }
chosen g s cs (q ∷ qs) all =
    let first = all q (0, omega arith, refl) in
    let rest = chosen g s cs qs (λ p there. all p (suc there.0, omega (arith, there.1), there.2)) in
    record {
      clauses = first.2.0 ∷ rest.clauses;
      from_these = one_more first.0 first.1 first.2.0 first.2.1 rest.clauses rest.from_these;
      are = ap₂ (λ p ps. p ∷ ps) (sym first.2.2) rest.are;
    }
  where
    one_more : (c : List Literal) → Contains cs c → (e : List Literal) → IsArrangedClause g s c e → (ds : List (List Literal)) → ((d : List Literal) → Contains ds d → Arranges g s cs d) →
        (d : List Literal) → Contains (e ∷ ds) d → Arranges g s cs d
    one_more c there e a ds from d (zero, h, same) = (c, there, subst (IsArrangedClause g s c) same a)
    one_more c there e a ds from d (suc k, h, same) = from d (k, omega (arith, h), same)

pub all_arranged : (g : KoreSignature) (s : KoreSort) (cs : List (List Literal)) (ps qs : List KorePattern) → AllZip (IsWrittenClause g s) cs ps → IsOrderedOnce ps qs →
    (ds : List (List Literal)) × AreArranged g s cs ds × (qs ≡ map (written_clause g s) ds)
all_arranged g s cs ps qs all o =
    let some = chosen g s cs qs (λ q there. written_from g s cs ps all q ((o.same q).1 there)) in (
      some.clauses,
      record {
        from_these = some.from_these;
        all_of_these = λ c there.
            let by = written_by g s cs ps all c there in
            (by.2.0, by.2.1, subst (λ l. Contains l (written_clause g s by.2.0)) (sym some.are) (subst (Contains qs) by.2.2 ((o.same by.0).0 by.1)));
        once = subst (λ l. AreDifferent l) (sym some.are) o.once;
        in_order = subst AreInOrder (sym some.are) o.in_order;
      },
      sym some.are,
    )

-- ---- predicates and states

clauses_are : (g : KoreSignature) (s : KoreSort) (ds : List (List Literal)) → patterns_of (map (written_clause g s) ds) ≡ written_clauses g s ds
clauses_are g s [] = refl
clauses_are g s (d ∷ ds) = ap (next_pattern (written_clause g s d)) (clauses_are g s ds)

pub predicate_is : (g : KoreSignature) (s : KoreSort) (ds : List (List Literal)) → joined_all s (map (written_clause g s) ds) ≡ written_predicate g s ds
predicate_is g s [] = refl
predicate_is g s (d ∷ []) = refl
predicate_is g s (d ∷ e ∷ ds) = ap (λ ps. Some (conjunction s ps)) (clauses_are g s (d ∷ e ∷ ds))

pub state_is : (g : KoreSignature) (s : SymbolicState) (ds : List (List Literal)) → beside_term s.sort (written_term g s.sort s.term) (map (written_clause g s.sort) ds) ≡ written_state g (with_clauses s ds)
state_is g s [] = refl
state_is g s (d ∷ ds) = ap (λ ps. conjunction s.sort (next_pattern (written_term g s.sort s.term) ps)) (clauses_are g s.sort (d ∷ ds))

-- what is written for a state, from what is written for its clauses
pub state_written : (g : KoreSignature) (s : SymbolicState) (qs : List KorePattern) (t p : KorePattern) → t ≡ written_term g s.sort s.term → p ≡ beside_term s.sort t qs →
    (ds : List (List Literal)) × AreArranged g s.sort s.clauses ds × (qs ≡ map (written_clause g s.sort) ds) →
    (ds : List (List Literal)) × AreArranged g s.sort s.clauses ds × (p ≡ written_state g (with_clauses s ds))
state_written g s qs t p term is (ds, arranged, are) = (ds, arranged, is ∙ ap₂ (beside_term s.sort) term are ∙ state_is g s ds)

pub predicate_written : (g : KoreSignature) (s : KoreSort) (cs : List (List Literal)) (qs : List KorePattern) (o : Option KorePattern) → o ≡ joined_all s qs →
    (ds : List (List Literal)) × AreArranged g s cs ds × (qs ≡ map (written_clause g s) ds) →
    (ds : List (List Literal)) × AreArranged g s cs ds × (o ≡ written_predicate g s ds)
predicate_written g s cs qs o is (ds, arranged, are) = (ds, arranged, is ∙ ap (joined_all s) are ∙ predicate_is g s ds)

each_seen : (g : KoreSignature) (s : KoreSort) (cs : List Clause) (ps : List Spelled) → AllZip (IsSpelledClause g s) cs ps → AllZip (IsWrittenClause g s) (clauses_view cs) (patterns_in ps)
each_seen g s [] [] all = tt
each_seen g s [] (p ∷ ps) all = absurd all
each_seen g s (c ∷ cs) [] all = absurd all
each_seen g s (c ∷ cs) (p ∷ ps) all = (all.0, each_seen g s cs ps all.1)

pub clauses_written : (g : KoreSignature) (s : KoreSort) (cs : List Clause) (old new kept : List Spelled) → AllZip (IsSpelledClause g s) cs old → IsPermutation old new →
    IsOrderedOnce (patterns_in new) (patterns_in kept) → (ds : List (List Literal)) × AreArranged g s (clauses_view cs) ds × (patterns_in kept ≡ map (written_clause g s) ds)
clauses_written g s cs old new kept all moved once =
    all_arranged g s (clauses_view cs) (patterns_in old) (patterns_in kept) (each_seen g s cs old all) (once_of_moved (patterns_in old) (patterns_in new) (patterns_in kept) (IsPermutation-map spelled_view old new moved) once)
