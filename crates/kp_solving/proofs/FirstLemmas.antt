-- The first equation of a state that can be solved, and how many literals clauses have.
use Rattle.std.proofs.Common.{◌≡◌, refl, sym, ap, ap₂, ◌∙◌, arith, ℕ, zero, suc, ◌+◌, ◌<◌, ◌≤◌, min, Bool, true, false, not, ◌&&◌, ◌||◌, List, [], ◌∷◌, ◌++◌, map, length, take, drop, get_or, Option, Some, None}
use Rattle.std.specs.Prelude.{if◌then◌else◌, nat_le}
use Rattle.std.specs.List.{list_all, list_any}
use Rattle.std.proofs.lemmas.List.{take_more}
use Rattle.kp_kore.specs.Syntax.{Text}
use Rattle.kp_kore.specs.Signature.{KoreSignature}
use Rattle.kp_kore.specs.Instance.{is_named}
use Rattle.kp_kore.proofs.ListLemmas.{one_left, none_left}
use Rattle.kp_symbolic.specs.Terms.{term_variables}
use Rattle.kp_symbolic.specs.States.{Literal, clause_variables, SymbolicState}
use Rattle.kp_symbolic.specs.Plain.{stands_alone}
use Rattle.kp_symbolic.specs.Solving.{Equation, equation_of, literals_in, Solvable, stands_elsewhere, solvable_if, first_of_two, first_solvable_among, most_solved, first_solvable}
use Rattle.kp_symbolic.specs.View.{literal_view, clause_view, clauses_view}
use Rattle.kp_symbolic.specs.declared.clause.Clause.{Clause}
use Rattle.kp_symbolic.specs.declared.clause.Literal.{Literal as Written}
use Rattle.kp_solving.specs.Solvables.{solvable_of}

-- ---- how many literals

-- so many, counted up to a number, and those of the clauses from a place on are those of all
abbrev pub CountedLeft : ℕ → List Clause → ℕ → ℕ → Type 0
CountedLeft most cs i n = (min n most ≡ n) × (min (n + literals_in (clauses_view (drop i cs))) most ≡ min (literals_in (clauses_view cs)) most)

counted : (most n k rest new : ℕ) → new ≡ min (n + k) most → min (new + rest) most ≡ min (n + (k + rest)) most
counted most n k rest new e = omega (arith, e)

capped : (most n new : ℕ) → new ≡ min n most → min new most ≡ new
capped most n new e = omega (arith, e)

nothing_more : (most n : ℕ) → min n most ≡ n → n ≡ min (n + 0) most
nothing_more most n e = omega (arith, e)

pub counted_more : (most : ℕ) (cs : List Clause) (i n new : ℕ) (c : Clause) → i < length cs → c ≡ get_or cs i c → new ≡ min (n + length (clause_view c)) most → CountedLeft most cs i n → CountedLeft most cs (i + 1) new
counted_more most cs i n new c h e is left = (
  capped most (n + length (clause_view c)) new is,
  counted most n (length (clause_view c)) (literals_in (clauses_view (drop (i + 1) cs))) new is ∙ ap (λ ds. min (n + literals_in (clauses_view ds)) most) (sym (one_left cs i c h e)) ∙ left.1,
)

pub counted_all : (most : ℕ) (cs : List Clause) (i n : ℕ) → length cs ≤ i → CountedLeft most cs i n → n ≡ min (literals_in (clauses_view cs)) most
counted_all most cs i n h left = nothing_more most n left.0 ∙ ap (λ ds. min (n + literals_in (clauses_view ds)) most) (sym (none_left cs i h)) ∙ left.1

-- ---- where the variable stands

some_named : (x : Text) (cs : List (List Literal)) → list_any (λ c. is_named x (clause_variables c)) cs ≡ not (list_all (λ c. not (is_named x (clause_variables c))) cs)
some_named x [] = refl
some_named x (c ∷ cs) = by (is_named x (clause_variables c)) refl (some_named x cs)
  where
    by : (b : Bool) → is_named x (clause_variables c) ≡ b → list_any (λ d. is_named x (clause_variables d)) cs ≡ not (list_all (λ d. not (is_named x (clause_variables d))) cs) → list_any (λ d. is_named x (clause_variables d)) (c ∷ cs) ≡ not (list_all (λ d. not (is_named x (clause_variables d))) (c ∷ cs))
    by true e h = rw e refl
    by false e h = rw e h

either : (t b : Bool) → (t || not b) ≡ not (not t && b)
either true b = refl
either false b = refl

elsewhere : (s : SymbolicState) (others : List (List Literal)) (e : Equation) → stands_elsewhere s others e ≡ not (stands_alone s others e.variable.name)
elsewhere s others e =
    let t = is_named e.variable.name (term_variables s.term) in
    ap (λ b. t || b) (some_named e.variable.name others) ∙ either t (list_all (λ c. not (is_named e.variable.name (clause_variables c))) others)

pub nowhere_else : (s : SymbolicState) (others : List (List Literal)) (i : ℕ) (e : Equation) → true ≡ stands_alone s others e.variable.name → None ≡ solvable_if s others i (Some e)
nowhere_else s others i e h = sym (ap (λ b. if b then Some (solvable_of i e) else None) (elsewhere s others e ∙ ap not (sym h)))

pub somewhere_else : (s : SymbolicState) (others : List (List Literal)) (i : ℕ) (e : Equation) → false ≡ stands_alone s others e.variable.name → Some (solvable_of i e) ≡ solvable_if s others i (Some e)
somewhere_else s others i e h = sym (ap (λ b. if b then Some (solvable_of i e) else None) (elsewhere s others e ∙ ap not (sym h)))

-- ---- along the clauses

seen_both : (cs ds : List Clause) → clauses_view (cs ++ ds) ≡ clauses_view cs ++ clauses_view ds
seen_both [] ds = refl
seen_both (c ∷ cs) ds = ap (λ l. clause_view c ∷ l) (seen_both cs ds)

so_many : (cs : List Clause) (i : ℕ) → i < length cs → length (clauses_view (take i cs)) ≡ i
so_many [] i h = absurd (omega arith)
so_many (c ∷ cs) zero h = refl
so_many (c ∷ cs) (suc i) h = ap suc (so_many cs i (omega arith))

-- the first from a place on
abbrev pub first_from : KoreSignature → SymbolicState → List Clause → ℕ → Option Solvable
first_from g s cs i = first_solvable_among g s (clauses_view (take i cs)) (clauses_view (drop i cs))

abbrev pub others_at : List Clause → ℕ → List (List Literal)
others_at cs i = clauses_view (take i cs) ++ clauses_view (drop (i + 1) cs)

at_clause : (g : KoreSignature) (s : SymbolicState) (cs : List Clause) (i : ℕ) (c : Clause) → i < length cs → c ≡ get_or cs i c →
    first_from g s cs i ≡ first_of_two (solvable_if s (others_at cs i) i (equation_of g (clause_view c))) (first_from g s cs (i + 1))
at_clause g s cs i c h e = ap (λ ds. first_solvable_among g s before (clauses_view ds)) (one_left cs i c h e)
    ∙ ap₂ (λ n bs. first_of_two (solvable_if s (before ++ after) n (equation_of g (clause_view c))) (first_solvable_among g s bs after)) (so_many cs i h)
    (sym (ap clauses_view (take_more cs i c h ∙ ap (λ d. take i cs ++ d ∷ []) (sym e)) ∙ seen_both (take i cs) (c ∷ [])))
  where
    before : List (List Literal)
    before = clauses_view (take i cs)

    after : List (List Literal)
    after = clauses_view (drop (i + 1) cs)

pub solvable_here : (g : KoreSignature) (s : SymbolicState) (cs : List Clause) (i : ℕ) (c : Clause) (o : Solvable) (all : Option Solvable) → i < length cs → c ≡ get_or cs i c →
    Some o ≡ solvable_if s (others_at cs i) i (equation_of g (clause_view c)) → first_from g s cs i ≡ all → Some o ≡ all
solvable_here g s cs i c o all h e is left = ap (λ p. first_of_two p (first_from g s cs (i + 1))) is ∙ sym (at_clause g s cs i c h e) ∙ left

pub solvable_later : (g : KoreSignature) (s : SymbolicState) (cs : List Clause) (i : ℕ) (c : Clause) (all : Option Solvable) → i < length cs → c ≡ get_or cs i c →
    None ≡ solvable_if s (others_at cs i) i (equation_of g (clause_view c)) → first_from g s cs i ≡ all → first_from g s cs (i + 1) ≡ all
solvable_later g s cs i c all h e is left = ap (λ p. first_of_two p (first_from g s cs (i + 1))) is ∙ sym (at_clause g s cs i c h e) ∙ left

pub none_solvable : (g : KoreSignature) (s : SymbolicState) (cs : List Clause) (i : ℕ) (all : Option Solvable) → length cs ≤ i → first_from g s cs i ≡ all → None ≡ all
none_solvable g s cs i all h left = sym (ap (λ ds. first_solvable_among g s (clauses_view (take i cs)) (clauses_view ds)) (none_left cs i h)) ∙ left

-- ---- a clause, and a state

pub not_alone : (g : KoreSignature) (ls : List Written) → (length ls ≡ 1 → ⊥) → None ≡ equation_of g (map literal_view ls)
not_alone g [] n = refl
not_alone g (l ∷ []) n = absurd (n refl)
not_alone g (l ∷ m ∷ ls) n = refl

pub too_many_to_solve : (g : KoreSignature) (s : SymbolicState) → false ≡ nat_le (literals_in s.clauses) most_solved → None ≡ first_solvable g s
too_many_to_solve g s h = ap (λ b. if b then first_solvable_among g s [] s.clauses else None) h

pub few_enough : (g : KoreSignature) (s : SymbolicState) (o : Option Solvable) → true ≡ nat_le (literals_in s.clauses) most_solved → o ≡ first_solvable_among g s [] s.clauses → o ≡ first_solvable g s
few_enough g s o h e = e ∙ ap (λ b. if b then first_solvable_among g s [] s.clauses else None) h
