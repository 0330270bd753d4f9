-- The clauses of a state with terms in the place of variables, one after another, where the literals before are counted up to a bound.
use Rattle.std.proofs.Common.{◌≡◌, refl, sym, ap, ap₂, ◌∙◌, arith, ℕ, ◌+◌, ◌-◌, ◌<◌, ◌≤◌, min, not, List, [], ◌∷◌, ◌++◌, length, drop, get_or}
use Rattle.std.proofs.lemmas.List.{append_assoc, append-nil, map-append}
use Rattle.std.specs.Prelude.{if◌then◌else◌}
use Rattle.kp_kore.specs.Syntax.{KoreSort}
use Rattle.kp_kore.specs.Signature.{KoreSignature}
use Rattle.kp_kore.proofs.ListLemmas.{one_left, none_left}
use Rattle.kp_symbolic.specs.Terms.{Replaced}
use Rattle.kp_symbolic.specs.Formulas.{size_of}
use Rattle.kp_symbolic.specs.States.{Literal}
use Rattle.kp_symbolic.specs.Writing.{written_clause}
use Rattle.kp_symbolic.specs.Clauses.{distributed}
use Rattle.kp_symbolic.specs.Solving.{literals_in}
use Rattle.kp_symbolic.specs.View.{clause_view, clauses_view}
use Rattle.kp_symbolic.specs.declared.clause.Clause.{Clause}
use Rattle.kp_clauses.proofs.ConjunctLemmas.{same_test, still_same}
use Rattle.kp_clause_substitution.specs.Replacing.{clause_under}
use Rattle.kp_clause_substitution.specs.Substituted.{substituted_clause, substituted_clauses}
use Rattle.kp_solving.specs.Holding.{holds_one, quoted_under}

-- ---- literals before, as they are counted

clause_alike : (g : KoreSignature) (sort : KoreSort) (qs : List Replaced) (m n : ℕ) (c : List Literal) → min m 16385 ≡ min n 16385 → substituted_clause g sort qs m c ≡ substituted_clause g sort qs n c
clause_alike g sort qs m n c same =
    ap (λ b. if not (holds_one qs c) then c ∷ [] else if b then quoted_under qs (written_clause g sort c) ∷ [] else distributed (clause_under g qs c))
    (same_test m n (size_of (clause_under g qs c)).literals same)

clauses_alike : (g : KoreSignature) (sort : KoreSort) (qs : List Replaced) (m n : ℕ) (cs : List (List Literal)) → min m 16385 ≡ min n 16385 → substituted_clauses g sort qs m cs ≡ substituted_clauses g sort qs n cs
clauses_alike g sort qs m n [] same = refl
clauses_alike g sort qs m n (c ∷ cs) same =
    let is = clause_alike g sort qs m n c same in
    ap₂ (λ bs ds. bs ++ ds) is (clauses_alike g sort qs (m + literals_in (substituted_clause g sort qs m c)) (n + literals_in (substituted_clause g sort qs n c)) cs (still_same m n (literals_in (substituted_clause g sort qs m c)) (literals_in (substituted_clause g sort qs n c)) same (ap literals_in is)))

-- ---- the clauses from a place on

capped : (n new : ℕ) → new ≡ min n 16385 → min n 16385 ≡ min new 16385
capped n new e = omega (arith, e)

abbrev pub substituted_from : KoreSignature → KoreSort → List Replaced → ℕ → ℕ → List Clause → List (List Literal)
substituted_from g sort qs n i cs = substituted_clauses g sort qs n (clauses_view (drop i cs))

pub clauses_on : (g : KoreSignature) (sort : KoreSort) (qs : List Replaced) (cs : List Clause) (i n new : ℕ) (c : Clause) (found made more : List Clause) (all : List (List Literal)) → i < length cs → c ≡ get_or cs i c →
    clauses_view made ≡ substituted_clause g sort qs n (clause_view c) → new ≡ min (n + literals_in (clauses_view made)) 16385 → more ≡ found ++ made → clauses_view found ++ substituted_from g sort qs n i cs ≡ all →
    clauses_view more ++ substituted_from g sort qs new (i + 1) cs ≡ all
clauses_on g sort qs cs i n new c found made more all h there is counted both left =
    let rest = clauses_view (drop (i + 1) cs) in
    let before = clauses_view found in
    let k = n + literals_in (clauses_view made) in
    ap (λ ds. ds ++ substituted_from g sort qs new (i + 1) cs) (ap clauses_view both ∙ map-append clause_view found made)
    ∙ append_assoc before (clauses_view made) (substituted_from g sort qs new (i + 1) cs)
    ∙ ap (λ ds. before ++ (clauses_view made ++ ds)) (sym (clauses_alike g sort qs k new rest (capped k new counted)))
    ∙ ap (λ bs. before ++ (bs ++ substituted_clauses g sort qs (n + literals_in bs) rest)) is
    ∙ sym (ap (λ ds. before ++ substituted_clauses g sort qs n (clauses_view ds)) (one_left cs i c h there))
    ∙ left

pub clauses_all : (g : KoreSignature) (sort : KoreSort) (qs : List Replaced) (cs : List Clause) (i n : ℕ) (found all : List (List Literal)) → length cs ≤ i → found ++ substituted_from g sort qs n i cs ≡ all → found ≡ all
clauses_all g sort qs cs i n found all h left = sym (append-nil found) ∙ sym (ap (λ ds. found ++ substituted_clauses g sort qs n (clauses_view ds)) (none_left cs i h)) ∙ left
