-- A term beside predicates: its instances and its free variables.
use Rattle.std.proofs.Common.{◌≡◌, refl, sym, ap, ap₂, subst, ◌∙◌, true, false, not, cond, ◌↔◌, List, [], ◌∷◌, ◌++◌, map}
use Rattle.std.specs.List.{AllByRecursion, filter}
use Rattle.std.proofs.lemmas.List.{append-nil}
use Rattle.kp_kore.specs.Syntax.{KoreSort, KorePattern, variable, set_variable, application, string_literal, literal, top, bottom, negation, next, conjunction, disjunction, implication, equivalence, rewriting, exists, forall, ceil, floor, equals, membership, mu, nu, next_pattern}
use Rattle.kp_kore.specs.Parts.{SortedName, is_term, free_variables}
use Rattle.kp_kore.specs.Signature.{KoreSignature}
use Rattle.kp_kore.specs.View.{patterns_of}
use Rattle.kp_kore.specs.Value.{Value}
use Rattle.kp_kore.specs.Instance.{Valuation, instance, IsTrueUnder, conjuncts, all_conjuncts, conjoined_terms, conjoined_predicates, IsInstanceOfOne, IsInstance}
use Rattle.kp_kore.proofs.InstanceLemmas.{one_instance}
use Rattle.kp_rules.specs.Bodies.{IsLonePredicate, is_conjunction}
use Rattle.kp_pattern_substitution.specs.Substitution.{ReplacedName, substituted, AreClosed}
use Rattle.kp_pattern_substitution.proofs.Substituted.{substituted_is_term}
use Rattle.kp_rules.specs.Known.{free_beside}
use Rattle.kp_successors.specs.Choices.{constrained_by, equal_to_itself}

-- ---- conjuncts

alone : (p : KorePattern) → is_conjunction p ≡ false → conjuncts p ≡ p ∷ []
alone (conjunction s ps) h = absurd (cc)
alone (variable x s) h = refl
alone (set_variable x s) h = refl
alone (application f ss ps) h = refl
alone (string_literal t) h = refl
alone (literal s t) h = refl
alone (top s) h = refl
alone (bottom s) h = refl
alone (negation s p) h = refl
alone (next s p) h = refl
alone (disjunction s ps) h = refl
alone (implication s p q) h = refl
alone (equivalence s p q) h = refl
alone (rewriting s p q) h = refl
alone (exists s x t p) h = refl
alone (forall s x t p) h = refl
alone (ceil a s p) h = refl
alone (floor a s p) h = refl
alone (equals a s p q) h = refl
alone (membership a s p q) h = refl
alone (mu x s p) h = refl
alone (nu x s p) h = refl

term_is_alone : (p : KorePattern) → is_term p ≡ true → is_conjunction p ≡ false
term_is_alone (conjunction s ps) h = absurd (cc)
term_is_alone _ h = refl

all_alone : (qs : List KorePattern) → AllByRecursion IsLonePredicate qs → all_conjuncts (patterns_of qs) ≡ qs
all_alone [] h = refl
all_alone (q ∷ qs) h = ap₂ (λ a b. a ++ b) (alone q h.0.no_conjunction) (all_alone qs h.1)

no_terms : (qs : List KorePattern) → AllByRecursion IsLonePredicate qs → filter is_term qs ≡ []
no_terms [] h = refl
no_terms (q ∷ qs) h = ap (λ b. cond b (q ∷ filter is_term qs) (filter is_term qs)) h.0.no_term ∙ no_terms qs h.1

all_others : (qs : List KorePattern) → AllByRecursion IsLonePredicate qs → filter (λ q. not (is_term q)) qs ≡ qs
all_others [] h = refl
all_others (q ∷ qs) h =
    ap (λ b. cond (not b) (q ∷ filter (λ q. not (is_term q)) qs) (filter (λ q. not (is_term q)) qs)) h.0.no_term ∙ ap (λ l. q ∷ l) (all_others qs h.1)

-- ---- instances

members : (s : KoreSort) (t : KorePattern) (qs : List KorePattern) → is_term t ≡ true → AllByRecursion IsLonePredicate qs → conjuncts (conjunction s (next_pattern t (patterns_of qs))) ≡ t ∷ qs
members s t qs h k = ap₂ (λ a b. a ++ b) (alone t (term_is_alone t h)) (all_alone qs k)

the_term : (s : KoreSort) (t : KorePattern) (qs : List KorePattern) → is_term t ≡ true → AllByRecursion IsLonePredicate qs → conjoined_terms (conjunction s (next_pattern t (patterns_of qs))) ≡ t ∷ []
the_term s t qs h k =
    ap (filter is_term) (members s t qs h k)
    ∙ ap (λ b. cond b (t ∷ filter is_term qs) (filter is_term qs)) h
    ∙ ap (λ l. t ∷ l) (no_terms qs k)

the_predicates : (s : KoreSort) (t : KorePattern) (qs : List KorePattern) → is_term t ≡ true → AllByRecursion IsLonePredicate qs → conjoined_predicates (conjunction s (next_pattern t (patterns_of qs))) ≡ qs
the_predicates s t qs h k =
    ap (filter (λ q. not (is_term q))) (members s t qs h k)
    ∙ ap (λ b. cond (not b) (t ∷ filter (λ q. not (is_term q)) qs) (filter (λ q. not (is_term q)) qs)) h
    ∙ all_others qs k

-- the term's instance, where all predicates are true
pub constrained_instance : (g : KoreSignature) (v : Valuation) (s : KoreSort) (t : KorePattern) (qs : List KorePattern) (u : Value) → is_term t ≡ true → AllByRecursion IsLonePredicate qs →
    IsInstance g v (constrained_by s t qs) u ↔ ((u ≡ instance g v t) × AllByRecursion (IsTrueUnder g v) qs)
constrained_instance g v s t [] u h k = let one = one_instance g v t u h in (λ i. (one.0 i, tt), λ e. one.1 e.0)
constrained_instance g v s t (q ∷ qs) u h k =
    let terms = the_term s t (q ∷ qs) h k in
    let predicates = the_predicates s t (q ∷ qs) h k in (
      (λ i. (subst (λ ts. IsInstanceOfOne g v ts u) terms i.term, subst (AllByRecursion (IsTrueUnder g v)) predicates i.predicates)),
      (λ e. record {
        term = subst (λ ts. IsInstanceOfOne g v ts u) (sym terms) e.0;
        predicates = subst (AllByRecursion (IsTrueUnder g v)) (sym predicates) e.1;
      }),
    )

pub constrained_free : (s : KoreSort) (t : KorePattern) (qs : List KorePattern) → free_variables (constrained_by s t qs) ≡ free_beside t qs
constrained_free s t [] = sym (append-nil (free_variables t))
constrained_free s t (q ∷ qs) = refl

-- ---- predicates with terms put in

conjunction_kept : (rs : List ReplacedName) (q : KorePattern) → is_term q ≡ false → is_conjunction (substituted rs q) ≡ is_conjunction q
conjunction_kept rs (variable x s) h = absurd (cc)
conjunction_kept rs _ h = refl

pub lone_kept : (rs : List ReplacedName) (q : KorePattern) → AreClosed rs → IsLonePredicate q → IsLonePredicate (substituted rs q)
lone_kept rs q c h = record {
  no_term = substituted_is_term rs q c ∙ h.no_term;
  no_conjunction = conjunction_kept rs q h.no_term ∙ h.no_conjunction;
}

pub all_lone_kept : (rs : List ReplacedName) (qs : List KorePattern) → AreClosed rs → AllByRecursion IsLonePredicate qs → AllByRecursion IsLonePredicate (map (substituted rs) qs)
all_lone_kept rs [] c h = tt
all_lone_kept rs (q ∷ qs) c h = (lone_kept rs q c h.0, all_lone_kept rs qs c h.1)

pub lone_equalities : (s : KoreSort) (xs : List SortedName) → AllByRecursion IsLonePredicate (map (equal_to_itself s) xs)
lone_equalities s [] = tt
lone_equalities s (x ∷ xs) = (record { no_term = refl; no_conjunction = refl }, lone_equalities s xs)

pub true_equalities : (g : KoreSignature) (v : Valuation) (s : KoreSort) (xs : List SortedName) → AllByRecursion (IsTrueUnder g v) (map (equal_to_itself s) xs)
true_equalities g v s [] = tt
true_equalities g v s (x ∷ xs) = (refl, true_equalities g v s xs)
