-- A variable under inj, by the parts of its application.
use Rattle.std.proofs.Common.{◌≡◌, refl, sym, subst, ℕ, suc, Bool, true, false, List, [], ◌∷◌, length, get_or, arith}
use Rattle.std.specs.Prelude.{MatchBool}
use Rattle.kp_kore.specs.Syntax.{Text, KoreSort, KoreSorts, no_sorts, next_sort, KorePatterns, no_patterns, next_pattern, variable, set_variable, application, string_literal, literal, top, bottom, negation, next, conjunction, disjunction, implication, equivalence, rewriting, exists, forall, ceil, floor, equals, membership, mu, nu}
use Rattle.kp_kore.specs.Signature.{KoreSignature, injection, meaning_of}
use Rattle.kp_kore.specs.View.{sort_view, sorts_view, patterns_view}
use Rattle.kp_kore.specs.declared.sort.Sort.{Sort}
use Rattle.kp_kore.specs.declared.pattern.Pattern.{Pattern}
use Rattle.kp_kore.specs.Foreign.{SplitsByHeads, InjectionsSplit}
use Rattle.kp_rules.specs.Index.{is_one_variable}

split_pair : (g : KoreSignature) (f : Text) (t u : KoreSort) (ps : KorePatterns) → (is_one_variable ps ≡ true → meaning_of g f ≡ injection → SplitsByHeads g t u) → InjectionsSplit g (application f (next_sort t (next_sort u no_sorts)) ps)
split_pair g f t u no_patterns h = tt
split_pair g f t u (next_pattern (variable x s) no_patterns) h = h refl
split_pair g f t u (next_pattern (variable x s) (next_pattern p ps)) h = tt
split_pair g f t u (next_pattern (set_variable x s) ps) h = tt
split_pair g f t u (next_pattern (application k ss qs) ps) h = tt
split_pair g f t u (next_pattern (string_literal text) ps) h = tt
split_pair g f t u (next_pattern (literal s text) ps) h = tt
split_pair g f t u (next_pattern (top s) ps) h = tt
split_pair g f t u (next_pattern (bottom s) ps) h = tt
split_pair g f t u (next_pattern (negation s q) ps) h = tt
split_pair g f t u (next_pattern (next s q) ps) h = tt
split_pair g f t u (next_pattern (conjunction s qs) ps) h = tt
split_pair g f t u (next_pattern (disjunction s qs) ps) h = tt
split_pair g f t u (next_pattern (implication s q r) ps) h = tt
split_pair g f t u (next_pattern (equivalence s q r) ps) h = tt
split_pair g f t u (next_pattern (rewriting s q r) ps) h = tt
split_pair g f t u (next_pattern (exists s x w q) ps) h = tt
split_pair g f t u (next_pattern (forall s x w q) ps) h = tt
split_pair g f t u (next_pattern (ceil a s q) ps) h = tt
split_pair g f t u (next_pattern (floor a s q) ps) h = tt
split_pair g f t u (next_pattern (equals a s q r) ps) h = tt
split_pair g f t u (next_pattern (membership a s q r) ps) h = tt
split_pair g f t u (next_pattern (mu x s q) ps) h = tt
split_pair g f t u (next_pattern (nu x s q) ps) h = tt

-- an application splits where two sorts, one variable and inj make its sorts split
pub split_by : (g : KoreSignature) (f : Text) (ss : KoreSorts) (ps : KorePatterns) → ((t u : KoreSort) → ss ≡ next_sort t (next_sort u no_sorts) → is_one_variable ps ≡ true → meaning_of g f ≡ injection → SplitsByHeads g t u) →
    InjectionsSplit g (application f ss ps)
split_by g f no_sorts ps h = tt
split_by g f (next_sort t no_sorts) ps h = tt
split_by g f (next_sort t (next_sort u no_sorts)) ps h = split_pair g f t u ps (h t u refl)
split_by g f (next_sort t (next_sort u (next_sort s ss))) ps h = tt

-- and only there
pub split_of : (g : KoreSignature) (f : Text) (t u : KoreSort) (ps : KorePatterns) → is_one_variable ps ≡ true → meaning_of g f ≡ injection → InjectionsSplit g (application f (next_sort t (next_sort u no_sorts)) ps) → SplitsByHeads g t u
split_of g f t u no_patterns v e h = absurd (cc)
split_of g f t u (next_pattern (variable x s) no_patterns) v e h = h e
split_of g f t u (next_pattern (variable x s) (next_pattern p ps)) v e h = absurd (cc)
split_of g f t u (next_pattern (set_variable x s) no_patterns) v e h = absurd (cc)
split_of g f t u (next_pattern (set_variable x s) (next_pattern p ps)) v e h = absurd (cc)
split_of g f t u (next_pattern (application k ss qs) no_patterns) v e h = absurd (cc)
split_of g f t u (next_pattern (application k ss qs) (next_pattern p ps)) v e h = absurd (cc)
split_of g f t u (next_pattern (string_literal text) no_patterns) v e h = absurd (cc)
split_of g f t u (next_pattern (string_literal text) (next_pattern p ps)) v e h = absurd (cc)
split_of g f t u (next_pattern (literal s text) no_patterns) v e h = absurd (cc)
split_of g f t u (next_pattern (literal s text) (next_pattern p ps)) v e h = absurd (cc)
split_of g f t u (next_pattern (top s) no_patterns) v e h = absurd (cc)
split_of g f t u (next_pattern (top s) (next_pattern p ps)) v e h = absurd (cc)
split_of g f t u (next_pattern (bottom s) no_patterns) v e h = absurd (cc)
split_of g f t u (next_pattern (bottom s) (next_pattern p ps)) v e h = absurd (cc)
split_of g f t u (next_pattern (negation s q) no_patterns) v e h = absurd (cc)
split_of g f t u (next_pattern (negation s q) (next_pattern p ps)) v e h = absurd (cc)
split_of g f t u (next_pattern (next s q) no_patterns) v e h = absurd (cc)
split_of g f t u (next_pattern (next s q) (next_pattern p ps)) v e h = absurd (cc)
split_of g f t u (next_pattern (conjunction s qs) no_patterns) v e h = absurd (cc)
split_of g f t u (next_pattern (conjunction s qs) (next_pattern p ps)) v e h = absurd (cc)
split_of g f t u (next_pattern (disjunction s qs) no_patterns) v e h = absurd (cc)
split_of g f t u (next_pattern (disjunction s qs) (next_pattern p ps)) v e h = absurd (cc)
split_of g f t u (next_pattern (implication s q r) no_patterns) v e h = absurd (cc)
split_of g f t u (next_pattern (implication s q r) (next_pattern p ps)) v e h = absurd (cc)
split_of g f t u (next_pattern (equivalence s q r) no_patterns) v e h = absurd (cc)
split_of g f t u (next_pattern (equivalence s q r) (next_pattern p ps)) v e h = absurd (cc)
split_of g f t u (next_pattern (rewriting s q r) no_patterns) v e h = absurd (cc)
split_of g f t u (next_pattern (rewriting s q r) (next_pattern p ps)) v e h = absurd (cc)
split_of g f t u (next_pattern (exists s x w q) no_patterns) v e h = absurd (cc)
split_of g f t u (next_pattern (exists s x w q) (next_pattern p ps)) v e h = absurd (cc)
split_of g f t u (next_pattern (forall s x w q) no_patterns) v e h = absurd (cc)
split_of g f t u (next_pattern (forall s x w q) (next_pattern p ps)) v e h = absurd (cc)
split_of g f t u (next_pattern (ceil a s q) no_patterns) v e h = absurd (cc)
split_of g f t u (next_pattern (ceil a s q) (next_pattern p ps)) v e h = absurd (cc)
split_of g f t u (next_pattern (floor a s q) no_patterns) v e h = absurd (cc)
split_of g f t u (next_pattern (floor a s q) (next_pattern p ps)) v e h = absurd (cc)
split_of g f t u (next_pattern (equals a s q r) no_patterns) v e h = absurd (cc)
split_of g f t u (next_pattern (equals a s q r) (next_pattern p ps)) v e h = absurd (cc)
split_of g f t u (next_pattern (membership a s q r) no_patterns) v e h = absurd (cc)
split_of g f t u (next_pattern (membership a s q r) (next_pattern p ps)) v e h = absurd (cc)
split_of g f t u (next_pattern (mu x s q) no_patterns) v e h = absurd (cc)
split_of g f t u (next_pattern (mu x s q) (next_pattern p ps)) v e h = absurd (cc)
split_of g f t u (next_pattern (nu x s q) no_patterns) v e h = absurd (cc)
split_of g f t u (next_pattern (nu x s q) (next_pattern p ps)) v e h = absurd (cc)

-- two sorts
pub two_sorts : (ss : List Sort) (d e : Sort) → length ss ≡ 2 → sorts_view ss ≡ next_sort (sort_view (get_or ss 0 d)) (next_sort (sort_view (get_or ss 1 e)) no_sorts)
two_sorts [] d e h = absurd (differ h)
  where
    differ : ◌≡◌ {A = ℕ} 0 2 → ⊥
    differ h = omega arith
two_sorts (a ∷ []) d e h = absurd (differ h)
  where
    differ : ◌≡◌ {A = ℕ} 1 2 → ⊥
    differ h = omega arith
two_sorts (a ∷ b ∷ []) d e h = refl
two_sorts (a ∷ b ∷ c ∷ ss) d e h = absurd (differ h)
  where
    differ : suc (suc (suc (length ss))) ≡ 2 → ⊥
    differ h = omega arith

pub as_many : (ss : List Sort) (t u : KoreSort) → sorts_view ss ≡ next_sort t (next_sort u no_sorts) → length ss ≡ 2
as_many [] t u e = absurd (cc)
as_many (a ∷ []) t u e = absurd (cc)
as_many (a ∷ b ∷ []) t u e = refl
as_many (a ∷ b ∷ c ∷ ss) t u e = absurd (cc)

pub applied : (g : KoreSignature) (f : Text) (ss : KoreSorts) (ps : KorePatterns) (t u : KoreSort) (b : Bool) → ss ≡ next_sort t (next_sort u no_sorts) → is_one_variable ps ≡ true → meaning_of g f ≡ injection →
    MatchBool b (SplitsByHeads g t u) (¬ SplitsByHeads g t u) → MatchBool b (InjectionsSplit g (application f ss ps)) (¬ InjectionsSplit g (application f ss ps))
applied g f ss ps t u true e v i h = subst (λ s. InjectionsSplit g (application f s ps)) (sym e) (split_pair g f t u ps (λ _ _. h))
applied g f ss ps t u false e v i h = λ k. h (split_of g f t u ps v i (subst (λ s. InjectionsSplit g (application f s ps)) e k))

pub not_one : (ps : List Pattern) → (length ps ≡ 1 → ⊥) → false ≡ is_one_variable (patterns_view ps)
not_one [] h = refl
not_one (p ∷ []) h = absurd (h refl)
not_one (p ∷ q ∷ ps) h = refl
