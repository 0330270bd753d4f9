-- Patterns that are folded to settled terms: their calls have places for their arguments. Verified ones are such.
use Rattle.std.proofs.Common.{◌≡◌, refl, sym, ◌∙◌, ap, Bool, true, false, cond, ◌&&◌, ◌||◌, List, length, None}
use Rattle.std.specs.Prelude.{codes, ⊤}
use Rattle.std.specs.Str.{bytes_eq}
use Rattle.std.specs.Str.Parse.{signed_digits_value}
use Rattle.kp_kore.specs.Syntax.{Text, KoreSort, KoreSorts, no_sorts, next_sort, KorePattern, KorePatterns, variable, set_variable, application, string_literal, literal, top, bottom, negation, next, conjunction, disjunction, implication, equivalence, rewriting, exists, forall, ceil, floor, equals, membership, mu, nu, no_patterns, next_pattern}
use Rattle.kp_kore.specs.Parts.{is_term, are_terms, sort_list, pattern_list}
use Rattle.kp_kore.specs.Signature.{KoreSignature, meaning_of, integer_sort, is_integer_sort, is_boolean_sort}
use Rattle.kp_kore.specs.Value.{whole, truth, token}
use Rattle.kp_kore.specs.Instance.{literal_value, is_predicate, are_predicates, is_conjoined_pair}
use Rattle.kp_kore.specs.Foreign.{is_interpretation}
use Rattle.kp_kore.proofs.InstanceLemmas.{first_true, second_true}
use Rattle.kp_signature.specs.Places.{Place, argument_sorts, argument_at, part_at, after, under_binder}
use Rattle.kp_signature.specs.Verify.{first_fault, arguments_fault, members_fault}
use Rattle.kp_signature.proofs.ApplicationLemmas.{as_many_arguments}
use Rattle.kp_signature.proofs.FaultLemmas.{nothing_earlier, nothing_later, keeps_rules}
use Rattle.kp_signature.proofs.SortLemmas.{is_that_sort}
use Rattle.kp_signature.proofs.SortedInstances.{same_rest}
use Rattle.kp_compile.proofs.Literals.{whole_literal}
use Rattle.kp_compile.specs.Spelled.{places_of}
use Rattle.kp_symbolic.specs.Terms.{Replaced}
use Rattle.kp_symbolic.specs.Folding.{folded, all_folded}
use Rattle.kp_symbolic.proofs.WellSorted.{plain_symbol, arguments_are}
use Rattle.kp_symbolic.proofs.SortedFolding.{fits_signed}
use Rattle.kp_symbolic_laws.proofs.Settled.{IsSettledValue, HaveRoom, IsSettled, AreSettled, ArePutSettled, applied_settled, stands, found_settled}

-- ---- patterns

-- there are no more arguments than places
abbrev pub HavePlaces : KoreSorts → KorePatterns → Type 0
HavePlaces ss no_patterns = ⊤
HavePlaces no_sorts (next_pattern p ps) = ⊥
HavePlaces (next_sort s ss) (next_pattern p ps) = HavePlaces ss ps

abbrev pub HasPlaces : KoreSignature → Text → KorePatterns → Type 0
HasPlaces g f ps = is_interpretation (meaning_of g f) ≡ true → HavePlaces (places_of g f) ps

-- terms and predicates of such applications that Q holds of
abbrev mutual
  pub IsFit : KoreSignature → (KorePattern → Type 0) → KorePattern → Type 0
  IsFit g Q (variable x s) = ⊤
  IsFit g Q (set_variable x s) = ⊤
  IsFit g Q (application f ss ps) = HasPlaces g f ps × Q (application f ss ps) × AreFit g Q ps
  IsFit g Q (string_literal t) = ⊤
  IsFit g Q (literal s t) = IsSettledValue g (literal_value g s t)
  IsFit g Q (top s) = ⊤
  IsFit g Q (bottom s) = ⊤
  IsFit g Q (negation s p) = IsFit g Q p
  IsFit g Q (next s p) = ⊥
  IsFit g Q (conjunction s ps) = AreFit g Q ps
  IsFit g Q (disjunction s ps) = AreFit g Q ps
  IsFit g Q (implication s p q) = IsFit g Q p × IsFit g Q q
  IsFit g Q (equivalence s p q) = IsFit g Q p × IsFit g Q q
  IsFit g Q (rewriting s p q) = ⊥
  IsFit g Q (exists s x t p) = IsFit g Q p
  IsFit g Q (forall s x t p) = IsFit g Q p
  IsFit g Q (ceil a s p) = IsFit g Q p
  IsFit g Q (floor a s p) = IsFit g Q p
  IsFit g Q (equals a s p q) = IsFit g Q p × IsFit g Q q
  IsFit g Q (membership a s p q) = IsFit g Q p × IsFit g Q q
  IsFit g Q (mu x s p) = ⊥
  IsFit g Q (nu x s p) = ⊥

  pub AreFit : KoreSignature → (KorePattern → Type 0) → KorePatterns → Type 0
  AreFit g Q no_patterns = ⊤
  AreFit g Q (next_pattern p ps) = IsFit g Q p × AreFit g Q ps

-- of any applications
abbrev pub Any : KorePattern → Type 0
Any p = ⊤

mutual
  pub fit_only : (g : KoreSignature) (Q : KorePattern → Type 0) (p : KorePattern) → IsFit g Q p → IsFit g Any p
  fit_only g Q (variable x s) h = tt
  fit_only g Q (set_variable x s) h = tt
  fit_only g Q (application f ss ps) h = (h.0, tt, all_fit_only g Q ps h.2)
  fit_only g Q (string_literal t) h = tt
  fit_only g Q (literal s t) h = h
  fit_only g Q (top s) h = tt
  fit_only g Q (bottom s) h = tt
  fit_only g Q (negation s p) h = fit_only g Q p h
  fit_only g Q (next s p) h = absurd h
  fit_only g Q (conjunction s ps) h = all_fit_only g Q ps h
  fit_only g Q (disjunction s ps) h = all_fit_only g Q ps h
  fit_only g Q (implication s p q) h = (fit_only g Q p h.0, fit_only g Q q h.1)
  fit_only g Q (equivalence s p q) h = (fit_only g Q p h.0, fit_only g Q q h.1)
  fit_only g Q (rewriting s p q) h = absurd h
  fit_only g Q (exists s x t p) h = fit_only g Q p h
  fit_only g Q (forall s x t p) h = fit_only g Q p h
  fit_only g Q (ceil a s p) h = fit_only g Q p h
  fit_only g Q (floor a s p) h = fit_only g Q p h
  fit_only g Q (equals a s p q) h = (fit_only g Q p h.0, fit_only g Q q h.1)
  fit_only g Q (membership a s p q) h = (fit_only g Q p h.0, fit_only g Q q h.1)
  fit_only g Q (mu x s p) h = absurd h
  fit_only g Q (nu x s p) h = absurd h

  pub all_fit_only : (g : KoreSignature) (Q : KorePattern → Type 0) (ps : KorePatterns) → AreFit g Q ps → AreFit g Any ps
  all_fit_only g Q no_patterns h = tt
  all_fit_only g Q (next_pattern p ps) h = (fit_only g Q p h.0, all_fit_only g Q ps h.1)

-- ---- folding

all_folded_room : (g : KoreSignature) (rs : List Replaced) (ss : KoreSorts) (ps : KorePatterns) → HavePlaces ss ps → HaveRoom ss (all_folded g rs ps)
all_folded_room g rs ss no_patterns r = tt
all_folded_room g rs no_sorts (next_pattern p ps) r = absurd r
all_folded_room g rs (next_sort s ss) (next_pattern p ps) r = all_folded_room g rs ss ps r

mutual
  pub folded_settled : (g : KoreSignature) (rs : List Replaced) (p : KorePattern) → ArePutSettled g rs → IsFit g Any p → IsSettled g (folded g rs p)
  folded_settled g rs (variable x s) a h = found_settled g rs (record { name = x; sort = s }) a
  folded_settled g rs (literal s t) a h = h
  folded_settled g rs (application f ss ps) a h = applied_settled g f (all_folded g rs ps) (all_folded_settled g rs ps a h.2) (λ i. all_folded_room g rs (places_of g f) ps (h.0 i))
  folded_settled g rs _ a h = tt

  pub all_folded_settled : (g : KoreSignature) (rs : List Replaced) (ps : KorePatterns) → ArePutSettled g rs → AreFit g Any ps → AreSettled g (all_folded g rs ps)
  all_folded_settled g rs no_patterns a h = tt
  all_folded_settled g rs (next_pattern p ps) a h = (folded_settled g rs p a h.0, all_folded_settled g rs ps a h.1)

-- ---- literals

pub literal_settled : (g : KoreSignature) (s : KoreSort) (t : Text) → (is_integer_sort g s ≡ true → IsSettledValue g (whole (signed_digits_value 10 t))) → IsSettledValue g (literal_value g s t)
literal_settled g s t k = by (is_integer_sort g s) (is_boolean_sort g s) refl
  where
    by : (i b : Bool) → is_integer_sort g s ≡ i → IsSettledValue g (cond i (whole (signed_digits_value 10 t)) (cond b (truth (bytes_eq t (codes "true"))) (token s t)))
    by true b e = k e
    by false true e = tt
    by false false e = e

-- ---- verified terms and predicates

as_many : (ss : KoreSorts) (ps : KorePatterns) → length (sort_list ss) ≡ length (pattern_list ps) → HavePlaces ss ps
as_many ss no_patterns e = tt
as_many no_sorts (next_pattern p ps) e = absurd (cc)
as_many (next_sort s ss) (next_pattern p ps) e = as_many ss ps (same_rest (length (sort_list ss)) (length (pattern_list ps)) e)

has_places : (g : KoreSignature) (f : Text) (ss : KoreSorts) (ps : KorePatterns) → length (sort_list (argument_sorts g f ss)) ≡ length (pattern_list ps) → HasPlaces g f ps
has_places g f ss ps e i = let k = plain_symbol g f (stands g f i) in as_many (places_of g f) ps (ap (λ zs. length (sort_list zs)) (sym (arguments_are g f ss k)) ∙ e)

mutual
  pub term_fit : (g : KoreSignature) (c : Place) (p : KorePattern) → first_fault g c p ≡ None → is_term p ≡ true → IsFit g Any p
  term_fit g c (variable x s) e t = tt
  term_fit g c (literal s text) e t = literal_settled g s text (λ i. (s, is_that_sort (integer_sort g) s i, fits_signed (signed_digits_value 10 text) (whole_literal g c s text i e).1))
  term_fit g c (application f ss ps) e t =
      let n = as_many_arguments g f ss ps (keeps_rules g c (application f ss ps) (nothing_earlier _ _ e)).symbol in
      (has_places g f ss ps n, tt, terms_fit g c (argument_sorts g f ss) ps (nothing_later _ _ e) n t)
  term_fit g c _ e t = absurd (cc)

  pub terms_fit : (g : KoreSignature) (c : Place) (ss : KoreSorts) (ps : KorePatterns) → arguments_fault g c ss ps ≡ None → length (sort_list ss) ≡ length (pattern_list ps) → are_terms ps ≡ true → AreFit g Any ps
  terms_fit g c ss no_patterns e n t = tt
  terms_fit g c no_sorts (next_pattern p ps) e n t = absurd (cc)
  terms_fit g c (next_sort s ss) (next_pattern p ps) e n t = (
    term_fit g (argument_at c s) p (nothing_earlier _ _ e) (first_true (is_term p) (are_terms ps) t),
    terms_fit g (after p c) ss ps (nothing_later (first_fault g (argument_at c s) p) _ e) (same_rest (length (sort_list ss)) (length (pattern_list ps)) n) (second_true (is_term p) (are_terms ps) t),
  )

two_fit : (g : KoreSignature) (c d : Place) (p q : KorePattern) → first_fault g c p ≡ None → first_fault g d q ≡ None → is_term p && is_term q ≡ true → IsFit g Any p × IsFit g Any q
two_fit g c d p q e f t = (term_fit g c p e (first_true (is_term p) (is_term q) t), term_fit g d q f (second_true (is_term p) (is_term q) t))

-- two conjoined terms
pair_fit : (g : KoreSignature) (c : Place) (p : KorePattern) → first_fault g c p ≡ None → is_conjoined_pair p ≡ true → IsFit g Any p
pair_fit g c (conjunction s (next_pattern p (next_pattern q no_patterns))) e t =
    let under = nothing_later _ _ e in
    let k = two_fit g (part_at c s) (after p (part_at c s)) p q (nothing_earlier (first_fault g (part_at c s) p) _ under) (nothing_earlier (first_fault g (after p (part_at c s)) q) _ (nothing_later (first_fault g (part_at c s) p) _ under)) t in
    (k.0, (k.1, tt))
pair_fit g c _ e t = absurd (cc)

under_ceil : (g : KoreSignature) (c : Place) (p : KorePattern) → first_fault g c p ≡ None → (is_predicate p ≡ true → IsFit g Any p) → is_term p || is_predicate p || is_conjoined_pair p ≡ true → IsFit g Any p
under_ceil g c p e k i = by (is_term p) (is_predicate p) (is_conjoined_pair p) refl refl refl i
  where
    by : (a b d : Bool) → is_term p ≡ a → is_predicate p ≡ b → is_conjoined_pair p ≡ d → a || b || d ≡ true → IsFit g Any p
    by true b d x y z h = term_fit g c p e x
    by false true d x y z h = k y
    by false false true x y z h = pair_fit g c p e z
    by false false false x y z h = absurd (cc)

under_floor : (g : KoreSignature) (c : Place) (p : KorePattern) → first_fault g c p ≡ None → (is_predicate p ≡ true → IsFit g Any p) → is_term p || is_predicate p ≡ true → IsFit g Any p
under_floor g c p e k i = by (is_term p) (is_predicate p) refl refl i
  where
    by : (a b : Bool) → is_term p ≡ a → is_predicate p ≡ b → a || b ≡ true → IsFit g Any p
    by true b x y h = term_fit g c p e x
    by false true x y h = k y
    by false false x y h = absurd (cc)

mutual
  pub predicate_fit : (g : KoreSignature) (c : Place) (p : KorePattern) → first_fault g c p ≡ None → is_predicate p ≡ true → IsFit g Any p
  predicate_fit g c (top s) e i = tt
  predicate_fit g c (bottom s) e i = tt
  predicate_fit g c (negation s p) e i = predicate_fit g (part_at c s) p (nothing_later _ _ e) i
  predicate_fit g c (conjunction s ps) e i = predicates_fit g (part_at c s) ps (nothing_later _ _ e) i
  predicate_fit g c (disjunction s ps) e i = predicates_fit g (part_at c s) ps (nothing_later _ _ e) i
  predicate_fit g c (implication s p q) e i =
      let k = nothing_later _ _ e in (
        predicate_fit g (part_at c s) p (nothing_earlier _ _ k) (first_true (is_predicate p) (is_predicate q) i),
        predicate_fit g (after p (part_at c s)) q (nothing_earlier _ _ (nothing_later _ _ k)) (second_true (is_predicate p) (is_predicate q) i),
      )
  predicate_fit g c (equivalence s p q) e i =
      let k = nothing_later _ _ e in (
        predicate_fit g (part_at c s) p (nothing_earlier _ _ k) (first_true (is_predicate p) (is_predicate q) i),
        predicate_fit g (after p (part_at c s)) q (nothing_earlier _ _ (nothing_later _ _ k)) (second_true (is_predicate p) (is_predicate q) i),
      )
  predicate_fit g c (exists s x t p) e i = predicate_fit g (under_binder x t (part_at c s)) p (nothing_later _ _ e) i
  predicate_fit g c (forall s x t p) e i = predicate_fit g (under_binder x t (part_at c s)) p (nothing_later _ _ e) i
  predicate_fit g c (ceil a s p) e i = let k = nothing_later _ _ e in under_ceil g (part_at c a) p k (λ h. predicate_fit g (part_at c a) p k h) i
  predicate_fit g c (floor a s p) e i = let k = nothing_later _ _ e in under_floor g (part_at c a) p k (λ h. predicate_fit g (part_at c a) p k h) i
  predicate_fit g c (equals a s p q) e i = let k = nothing_later _ _ e in two_fit g (part_at c a) (after p (part_at c a)) p q (nothing_earlier _ _ k) (nothing_earlier _ _ (nothing_later _ _ k)) i
  predicate_fit g c (membership a s p q) e i = let k = nothing_later _ _ e in two_fit g (part_at c a) (after p (part_at c a)) p q (nothing_earlier _ _ k) (nothing_earlier _ _ (nothing_later _ _ k)) i
  predicate_fit g c _ e i = absurd (cc)

  pub predicates_fit : (g : KoreSignature) (c : Place) (ps : KorePatterns) → members_fault g c ps ≡ None → are_predicates ps ≡ true → AreFit g Any ps
  predicates_fit g c no_patterns e i = tt
  predicates_fit g c (next_pattern p ps) e i = (
    predicate_fit g c p (nothing_earlier _ _ e) (first_true (is_predicate p) (are_predicates ps) i),
    predicates_fit g (after p c) ps (nothing_later (first_fault g c p) _ e) (second_true (is_predicate p) (are_predicates ps) i),
  )
