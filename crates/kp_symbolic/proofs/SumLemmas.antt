-- What a call of two terms is as a sum.
use Rattle.std.proofs.Common.{◌≡◌, refl, ap, ℤ, neg_ℤ, Bool, true, false, List, [], ◌∷◌, length, get_or, map, Some, None}
use Rattle.kp_kore.specs.Signature.{KoreSignature}
use Rattle.kp_kore.specs.Hooks.{Hook, whole_arithmetic, addition, subtraction}
use Rattle.kp_kore.specs.Value.{whole}
use Rattle.kp_symbolic.specs.Terms.{SymbolicTerm, known, SymbolicTerms, no_terms, next_term}
use Rattle.kp_symbolic.specs.Folding.{sum_of, summed, summed_call}
use Rattle.kp_symbolic.specs.View.{term_view, terms_of}
use Rattle.kp_symbolic.specs.Sums.{whole_known, pair}
use Rattle.kp_symbolic.specs.declared.term.Term.{Term}

pub right_added : (g : KoreSignature) (t u : SymbolicTerm) (c : ℤ) (call : SymbolicTerm) → whole_known u ≡ Some c → summed_call g (whole_arithmetic addition) (pair t u) call ≡ summed g (sum_of g t) c call
right_added g t (known (whole n)) c call h = let e : n ≡ c = cc in ap (λ m. summed g (sum_of g t) m call) e
right_added g t u c call h = absurd (cc)

pub right_subtracted : (g : KoreSignature) (t u : SymbolicTerm) (c : ℤ) (call : SymbolicTerm) → whole_known u ≡ Some c → summed_call g (whole_arithmetic subtraction) (pair t u) call ≡ summed g (sum_of g t) (neg_ℤ c) call
right_subtracted g t (known (whole n)) c call h = let e : n ≡ c = cc in ap (λ m. summed g (sum_of g t) (neg_ℤ m) call) e
right_subtracted g t u c call h = absurd (cc)

pub left_added : (g : KoreSignature) (t u : SymbolicTerm) (c : ℤ) (call : SymbolicTerm) → whole_known u ≡ None → whole_known t ≡ Some c → summed_call g (whole_arithmetic addition) (pair t u) call ≡ summed g (sum_of g u) c call
left_added g (known (whole n)) (known (whole m)) c call k h = absurd (cc)
left_added g (known (whole n)) u c call k h = let e : n ≡ c = cc in ap (λ m. summed g (sum_of g u) m call) e
left_added g t u c call k h = absurd (cc)

pub none_added : (g : KoreSignature) (t u : SymbolicTerm) (call : SymbolicTerm) → whole_known u ≡ None → whole_known t ≡ None → summed_call g (whole_arithmetic addition) (pair t u) call ≡ call
none_added g t (known (whole c)) call h k = absurd (cc)
none_added g (known (whole c)) u call h k = absurd (cc)
none_added g t u call h k = refl

pub none_subtracted : (g : KoreSignature) (t u : SymbolicTerm) (call : SymbolicTerm) → whole_known u ≡ None → summed_call g (whole_arithmetic subtraction) (pair t u) call ≡ call
none_subtracted g t (known (whole c)) call h = absurd (cc)
none_subtracted g t u call h = refl

-- ---- two arguments, or another number

pub are_two : SymbolicTerms → Bool
are_two (next_term t (next_term u no_terms)) = true
are_two _ = false

pub not_two : (ts : List Term) → (length ts ≡ 2 → ⊥) → are_two (terms_of (map term_view ts)) ≡ false
unfolding are_two
not_two [] n = refl
not_two (t ∷ []) n = refl
not_two (t ∷ u ∷ []) n = absurd (n refl)
not_two (t ∷ u ∷ w ∷ ts) n = refl

pub other_number : (g : KoreSignature) (h : Hook) (ts : SymbolicTerms) (call : SymbolicTerm) → are_two ts ≡ false → summed_call g h ts call ≡ call
unfolding are_two
other_number g (whole_arithmetic addition) (next_term t (next_term (known (whole c)) no_terms)) call n = absurd (cc)
other_number g (whole_arithmetic addition) (next_term (known (whole c)) (next_term t no_terms)) call n = absurd (cc)
other_number g (whole_arithmetic subtraction) (next_term t (next_term (known (whole c)) no_terms)) call n = absurd (cc)
other_number g h ts call n = refl

pub of_two : (ts : List Term) (t u : Term) → length ts ≡ 2 → t ≡ get_or ts 0 t → u ≡ get_or ts 1 u → terms_of (map term_view ts) ≡ pair (term_view t) (term_view u)
of_two [] t u n p q = absurd (cc)
of_two (a ∷ []) t u n p q = absurd (cc)
of_two (a ∷ b ∷ []) t u n p q = let e : t ≡ a = p in let d : u ≡ b = q in cc
of_two (a ∷ b ∷ c ∷ ts) t u n p q = absurd (cc)
