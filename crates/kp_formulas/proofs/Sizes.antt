-- The sizes of terms, values among them.
use Rattle.std.proofs.Common.{◌≡◌, ℕ, zero, suc, ◌+◌, ◌<◌, ◌≤◌, List, [], ◌∷◌, map, length, get_or, refl, sym, ap, ap₂, subst, ◌∙◌, arith}
use Rattle.kp_kore.specs.Value.{Value, constructed, Values, no_values, next_value}
use Rattle.kp_symbolic.specs.Terms.{SymbolicTerm, unknown, offset, known, headed, SymbolicTerms, no_terms, next_term}
use Rattle.kp_symbolic.specs.View.{term_view, terms_of}
use Rattle.kp_symbolic.specs.declared.term.Term.{Term}
use Rattle.kp_formulas.specs.Seen.{known_terms, known_members, members_in}

abbrev mutual
  pub value_size : Value → ℕ
  value_size (constructed c us) = suc (values_size us)
  value_size _ = 1

  pub values_size : Values → ℕ
  values_size no_values = 0
  values_size (next_value u us) = value_size u + values_size us

abbrev mutual
  pub term_size : SymbolicTerm → ℕ
  term_size (known u) = value_size u
  term_size (headed f ts) = suc (terms_size ts)
  term_size _ = 1

  pub terms_size : SymbolicTerms → ℕ
  terms_size no_terms = 0
  terms_size (next_term t ts) = term_size t + terms_size ts

known_size : (us : Values) → terms_size (terms_of (known_terms us)) ≡ values_size us
known_size no_values = refl
known_size (next_value u us) = ap (λ n. value_size u + n) (known_size us)

value_members_size : (u : Value) → terms_size (terms_of (known_members u)) < value_size u
value_members_size (constructed c us) = let e = known_size us in omega (arith, e)
value_members_size u = omega arith

-- the members are smaller than the term
pub members_size : (t : SymbolicTerm) → terms_size (members_in t) < term_size t
members_size (known u) = value_members_size u
members_size (headed f ts) = omega arith
members_size t = omega arith

pub size_at : (ts : List Term) (i : ℕ) (t : Term) → i < length ts → t ≡ get_or ts i t → term_size (term_view t) ≤ terms_size (terms_of (map term_view ts))
size_at [] i t h e = absurd (omega (arith, h))
size_at (a ∷ ts) zero t h e = subst (λ x. term_size (term_view x) ≤ term_size (term_view a) + terms_size (terms_of (map term_view ts))) (sym e) (omega arith)
size_at (a ∷ ts) (suc i) t h e = let k = size_at ts i t (omega (arith, h)) e in omega (arith, k)

pub size_of_two : (ts : List Term) (t u : Term) → length ts ≡ 2 → t ≡ get_or ts 0 t → u ≡ get_or ts 1 u → term_size (term_view t) + term_size (term_view u) ≤ terms_size (terms_of (map term_view ts))
size_of_two [] t u n p q = absurd (cc)
size_of_two (a ∷ []) t u n p q = absurd (cc)
size_of_two (a ∷ b ∷ ts) t u n p q = let e = ap (λ x. term_size (term_view x)) p in let d = ap (λ x. term_size (term_view x)) q in omega (arith, e, d)
