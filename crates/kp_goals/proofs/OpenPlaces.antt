-- The value of a term tells those of its variables that stand outside of calls.
use Rattle.std.specs.Prelude.{◌≡◌, ℤ, ◌+ℤ◌, ◌-ℤ◌, List, [], ◌∷◌, ◌++◌, ⊤}
use Rattle.std.proofs.Common.{sym, ◌∙◌, ap}
use Rattle.std.proofs.Math.IntN.{+ℤ-neg_ℤ_cancel}
use Rattle.kp_kore.specs.Syntax.{Text}
use Rattle.kp_kore.specs.Hooks.{whole_arithmetic, addition}
use Rattle.kp_kore.specs.Forms.{two}
use Rattle.kp_kore.specs.Parts.{SortedName}
use Rattle.kp_kore.specs.Signature.{KoreSignature, SymbolMeaning, injection, construction, interpretation, foreign, meaning_of}
use Rattle.kp_kore.specs.Value.{Value, whole, constructed, Values, no_values, next_value}
use Rattle.kp_kore.specs.Interpretation.{interpreted}
use Rattle.kp_kore.specs.Instance.{Valuation, applied, AgreesOn}
use Rattle.kp_symbolic.specs.Terms.{SymbolicTerm, unknown, offset, known, headed, SymbolicTerms, no_terms, next_term, term_instance, term_instances}
use Rattle.kp_symbolic.specs.Heads.{is_construction}
use Rattle.kp_symbolic.specs.Endings.{given_by_member, open_places, all_open_places}

-- ---- values

abbrev number_of : ℤ → Value → ℤ
number_of n (whole m) = m
number_of n u = n

abbrev members_of : Values → Value → Values
members_of rest (constructed c us) = us
members_of rest u = rest

abbrev first_of_all : Value → Values → Value
first_of_all u (next_value w us) = w
first_of_all u no_values = u

abbrev others_of : Values → Values → Values
others_of rest (next_value w us) = us
others_of rest no_values = rest

same_numbers : (m n c : ℤ) → m +ℤ c ≡ n +ℤ c → m ≡ n
same_numbers m n c e = sym (+ℤ-neg_ℤ_cancel m c) ∙ ap (λ k. k -ℤ c) e ∙ +ℤ-neg_ℤ_cancel n c

abbrev pub IsNumber : Value → Type 0
IsNumber u = (m : ℤ) × (u ≡ whole m)

pub summed_apart : (u w : Value) (c : ℤ) → IsNumber u → IsNumber w → interpreted (whole_arithmetic addition) (two u (whole c)) ≡ interpreted (whole_arithmetic addition) (two w (whole c)) → u ≡ w
summed_apart u w c i j e =
    let both : whole (i.0 +ℤ c) ≡ whole (j.0 +ℤ c) = sym (ap (λ z. interpreted (whole_arithmetic addition) (two z (whole c))) i.1) ∙ e ∙ ap (λ z. interpreted (whole_arithmetic addition) (two z (whole c))) j.1 in
    i.1 ∙ ap whole (same_numbers i.0 j.0 c (ap (number_of c) both)) ∙ sym j.1

-- ---- terms

agrees_both : (xs ys : List SortedName) (v w : Valuation) → AgreesOn xs v w → AgreesOn ys v w → AgreesOn (xs ++ ys) v w
agrees_both [] ys v w h j = j
agrees_both (x ∷ xs) ys v w h j = (h.0, agrees_both xs ys v w h.1 j)

-- the variables of sums stand for numbers under both valuations
abbrev mutual
  pub SumsAre : Valuation → Valuation → SymbolicTerm → Type 0
  SumsAre v w (offset x c) = IsNumber (v x.name) × IsNumber (w x.name)
  SumsAre v w (headed f ts) = AllSumsAre v w ts
  SumsAre v w t = ⊤

  pub AllSumsAre : Valuation → Valuation → SymbolicTerms → Type 0
  AllSumsAre v w no_terms = ⊤
  AllSumsAre v w (next_term t ts) = SumsAre v w t × AllSumsAre v w ts

by_meaning : (g : KoreSignature) (v w : Valuation) (m : SymbolMeaning) (f : Text) (us zs : Values) (xs : List SortedName) → applied m f us ≡ applied m f zs → (us ≡ zs → AgreesOn xs v w) →
    AgreesOn (given_by_member (is_construction m) xs) v w
by_meaning g v w injection f us zs xs e h = tt
by_meaning g v w construction f us zs xs e h = h (ap (members_of no_values) e)
by_meaning g v w (interpretation k) f us zs xs e h = tt
by_meaning g v w foreign f us zs xs e h = tt

mutual
  pub open_agree : (g : KoreSignature) (v w : Valuation) (t : SymbolicTerm) → SumsAre v w t → term_instance g w t ≡ term_instance g v t → AgreesOn (open_places g t) v w
  open_agree g v w (unknown x) n e = (e, tt)
  open_agree g v w (offset x c) n e = (summed_apart (w x.name) (v x.name) c n.1 n.0 e, tt)
  open_agree g v w (known u) n e = tt
  open_agree g v w (headed f ts) n e = by_meaning g v w (meaning_of g f) f (term_instances g w ts) (term_instances g v ts) (all_open_places g ts) e (λ es. open_agree_all g v w ts n es)

  open_agree_all : (g : KoreSignature) (v w : Valuation) (ts : SymbolicTerms) → AllSumsAre v w ts → term_instances g w ts ≡ term_instances g v ts → AgreesOn (all_open_places g ts) v w
  open_agree_all g v w no_terms n e = tt
  open_agree_all g v w (next_term t ts) n e = agrees_both (open_places g t) (all_open_places g ts) v w
      (open_agree g v w t n.0 (ap (first_of_all (term_instance g v t)) e))
      (open_agree_all g v w ts n.1 (ap (others_of no_values) e))
