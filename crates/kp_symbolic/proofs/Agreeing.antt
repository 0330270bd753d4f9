-- Under valuations that agree on their variables, terms and literals say the same.
use Rattle.std.proofs.Common.{◌≡◌, refl, sym, ◌∙◌, ap, ap₂, subst, ◌↔◌, Bool, true, false, List, [], ◌∷◌, Option, Some, None}
use Rattle.std.specs.Prelude.{if◌then◌else◌, MatchBool}
use Rattle.std.specs.List.{flat_map}
use Rattle.std.specs.Str.{bytes_eq}
use Rattle.std.proofs.lemmas.Slice.Eq.{bytes_eq-Decides}
use Rattle.kp_kore.specs.Syntax.{Text}
use Rattle.kp_kore.specs.Parts.{SortedName, free_variables}
use Rattle.kp_kore.specs.Hooks.{addition, whole_arithmetic}
use Rattle.kp_kore.specs.Signature.{KoreSignature, meaning_of}
use Rattle.kp_kore.specs.Value.{Value, next_value, whole, head_of}
use Rattle.kp_kore.specs.Forms.{two}
use Rattle.kp_kore.specs.Interpretation.{interpreted}
use Rattle.kp_kore.specs.Instance.{Valuation, AgreesOn, assigned, is_named, applied}
use Rattle.kp_kore.proofs.NameLemmas.{first_false, second_false, true_is_false}
use Rattle.kp_kore.proofs.TruthLemmas.{same_truth}
use Rattle.kp_symbolic.specs.Terms.{SymbolicTerm, unknown, offset, known, headed, SymbolicTerms, no_terms, next_term, term_instance, term_instances, term_variables, all_term_variables, Replaced, replacement_for, under_replaced}
use Rattle.kp_symbolic.specs.States.{PassesHead, Atom, same, has_head, quoted, IsAtomTrue, Literal, IsLiteralTrue, atom_variables, variables_for}
use Rattle.kp_symbolic.proofs.Distribution.{all_first, all_second}
use Rattle.kp_symbolic.proofs.Folded.{for_instance}

abbrev pub SameAt : Valuation → Valuation → SortedName → Type 0
SameAt v w x = w x.name ≡ v x.name

-- ---- terms

mutual
  pub term_agrees : (g : KoreSignature) (v w : Valuation) (t : SymbolicTerm) → AgreesOn (term_variables t) v w → term_instance g w t ≡ term_instance g v t
  term_agrees g v w (unknown x) h = h.0
  term_agrees g v w (offset x c) h = ap (λ u. interpreted (whole_arithmetic addition) (two u (whole c))) h.0
  term_agrees g v w (known u) h = refl
  term_agrees g v w (headed f ts) h = ap (λ us. applied (meaning_of g f) f us) (terms_agree g v w ts h)

  pub terms_agree : (g : KoreSignature) (v w : Valuation) (ts : SymbolicTerms) → AgreesOn (all_term_variables ts) v w → term_instances g w ts ≡ term_instances g v ts
  terms_agree g v w no_terms h = refl
  terms_agree g v w (next_term t ts) h = ap₂ next_value (term_agrees g v w t (all_first (SameAt v w) (term_variables t) (all_term_variables ts) h)) (terms_agree g v w ts (all_second (SameAt v w) (term_variables t) (all_term_variables ts) h))

-- ---- literals

under_agrees : (g : KoreSignature) (v w : Valuation) (rs : List Replaced) (xs : List SortedName) → AgreesOn (flat_map (λ x. variables_for x (replacement_for rs x.name)) xs) v w → AgreesOn xs (under_replaced g rs v) (under_replaced g rs w)
under_agrees g v w rs [] h = tt
under_agrees g v w rs (x ∷ xs) h =
    let others = flat_map (λ x. variables_for x (replacement_for rs x.name)) xs in
    (by (replacement_for rs x.name) refl (all_first (SameAt v w) (variables_for x (replacement_for rs x.name)) others h), under_agrees g v w rs xs (all_second (SameAt v w) (variables_for x (replacement_for rs x.name)) others h))
  where
    by : (o : Option SymbolicTerm) → replacement_for rs x.name ≡ o → AgreesOn (variables_for x o) v w → under_replaced g rs w x.name ≡ under_replaced g rs v x.name
    by (Some t) e k = sym (for_instance g rs w x.name x.sort (Some t) e) ∙ term_agrees g v w t k ∙ for_instance g rs v x.name x.sort (Some t) e
    by None e k = sym (for_instance g rs w x.name x.sort None e) ∙ k.0 ∙ for_instance g rs v x.name x.sort None e

atom_agrees : (g : KoreSignature) (v w : Valuation) (a : Atom) → AgreesOn (atom_variables a) v w → IsAtomTrue g v a ↔ IsAtomTrue g w a
atom_agrees g v w (same s t u) h =
    let left = term_agrees g v w t (all_first (SameAt v w) (term_variables t) (term_variables u) h) in
    let right = term_agrees g v w u (all_second (SameAt v w) (term_variables t) (term_variables u) h) in
    ((λ e. left ∙ e ∙ sym right), (λ e. sym left ∙ e ∙ right))
atom_agrees g v w (has_head x test) h = ((λ n. subst (λ u. ¬ ¬ PassesHead g test (head_of u)) (sym h.0) n), (λ n. subst (λ u. ¬ ¬ PassesHead g test (head_of u)) h.0 n))
atom_agrees g v w (quoted p rs) h = same_truth g p (under_replaced g rs v) (under_replaced g rs w) (under_agrees g v w rs (free_variables p) h)

signed_agrees : (b : Bool) (A B : Type 0) → A ↔ B → MatchBool b A (¬ A) → MatchBool b B (¬ B)
signed_agrees true A B f a = f.0 a
signed_agrees false A B f n = λ b. n (f.1 b)

pub literal_agrees : (g : KoreSignature) (v w : Valuation) (l : Literal) → AgreesOn (atom_variables l.atom) v w → IsLiteralTrue g v l → IsLiteralTrue g w l
literal_agrees g v w l h = signed_agrees l.holds (IsAtomTrue g v l.atom) (IsAtomTrue g w l.atom) (atom_agrees g v w l.atom h)

-- ---- a variable that isn't there

pub turned : (x y : Text) → bytes_eq x y ≡ false → bytes_eq y x ≡ false
turned x y e = by (bytes_eq y x) refl
  where
    by : (b : Bool) → bytes_eq y x ≡ b → b ≡ false
    by false q = refl
    by true q = absurd (true_is_false (sym ((bytes_eq-Decides x y).1 (sym ((bytes_eq-Decides y x).0 q))) ∙ e))

pub not_there : (v : Valuation) (y : Text) (u : Value) (xs : List SortedName) → is_named y xs ≡ false → AgreesOn xs v (assigned v y u)
not_there v y u [] e = tt
not_there v y u (x ∷ xs) e = (
  ap (λ b. if b then u else v x.name) (turned x.name y (first_false (bytes_eq x.name y) (is_named y xs) e)),
  not_there v y u xs (second_false (bytes_eq x.name y) (is_named y xs) e),
)

pub itself_there : (v : Valuation) (y : Text) (u : Value) → assigned v y u y ≡ u
itself_there v y u = ap (λ b. if b then u else v y) ((bytes_eq-Decides y y).1 refl)
