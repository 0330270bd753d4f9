-- Sides of equalities of tokens under a valuation.
use Rattle.std.proofs.Common.{◌≡◌, refl, sym, ap, ◌∙◌, true, false, Some}
use Rattle.kp_kore.specs.Syntax.{Text, KoreSort}
use Rattle.kp_kore.specs.Attributes.{sorts_equal}
use Rattle.kp_kore.specs.Signature.{KoreSignature}
use Rattle.kp_ground.specs.View.{value_view}
use Rattle.kp_kore.specs.Value.{Value, whole, truth, token, constructed}
use Rattle.kp_kore.specs.Instance.{Valuation, GivesSorts}
use Rattle.kp_kore.proofs.SameLemmas.{sorts_equal-Decides}
use Rattle.kp_clause_demands.specs.Saying.{token_value}
use Rattle.kp_symbolic.specs.View.{variable_view}
use Rattle.kp_literals.specs.Forms.{token_part_view}
use Rattle.kp_literals.specs.declared.form.TokenPart.{TokenPart}
use Rattle.kp_literals.specs.declared.form.TokenPart.TheVariants.{Unknown, Known}
use Rattle.kp_literals.specs.Unknowns.{token_variables, IsTokenValue, IsTokenPart}
use Rattle.kp_clause_demands.specs.Kinds.{sort_of_token, part_sort, same_sort, are_alike}
use Rattle.kp_clause_demands.proofs.TokenSorts.{only_tokens}

-- the side is a token of the sort that its tokens are of
pub record IsTokenOf (g : KoreSignature) (v : Valuation) (p : TokenPart) : Type 0 where
  pub sort : KoreSort
  pub is : part_sort g p ≡ Some sort
  pub text : Text
  pub value : token_value v (token_part_view p) ≡ token sort text

pub known_token : (g : KoreSignature) (v : Valuation) (u w : Value) → u ≡ w → IsTokenValue w → (s : KoreSort) × (x : Text) × (sort_of_token u ≡ Some s) × (u ≡ token s x)
known_token g v u (token s x) e k = (s, x, ap sort_of_token e, e)
known_token g v u (whole n) e k = absurd k
known_token g v u (truth b) e k = absurd k
known_token g v u (constructed c us) e k = absurd k

pub token_of : (g : KoreSignature) (v : Valuation) (p : TokenPart) → IsTokenPart g p → GivesSorts g v (token_variables p) → IsTokenOf g v p
token_of g v (Unknown x) k h = let o = only_tokens g (variable_view x.now).sort k in let t = o.values (v (variable_view x.now).name) h.0 in record { sort = o.sort; is = o.is; text = t.0; value = t.1 }
token_of g v (Known u) k h = let t = known_token g v (value_view u.now) (value_view u.now) refl k in record { sort = t.0; is = t.2; text = t.1; value = t.3 }

sorts_in_tokens : {s t : KoreSort} {x y : Text} → token s x ≡ token t y → s ≡ t
sorts_in_tokens e = cc

pub texts_in_tokens : {s t : KoreSort} {x y : Text} → token s x ≡ token t y → x ≡ y
texts_in_tokens e = cc

-- tokens of two sorts differ
pub apart_differ : (g : KoreSignature) (v : Valuation) (p q : TokenPart) → IsTokenOf g v p → IsTokenOf g v q → are_alike g p q ≡ false → ¬ (token_value v (token_part_view p) ≡ token_value v (token_part_view q))
apart_differ g v p q s t e h =
    let one : s.sort ≡ t.sort = sorts_in_tokens (sym s.value ∙ h ∙ t.value) in
    let same : are_alike g p q ≡ sorts_equal s.sort t.sort = ap (λ o. same_sort o (part_sort g q)) s.is ∙ ap (λ o. same_sort (Some s.sort) o) t.is in
    never (sym ((sorts_equal-Decides s.sort t.sort).1 one) ∙ sym same ∙ e)
  where
    never : true ≡ false → ⊥
    never p = cc

pub alike_sorts : (g : KoreSignature) (v : Valuation) (p q : TokenPart) (s : IsTokenOf g v p) (t : IsTokenOf g v q) → are_alike g p q ≡ true → s.sort ≡ t.sort
alike_sorts g v p q s t e =
    let same : are_alike g p q ≡ sorts_equal s.sort t.sort = ap (λ o. same_sort o (part_sort g q)) s.is ∙ ap (λ o. same_sort (Some s.sort) o) t.is in
    (sorts_equal-Decides s.sort t.sort).0 (sym same ∙ e)
