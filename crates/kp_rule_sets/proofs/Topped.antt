-- A rule that fires on a value, or may rewrite it, may have the value's head.
use Rattle.std.proofs.Common.{◌≡◌, refl, sym, subst, true, ap, ◌∙◌, Bool, false}
use Rattle.std.proofs.lemmas.Slice.Eq.{bytes_eq-Decides}
use Rattle.kp_kore.specs.Syntax.{Text}
use Rattle.kp_kore.specs.Signature.{KoreSignature}
use Rattle.kp_kore.specs.Value.{Value, Values, whole, truth, token, constructed}
use Rattle.kp_kore.specs.Instance.{Valuation}
use Rattle.kp_kore.specs.Foreign.{IsConstructedBy}
use Rattle.kp_ground.specs.LeftView.{left_view}
use Rattle.kp_ground.specs.Terms.{LeftTerm, left_bound, left_fixed, left_built, left_value}
use Rattle.kp_rules.specs.Heads.{Meets}
use Rattle.kp_rules.specs.Skeletons.{Form, anything, nothing, any_of, one_of, fixed, built, skeleton_view, Admits, AdmitAll, IsAdmitted}
use Rattle.kp_rules.specs.declared.rule.Rewrite.{Rewrite}
use Rattle.kp_rules.specs.declared.skeleton.Skeleton.{Skeleton}
use Rattle.kp_rules.specs.declared.rule.Rule.{Rule}
use Rattle.kp_rules.specs.declared.rule.RuleBody.TheVariants as body
use Rattle.kp_rule_sets.specs.Tops.{Top, number, truth_value, some_token, constructor_named, top_of, tops_same, allow, left_tops, form_tops, body_tops, may_have}

same_as_itself : (h : Top) → tops_same h h ≡ true
same_as_itself number = refl
same_as_itself truth_value = refl
same_as_itself some_token = refl
same_as_itself (constructor_named c) = (bytes_eq-Decides c c).1 refl

left_allows : (v : Valuation) (l : LeftTerm) → allow (left_tops l) (top_of (left_value v l)) ≡ true
left_allows v (left_bound x) = refl
left_allows v (left_fixed u) = same_as_itself (top_of u)
left_allows v (left_built c ts) = same_as_itself (constructor_named c)

pub meets_at : (g : KoreSignature) (r : Rewrite) (v : Valuation) (u : Value) → Meets g r v u → allow (left_tops (left_view r.left)) (top_of u) ≡ true
meets_at g r v u h = subst (λ w. allow (left_tops (left_view r.left)) (top_of w) ≡ true) h.matches (left_allows v (left_view r.left))

built_allows : (c : Text) (P : Values → Type 0) (u : Value) → IsConstructedBy c P u → tops_same (constructor_named c) (top_of u) ≡ true
built_allows c P (constructed d us) h = (bytes_eq-Decides c d).1 (sym h.0)
built_allows c P (whole n) h = absurd h
built_allows c P (truth b) h = absurd h
built_allows c P (token s t) h = absurd h

form_allows : (g : KoreSignature) (v : Valuation) (k : Form) (u : Value) → Admits g v k u → allow (form_tops k) (top_of u) ≡ true
form_allows g v anything u h = refl
form_allows g v nothing u h = absurd h
form_allows g v (any_of s) u h = refl
form_allows g v (one_of x s) u h = refl
form_allows g v (fixed w) u h = subst (λ z. tops_same (top_of w) (top_of z) ≡ true) (sym h) (same_as_itself (top_of w))
form_allows g v (built c ks) u h = built_allows c (AdmitAll g v ks) u h

pub admitted_at : (g : KoreSignature) (k : Skeleton) (u : Value) → IsAdmitted g k u → allow (form_tops (skeleton_view k)) (top_of u) ≡ true
admitted_at g k u h = form_allows g h.0 (skeleton_view k) u h.1

yes_and_no : {b : Bool} → b ≡ true → b ≡ false → ⊥
yes_and_no y n = absurd (cc)

pub not_met : (g : KoreSignature) (rule : Rule) (r : Rewrite) (v : Valuation) (u : Value) → rule.body.value ≡ body.Rewrite r → may_have (top_of u) rule ≡ false → ¬ Meets g r v u
not_met g rule r v u is isnt h = yes_and_no (meets_at g r v u h) (ap (λ b. allow (body_tops b) (top_of u)) (sym is) ∙ isnt)

pub not_admitted : (g : KoreSignature) (rule : Rule) (k : Skeleton) (u : Value) → rule.body.value ≡ body.Foreign k → may_have (top_of u) rule ≡ false → ¬ IsAdmitted g k u
not_admitted g rule k u is isnt h = yes_and_no (admitted_at g k u h) (ap (λ b. allow (body_tops b) (top_of u)) (sym is) ∙ isnt)
