-- Arguments by their number.
use Rattle.std.proofs.Common.{◌≡◌, refl, sym, ◌∙◌, ap, ap₂, Bool, true, false, ◌&&◌, List, [], ◌∷◌, length, get_or}
use Rattle.kp_kore.specs.Syntax.{KoreSort, conjunction}
use Rattle.kp_kore.specs.Signature.{KoreSignature}
use Rattle.kp_kore.specs.Parts.{is_term}
use Rattle.kp_kore.specs.View.{view, patterns_view}
use Rattle.kp_kore.specs.declared.pattern.Pattern.{Pattern}
use Rattle.kp_kore.specs.Value.{no_values, next_value}
use Rattle.kp_kore.specs.Instance.{Valuation, instance, instances, is_conjoined_pair}

pub one_argument : (g : KoreSignature) (v : Valuation) (ps : List Pattern) (p : Pattern) → length ps ≡ 1 → p ≡ get_or ps 0 p → instances g v (patterns_view ps) ≡ next_value (instance g v (view p)) no_values
one_argument g v [] p h e = absurd (cc)
one_argument g v (a ∷ []) p h e = ap (λ q. next_value (instance g v (view q)) no_values) (sym e)
one_argument g v (a ∷ b ∷ ps) p h e = absurd (cc)

pub two_arguments : (g : KoreSignature) (v : Valuation) (ps : List Pattern) (p q : Pattern) → length ps ≡ 2 → p ≡ get_or ps 0 p → q ≡ get_or ps 1 q → instances g v (patterns_view ps) ≡ next_value (instance g v (view p)) (next_value (instance g v (view q)) no_values)
two_arguments g v [] p q h e f = absurd (cc)
two_arguments g v (a ∷ []) p q h e f = absurd (cc)
two_arguments g v (a ∷ b ∷ []) p q h e f = ap₂ (λ r s. next_value (instance g v (view r)) (next_value (instance g v (view s)) no_values)) (sym e) (sym f)
two_arguments g v (a ∷ b ∷ d ∷ ps) p q h e f = absurd (cc)

-- ---- conjunctions that aren't of two terms

pub not_two_conjoined : (s : KoreSort) (ps : List Pattern) → (length ps ≡ 2 → ⊥) → is_conjoined_pair (conjunction s (patterns_view ps)) ≡ false
not_two_conjoined s [] h = refl
not_two_conjoined s (x ∷ []) h = refl
not_two_conjoined s (x ∷ y ∷ []) h = absurd (h refl)
not_two_conjoined s (x ∷ y ∷ z ∷ zs) h = refl

no_second : (a b : Bool) → b ≡ false → a && b ≡ false
no_second true b h = h
no_second false b h = refl

pub first_no_term : (s : KoreSort) (ps : List Pattern) (p : Pattern) → p ≡ get_or ps 0 p → is_term (view p) ≡ false → is_conjoined_pair (conjunction s (patterns_view ps)) ≡ false
first_no_term s [] p e h = refl
first_no_term s (x ∷ []) p e h = refl
first_no_term s (x ∷ y ∷ []) p e h = ap (λ q. is_term (view q) && is_term (view y)) (sym e) ∙ ap (λ b. b && is_term (view y)) h
first_no_term s (x ∷ y ∷ z ∷ zs) p e h = refl

pub second_no_term : (s : KoreSort) (ps : List Pattern) (p : Pattern) → p ≡ get_or ps 1 p → is_term (view p) ≡ false → is_conjoined_pair (conjunction s (patterns_view ps)) ≡ false
second_no_term s [] p e h = refl
second_no_term s (x ∷ []) p e h = refl
second_no_term s (x ∷ y ∷ []) p e h = no_second (is_term (view x)) (is_term (view y)) (ap (λ q. is_term (view q)) (sym e) ∙ h)
second_no_term s (x ∷ y ∷ z ∷ zs) p e h = refl
