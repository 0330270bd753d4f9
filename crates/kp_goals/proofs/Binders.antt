-- A consequent under its binders: an instance is one of its body for some values of the bound variables.
use Rattle.std.specs.Prelude.{◌≡◌, Bool, true, false, not, ◌&&◌, List, [], ◌∷◌, if◌then◌else◌}
use Rattle.std.specs.Str.{bytes_eq}
use Rattle.std.proofs.Common.{refl, sym, ◌∙◌, ap, subst}
use Rattle.std.proofs.lemmas.Slice.Eq.{bytes_eq-Decides}
use Rattle.kp_kore.specs.Syntax.{Text, KorePattern, exists}
use Rattle.kp_kore.specs.Parts.{SortedName, free_variables}
use Rattle.kp_kore.specs.Signature.{KoreSignature}
use Rattle.kp_kore.specs.Value.{Value, HasSort}
use Rattle.kp_kore.specs.Instance.{Valuation, AgreesOn, is_named, assigned, IsInstance}
use Rattle.kp_kore.specs.Rules.{top_binders, under_binders, have_distinct_names}
use Rattle.kp_kore.specs.Implied.{Chooses}
use Rattle.kp_kore.proofs.NameLemmas.{first_false, second_false, same_bytes}
use Rattle.kp_kore.proofs.ConjunctionLemmas.{same_pattern_instance}

and_first : (a b : Bool) → not a && b ≡ true → a ≡ false
and_first true b h = absurd (cc)
and_first false b h = refl

and_second : (a b : Bool) → a && b ≡ true → b ≡ true
and_second true b h = h
and_second false b h = absurd (cc)

-- ---- off the binders

pub opened_of : (g : KoreSignature) (u : Valuation) (p : KorePattern) (e : Value) → have_distinct_names (top_binders p) ≡ true → IsInstance g u p e →
    (w : Valuation) × Chooses g p u w × IsInstance g w (under_binders p) e
opened_of g u (exists s x t p) e distinct met =
    let inner : (w : Valuation) × Chooses g p (assigned u x met.0) w × IsInstance g w (under_binders p) e = opened_of g (assigned u x met.0) p e (and_second (not (is_named x (top_binders p))) (have_distinct_names (top_binders p)) distinct) met.2 in
    let here : inner.0 x ≡ met.0 = inner.1.agrees x (and_first (is_named x (top_binders p)) (have_distinct_names (top_binders p)) distinct) ∙ (rw (same_bytes x) refl) in (
      inner.0,
      record {
        agrees = λ y n. inner.1.agrees y (second_false (bytes_eq x y) (is_named y (top_binders p)) n) ∙ (rw (first_false (bytes_eq x y) (is_named y (top_binders p)) n) refl);
        sorts = (subst (HasSort g t) (sym here) met.1, inner.1.sorts);
      },
      inner.2,
    )
opened_of g u _ e distinct met = (u, record { agrees = λ y n. refl; sorts = tt }, met)

-- ---- and back

pub on_all : (xs : List SortedName) (w x : Valuation) → ((y : Text) → x y ≡ w y) → AgreesOn xs w x
on_all [] w x h = tt
on_all (y ∷ ys) w x h = (h y.name, on_all ys w x h)

-- w agrees with v off the binders; with w's value for the first, it agrees off the others
pub closed_over : (g : KoreSignature) (p : KorePattern) (v w : Valuation) (e : Value) → Chooses g p v w → IsInstance g w (under_binders p) e → IsInstance g v p e
closed_over g (exists s x t p) v w e chooses met =
    (w x, chooses.sorts.0, closed_over g p (assigned v x (w x)) w e (record { agrees = λ y n. off y n (bytes_eq x y) refl; sorts = chooses.sorts.1 }) met)
  where
    off : (y : Text) → is_named y (top_binders p) ≡ false → (b : Bool) → bytes_eq x y ≡ b → w y ≡ (if b then w x else v y)
    off y n true e = ap w (sym ((bytes_eq-Decides x y).0 e))
    off y n false e = chooses.agrees y (rw e n)
closed_over g p v w e chooses met = same_pattern_instance g p w v e (on_all (free_variables p) w v (λ y. sym (chooses.agrees y refl))) met
