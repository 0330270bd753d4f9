-- The substitution of an implication that is valid.
use Rattle.std.specs.Prelude.{◌≡◌, Bool, true, false, List, [], ◌∷◌}
use Rattle.std.proofs.Common.{refl, sym, ◌∙◌}
use Rattle.kp_kore.specs.Syntax.{Text, KorePattern}
use Rattle.kp_kore.specs.Parts.{SortedName, free_variables}
use Rattle.kp_kore.specs.Signature.{KoreSignature}
use Rattle.kp_kore.specs.Value.{Value}
use Rattle.kp_kore.specs.Instance.{Valuation, AgreesOn, is_named, IsInstance}
use Rattle.kp_kore.specs.Rules.{top_binders, under_binders}
use Rattle.kp_kore.specs.Implied.{DoesImply, Chooses, IsWitness}
use Rattle.kp_kore.proofs.NameLemmas.{by_name}
use Rattle.kp_kore.proofs.ConjunctionLemmas.{same_pattern_instance}
use Rattle.kp_goals.specs.Determined.{Tells, Carries}

-- ---- valuations that agree everywhere

agree_off : (c : KorePattern) (g : KoreSignature) (v w x : Valuation) → Chooses g c v w → Chooses g c v x → AgreesOn (top_binders c) w x → (y : Text) → x y ≡ w y
agree_off c g v w x i j on y = by_test (is_named y (top_binders c)) refl
  where
    by_test : (b : Bool) → is_named y (top_binders c) ≡ b → x y ≡ w y
    by_test true e = by_name (λ n. x n ≡ w n) y (top_binders c) e on
    by_test false e = j.agrees y e ∙ sym (i.agrees y e)

on_all : (xs : List SortedName) (w x : Valuation) → ((y : Text) → x y ≡ w y) → AgreesOn xs w x
on_all [] w x h = tt
on_all (y ∷ ys) w x h = (h y.name, on_all ys w x h)

-- ---- the substitution

-- an implication that is valid has the witness that carries its instances
pub carried_witness : (g : KoreSignature) (a c p : KorePattern) →
    ((v : Valuation) (u : Value) → IsInstance g v c u → (w : Valuation) × Chooses g c v w × IsInstance g w (under_binders c) u) →
    DoesImply g a c → Carries g a c p → IsWitness g a c p
carried_witness g a c p under implies carries = record {
  chosen = λ v u given met.
      let x : (w : Valuation) × Chooses g c v w × IsInstance g w (under_binders c) u = under v u (implies v u given met) in
      (x.0, x.1, carries.where_met v u given met x.0 x.1 x.2);
  met = λ v u given met w chooses holds.
      let x : (w : Valuation) × Chooses g c v w × IsInstance g w (under_binders c) u = under v u (implies v u given met) in
      carries.carried v u given met x.0 w x.1 chooses (carries.where_met v u given met x.0 x.1 x.2) holds x.2;
}

-- one that tells its bound variables carries them
pub told_carries : (g : KoreSignature) (a c p : KorePattern) → Tells g a c p → Carries g a c p
told_carries g a c p tells = record {
  where_met = tells.where_met;
  carried = λ v u given met w x chooses other holds too has.
      same_pattern_instance g (under_binders c) w x u (on_all (free_variables (under_binders c)) w x (agree_off c g v w x chooses other (tells.once v u given met w x chooses other holds too))) has;
}

pub told_witness : (g : KoreSignature) (a c p : KorePattern) →
    ((v : Valuation) (u : Value) → IsInstance g v c u → (w : Valuation) × Chooses g c v w × IsInstance g w (under_binders c) u) →
    DoesImply g a c → Tells g a c p → IsWitness g a c p
told_witness g a c p under implies tells = carried_witness g a c p under implies (told_carries g a c p tells)
