-- Lists of values that are seen as the same are the same, one by one.
use Rattle.std.proofs.Common.{◌≡◌, ◌↔◌, Bool, IsTrue, List, [], ◌∷◌, refl, sym, ap, ◌∙◌}
use Rattle.std.proofs.lemmas.Bool.Decides.{same_from_decides}
use Rattle.kp_kore.specs.Value.{Value, Values, no_values, next_value, values_same}
use Rattle.kp_kore.proofs.SameLemmas.{same_values_decide}
use Rattle.kp_ground.specs.View.{values_of}

pub value_list : Values → List Value
value_list no_values = []
value_list (next_value u us) = u ∷ value_list us

pub list_of_values : (us : List Value) → value_list (values_of us) ≡ us
unfolding value_list
list_of_values [] = refl
list_of_values (u ∷ us) = ap (λ l. u ∷ l) (list_of_values us)

pub same_values : (us vs : List Value) → values_of us ≡ values_of vs → us ≡ vs
same_values us vs e = sym (list_of_values us) ∙ ap value_list e ∙ list_of_values vs

-- a test of the code that tells whether two values are the same answers as the model's
pub same_answer : (r : Bool) (u w : Value) → IsTrue r ↔ (u ≡ w) → r ≡ values_same u w
same_answer r u w h = same_from_decides r (values_same u w) h (same_values_decide u w)
