-- Values for new variables.
use Rattle.std.proofs.Common.{◌≡◌, refl, sym, ◌∙◌, ap₂, subst, List, [], ◌∷◌}
use Rattle.std.specs.List.{AllByRecursion}
use Rattle.kp_kore.specs.Parts.{SortedName}
use Rattle.kp_kore.specs.Signature.{KoreSignature}
use Rattle.kp_kore.specs.Value.{Value, Values, no_values, next_value, HasSort, HaveSorts}
use Rattle.kp_kore.specs.Instance.{Valuation, GivesSorts, AgreesOn, assigned}
use Rattle.kp_kore.proofs.ArcLemmas.{agrees_through}
use Rattle.kp_symbolic.specs.Terms.{term_instances, all_term_variables}
use Rattle.kp_symbolic.proofs.Agreeing.{not_there, itself_there}
use Rattle.kp_symbolic.proofs.HeadQuestions.{assigned_all, off_names}
use Rattle.kp_case_laws.specs.Parts.{AreNew}
use Rattle.kp_case_laws.specs.Narrowings.{all_unknown, sorts_of_names}
use Rattle.kp_case_laws.proofs.PartLemmas.{agrees_itself}

-- ---- values for all

pub scope_stays : (v : Valuation) (scope new : List SortedName) (us : Values) → AreNew scope new → AgreesOn scope v (assigned_all v new us)
scope_stays v scope [] us a = agrees_itself scope v
scope_stays v scope (y ∷ new) no_values a = agrees_itself scope v
scope_stays v scope (y ∷ new) (next_value u us) a = agrees_through scope v (assigned v y.name u) (assigned_all (assigned v y.name u) new us) (not_there v y.name u scope a.0) (scope_stays (assigned v y.name u) scope new us a.2)

first_stays : (v : Valuation) (scope : List SortedName) (y : SortedName) (new : List SortedName) (u : Value) (us : Values) → AreNew scope (y ∷ new) → assigned_all (assigned v y.name u) new us y.name ≡ u
first_stays v scope y new u us a = off_names (assigned v y.name u) new us y.name a.1 ∙ itself_there v y.name u

pub new_sorts : (g : KoreSignature) (v : Valuation) (scope new : List SortedName) (us : Values) → HaveSorts g (sorts_of_names new) us → AreNew scope new → GivesSorts g (assigned_all v new us) new
new_sorts g v scope [] us h a = tt
new_sorts g v scope (y ∷ new) (next_value u us) h a = (subst (λ z. HasSort g y.sort z) (sym (first_stays v scope y new u us a)) h.0, new_sorts g (assigned v y.name u) scope new us h.1 a.2)
new_sorts g v scope (y ∷ new) no_values h a = absurd h

pub new_values : (g : KoreSignature) (v : Valuation) (scope new : List SortedName) (us : Values) → HaveSorts g (sorts_of_names new) us → AreNew scope new → term_instances g (assigned_all v new us) (all_unknown new) ≡ us
new_values g v scope [] no_values h a = refl
new_values g v scope [] (next_value u us) h a = absurd h
new_values g v scope (y ∷ new) no_values h a = absurd h
new_values g v scope (y ∷ new) (next_value u us) h a = ap₂ next_value (first_stays v scope y new u us a) (new_values g (assigned v y.name u) scope new us h.1 a.2)

-- ---- variables as terms

pub of_unknown : (Q : SortedName → Type 0) (new : List SortedName) → AllByRecursion Q new → AllByRecursion Q (all_term_variables (all_unknown new))
of_unknown Q [] h = tt
of_unknown Q (y ∷ new) h = (h.0, of_unknown Q new h.1)

first_inside : {u w : Value} {us ws : Values} → next_value u us ≡ next_value w ws → u ≡ w
first_inside e = cc

others_inside : {u w : Value} {us ws : Values} → next_value u us ≡ next_value w ws → us ≡ ws
others_inside e = cc

pub values_agree : (g : KoreSignature) (w x : Valuation) (new : List SortedName) → term_instances g w (all_unknown new) ≡ term_instances g x (all_unknown new) → AgreesOn new w x
values_agree g w x [] e = tt
values_agree g w x (y ∷ new) e = (sym (first_inside e), values_agree g w x new (others_inside e))
