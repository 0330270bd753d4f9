-- No steps: a state leads to itself and passes nothing.
use Rattle.std.proofs.Common.{◌≡◌, refl, sym, subst, ℕ, suc, List, [], ◌∷◌, arith}
use Rattle.std.specs.List.{AllByRecursion}
use Rattle.kp_kore.specs.Syntax.{Text, KorePattern}
use Rattle.kp_kore.specs.Parts.{SortedName, free_variables}
use Rattle.kp_kore.specs.Instance.{Valuation, AgreesOff, AgreesOn, IsInstance}
use Rattle.kp_kore.specs.Theory.{Theory}
use Rattle.kp_kore.specs.Replies.{IsFreshName, IsAbsent, variables_beyond}
use Rattle.kp_kore.specs.Onward.{Leads, Passes}
use Rattle.kp_kore.proofs.ConjunctionLemmas.{same_pattern_instance}

-- what agrees off nothing agrees
agree_everywhere : (v w : Valuation) (xs ys : List SortedName) → xs ≡ [] → AgreesOff xs v w → AgreesOn ys w v
agree_everywhere v w xs [] e a = tt
agree_everywhere v w xs (y ∷ ys) e a = (sym (subst (λ xs. AgreesOff xs v w) e a y.name refl), agree_everywhere v w xs ys e a)

pub at_once_leads : (t : Theory) (s : KorePattern) → variables_beyond s s ≡ [] → Leads t s s 0
at_once_leads t s e = record {
  found = λ v c given met later steps. record { chosen = v; agrees = λ y _. refl; sorts = given.0; met = subst (IsInstance t.signature v s) (sym steps) met };
  only = λ v later sorts over. (
    later,
    same_pattern_instance t.signature s over.chosen v later (agree_everywhere v over.chosen (variables_beyond s s) (free_variables s) e over.agrees) over.met,
    refl,
  );
  names = subst (λ xs. AllByRecursion (λ x. IsFreshName x.name × IsAbsent x.name s) xs) (sym e) tt;
}

pub at_once_passes : (t : Theory) (listed : List Text) (s : KorePattern) → Passes t listed s 0
at_once_passes t listed s = record {
  not_final = λ v c given met n later less steps. absurd (omega arith);
  none_listed = λ v c given met n later less steps. absurd (omega arith);
}

pub never : (n : ℕ) → 0 ≡ suc n → ⊥
never n e = omega arith
