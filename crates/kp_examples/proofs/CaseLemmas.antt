-- What divides the state pick(P) of the example definition, and what doesn't.
use Rattle.std.proofs.Common.{◌≡◌, refl, sym, ◌∙◌, ap, true, false, [], ◌∷◌, inl, inr}
use Rattle.std.specs.Prelude.{codes}
use Rattle.kp_kore.specs.Signature.{itself}
use Rattle.kp_kore.specs.Value.{Value, constructed, no_values, next_value, values_same}
use Rattle.kp_kore.specs.Instance.{Valuation, GivesSorts}
use Rattle.kp_kore.specs.Division.{IsHeldBy}
use Rattle.kp_toys.specs.Toys.{sort_p}
use Rattle.kp_toys.specs.ToysTheory.{toys_signature}
use Rattle.kp_symbolic.specs.Terms.{term_instance, known, unknown}
use Rattle.kp_symbolic.specs.States.{IsStateInstance, same}
use Rattle.kp_examples.specs.Clauses.{p_name}
use Rattle.kp_symbolic.proofs.Leaf.{one_literal}
use Rattle.kp_case_laws.specs.Parts.{state_reading, IsDivided}
use Rattle.kp_examples.specs.Cases.{picks, pa, pb, p_is, picks_where}
use Rattle.kp_case_laws.proofs.PartLemmas.{clauses_restrict}
use Rattle.kp_case_laws.proofs.NarrowingLemmas.{constructor_narrows, narrowing_divides}

abbrev pc : Value
pc = constructed (codes "Lblpc") no_values

abbrev at : Value → Valuation
at u = λ x. u

pa_sorts : GivesSorts toys_signature (at pa) (p_name ∷ [])
pa_sorts = (((sort_p, (_, refl, refl, refl), itself sort_p), _, (_, refl, refl), tt), tt)

pc_sorts : GivesSorts toys_signature (at pc) (p_name ∷ [])
pc_sorts = (((sort_p, (_, refl, refl, refl), itself sort_p), _, (_, refl, refl), tt), tt)

instance_at : (u : Value) → IsStateInstance toys_signature (at u) picks.state (term_instance toys_signature (at u) picks.state.term)
instance_at u = record { term = refl; clauses = tt }

-- a part where P is the value holds no instance at another
holds_its_own : (u z : Value) (c : Value) → IsHeldBy (state_reading toys_signature) toys_signature picks (picks_where true u) (at z) c → z ≡ u
holds_its_own u z c h = sym h.agrees.0 ∙ (one_literal toys_signature h.chosen (record { holds = true; atom = same sort_p (unknown p_name) (known u) })).0 h.met.clauses

pub pa_divides : IsDivided toys_signature picks (picks_where true pa ∷ picks_where false pa ∷ [])
pa_divides = narrowing_divides toys_signature picks (picks_where true pa) (picks_where false pa) [] (p_is true pa) (p_is false pa)
    (constructor_narrows toys_signature (p_name ∷ []) p_name (codes "Lblpa") [] (record { at_hand = record { sorts = λ w h. h; agree = λ v w h. h }; constructs = refl; sorts = refl; are_new = tt }))
    (λ w c sorts met. tt)
    (λ v w c a i. record { term = i.term ∙ ap (λ z. constructed (codes "Lblpick") (next_value z no_values)) (sym a.0); clauses = tt })
    (clauses_restrict toys_signature picks (p_is true pa)) (clauses_restrict toys_signature picks (p_is false pa))

pub head_left_out : ¬ IsDivided toys_signature picks (picks_where true pa ∷ picks_where true pb ∷ [])
head_left_out d = elim (d.each (at pc) _ pc_sorts (instance_at pc) tt) [
  | inl a ↦ differs_pa (holds_its_own pa pc _ a.0)
  | inr b ↦ elim b.1 [ inl a ↦ differs_pb (holds_its_own pb pc _ a.0) | inr e ↦ absurd e.1 ]
]
  where
    false_true : false ≡ true → ⊥
    false_true e = cc

    differs_pa : pc ≡ pa → ⊥
    differs_pa e = false_true (ap (λ u. values_same u pa) e)

    differs_pb : pc ≡ pb → ⊥
    differs_pb e = false_true (ap (λ u. values_same u pb) e)

pub both_kept : ¬ IsDivided toys_signature picks (picks_where true pa ∷ picks ∷ [])
both_kept d = elim (d.each (at pa) _ pa_sorts (instance_at pa) tt) [
  | inl a ↦ a.1.0 (record { chosen = at pa; agrees = (refl, tt); sorts = pa_sorts; met = instance_at pa })
  | inr b ↦ b.0 (record { chosen = at pa; agrees = (refl, tt); sorts = pa_sorts; met = record { term = refl; clauses = (one_literal toys_signature (at pa) (record { holds = true; atom = same sort_p (unknown p_name) (known pa) })).1 refl } })
]
