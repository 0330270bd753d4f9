-- The next states of pick(P).
use Rattle.std.proofs.Common.{◌≡◌, refl, sym, ◌∙◌, ap, subst, inl, inr, false, List, [], ◌∷◌, arith}
use Rattle.std.specs.Prelude.{codes, Option, Some, None}
use Rattle.kp_kore.specs.Syntax.{Text, no_sorts, SymbolDeclaration}
use Rattle.kp_kore.specs.Parts.{subpatterns}
use Rattle.kp_kore.specs.Signature.{itself}
use Rattle.kp_kore.specs.Value.{Value, HasSort}
use Rattle.kp_kore.specs.Instance.{Valuation, IsInstance}
use Rattle.kp_kore.specs.Steps.{Fires, HasTurn, StepsBy, NoneFires, AnyByRecursion, IsUnknown}
use Rattle.kp_kore.specs.AtHand.{GivesAll, IsOver, IsTrueOver}
use Rattle.kp_kore.specs.Cases.{IsCase, GoesTo, NextState, OfOneAlone, AreParts, FollowExactly}
use Rattle.kp_kore.specs.Executions.{IsRightExecuted, IsBranching, branching}
use Rattle.kp_toys.specs.Toys.{sort_p, patterns, mark}
use Rattle.kp_toys.specs.ToysTheory.{toys, toys_signature, pick_rule}
use Rattle.kp_toys.specs.ToysValues.{done_value, made}
use Rattle.kp_toys.specs.ToysReplies.{pick_p, is_pa, denied, picked, not_picked, to_bound, at_once}
use Rattle.kp_toys.proofs.AtOnce.{at_once_leads, at_once_passes, never}
use Rattle.kp_toys.proofs.Firing.{on_pick, only_pick, none_on_pick, pick_known, computed_by_test, one_sort_by, spoken_of}
use Rattle.kp_toys.proofs.Matching.{none_before, steps_fire, differ}

-- ---- values of SortP

pa_value : Value
pa_value = made (codes "Lblpa") []

pb_value : Value
pb_value = made (codes "Lblpb") []

declared : Text → SymbolDeclaration
declared name = record { hooked = false; name = name; parameters = []; arguments = no_sorts; result = sort_p; attributes = patterns (mark (codes "constructor") ∷ []) }

pa_sort : HasSort toys_signature sort_p pa_value
unfolding pa_value declared
pa_sort = ((sort_p, (declared (codes "Lblpa"), refl, refl, refl), itself sort_p), no_sorts, (declared (codes "Lblpa"), refl, refl), tt)

pb_sort : HasSort toys_signature sort_p pb_value
unfolding pb_value declared
pb_sort = ((sort_p, (declared (codes "Lblpb"), refl, refl, refl), itself sort_p), no_sorts, (declared (codes "Lblpb"), refl, refl), tt)

-- ---- the one rule

pick_fires : (u : Value) → u ≡ pa_value → Fires toys_signature pick_rule.body (on_pick u)
unfolding pa_value
pick_fires u e = ((λ y. u), record { sorts = tt; matches = ap on_pick (sym e); condition = tt })

pick_matches : (u : Value) → Fires toys_signature pick_rule.body (on_pick u) → u ≡ pa_value
unfolding pa_value
pick_matches u f = under_pick (made (codes "Lblpa") []) f.1.matches
  where
    under_pick : (w : Value) → on_pick w ≡ on_pick u → u ≡ w
    under_pick w e = cc

pick_turn : (u : Value) → u ≡ pa_value → IsCase toys (Some (codes "TOYS.pick")) (on_pick u)
pick_turn u e = inr (inr (inl (refl, record { fires = pick_fires u e; none_before = none_before (on_pick u) })))

pick_step : (u next : Value) → u ≡ pa_value → next ≡ done_value → StepsBy toys pick_rule (on_pick u) next
unfolding pa_value
pick_step u next e f = record {
  known = pick_known u;
  none_before = none_before (on_pick u);
  rewrites = (
    (λ y. u),
    record { sorts = tt; matches = ap on_pick (sym e); condition = tt },
    record { chosen = λ y. u; agrees = λ y _. refl; sorts = tt; ensured = tt; result = f },
  );
}

-- ---- the two parts

abbrev p_in : Valuation → Value
p_in v = v (codes "P")

abbrev Given : Valuation → Type 0
Given v = GivesAll toys_signature (pick_p ∷ pick_p ∷ []) v

is_picked : (v : Valuation) → Given v → p_in v ≡ pa_value → IsTrueOver toys_signature pick_p v is_pa
unfolding pa_value
is_picked v given e = record { chosen = v; agrees = λ y _. refl; sorts = given.0; holds = e }

says_picked : (v : Valuation) → IsTrueOver toys_signature pick_p v is_pa → p_in v ≡ pa_value
unfolding pa_value
says_picked v o = sym (o.agrees (codes "P") refl) ∙ o.holds

is_not_picked : (v : Valuation) → Given v → ¬ (p_in v ≡ pa_value) → IsTrueOver toys_signature pick_p v (denied is_pa)
unfolding pa_value
is_not_picked v given n = record { chosen = v; agrees = λ y _. refl; sorts = given.0; holds = n }

says_not_picked : (v : Valuation) → IsTrueOver toys_signature pick_p v (denied is_pa) → ¬ (p_in v ≡ pa_value)
unfolding pa_value
says_not_picked v o e = o.holds (o.agrees (codes "P") refl ∙ e)

some_id : {X : Type 0} (a b : X) → Some a ≡ Some b → a ≡ b
some_id a b e = cc

no_id : (id : Text) → (Some id ≡ None) → ⊥
no_id id e = cc

none_is_no_id : (id : Text) → (None ≡ Some id) → ⊥
none_is_no_id id e = cc

abbrev two : List NextState
two = picked ∷ not_picked ∷ []

divided : (v : Valuation) → Given v → (case : Option Text) → IsCase toys case (on_pick (p_in v)) → OfOneAlone (λ n. (n.rule ≡ case) × IsTrueOver toys_signature pick_p v n.predicate) two
divided v given (Some id) h =
    let a : (pick_rule.id ≡ id) × HasTurn toys pick_rule (on_pick (p_in v)) = only_pick (λ r. (r.id ≡ id) × HasTurn toys r (on_pick (p_in v))) (p_in v) (λ r a. a.1.fires) h in
    inl ((ap Some a.0, is_picked v given (pick_matches (p_in v) a.1.fires)), ((λ z. none_is_no_id id z.0), tt))
divided v given None h = inr ((λ z. no_id (codes "TOYS.pick") z.0), inl ((refl, is_not_picked v given (λ e. h.1.1.0 (pick_fires (p_in v) e))), tt))

found : (v : Valuation) (next : Value) → Given v → (case : Option Text) → GoesTo toys case (on_pick (p_in v)) next → AnyByRecursion (λ n. (n.rule ≡ case) × IsOver toys_signature pick_p v n.state next) two
unfolding pa_value
found v next given (Some id) h =
    let a : (pick_rule.id ≡ id) × StepsBy toys pick_rule (on_pick (p_in v)) next = only_pick (λ r. (r.id ≡ id) × StepsBy toys r (on_pick (p_in v)) next) (p_in v) (λ r a. steps_fire r (on_pick (p_in v)) next a.1) h in
    inl (ap Some a.0, record { chosen = v; agrees = λ y _. refl; sorts = given.0; met = record { term = a.1.rewrites.2.result; predicates = (pick_matches (p_in v) (a.1.rewrites.0, a.1.rewrites.1), tt) } })
found v next given None h = inr (inl (refl, record { chosen = v; agrees = λ y _. refl; sorts = (given.0.0, given.0); met = record { term = h.1; predicates = ((λ e. h.0.1.1.0 (pick_fires (p_in v) e)), tt) } }))

given_pa : Given (λ y. pa_value)
given_pa = ((pa_sort, tt), ((pa_sort, tt), tt))

given_pb : Given (λ y. pb_value)
given_pb = ((pb_sort, tt), ((pb_sort, tt), tt))

pb_is_not_pa : ¬ (pb_value ≡ pa_value)
unfolding pa_value pb_value
pb_is_not_pa e = differ (made (codes "Lblpb") []) (made (codes "Lblpa") []) refl e

meets : (v : Valuation) → IsInstance toys_signature v pick_p (on_pick (p_in v))
meets v = record { term = refl; predicates = tt }

pick_parts : AreParts toys (pick_p ∷ []) pick_p two
pick_parts = record {
  divided = λ v c given met case h. divided v given case (subst (IsCase toys case) met.term h);
  only = (
    (λ v c given met o. subst (IsCase toys (Some (codes "TOYS.pick"))) (sym met.term) (pick_turn (p_in v) (says_picked v o))),
    ((λ v c given met o. subst (NoneFires toys) (sym met.term) (none_on_pick (p_in v) (λ f. says_not_picked v o (pick_matches (p_in v) f)))), tt),
  );
  held = (
    record { valuation = λ y. pa_value; configuration = on_pick pa_value; given = given_pa; met = meets (λ y. pa_value); such = is_picked (λ y. pa_value) given_pa refl },
    (record { valuation = λ y. pb_value; configuration = on_pick pb_value; given = given_pb; met = meets (λ y. pb_value); such = is_not_picked (λ y. pb_value) given_pb pb_is_not_pa }, tt),
  );
}

only_picked : (v : Valuation) (next : Value) → IsOver toys_signature pick_p v picked.state next → StepsBy toys pick_rule (on_pick (p_in v)) next
unfolding pa_value
only_picked v next o = pick_step (p_in v) next (sym (o.agrees (codes "P") refl) ∙ o.met.predicates.0) o.met.term

only_stays : (v : Valuation) (next : Value) → IsOver toys_signature pick_p v not_picked.state next → NoneFires toys (on_pick (p_in v)) × (next ≡ on_pick (p_in v))
unfolding pa_value
only_stays v next o = (
  none_on_pick (p_in v) (λ f. o.met.predicates.0 (o.agrees (codes "P") refl ∙ pick_matches (p_in v) f)),
  o.met.term ∙ ap on_pick (o.agrees (codes "P") refl),
)

pick_follows : FollowExactly toys (pick_p ∷ []) pick_p two
pick_follows = record {
  found = λ v c given met case next h. found v next given case (subst (λ c. GoesTo toys case c next) met.term h);
  only = (
    (λ v next given o. (on_pick (p_in v), meets v, inr (inr (inl (refl, only_picked v next o))))),
    ((λ v next given o. (on_pick (p_in v), meets v, only_stays v next o)), tt),
  );
}

pick_branches : IsBranching toys pick_p pick_p two
pick_branches = record {
  known = λ v c given met. subst (λ c. ¬ IsUnknown toys c) (sym met.term) (pick_known (p_in v));
  two = record {
    one = Some (codes "TOYS.pick");
    other = None;
    differ = λ e. no_id (codes "TOYS.pick") e;
    first = record { valuation = λ y. pa_value; configuration = on_pick pa_value; given = given_pa; met = meets (λ y. pa_value); such = pick_turn pa_value refl };
    second = record { valuation = λ y. pb_value; configuration = on_pick pb_value; given = given_pb; met = meets (λ y. pb_value); such = none_on_pick pb_value (λ f. pb_is_not_pa (pick_matches pb_value f)) };
  };
  next_states = record {
    parts = pick_parts;
    follow = pick_follows;
    names = ((tt, tt), ((tt, tt), tt));
    predicates = (refl, (refl, tt));
    one_sort = (one_sort_by sort_p (spoken_of pick_p picked) (refl, (refl, (refl, tt))), (one_sort_by sort_p (spoken_of pick_p not_picked) (refl, (refl, (refl, (refl, tt)))), tt));
  };
}

pub two_next_states : IsRightExecuted toys (to_bound 10000) pick_p (at_once (branching (picked ∷ not_picked ∷ [])) pick_p)
two_next_states = record {
  within_bound = omega arith;
  runs = (at_once_leads toys pick_p refl, at_once_passes toys [] pick_p);
  reached = λ n e. absurd (never n e);
  computed = computed_by_test toys_signature (subpatterns pick_p) refl;
  reason = (omega arith, pick_branches);
}
