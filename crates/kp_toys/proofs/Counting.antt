-- The next states of count(X).
use Rattle.std.proofs.Common.{◌≡◌, refl, sym, ◌∙◌, ap, subst, ◌⊎◌, inl, inr, true, List, [], ◌∷◌, ℤ, pos, negsuc}
use Rattle.std.specs.Prelude.{codes, Option, Some, None}
use Rattle.kp_kore.specs.Syntax.{Text}
use Rattle.kp_kore.specs.Hooks.{Comparison, whole_comparison, equal, greater}
use Rattle.kp_kore.specs.Value.{Value, whole, truth, no_values, next_value}
use Rattle.kp_kore.specs.Interpretation.{interpreted}
use Rattle.kp_kore.specs.Instance.{Valuation, IsInstance}
use Rattle.kp_kore.specs.Rules.{RewriteRule}
use Rattle.kp_kore.specs.Steps.{Fires, HasTurn, StepsBy, NoneFires, AnyByRecursion}
use Rattle.kp_kore.specs.AtHand.{GivesAll, IsOver, IsTrueOver}
use Rattle.kp_kore.specs.Cases.{IsCase, GoesTo, NextState, OfOneAlone, AreParts, FollowExactly, AreNextStates}
use Rattle.kp_toys.specs.Toys.{sort_int}
use Rattle.kp_toys.specs.ToysTheory.{toys, toys_signature, dec_rule, stop_rule}
use Rattle.kp_toys.specs.ToysValues.{count}
use Rattle.kp_toys.specs.ToysReplies.{count_x, above_zero, is_zero, neither, counted_down, stopped, below_zero}
use Rattle.kp_toys.proofs.Sorts.{int_values}
use Rattle.kp_toys.proofs.Matching.{counted, minus_one, dec_leads, dec_condition, stop_condition, dec_fires, stop_fires_at, dec_step, stop_step, falsehood, none_before, steps_fire, int_has_sort, texts_differ}
use Rattle.kp_toys.proofs.Firing.{on_count, none_on_count, one_sort_by, spoken_of}

-- ---- the number of X

-- the comparison of the value with 0 is true
abbrev pub Says : Comparison → Value → Type 0
Says h u = interpreted (whole_comparison h) (next_value u (next_value (whole (pos 0)) no_values)) ≡ truth true

abbrev pub x_in : Valuation → Value
x_in v = v (codes "X")

pub number : (v : Valuation) → GivesAll toys_signature (count_x ∷ count_x ∷ []) v → (k : ℤ) × (x_in v ≡ whole k)
number v given = int_values (x_in v) given.0.0

-- ---- what the predicates say

pub is_above : (v : Valuation) → GivesAll toys_signature (count_x ∷ count_x ∷ []) v → Says greater (x_in v) → IsTrueOver toys_signature count_x v above_zero
is_above v given h = record { chosen = v; agrees = λ y _. refl; sorts = given.0; holds = h }

pub says_above : (v : Valuation) → IsTrueOver toys_signature count_x v above_zero → Says greater (x_in v)
says_above v o = subst (Says greater) (o.agrees (codes "X") refl) o.holds

pub is_none : (v : Valuation) → GivesAll toys_signature (count_x ∷ count_x ∷ []) v → Says equal (x_in v) → IsTrueOver toys_signature count_x v is_zero
is_none v given h = record { chosen = v; agrees = λ y _. refl; sorts = given.0; holds = h }

pub says_none : (v : Valuation) → IsTrueOver toys_signature count_x v is_zero → Says equal (x_in v)
says_none v o = subst (Says equal) (o.agrees (codes "X") refl) o.holds

is_neither : (v : Valuation) → GivesAll toys_signature (count_x ∷ count_x ∷ []) v → ¬ Says equal (x_in v) → ¬ Says greater (x_in v) → IsTrueOver toys_signature count_x v neither
is_neither v given none above = record { chosen = v; agrees = λ y _. refl; sorts = (given.0.0, given.0); holds = (none, (above, tt)) }

says_neither : (v : Valuation) → IsTrueOver toys_signature count_x v neither → (¬ Says equal (x_in v)) × (¬ Says greater (x_in v))
says_neither v o = (
  (λ h. o.holds.0 (subst (Says equal) (sym (o.agrees (codes "X") refl)) h)),
  (λ h. o.holds.1.0 (subst (Says greater) (sym (o.agrees (codes "X") refl)) h)),
)

-- ---- its cases

-- a rule with its turn fires
pub turn_fires : (r : RewriteRule) (c : Value) → HasTurn toys r c → Fires toys_signature r.body c
turn_fires r c h = h.fires

pub dec_turn : (k : ℤ) → Says greater (whole k) → IsCase toys (Some (codes "TOYS.dec")) (count k)
dec_turn k h = inl (refl, record { fires = dec_fires k h; none_before = none_before (count k) })

pub stop_turn : (k : ℤ) → Says equal (whole k) → IsCase toys (Some (codes "TOYS.stop")) (count k)
stop_turn k h = inr (inl (refl, record { fires = stop_fires_at k h; none_before = none_before (count k) }))

-- a case of a rule is that of dec, where k > 0, or that of stop, where k = 0
pub case_of_count : (k : ℤ) (id : Text) → IsCase toys (Some id) (count k) → ((codes "TOYS.dec" ≡ id) × Says greater (whole k)) ⊎ ((codes "TOYS.stop" ≡ id) × Says equal (whole k))
case_of_count k id h = elim (on_count (λ r. (r.id ≡ id) × HasTurn toys r (count k)) k (λ r a. a.1.fires) h) [
  | inl a ↦ inl (a.0, dec_condition k a.1.fires)
  | inr a ↦ inr (a.0, stop_condition k a.1.fires)
]

pub no_rule : (k : ℤ) → ¬ Says equal (whole k) → ¬ Says greater (whole k) → NoneFires toys (count k)
no_rule k none above = none_on_count k (λ f. above (dec_condition k f)) (λ f. none (stop_condition k f))

some_id : {X : Type 0} (a b : X) → Some a ≡ Some b → a ≡ b
some_id a b e = cc

no_id : (id : Text) → (Some id ≡ None) → ⊥
no_id id e = cc

none_is_no_id : (id : Text) → (None ≡ Some id) → ⊥
none_is_no_id id e = cc

pub dec_is_not_stop : codes "TOYS.dec" ≡ codes "TOYS.stop" → ⊥
dec_is_not_stop = texts_differ (codes "TOYS.dec") (codes "TOYS.stop") refl

-- ---- the three parts

abbrev pub three : List NextState
three = counted_down ∷ stopped ∷ below_zero ∷ []

abbrev HasPart : Valuation → Option Text → NextState → Type 0
HasPart v case n = (n.rule ≡ case) × IsTrueOver toys_signature count_x v n.predicate

divided : (v : Valuation) (k : ℤ) → GivesAll toys_signature (count_x ∷ count_x ∷ []) v → x_in v ≡ whole k → (case : Option Text) → IsCase toys case (count k) → OfOneAlone (HasPart v case) three
divided v k given e (Some id) h = elim (case_of_count k id h) [
  | inl a ↦ inl (
    (ap Some a.0, is_above v given (subst (Says greater) (sym e) a.1)),
    ((λ z. dec_is_not_stop (a.0 ∙ sym (some_id (codes "TOYS.stop") id z.0))), ((λ z. none_is_no_id id z.0), tt)),
  )
  | inr a ↦ inr (
    (λ z. dec_is_not_stop (some_id (codes "TOYS.dec") id z.0 ∙ sym a.0)),
    inl ((ap Some a.0, is_none v given (subst (Says equal) (sym e) a.1)), ((λ z. none_is_no_id id z.0), tt)),
  )
]
divided v k given e None h = inr (
  (λ z. no_id (codes "TOYS.dec") z.0),
  inr (
    (λ z. no_id (codes "TOYS.stop") z.0),
    inl ((refl, is_neither v given (λ z. h.1.0 (stop_fires_at k (subst (Says equal) e z))) (λ z. h.0 (dec_fires k (subst (Says greater) e z)))), tt),
  ),
)

-- c is count(k), where X stands for k
pub at_count : (v : Valuation) (c : Value) (k : ℤ) → IsInstance toys_signature v count_x c → x_in v ≡ whole k → c ≡ count k
at_count v c k met e = met.term ∙ ap counted e

-- every variable stands for the number
abbrev pub everywhere : ℤ → Valuation
everywhere k = λ y. whole k

pub given_at : (k : ℤ) → GivesAll toys_signature (count_x ∷ count_x ∷ []) (everywhere k)
given_at k = ((int_has_sort k, tt), ((int_has_sort k, tt), tt))

pub met_at : (k : ℤ) → IsInstance toys_signature (everywhere k) count_x (count k)
met_at k = record { term = refl; predicates = tt }

pub count_parts : AreParts toys (count_x ∷ []) count_x three
count_parts = record {
  divided = λ v c given met case h.
      let k : (k : ℤ) × (x_in v ≡ whole k) = number v given in
      divided v k.0 given k.1 case (subst (IsCase toys case) (at_count v c k.0 met k.1) h);
  only = (
    (λ v c given met o.
        let k : (k : ℤ) × (x_in v ≡ whole k) = number v given in
        subst (IsCase toys (Some (codes "TOYS.dec"))) (sym (at_count v c k.0 met k.1)) (dec_turn k.0 (subst (Says greater) k.1 (says_above v o)))),
    (
      (λ v c given met o.
          let k : (k : ℤ) × (x_in v ≡ whole k) = number v given in
          subst (IsCase toys (Some (codes "TOYS.stop"))) (sym (at_count v c k.0 met k.1)) (stop_turn k.0 (subst (Says equal) k.1 (says_none v o)))),
      (
        (λ v c given met o.
            let k : (k : ℤ) × (x_in v ≡ whole k) = number v given in
            let n : (¬ Says equal (x_in v)) × (¬ Says greater (x_in v)) = says_neither v o in
            subst (NoneFires toys) (sym (at_count v c k.0 met k.1)) (no_rule k.0 (λ z. n.0 (subst (Says equal) (sym k.1) z)) (λ z. n.1 (subst (Says greater) (sym k.1) z)))),
        tt,
      ),
    ),
  );
  held = (
    record { valuation = everywhere (pos 1); configuration = count (pos 1); given = given_at (pos 1); met = met_at (pos 1); such = is_above (everywhere (pos 1)) (given_at (pos 1)) refl },
    (
      record { valuation = everywhere (pos 0); configuration = count (pos 0); given = given_at (pos 0); met = met_at (pos 0); such = is_none (everywhere (pos 0)) (given_at (pos 0)) refl },
      (
        record { valuation = everywhere (negsuc 0); configuration = count (negsuc 0); given = given_at (negsuc 0); met = met_at (negsuc 0); such = is_neither (everywhere (negsuc 0)) (given_at (negsuc 0)) falsehood falsehood },
        tt,
      ),
    ),
  );
}

-- ---- what follows

down_from : (k : ℤ) (v : Valuation) (next : Value) → GivesAll toys_signature (count_x ∷ count_x ∷ []) v → x_in v ≡ whole k → StepsBy toys dec_rule (count k) next → IsOver toys_signature count_x v counted_down.state next
unfolding minus_one
down_from k v next given e s = record {
  chosen = v;
  agrees = λ y _. refl;
  sorts = (given.0.0, given.0);
  met = record { term = dec_leads k next s ∙ ap (λ u. counted (minus_one u)) (sym e); predicates = (subst (Says greater) (sym e) (dec_condition k (s.rewrites.0, s.rewrites.1)), tt) };
}

to_done : (k : ℤ) (v : Valuation) (next : Value) → GivesAll toys_signature (count_x ∷ count_x ∷ []) v → x_in v ≡ whole k → StepsBy toys stop_rule (count k) next → IsOver toys_signature count_x v stopped.state next
to_done k v next given e s = record {
  chosen = v;
  agrees = λ y _. refl;
  sorts = given.0;
  met = record { term = s.rewrites.2.result; predicates = (subst (Says equal) (sym e) (stop_condition k (s.rewrites.0, s.rewrites.1)), tt) };
}

stays : (k : ℤ) (v : Valuation) (next : Value) → GivesAll toys_signature (count_x ∷ count_x ∷ []) v → x_in v ≡ whole k → NoneFires toys (count k) → next ≡ count k → IsOver toys_signature count_x v below_zero.state next
stays k v next given e none same = record {
  chosen = v;
  agrees = λ y _. refl;
  sorts = (given.0.0, (given.0.0, given.0));
  met = record {
    term = same ∙ ap counted (sym e);
    predicates = ((λ z. none.1.0 (stop_fires_at k (subst (Says equal) e z))), ((λ z. none.0 (dec_fires k (subst (Says greater) e z))), tt));
  };
}

found : (k : ℤ) (v : Valuation) (next : Value) → GivesAll toys_signature (count_x ∷ count_x ∷ []) v → x_in v ≡ whole k → (case : Option Text) → GoesTo toys case (count k) next →
    AnyByRecursion (λ n. (n.rule ≡ case) × IsOver toys_signature count_x v n.state next) three
found k v next given e (Some id) h = elim (on_count (λ r. (r.id ≡ id) × StepsBy toys r (count k) next) k (λ r a. steps_fire r (count k) next a.1) h) [
  | inl a ↦ inl (ap Some a.0, down_from k v next given e a.1)
  | inr a ↦ inr (inl (ap Some a.0, to_done k v next given e a.1))
]
found k v next given e None h = inr (inr (inl (refl, stays k v next given e h.0 h.1)))

only_down : (k : ℤ) (v : Valuation) (next : Value) → x_in v ≡ whole k → IsOver toys_signature count_x v counted_down.state next → StepsBy toys dec_rule (count k) next
unfolding minus_one
only_down k v next e o =
    let x : o.chosen (codes "X") ≡ whole k = o.agrees (codes "X") refl ∙ e in
    dec_step k next (subst (Says greater) x o.met.predicates.0) (o.met.term ∙ ap (λ u. counted (minus_one u)) x)

only_done : (k : ℤ) (v : Valuation) (next : Value) → x_in v ≡ whole k → IsOver toys_signature count_x v stopped.state next → StepsBy toys stop_rule (count k) next
only_done k v next e o = stop_step k next (subst (Says equal) (o.agrees (codes "X") refl ∙ e) o.met.predicates.0) o.met.term

only_stays : (k : ℤ) (v : Valuation) (next : Value) → x_in v ≡ whole k → IsOver toys_signature count_x v below_zero.state next → NoneFires toys (count k) × (next ≡ count k)
only_stays k v next e o =
    let x : whole k ≡ o.chosen (codes "X") = sym (o.agrees (codes "X") refl ∙ e) in (
      no_rule k (λ z. o.met.predicates.0 (subst (Says equal) x z)) (λ z. o.met.predicates.1.0 (subst (Says greater) x z)),
      o.met.term ∙ ap counted (sym x),
    )

-- from count(k) where X stands for k
starts : (v : Valuation) (k : ℤ) → x_in v ≡ whole k → IsInstance toys_signature v count_x (count k)
starts v k e = record { term = ap counted (sym e); predicates = tt }

pub count_follows : FollowExactly toys (count_x ∷ []) count_x three
count_follows = record {
  found = λ v c given met case next h.
      let k : (k : ℤ) × (x_in v ≡ whole k) = number v given in
      found k.0 v next given k.1 case (subst (λ c. GoesTo toys case c next) (at_count v c k.0 met k.1) h);
  only = (
    (λ v next given o. let k : (k : ℤ) × (x_in v ≡ whole k) = number v given in (count k.0, starts v k.0 k.1, inl (refl, only_down k.0 v next k.1 o))),
    (
      (λ v next given o. let k : (k : ℤ) × (x_in v ≡ whole k) = number v given in (count k.0, starts v k.0 k.1, inr (inl (refl, only_done k.0 v next k.1 o)))),
      ((λ v next given o. let k : (k : ℤ) × (x_in v ≡ whole k) = number v given in (count k.0, starts v k.0 k.1, only_stays k.0 v next k.1 o)), tt),
    ),
  );
}

pub count_next_states : AreNextStates toys count_x count_x three
count_next_states = record {
  parts = count_parts;
  follow = count_follows;
  names = ((tt, tt), ((tt, tt), ((tt, tt), tt)));
  predicates = (refl, (refl, (refl, tt)));
  one_sort = (one_sort_by sort_int (spoken_of count_x counted_down) (refl, (refl, (refl, (refl, tt)))), (one_sort_by sort_int (spoken_of count_x stopped) (refl, (refl, (refl, tt))), (one_sort_by sort_int (spoken_of count_x below_zero) (refl, (refl, (refl, (refl, (refl, (refl, tt)))))), tt)));
}
