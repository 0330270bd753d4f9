-- A step that keeps its number: the state after it speaks of the same variable.
use Rattle.std.proofs.Common.{◌≡◌, refl, sym, ◌∙◌, ap, subst, inl, inr, true, false, [], pos, ℕ, zero, suc, ◌<◌, arith}
use Rattle.std.specs.Prelude.{codes}
use Rattle.kp_kore.specs.Value.{Value, whole, constructed, no_values, next_value, HasSort}
use Rattle.kp_kore.specs.Instance.{Valuation, assigned}
use Rattle.kp_kore.specs.Steps.{Steps, StepsIn, IsFinal}
use Rattle.kp_kore.specs.Replies.{After, IsAfter}
use Rattle.kp_toys.specs.Toys.{sort_int}
use Rattle.kp_toys.specs.ToysTheory.{toys_signature, vh_of}
use Rattle.kp_toys.specs.ToysValues.{vh_value}
use Rattle.kp_toys.specs.ToysClaims.{x, vf_of, fresh}
use Rattle.kp_toys.specs.SmallTheories.{keeping}
use Rattle.kp_toys.proofs.Choosing.{off_one}
use Rattle.kp_toys.proofs.Matching.{int_has_sort, differ}

abbrev pub on_vh : Value → Value
on_vh u = constructed (codes "Lblvh") (next_value u no_values)

abbrev pub on_vf : Value → Value
on_vf u = constructed (codes "Lblvf") (next_value u no_values)

under_vf : (u w : Value) → on_vf u ≡ on_vf w → u ≡ w
under_vf u w e = cc

-- from vf(u) the one step leads to vh(u)
pub keeps : (u next : Value) → Steps keeping (on_vf u) next → next ≡ on_vh u
keeps u next s = elim s [
  | inl a ↦ a.rewrites.2.result ∙ ap on_vh (a.rewrites.2.agrees (codes "N") refl ∙ under_vf (a.rewrites.0 (codes "N")) u a.rewrites.1.matches)
  | inr a ↦ absurd a
]

keeps_on : (u next : Value) → HasSort toys_signature sort_int u → next ≡ on_vh u → Steps keeping (on_vf u) next
keeps_on u next h e = inl (record {
  known = λ w. elim w [ inl a ↦ a | inr a ↦ a ];
  none_before = ((λ lt f. omega arith), tt);
  rewrites = (
    (λ y. u),
    record { sorts = (h, tt); matches = refl; condition = tt },
    record { chosen = λ y. u; agrees = λ y _. refl; sorts = tt; ensured = tt; result = e },
  );
})

after_one : (u c later : Value) → c ≡ on_vf u → StepsIn keeping 1 c later → later ≡ on_vh u
after_one u c later e s = s.2 ∙ keeps u s.0 (subst (λ c. Steps keeping c s.0) e s.1)

starts : (v : Valuation) (n : ℕ) (c : Value) → n < 1 → IsAfter keeping (vf_of x) v n c → c ≡ on_vf (v (codes "X"))
starts v zero c lt a = a.2 ∙ a.1.term
starts v (suc n) c lt a = absurd (omega arith)

not_final : (u c : Value) → HasSort toys_signature sort_int u → c ≡ on_vf u → ¬ IsFinal keeping c
not_final u c h e f = elim f [
  | inl w ↦ elim w [ inl a ↦ a | inr a ↦ a ]
  | inr n ↦ n.0 ((λ y. u), record { sorts = (h, tt); matches = sym e; condition = tt })
]

pub keeps_the_variable : After keeping [] (vf_of x) (vh_of x) 1
keeps_the_variable = record {
  found = λ v later sorts a. (v, (λ y _. refl), sorts, record { term = after_one (v (codes "X")) a.0 later a.1.term a.2; predicates = tt });
  only = λ v w later sorts agrees given met. (
    on_vf (v (codes "X")),
    record { term = refl; predicates = tt },
    (later, keeps_on (v (codes "X")) later sorts.0 (met.term ∙ ap on_vh (agrees (codes "X") refl)), refl),
  );
  not_final = λ v n c sorts lt a. not_final (v (codes "X")) c sorts.0 (starts v n c lt a);
  none_listed = λ v n c sorts lt a. ((λ e. absurd (false_true e)), tt);
  names = tt;
}
  where
    false_true : false ≡ true → ⊥
    false_true e = cc

-- with a new variable it would have instances that are no successor of the start
pub not_a_new_variable : ¬ After keeping [] (vf_of x) (vh_of fresh) 1
not_a_new_variable a =
    let v : Valuation = λ y. whole (pos 0) in
    let w : Valuation = assigned v (codes "Fresh1") (whole (pos 1)) in
    let there : IsAfter keeping (vf_of x) v 1 (vh_value (pos 1)) = a.only v w (vh_value (pos 1)) (int_has_sort (pos 0), tt) (λ y h. off_one (codes "Fresh1") y (whole (pos 1)) v h) (int_has_sort (pos 1), tt) (record { term = refl; predicates = tt }) in
    differ (vh_value (pos 1)) (vh_value (pos 0)) refl (after_one (whole (pos 0)) there.0 (vh_value (pos 1)) there.1.term there.2)
