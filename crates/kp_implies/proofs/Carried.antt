-- The substitution that is written carries the instances of the antecedent: it is true wherever the consequent's body has them, and the
-- body has them under all values of the bound variables that make it true, if under some.
use Rattle.std.specs.Prelude.{◌≡◌, Bool, true, false, List, [], ◌∷◌}
use Rattle.std.specs.List.{AllByRecursion}
use Rattle.std.proofs.Common.{refl, sym, ◌∙◌, subst, inl, inr}
use Rattle.kp_kore.specs.Syntax.{Text, KorePattern}
use Rattle.kp_kore.specs.Parts.{SortedName, free_variables}
use Rattle.kp_kore.specs.Signature.{KoreSignature}
use Rattle.kp_kore.specs.Value.{Value}
use Rattle.kp_kore.specs.Instance.{Valuation, GivesSorts, AgreesOff, AgreesOn, is_named, IsInstance}
use Rattle.kp_kore.specs.Rules.{top_binders, under_binders, have_distinct_names}
use Rattle.kp_kore.specs.Cases.{OfOneAlone}
use Rattle.kp_kore.specs.Division.{IsHeldBy}
use Rattle.kp_kore.specs.Implied.{DoesImply, Chooses, IsWitness}
use Rattle.kp_kore.specs.AtHand.{GivesAll}
use Rattle.kp_kore.proofs.ConjunctionLemmas.{same_pattern_instance}
use Rattle.kp_kore.proofs.NameLemmas.{by_name, under, members_named}
use Rattle.kp_symbolic.specs.Terms.{Replaced, term_instance, term_variables}
use Rattle.kp_symbolic.specs.States.{Literal, AreTrue, SymbolicState, IsStateInstance, HasInstancesOf}
use Rattle.kp_symbolic.specs.Writing.{InjectsWhereItStands}
use Rattle.kp_symbolic.proofs.Agreeing.{term_agrees}
use Rattle.kp_case_laws.specs.Firing.{HasNoInstance}
use Rattle.kp_case_laws.specs.Parts.{StatePart, state_reading, whole, IsDivided, DependsOnHand}
use Rattle.kp_goals.specs.Consequents.{Consequent, beside}
use Rattle.kp_goals.specs.Determined.{Carries}
use Rattle.kp_goals.specs.Exact.{ArePut, IsExact, AreClear, ClauseDepends, AreMatched}
use Rattle.kp_goals.proofs.Binders.{opened_of}
use Rattle.kp_goals.proofs.Core.{given_both, chosen_over, chosen_bound, chosen_free, bound_sorts, body_agrees, agrees_later}
use Rattle.kp_goals.proofs.Exact.{same_on, back_on, all_sorts, goals_on}
use Rattle.kp_goals.proofs.Witness.{carried_witness}
use Rattle.kp_implies.specs.Printed.{substitution_of, told_of}
use Rattle.kp_implies.proofs.PutTold.{IsToldPut}
use Rattle.kp_implies.proofs.Substituted.{true_where_met, agree_on_told}
use Rattle.kp_implies.proofs.Told.{agree_on}

-- A part whose goals are exact, of a state that has no instance in the parts beside it; its goals speak of its own variables alone, and
-- what is given is told.
pub record IsOnlyPart (g : KoreSignature) (c : KorePattern) (k : Consequent) (s : SymbolicState) (p : StatePart) (apart : List StatePart) (put : List Replaced) (goals : List (List Literal)) : Type 0 where
  pub divided : IsDivided g (whole s) (p ∷ apart)
  pub empty : AllByRecursion (HasNoInstance g) apart
  pub exact : IsExact g c p.state put goals
  pub depends : DependsOnHand g p.state
  pub clear : AreClear c p.state.variables
  pub closed : AllByRecursion (ClauseDepends g p.state.variables) goals
  pub told : AllByRecursion (IsToldPut k.bound (told_of g k s)) put

-- ---- a valuation of the part with values of the bound variables

chooses_over : (g : KoreSignature) (c : KorePattern) (q w : Valuation) → GivesSorts g w (top_binders c) → Chooses g c q (chosen_over c q w)
chooses_over g c q w sorts = record {
  agrees = λ y n. chosen_free c q w y n;
  sorts = bound_sorts g c q w (top_binders c) (members_named (top_binders c)) sorts;
}

-- where two agree on a name, they do so over the part's valuation
over_agree : (c : KorePattern) (q w x : Valuation) (y : Text) → x y ≡ w y → chosen_over c q x y ≡ chosen_over c q w y
over_agree c q w x y e = by_test (is_named y (top_binders c)) refl
  where
    by_test : (b : Bool) → is_named y (top_binders c) ≡ b → chosen_over c q x y ≡ chosen_over c q w y
    by_test true n = chosen_bound c q x y n ∙ e ∙ sym (chosen_bound c q w y n)
    by_test false n = chosen_free c q x y n ∙ sym (chosen_free c q w y n)

over_off : (c : KorePattern) (q w x : Valuation) → AgreesOff (top_binders c) (chosen_over c q w) (chosen_over c q x)
over_off c q w x y n = chosen_free c q x y n ∙ sym (chosen_free c q w y n)

-- what is given under the one is given under the other, if they agree on what is told
put_over : (g : KoreSignature) (c : KorePattern) (bound told : List SortedName) (q w x : Valuation) (put : List Replaced) → bound ≡ top_binders c → AgreesOn told w x → AllByRecursion (IsToldPut bound told) put →
    ArePut g (chosen_over c q w) put → ArePut g (chosen_over c q x) put
put_over g c bound told q w x [] same on h i = tt
put_over g c bound told q w x (r ∷ put) same on h i =
    let off : AgreesOff bound (chosen_over c q w) (chosen_over c q x) = λ y n. over_off c q w x y (subst (λ ys. is_named y ys ≡ false) same n) in
    let terms : term_instance g (chosen_over c q x) r.term ≡ term_instance g (chosen_over c q w) r.term =
    term_agrees g (chosen_over c q w) (chosen_over c q x) r.term (agree_on bound (term_variables r.term) (chosen_over c q w) (chosen_over c q x) h.0.1 off) in
    (over_agree c q w x r.name (by_name (λ n. x n ≡ w n) r.name told h.0.0 on) ∙ i.0 ∙ sym terms, put_over g c bound told q w x put same on h.1 i.1)

-- ---- the substitution

-- the body has the instance under the one over the part, so it has it under the other
over_part : (g : KoreSignature) (c : KorePattern) (k : Consequent) (s : SymbolicState) (p : StatePart) (apart : List StatePart) (put : List Replaced) (goals : List (List Literal)) (q w x : Valuation) (u : Value) →
    k.bound ≡ top_binders c → IsOnlyPart g c k s p apart put goals → AgreesOn (told_of g k s) w x → GivesSorts g w (top_binders c) → GivesSorts g x (top_binders c) →
    GivesSorts g q p.state.variables → IsStateInstance g q p.state u → IsInstance g (chosen_over c q w) (under_binders c) u → IsInstance g (chosen_over c q x) (under_binders c) u
over_part g c k s p apart put goals q w x u same i on sorts others given met body =
    let hand = p.state.variables in
    let cw = chooses_over g c q w sorts in
    let cx = chooses_over g c q x others in
    let sw = all_sorts g c q (chosen_over c q w) hand cw i.clear given in
    let sx = all_sorts g c q (chosen_over c q x) hand cx i.clear given in
    let mw : IsStateInstance g (chosen_over c q w) p.state u = i.depends q (chosen_over c q w) u (same_on c q (chosen_over c q w) hand cw.agrees i.clear) met in
    let mx : IsStateInstance g (chosen_over c q x) p.state u = i.depends q (chosen_over c q x) u (same_on c q (chosen_over c q x) hand cx.agrees i.clear) met in
    let pw : ArePut g (chosen_over c q w) put = i.exact.gives (chosen_over c q w) u sw mw body in
    let px : ArePut g (chosen_over c q x) put = put_over g c k.bound (told_of g k s) q w x put same on i.told pw in
    let gw : AreTrue g (chosen_over c q w) goals = (i.exact.says (chosen_over c q w) u sw mw pw).1 body in
    let gx : AreTrue g (chosen_over c q x) goals = goals_on g hand (chosen_over c q w) (chosen_over c q x) goals i.closed (same_on c (chosen_over c q w) (chosen_over c q x) hand (over_off c q w x) i.clear) gw in
    (i.exact.says (chosen_over c q x) u sx mx px).0 gx

module _ (g : KoreSignature) (a c : KorePattern) (k : Consequent) (state : SymbolicState) (m : AreMatched g c k (whole (beside state c))) (read : HasInstancesOf g a state) where
  abbrev s : SymbolicState
  s = beside state c

  at_hand : (v : Valuation) → GivesAll g (a ∷ c ∷ []) v → GivesSorts g v s.variables
  at_hand v given = given_both g v state.variables (free_variables c) (subst (GivesSorts g v) (sym read.variables) given.0) given.1.0

  here : (v : Valuation) (u : Value) → GivesAll g (a ∷ c ∷ []) v → IsInstance g v a u → IsStateInstance g v s u
  here v u given met = let i : IsStateInstance g v state u = (read.instances v u given.0).0 met in record { term = i.term; clauses = i.clauses }

  -- an instance that the body has under one choice lies in the part, and it has it under the other
  moved : (p : StatePart) (apart : List StatePart) (put : List Replaced) (goals : List (List Literal)) → IsOnlyPart g c k s p apart put goals → (v w x : Valuation) (u : Value) → GivesAll g (a ∷ c ∷ []) v → IsInstance g v a u →
      Chooses g c v w → Chooses g c v x → AgreesOn (told_of g k s) w x → IsInstance g w (under_binders c) u → IsInstance g x (under_binders c) u
  moved p apart put goals i v w x u given met cw cx on body = by_part (i.divided.each v u (at_hand v given) (here v u given met) tt)
    where
      none : (qs : List StatePart) → AllByRecursion (HasNoInstance g) qs → OfOneAlone (λ q. IsHeldBy (state_reading g) g (whole s) q v u) qs → ⊥
      none [] e j = j
      none (q ∷ qs) e j = elim j [ inl h ↦ e.0 h.0.chosen u h.0.sorts h.0.met | inr h ↦ none qs e.1 h.1 ]

      held : IsHeldBy (state_reading g) g (whole s) p v u → IsInstance g x (under_binders c) u
      held h =
          let q = h.chosen in
          let free : AgreesOn (free_variables c) q v = back_on v q (free_variables c) (agrees_later state.variables (free_variables c) v q h.agrees) in
          let names = free_variables (under_binders c) in
          let over = same_pattern_instance g (under_binders c) w (chosen_over c q w) u (body_agrees c q v w cw.agrees free names (under c)) body in
          let there = over_part g c k s p apart put goals q w x u m.consequent.bound i on cw.sorts cx.sorts h.sorts h.met over in
          same_pattern_instance g (under_binders c) (chosen_over c q x) x u (back_on x (chosen_over c q x) names (body_agrees c q v x cx.agrees free names (under c))) there

      by_part : OfOneAlone (λ q. IsHeldBy (state_reading g) g (whole s) q v u) (p ∷ apart) → IsInstance g x (under_binders c) u
      by_part j = elim j [ inl h ↦ held h.0 | inr h ↦ absurd (none apart i.empty h.1) ]

  pub substitution_carries : (p : StatePart) (apart : List StatePart) (put : List Replaced) (goals : List (List Literal)) → IsOnlyPart g c k s p apart put goals → DependsOnHand g s → AreClear c s.variables →
      InjectsWhereItStands g (substitution_of g k s) → Carries g a c (substitution_of g k s)
  substitution_carries p apart put goals i depends clear injects = record {
    where_met = λ v u given met w cw body.
        true_where_met g c k s m w u injects (all_sorts g c v w s.variables cw clear (at_hand v given)) (depends v w u (same_on c v w s.variables cw.agrees clear) (here v u given met)) body;
    carried = λ v u given met w x cw cx holds also body.
        moved p apart put goals i v w x u given met cw cx
        (agree_on_told g c k s m v w x injects (all_sorts g c v w s.variables cw clear (at_hand v given)) (all_sorts g c v x s.variables cx clear (at_hand v given)) cw cx holds also) body;
  }

  -- of a valid implication it is a witness
  pub substitution_is_witness : (p : StatePart) (apart : List StatePart) (put : List Replaced) (goals : List (List Literal)) → IsOnlyPart g c k s p apart put goals → DependsOnHand g s → AreClear c s.variables →
      have_distinct_names (top_binders c) ≡ true → InjectsWhereItStands g (substitution_of g k s) → DoesImply g a c → IsWitness g a c (substitution_of g k s)
  substitution_is_witness p apart put goals i depends clear distinct injects valid =
      carried_witness g a c (substitution_of g k s) (λ v u met. opened_of g v c u distinct met) valid (substitution_carries p apart put goals i depends clear injects)
