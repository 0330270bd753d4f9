-- What a step says of a pattern at which a run ends.
use Rattle.std.proofs.Common.{◌≡◌, refl, sym, ap, ◌∙◌, subst, Bool, true, false, ◌||◌, if◌then◌else◌, List, [], ◌∷◌, Some, None, inl, inr}
use Rattle.std.specs.Prelude.{⊤}
use Rattle.std.specs.List.{AllByRecursion, AllZip, Contains}
use Rattle.std.specs.Option.{option_map}
use Rattle.std.specs.Str.{bytes_eq}
use Rattle.std.proofs.lemmas.Slice.Eq.{bytes_eq-Decides}
use Rattle.kp_kore.specs.Syntax.{Text, KorePattern}
use Rattle.kp_kore.specs.Parts.{SortedName, free_variables}
use Rattle.kp_kore.specs.Signature.{KoreSignature}
use Rattle.kp_kore.specs.Value.{Value, HasSort}
use Rattle.kp_kore.specs.Instance.{Valuation, GivesSorts, AgreesOn, is_named}
use Rattle.kp_kore.specs.Rules.{RewriteRule}
use Rattle.kp_kore.specs.Theory.{Theory}
use Rattle.kp_kore.specs.Steps.{AnyByRecursion, HasTurn, NoneFires}
use Rattle.kp_kore.specs.AtHand.{OfSome, HasSome}
use Rattle.kp_kore.specs.Cases.{IsCase, NextState, HaveOneSort}
use Rattle.kp_kore.specs.Executions.{Options, is_among, IsStuck, IsBranching, IsCutPoint}
use Rattle.kp_kore.proofs.ListLemmas.{all_map}
use Rattle.kp_kore.proofs.TurnLemmas.{of_member, none_fires}
use Rattle.kp_kore.proofs.ArcLemmas.{sorts_stay}
use Rattle.kp_symbolic.specs.States.{SymbolicState, IsStateInstance}
use Rattle.kp_symbolic.specs.WellFormed.{AreAtHand}
use Rattle.kp_symbolic.proofs.Distribution.{all_both}
use Rattle.kp_symbolic_laws.proofs.OpenedGood.{turned_test}
use Rattle.kp_case_laws.specs.Parts.{whole, AreNew, IsNewVariable, IsGrown}
use Rattle.kp_case_laws.specs.Firing.{HasNoInstance}
use Rattle.kp_case_laws.specs.NextStates.{StepCase, placed, AreStepCases, IsPatternOf, IsAtHand, IsWritten, IsWithinHand, HaveValues}
use Rattle.kp_case_laws.specs.RunLaws.{IsAloneBy}
use Rattle.kp_case_laws.specs.EndLaws.{id_of_case}
use Rattle.kp_case_laws.proofs.AtHandLemmas.{sorts_of_hand, mixed, mixed_elsewhere, mixed_agrees}
use Rattle.kp_case_laws.proofs.NextStateLemmas.{Valued, valued, state_instance, is_case, next_states}
use Rattle.kp_case_laws.proofs.StepCases.{HoldsIn, IsGoodCase, any_unmade, some_turn_case, good_cases}
use Rattle.kp_case_laws.proofs.LoneRule.{has_turn_alone}

-- ---- an instance of the state is one of the pattern

pub some_instance : (g : KoreSignature) (P : Valuation → Value → Type 0) (request p : KorePattern) (s : SymbolicState) (w : Valuation) (c : Value) → IsAtHand g request p s → GivesSorts g w s.variables → IsStateInstance g w s c → P w c → OfSome g (request ∷ []) p P
some_instance g P request p s w c h sorts met such = record {
  valuation = w;
  configuration = c;
  given = (sorts_of_hand g w (free_variables p) s.variables h.pattern.at_hand sorts, (sorts_of_hand g w (free_variables request) s.variables h.request_at_hand sorts, tt));
  met = (h.pattern.instances w c sorts).1 met;
  such = such;
}

pub says_some : (t : Theory) (request p : KorePattern) (s : SymbolicState) (w : Valuation) (c : Value) → IsAtHand t.signature request p s → GivesSorts t.signature w s.variables → IsStateInstance t.signature w s c → HasSome t.signature (request ∷ []) p
says_some t request p s w c h sorts met = some_instance t.signature (λ w c. ⊤) request p s w c h sorts met tt

-- an instance of a case's part is one of the state
part_instance : (t : Theory) (s : SymbolicState) (k : StepCase) → IsGoodCase t s k → (w : Valuation) (c : Value) → GivesSorts t.signature w k.part.state.variables → IsStateInstance t.signature w k.part.state c → IsStateInstance t.signature w s c
part_instance t s k good w c sorts met = ((good.below.part.same w c sorts).0 met).0

some_of_case : (t : Theory) (request p : KorePattern) (s : SymbolicState) (k : StepCase) → IsAtHand t.signature request p s → IsGoodCase t s k → OfSome t.signature (request ∷ []) p (λ v c. IsCase t (id_of_case k) c)
some_of_case t request p s k h good =
    let i = good.hand.instance in
    let sorts : GivesSorts t.signature i.0 s.variables = sorts_of_hand t.signature i.0 s.variables k.part.state.variables good.hand.part i.2 in
    some_instance t.signature (λ v c. IsCase t (id_of_case k) c) request p s i.0 i.1 h sorts (part_instance t s k good i.0 i.1 i.2 i.3) (is_case t k.rule k.part i.0 i.1 good.turn i.2 i.3)

-- ---- stuck

none_is_some : {X : Type 0} {x : X} → None ≡ Some x → ⊥
none_is_some e = cc

no_case_of : (g : KoreSignature) (s : SymbolicState) (v : Valuation) (c : Value) (r : RewriteRule) (cases : List StepCase) → AllByRecursion (λ k. k.rule ≡ None) cases → AnyByRecursion (λ k. (k.rule ≡ Some r) × HoldsIn g s v c k.part) cases → ⊥
no_case_of g s v c r [] n a = a
no_case_of g s v c r (k ∷ ks) n a = elim a [ inl h ↦ none_is_some (sym n.0 ∙ h.0) | inr b ↦ no_case_of g s v c r ks n.1 b ]

none_has_turn : (t : Theory) (s : SymbolicState) (cases : List StepCase) → AreStepCases t s cases → AllByRecursion (λ k. k.rule ≡ None) cases → (v : Valuation) (c : Value) → GivesSorts t.signature v s.variables → IsStateInstance t.signature v s c → (r : RewriteRule) → Contains t.rules r → HasTurn t r c → ⊥
none_has_turn t s cases a n v c sorts met r m turn =
    no_case_of t.signature s v c r cases n (any_unmade placed (λ j. (j.0 ≡ Some r) × HoldsIn t.signature s v c j.1) cases
    (subst (AnyByRecursion (λ j. (j.0 ≡ Some r) × HoldsIn t.signature s v c j.1)) (sym a.of_turns) (some_turn_case t s a.turns a.remainder v c r sorts met a.are_turns m turn)))

none_here : (t : Theory) (s : SymbolicState) (cases : List StepCase) → AreStepCases t s cases → AllByRecursion (λ k. k.rule ≡ None) cases → (v : Valuation) (c : Value) → GivesSorts t.signature v s.variables → IsStateInstance t.signature v s c → NoneFires t c
none_here t s cases a n v c sorts met = none_fires t [] c (λ r m turn. absurd (none_has_turn t s cases a n v c sorts met r m turn)) tt

some_in : (t : Theory) (request p : KorePattern) (s : SymbolicState) (cases : List StepCase) → IsAtHand t.signature request p s → AllByRecursion (IsGoodCase t s) cases → ¬ (cases ≡ []) → HasSome t.signature (request ∷ []) p
some_in t request p s [] h good n = absurd (n refl)
some_in t request p s (k ∷ ks) h good n =
    let o = some_of_case t request p s k h good.0 in
    record { valuation = o.valuation; configuration = o.configuration; given = o.given; met = o.met; such = tt }

pub says_stuck : (t : Theory) (request p : KorePattern) (s : SymbolicState) (cases : List StepCase) → IsAtHand t.signature request p s → AreStepCases t s cases → AllByRecursion (IsWithinHand t.signature s) cases → ¬ (cases ≡ []) → AllByRecursion (λ k. k.rule ≡ None) cases → IsStuck t request p
says_stuck t request p s cases h a hand some n = record {
  has = some_in t request p s cases h (good_cases t s cases a hand) some;
  final = λ v c given met.
      let x : Valued t.signature p s v = valued t.signature request p s v h given in
      let own : IsStateInstance t.signature x.0 s c = state_instance t.signature request p s v x.0 c h x.1 met in
      (none_here t s cases a n x.0 c x.1.sorts own, a.known x.0 c x.1.sorts own);
}

-- ---- branching

pub says_branching : (t : Theory) (request p : KorePattern) (s : SymbolicState) (cases : List StepCase) (nexts : List NextState) (j k : StepCase) → IsAtHand t.signature request p s → AreStepCases t s cases → AllByRecursion (IsWithinHand t.signature s) cases →
    AllZip (IsWritten t.signature request p s) cases nexts → Contains cases j → Contains cases k → ¬ (id_of_case j ≡ id_of_case k) → IsBranching t request p nexts
says_branching t request p s cases nexts j k h a hand written m n differ = record {
  known = λ v c given met.
      let x : Valued t.signature p s v = valued t.signature request p s v h given in
      a.known x.0 c x.1.sorts (state_instance t.signature request p s v x.0 c h x.1 met);
  two = record {
    one = id_of_case j;
    other = id_of_case k;
    differ = differ;
    first = some_of_case t request p s j h (of_member (IsGoodCase t s) cases j good m);
    second = some_of_case t request p s k h (of_member (IsGoodCase t s) cases k good n);
  };
  next_states = next_states t request p s cases nexts h a hand written;
}
  where
    good : AllByRecursion (IsGoodCase t s) cases
    good = good_cases t s cases a hand

-- ---- a cut point

pub says_cut_point : (t : Theory) (o : Options) (used : List Text) (request p : KorePattern) (s : SymbolicState) (r : RewriteRule) (k : StepCase) (n : NextState) → IsAtHand t.signature request p s → IsAloneBy t used s r k → IsWritten t.signature request p s k n →
    is_among o.cut_points r.id ≡ true → IsCutPoint t o request p r.id n
says_cut_point t o used request p s r k n h a written among = record {
  has = some_in t request p s (k ∷ []) h (good_cases t s (k ∷ []) a.cases (a.hand, tt)) (λ e. cons_is_nil e);
  turn = λ v c given met.
      let x : Valued t.signature p s v = valued t.signature request p s v h given in
      has_turn_alone t s k r a.cases a.by_rule a.of_theory a.fires x.0 c x.1.sorts (state_instance t.signature request p s v x.0 c h x.1 met);
  is_cut_point = among;
  by_rule = written.id ∙ ap (option_map (λ q. q.id)) a.by_rule;
  next_states = next_states t request p s (k ∷ []) (n ∷ []) h a.cases (a.hand, tt) (written, tt);
}
  where
    cons_is_nil : {X : Type 0} {x : X} {xs : List X} → (x ∷ xs) ≡ [] → ⊥
    cons_is_nil e = cc

-- ---- values of all that is at hand

abbrev put_first : Text → Value → Valuation → Valuation
put_first x u v = λ y. if bytes_eq x y then u else v y

at_first : (x : Text) (u : Value) (v : Valuation) → put_first x u v x ≡ u
at_first x u v = rw ((bytes_eq-Decides x x).1 refl) refl

elsewhere : (x : Text) (u : Value) (v : Valuation) (y : Text) → bytes_eq x y ≡ false → put_first x u v y ≡ v y
elsewhere x u v y e = rw e refl

neither : (a b : Bool) → a || b ≡ false → (a ≡ false) × (b ≡ false)
neither true b h = absurd (cc)
neither false b h = (refl, h)

still_given : (g : KoreSignature) (x : Text) (u : Value) (v : Valuation) (ys : List SortedName) → is_named x ys ≡ false → GivesSorts g v ys → GivesSorts g (put_first x u v) ys
still_given g x u v [] n h = tt
still_given g x u v (y ∷ ys) n h =
    let no = neither (bytes_eq y.name x) (is_named x ys) n in
    (subst (HasSort g y.sort) (sym (elsewhere x u v y.name (turned_test y.name x no.0))) h.0, still_given g x u v ys no.1 h.1)

-- new variables have values
new_values : (g : KoreSignature) (used : List Text) (scope new : List SortedName) → AreNew scope new → AllByRecursion (IsNewVariable g used) new → Value → HaveValues g new
new_values g used scope [] a each some = ((λ y. some), tt)
new_values g used scope (y ∷ new) a each some =
    let rest : HaveValues g new = new_values g used scope new a.2 each.1 some in
    let u : Value = each.0.2 in
    (put_first y.name u rest.0, (subst (HasSort g y.sort) (sym (at_first y.name u rest.0)) each.0.3, still_given g y.name u rest.0 new a.1 rest.1))

unnamed_each : (scope new : List SortedName) → AreNew scope new → AllByRecursion (λ x. is_named x.name new ≡ false) scope
unnamed_each [] new a = tt
unnamed_each (x ∷ scope) new a = (first_unnamed x scope new a, unnamed_each scope new (rest_new x scope new a))
  where
    both_false : (a b : Bool) → a ≡ false → b ≡ false → (a || b) ≡ false
    both_false false b e f = f
    both_false true b e f = absurd (cc)

    first_unnamed : (x : SortedName) (scope new : List SortedName) → AreNew (x ∷ scope) new → is_named x.name new ≡ false
    first_unnamed x scope [] a = refl
    first_unnamed x scope (y ∷ new) a = both_false (bytes_eq y.name x.name) (is_named x.name new) (turned_test x.name y.name (neither (bytes_eq x.name y.name) (is_named y.name scope) a.0).0) (first_unnamed x scope new a.2)

    rest_new : (x : SortedName) (scope new : List SortedName) → AreNew (x ∷ scope) new → AreNew scope new
    rest_new x scope [] a = tt
    rest_new x scope (y ∷ new) a = ((neither (bytes_eq x.name y.name) (is_named y.name scope) a.0).1, a.1, rest_new x scope new a.2)

-- values of the first state's variables, with others of the new ones
pub all_values : (g : KoreSignature) (used : List Text) (first s : SymbolicState) (v : Valuation) → GivesSorts g v first.variables → IsGrown g used (whole first) (whole s) → (w : Valuation) × GivesSorts g w s.variables × AgreesOn first.variables v w
all_values g used first s v given grown =
    let new : HaveValues g grown.new = new_values g used first.variables grown.new grown.are_new grown.each (v []) in
    let w : Valuation = mixed grown.new v new.0 in
    let same : AgreesOn first.variables v w = all_map (λ x. is_named x.name grown.new ≡ false) (λ x. w x.name ≡ v x.name) first.variables (λ x n. mixed_elsewhere grown.new v new.0 x.name n) (unnamed_each first.variables grown.new grown.are_new) in (
      w,
      subst (GivesSorts g w) (sym grown.variables) (all_both (λ x. HasSort g x.sort (w x.name)) first.variables grown.new (sorts_stay g first.variables v w same given) (sorts_stay g grown.new new.0 w (mixed_agrees grown.new v new.0) new.1)),
      same,
    )

pub gives_values : (t : Theory) (used : List Text) (first s : SymbolicState) → HaveValues t.signature first.variables → IsGrown t.signature used (whole first) (whole s) → HaveValues t.signature s.variables
gives_values t used first s h grown = let w = all_values t.signature used first s h.0 h.1 grown in (w.0, w.1)

-- ---- no instance

pub says_none : (t : Theory) (used : List Text) (request p : KorePattern) (first s : SymbolicState) → IsPatternOf t.signature p s → AreAtHand first.variables (free_variables request) → AreAtHand (free_variables request) s.variables → HaveOneSort s.variables →
    IsGrown t.signature used (whole first) (whole s) → HasNoInstance t.signature (whole s) → ¬ HasSome t.signature (request ∷ []) p
says_none t used request p first s of all at one grown none some =
    let g : KoreSignature = t.signature in
    let values : HaveValues g s.variables = gives_values t used first s (some.valuation, sorts_of_hand g some.valuation first.variables (free_variables request) all some.given.1.0) grown in
    let h : IsAtHand g request p s = record { pattern = of; request_at_hand = at; one_sort = one; values = values } in
    let x : Valued g p s some.valuation = valued g request p s some.valuation h some.given in
    none x.0 some.configuration x.1.sorts (state_instance g request p s some.valuation x.0 some.configuration h x.1 some.met)
