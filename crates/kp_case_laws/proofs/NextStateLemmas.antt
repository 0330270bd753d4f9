-- The cases of a step, written as patterns, are the next states of the state's pattern.
use Rattle.std.proofs.Common.{◌≡◌, refl, sym, ◌∙◌, subst, List, [], ◌∷◌, ◌++◌, Option, Some, None}
use Rattle.std.specs.Prelude.{true, MatchOption}
use Rattle.std.specs.List.{AllByRecursion, AllZip, Contains}
use Rattle.kp_kore.specs.Syntax.{KorePattern}
use Rattle.kp_kore.specs.Parts.{SortedName, free_variables}
use Rattle.kp_kore.specs.Signature.{KoreSignature}
use Rattle.kp_kore.specs.Value.{Value}
use Rattle.kp_kore.specs.Instance.{Valuation, GivesSorts, AgreesOn, IsInstance, is_predicate}
use Rattle.kp_kore.specs.Rules.{RewriteRule}
use Rattle.kp_kore.specs.Theory.{Theory}
use Rattle.kp_kore.specs.Steps.{AnyByRecursion, HasTurn, StepsBy, Rewrites}
use Rattle.kp_kore.specs.AtHand.{GivesAll, OfEach, OfSome, IsOver, IsTrueOver, HasNewNames}
use Rattle.kp_kore.specs.Cases.{IsCase, GoesTo, NextState, OfOneAlone, HaveOneSort, AreNextStates}
use Rattle.kp_kore.specs.Scopes.{Extends}
use Rattle.kp_kore.specs.Replies.{variables_beyond}
use Rattle.kp_kore.proofs.TruthLemmas.{same_truth, agrees_back}
use Rattle.kp_kore.proofs.ConjunctionLemmas.{same_pattern_instance}
use Rattle.kp_kore.proofs.ArcLemmas.{sorts_stay, agrees_through}
use Rattle.kp_symbolic.specs.States.{SymbolicState, IsStateInstance}
use Rattle.kp_symbolic.specs.WellFormed.{AreAtHand}
use Rattle.kp_symbolic.proofs.Distribution.{all_both, all_first}
use Rattle.kp_case_laws.specs.Parts.{StatePart}
use Rattle.kp_case_laws.specs.NextStates.{FollowsBy, StepCase, placed, AreStepCases, IsAtHand, IsWritten, IsWithinHand}
use Rattle.kp_case_laws.proofs.AtHandLemmas.{sorts_of_hand, agree_of_hand, hand_in_hand, agree_itself, one_sort_in_hand, mixed, mixed_elsewhere, mixed_agrees, mixed_sorts, back_to_patterns, Joined, joined_hand}
use Rattle.kp_case_laws.proofs.StepCases.{id_in, HoldsIn, RuleGoes, RuleHolds, IsTurnOf, IsGoodCase, one_unmade, any_unmade, any_member, all_of_zip, any_of_zip, one_of_zip, one_case, some_case, good_cases}

-- ---- values of the state's pattern as values at hand

-- x gives what is at hand values, and agrees with v on the patterns at hand
pub record AtHand (g : KoreSignature) (p : KorePattern) (s : SymbolicState) (v x : Valuation) : Type 0 where
  pub sorts : GivesSorts g x s.variables
  pub agrees : AgreesOn (free_variables p) v x

abbrev pub Valued : KoreSignature → KorePattern → SymbolicState → Valuation → Type 0
Valued g p s v = (x : Valuation) × AtHand g p s v x

pub valued : (g : KoreSignature) (request p : KorePattern) (s : SymbolicState) (v : Valuation) → IsAtHand g request p s → GivesAll g (p ∷ request ∷ []) v → Valued g p s v
valued g request p s v h given =
    let both : List SortedName = free_variables p ++ free_variables request in (
      mixed both h.values.0 v,
      record {
        sorts = mixed_sorts g both s.variables h.values.0 v (all_both (Contains s.variables) (free_variables p) (free_variables request) h.pattern.at_hand h.request_at_hand) h.one_sort h.values.1
            (all_both (λ x. Rattle.kp_kore.specs.Value.HasSort g x.sort (v x.name)) (free_variables p) (free_variables request) given.0 given.1.0);
        agrees = all_first (λ x. mixed both h.values.0 v x.name ≡ v x.name) (free_variables p) (free_variables request) (mixed_agrees both h.values.0 v);
      },
    )

pub itself : (g : KoreSignature) (request p : KorePattern) (s : SymbolicState) (w : Valuation) → GivesSorts g w s.variables → AtHand g p s w w
itself g request p s w sorts = record { sorts = sorts; agrees = agree_itself (free_variables p) w }

pub state_instance : (g : KoreSignature) (request p : KorePattern) (s : SymbolicState) (v x : Valuation) (c : Value) → IsAtHand g request p s → AtHand g p s v x → IsInstance g v p c → IsStateInstance g x s c
state_instance g request p s v x c h a i = (h.pattern.instances x c a.sorts).0 (same_pattern_instance g p v x c a.agrees i)

pub pattern_instance : (g : KoreSignature) (request p : KorePattern) (s : SymbolicState) (v w : Valuation) (c : Value) → IsAtHand g request p s → GivesSorts g w s.variables → AgreesOn (free_variables p) v w → IsStateInstance g w s c → IsInstance g v p c
pattern_instance g request p s v w c h sorts a i = same_pattern_instance g p w v c (agrees_back (free_variables p) v w a) ((h.pattern.instances w c sorts).1 i)

-- ---- one case, and what is written for it

part_one_sort : (g : KoreSignature) (s : SymbolicState) (k : StepCase) → IsWithinHand g s k → HaveOneSort k.part.state.variables
part_one_sort g s k i = one_sort_in_hand k.part.state.variables k.next.variables i.next i.one_sort

held_true : (t : Theory) (request p : KorePattern) (s : SymbolicState) (k : StepCase) (n : NextState) (v x : Valuation) (c : Value) → IsAtHand t.signature request p s → IsWritten t.signature request p s k n → IsGoodCase t s k → AtHand t.signature p s v x → HoldsIn t.signature s x c k.part → IsTrueOver t.signature p v n.predicate
held_true t request p s k n v x c h written good a held =
    let g : KoreSignature = t.signature in
    let y : Valuation = held.chosen in
    let on_p : AgreesOn (free_variables p) v y = agrees_through (free_variables p) v x y a.agrees (agree_of_hand x y (free_variables p) s.variables h.pattern.at_hand held.agrees) in
    let z : Valuation = mixed (variables_beyond p n.predicate) v y in
    let same : AgreesOn (free_variables n.predicate) y z = back_to_patterns p n.predicate v y on_p in
    record {
      chosen = z;
      agrees = λ u e. mixed_elsewhere (variables_beyond p n.predicate) v y u e;
      sorts = sorts_stay g (free_variables n.predicate) y z same (sorts_of_hand g y (free_variables n.predicate) k.part.state.variables written.predicate.at_hand held.sorts);
      holds = (same_truth g n.predicate y z same).0 ((written.predicate.says y held.sorts).1 ((good.below.part.same y c held.sorts).0 held.met).1);
    }

true_held : (t : Theory) (request p : KorePattern) (s : SymbolicState) (k : StepCase) (n : NextState) (v x : Valuation) (c : Value) → IsAtHand t.signature request p s → IsWritten t.signature request p s k n → IsGoodCase t s k → AtHand t.signature p s v x → IsInstance t.signature v p c → IsTrueOver t.signature p v n.predicate → HoldsIn t.signature s x c k.part
true_held t request p s k n v x c h written good a met over =
    let g : KoreSignature = t.signature in
    let P : List SortedName = k.part.state.variables in
    let j : Joined g s.variables P n.predicate x over.chosen =
    joined_hand g s.variables P p n.predicate good.hand.values.0 v x over.chosen h.pattern.at_hand good.hand.part written.predicate.at_hand (part_one_sort g s k good.hand) written.none_lost.1
    (sorts_of_hand g good.hand.values.0 P k.next.variables good.hand.next good.hand.values.1) a.sorts a.agrees over.agrees over.sorts in
    let w : Valuation = j.chosen in
    let on_p : AgreesOn (free_variables p) v w = agrees_through (free_variables p) v x w a.agrees (agree_of_hand x w (free_variables p) s.variables h.pattern.at_hand j.agrees) in
    let below : IsStateInstance g w s c = (h.pattern.instances w c (sorts_of_hand g w s.variables P good.hand.part j.sorts)).0 (same_pattern_instance g p v w c on_p met) in
    record {
      chosen = w;
      agrees = j.agrees;
      sorts = j.sorts;
      met = (good.below.part.same w c j.sorts).1 (below, (written.predicate.says w j.sorts).0 ((same_truth g n.predicate over.chosen w j.on_pattern).0 over.holds));
    }

-- the case's own words of its configuration
pub is_case : (t : Theory) (rule : Option RewriteRule) (part : StatePart) (w : Valuation) (c : Value) → IsTurnOf t rule part → GivesSorts t.signature w part.state.variables → IsStateInstance t.signature w part.state c → IsCase t (id_in rule) c
is_case t (Some r) part w c turn sorts met = any_member (λ q. (q.id ≡ r.id) × HasTurn t q c) t.rules r turn.0 (refl, turn.1 w c sorts met)
is_case t None part w c turn sorts met = turn w c sorts met

-- ---- the next states

next_over : (t : Theory) (request p : KorePattern) (s : SymbolicState) (k : StepCase) (n : NextState) (v y : Valuation) (later : Value) → IsAtHand t.signature request p s → IsWritten t.signature request p s k n → AgreesOn (free_variables p) v y → GivesSorts t.signature y k.next.variables → IsStateInstance t.signature y k.next later →
    IsOver t.signature p v n.state later
next_over t request p s k n v y later h written on_p sorts met =
    let g : KoreSignature = t.signature in
    let z : Valuation = mixed (variables_beyond p n.state) v y in
    let same : AgreesOn (free_variables n.state) y z = back_to_patterns p n.state v y on_p in
    record {
      chosen = z;
      agrees = λ u e. mixed_elsewhere (variables_beyond p n.state) v y u e;
      sorts = sorts_stay g (free_variables n.state) y z same (sorts_of_hand g y (free_variables n.state) k.next.variables written.state.at_hand sorts);
      met = same_pattern_instance g n.state y z later same ((written.state.instances y later sorts).1 met);
    }

follows : (t : Theory) (request p : KorePattern) (s : SymbolicState) (k : StepCase) (n : NextState) (v x : Valuation) (c later : Value) (rule : Option RewriteRule) → k.rule ≡ rule → IsAtHand t.signature request p s → IsWritten t.signature request p s k n → IsGoodCase t s k → AtHand t.signature p s v x →
    RuleGoes t rule c later → HoldsIn t.signature s x c k.part → IsOver t.signature p v n.state later
follows t request p s k n v x c later (Some r) e h written good a goes held =
    let g : KoreSignature = t.signature in
    let next : FollowsBy g r.body k.part k.next = subst (λ o. MatchOption o (k.next ≡ k.part.state) (λ r. FollowsBy g r.body k.part k.next)) e good.next in
    let y : (y : Valuation) × Extends g k.part.state.variables k.next.variables held.chosen y × IsStateInstance g y k.next later = next.found held.chosen c held.sorts held.met later goes.rewrites in
    let on_hand : AgreesOn s.variables x y.0 = agrees_through s.variables x held.chosen y.0 held.agrees (agree_of_hand held.chosen y.0 s.variables k.part.state.variables good.hand.part y.1.agrees) in
    next_over t request p s k n v y.0 later h written (agrees_through (free_variables p) v x y.0 a.agrees (agree_of_hand x y.0 (free_variables p) s.variables h.pattern.at_hand on_hand)) y.1.sorts y.2
follows t request p s k n v x c later None e h written good a goes held =
    let g : KoreSignature = t.signature in
    let next : k.next ≡ k.part.state = subst (λ o. MatchOption o (k.next ≡ k.part.state) (λ r. FollowsBy g r.body k.part k.next)) e good.next in
    next_over t request p s k n v held.chosen later h written
    (agrees_through (free_variables p) v x held.chosen a.agrees (agree_of_hand x held.chosen (free_variables p) s.variables h.pattern.at_hand held.agrees))
    (subst (λ q. GivesSorts g held.chosen q.variables) (sym next) held.sorts)
    (subst (λ u. IsStateInstance g held.chosen k.next u) (sym goes.1) (subst (λ q. IsStateInstance g held.chosen q c) (sym next) held.met))

-- what a next state has comes of an instance
pub record ComesOf (t : Theory) (s : SymbolicState) (rule : Option RewriteRule) (w : Valuation) (later : Value) : Type 0 where
  pub configuration : Value
  pub met : IsStateInstance t.signature w s configuration
  pub goes : GoesTo t (id_in rule) configuration later

pub comes_of : (t : Theory) (s : SymbolicState) (cases : List StepCase) (k : StepCase) (w : Valuation) (later : Value) (rule : Option RewriteRule) → k.rule ≡ rule → AreStepCases t s cases → IsGoodCase t s k → GivesSorts t.signature w k.next.variables → IsStateInstance t.signature w k.next later → ComesOf t s rule w later
comes_of t s cases k w later (Some r) e a good sorts met =
    let g : KoreSignature = t.signature in
    let next : FollowsBy g r.body k.part k.next = subst (λ o. MatchOption o (k.next ≡ k.part.state) (λ r. FollowsBy g r.body k.part k.next)) e good.next in
    let c : (c : Value) × IsStateInstance g w k.part.state c × Rewrites g r.body c later = next.only w later sorts met in
    let below : GivesSorts g w k.part.state.variables = sorts_of_hand g w k.part.state.variables k.next.variables good.hand.next sorts in
    let own : IsStateInstance g w s c.0 = ((good.below.part.same w c.0 below).0 c.1).0 in
    let turn : IsTurnOf t (Some r) k.part = subst (λ o. IsTurnOf t o k.part) e good.turn in
    record {
      configuration = c.0;
      met = own;
      goes = any_member (λ q. (q.id ≡ r.id) × StepsBy t q c.0 later) t.rules r turn.0 (
        refl,
        record {
          known = a.known w c.0 (sorts_of_hand g w s.variables k.part.state.variables good.hand.part below) own;
          none_before = (turn.1 w c.0 below c.1).none_before;
          rewrites = c.2;
        },
      );
    }
comes_of t s cases k w later None e a good sorts met =
    let g : KoreSignature = t.signature in
    let next : k.next ≡ k.part.state = subst (λ o. MatchOption o (k.next ≡ k.part.state) (λ r. FollowsBy g r.body k.part k.next)) e good.next in
    let below : GivesSorts g w k.part.state.variables = sorts_of_hand g w k.part.state.variables k.next.variables good.hand.next sorts in
    let inner : IsStateInstance g w k.part.state later = subst (λ q. IsStateInstance g w q later) next met in
    let turn : IsTurnOf t None k.part = subst (λ o. IsTurnOf t o k.part) e good.turn in
    record { configuration = later; met = ((good.below.part.same w later below).0 inner).0; goes = (turn w later below inner, refl) }

abbrev OnlyNext : Theory → KorePattern → KorePattern → NextState → Type 0
OnlyNext t request p n = (v : Valuation) (later : Value) → GivesAll t.signature (p ∷ request ∷ []) v → IsOver t.signature p v n.state later → (c : Value) × IsInstance t.signature v p c × GoesTo t n.rule c later

only_next : (t : Theory) (request p : KorePattern) (s : SymbolicState) (cases : List StepCase) (k : StepCase) (n : NextState) → AreStepCases t s cases → IsAtHand t.signature request p s → IsWritten t.signature request p s k n → IsGoodCase t s k → OnlyNext t request p n
only_next t request p s cases k n step h written good v later given over =
    let g : KoreSignature = t.signature in
    let x : Valued g p s v = valued g request p s v h given in
    let at : AreAtHand s.variables k.next.variables = hand_in_hand s.variables k.part.state.variables k.next.variables good.hand.part good.hand.next in
    let j : Joined g s.variables k.next.variables n.state x.0 over.chosen =
    joined_hand g s.variables k.next.variables p n.state good.hand.values.0 v x.0 over.chosen h.pattern.at_hand at written.state.at_hand good.hand.one_sort written.none_lost.0
    good.hand.values.1 x.1.sorts x.1.agrees over.agrees over.sorts in
    let w : Valuation = j.chosen in
    let met : IsStateInstance g w k.next later = (written.state.instances w later j.sorts).0 (same_pattern_instance g n.state over.chosen w later j.on_pattern over.met) in
    let from : ComesOf t s k.rule w later = comes_of t s cases k w later k.rule refl step good j.sorts met in (
      from.configuration,
      pattern_instance g request p s v w from.configuration h (sorts_of_hand g w s.variables k.next.variables at j.sorts)
          (agrees_through (free_variables p) v x.0 w x.1.agrees (agree_of_hand x.0 w (free_variables p) s.variables h.pattern.at_hand j.agrees)) from.met,
      subst (λ o. GoesTo t o from.configuration later) (sym written.id) from.goes,
    )

only_part : (t : Theory) (request p : KorePattern) (s : SymbolicState) (k : StepCase) (n : NextState) → IsAtHand t.signature request p s → IsWritten t.signature request p s k n → IsGoodCase t s k → OfEach t.signature (request ∷ []) p (λ v c. IsTrueOver t.signature p v n.predicate → IsCase t n.rule c)
only_part t request p s k n h written good v c given met over =
    let x : Valued t.signature p s v = valued t.signature request p s v h given in
    let held : HoldsIn t.signature s x.0 c k.part = true_held t request p s k n v x.0 c h written good x.1 met over in
    subst (λ o. IsCase t o c) (sym written.id) (is_case t k.rule k.part held.chosen c good.turn held.sorts held.met)

held_part : (t : Theory) (request p : KorePattern) (s : SymbolicState) (k : StepCase) (n : NextState) → IsAtHand t.signature request p s → IsWritten t.signature request p s k n → IsGoodCase t s k → OfSome t.signature (request ∷ []) p (λ v c. IsTrueOver t.signature p v n.predicate)
held_part t request p s k n h written good =
    let g : KoreSignature = t.signature in
    let w : Valuation = good.hand.instance.0 in
    let c : Value = good.hand.instance.1 in
    let inner : GivesSorts g w k.part.state.variables = good.hand.instance.2 in
    let has : IsStateInstance g w k.part.state c = good.hand.instance.3 in
    let sorts : GivesSorts g w s.variables = sorts_of_hand g w s.variables k.part.state.variables good.hand.part inner in
    record {
      valuation = w;
      configuration = c;
      given = (sorts_of_hand g w (free_variables p) s.variables h.pattern.at_hand sorts, (sorts_of_hand g w (free_variables request) s.variables h.request_at_hand sorts, tt));
      met = (h.pattern.instances w c sorts).1 ((good.below.part.same w c inner).0 has).0;
      such = held_true t request p s k n w w c h written good (itself g request p s w sorts) (record { chosen = w; agrees = agree_itself s.variables w; sorts = inner; met = has });
    }

names_have_one_sort : (t : Theory) (request p : KorePattern) (s : SymbolicState) (k : StepCase) (n : NextState) → IsAtHand t.signature request p s → IsWritten t.signature request p s k n → IsGoodCase t s k → HaveOneSort (free_variables p ++ (free_variables n.state ++ free_variables n.predicate))
names_have_one_sort t request p s k n h written good =
    let M : List SortedName = k.next.variables in
    let P : List SortedName = k.part.state.variables in
    one_sort_in_hand (free_variables p ++ (free_variables n.state ++ free_variables n.predicate)) M
    (all_both (Contains M) (free_variables p) (free_variables n.state ++ free_variables n.predicate)
    (hand_in_hand (free_variables p) P M (hand_in_hand (free_variables p) s.variables P h.pattern.at_hand good.hand.part) good.hand.next)
    (all_both (Contains M) (free_variables n.state) (free_variables n.predicate) written.state.at_hand (hand_in_hand (free_variables n.predicate) P M written.predicate.at_hand good.hand.next)))
    good.hand.one_sort

pub next_states : (t : Theory) (request p : KorePattern) (s : SymbolicState) (cases : List StepCase) (nexts : List NextState) → IsAtHand t.signature request p s → AreStepCases t s cases → AllByRecursion (IsWithinHand t.signature s) cases → AllZip (IsWritten t.signature request p s) cases nexts → AreNextStates t request p nexts
next_states t request p s cases nexts h step hand written = record {
  parts = record {
    divided = λ v c given met case is.
        let x : Valued g p s v = valued g request p s v h given in
        one_of_zip R F (λ k. (id_in k.rule ≡ case) × HoldsIn g s x.0 c k.part) (λ n. (n.rule ≡ case) × IsTrueOver g p v n.predicate) cases nexts
        (λ k n r f a. (r.id ∙ a.0, held_true t request p s k n v x.0 c h r f x.1 a.1))
        (λ k n r f a. (sym r.id ∙ a.0, true_held t request p s k n v x.0 c h r f x.1 met a.1))
        written good
        (one_unmade placed (λ k. (id_in k.0 ≡ case) × HoldsIn g s x.0 c k.1) cases
        (subst (OfOneAlone (λ k. (id_in k.0 ≡ case) × HoldsIn g s x.0 c k.1)) (sym step.of_turns)
        (one_case t s step.turns step.remainder x.0 c x.1.sorts (state_instance g request p s v x.0 c h x.1 met) step.are_turns step.own_ids case is)));
    only = all_of_zip R F (λ n. OfEach g (request ∷ []) p (λ v c. IsTrueOver g p v n.predicate → IsCase t n.rule c)) cases nexts (λ k n r f. only_part t request p s k n h r f) written good;
    held = all_of_zip R F (λ n. OfSome g (request ∷ []) p (λ v c. IsTrueOver g p v n.predicate)) cases nexts (λ k n r f. held_part t request p s k n h r f) written good;
  };
  follow = record {
    found = λ v c given met case later goes.
        let x : Valued g p s v = valued g request p s v h given in
        any_of_zip R F (λ k. RuleHolds t s x.0 c later case (placed k)) (λ n. (n.rule ≡ case) × IsOver g p v n.state later) cases nexts
        (λ k n r f a. (r.id ∙ a.0, follows t request p s k n v x.0 c later k.rule refl h r f x.1 a.1 a.2))
        written good
        (any_unmade placed (RuleHolds t s x.0 c later case) cases
        (subst (AnyByRecursion (RuleHolds t s x.0 c later case)) (sym step.of_turns)
        (some_case t s step.turns step.remainder x.0 c later x.1.sorts (state_instance g request p s v x.0 c h x.1 met) step.are_turns case goes)));
    only = all_of_zip R F (OnlyNext t request p) cases nexts (λ k n r f. only_next t request p s cases k n step h r f) written good;
  };
  names = all_of_zip R F (λ n. HasNewNames request p n.state × HasNewNames request p n.predicate) cases nexts (λ k n r f. r.new_names) written good;
  predicates = all_of_zip R F (λ n. is_predicate n.predicate ≡ true) cases nexts (λ k n r f. r.is_predicate) written good;
  one_sort = all_of_zip R F (λ n. HaveOneSort (free_variables p ++ (free_variables n.state ++ free_variables n.predicate))) cases nexts (λ k n r f. names_have_one_sort t request p s k n h r f) written good;
}
  where
    g : KoreSignature
    g = t.signature

    R : StepCase → NextState → Type 0
    R = IsWritten t.signature request p s

    F : StepCase → Type 0
    F = IsGoodCase t s

    good : AllByRecursion (IsGoodCase t s) cases
    good = good_cases t s cases step hand
