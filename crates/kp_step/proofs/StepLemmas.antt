-- What is found of all rules, what follows in their parts, and what remains are the cases of a step.
use Rattle.std.proofs.Common.{◌≡◌, refl, sym, ap, subst, ◌∙◌, List, [], ◌∷◌, ◌++◌, map, Some, None}
use Rattle.std.specs.List.{AllByRecursion, AllZip, Contains, flat_map}
use Rattle.std.proofs.lemmas.List.{map-append}
use Rattle.kp_kore.specs.Syntax.{Text}
use Rattle.kp_kore.specs.Parts.{SortedName}
use Rattle.kp_kore.specs.Signature.{KoreSignature}
use Rattle.kp_kore.specs.Value.{Value, HasSort, Values, no_values, next_value, HaveSorts}
use Rattle.kp_kore.specs.Instance.{Valuation, GivesSorts}
use Rattle.kp_kore.specs.Rules.{RewriteRule}
use Rattle.kp_kore.specs.Theory.{Theory}
use Rattle.kp_kore.specs.Steps.{IsUnknown}
use Rattle.kp_kore.specs.Cases.{HaveOneSort}
use Rattle.kp_kore.proofs.ListLemmas.{all_append, all_left}
use Rattle.kp_kore.proofs.TurnLemmas.{each_member}
use Rattle.kp_kore.proofs.ArcLemmas.{sorts_stay}
use Rattle.kp_symbolic.specs.States.{SymbolicState, IsStateInstance}
use Rattle.kp_symbolic.specs.WellFormed.{AreAtHand}
use Rattle.kp_symbolic_laws.specs.Runs.{HasOneSortEach}
use Rattle.kp_symbolic.proofs.HeadQuestions.{assigned_all}
use Rattle.kp_case_laws.specs.Parts.{StatePart, whole, OfEachInstance, IsNewVariable, IsGrown}
use Rattle.kp_case_laws.specs.Narrowings.{sorts_of_names}
use Rattle.kp_case_laws.proofs.NewVariables.{scope_stays, new_sorts}
use Rattle.kp_case_laws.specs.Turns.{Turn, rules_of}
use Rattle.kp_case_laws.specs.NextStates.{StepCase, IsNext, placed, HaveOwnIds, AreStepCases, HaveValues, IsWithinHand, FollowsBy}
use Rattle.kp_case_laws.proofs.TurnsFound.{remainder_fires_none}
use Rattle.kp_unify.specs.Narrowed.{NumberedPart}
use Rattle.kp_step.specs.Places.{IsAt}
use Rattle.kp_step.specs.ReadyParts.{HasInstance, parts_of}
use Rattle.kp_step.specs.Remainders.{IsPartIn, AreUntaken}
use Rattle.kp_step.specs.Found.{PlacedTurn, IsTurnAmong, AreAllFound}
use Rattle.kp_step.specs.Follows.{PlacedNext, IsNextOf, IsNextAt, AreNextsOf}
use Rattle.kp_step.proofs.RemainderLemmas.{grown_hand}
use Rattle.kp_step.proofs.FoundLemmas.{turns_of, are_all_turns, turn_parts, turn_rules, own_ids}

-- ---- variables at hand

one_sort : (xs : List SortedName) → HasOneSortEach xs → HaveOneSort xs
one_sort xs h = each_member (λ x. AllByRecursion (λ y. x.name ≡ y.name → x.sort ≡ y.sort) xs) xs (λ x c. each_member (λ y. x.name ≡ y.name → x.sort ≡ y.sort) xs (λ y d e. h x y c d e))

values_for : (g : KoreSignature) (used : List Text) (new : List SortedName) → AllByRecursion (IsNewVariable g used) new → (us : Values) × HaveSorts g (sorts_of_names new) us
values_for g used [] h = (no_values, tt)
values_for g used (y ∷ new) h = let rest = values_for g used new h.1 in (next_value h.0.2 rest.0, (h.0.3, rest.1))

grown_values : (g : KoreSignature) (used : List Text) (p r : StatePart) (w : Valuation) → IsGrown g used p r → GivesSorts g w p.state.variables → HaveValues g r.state.variables
grown_values g used p r w a h =
    let us = values_for g used a.new a.each in
    let v : Valuation = assigned_all w a.new us.0 in (
      v,
      subst (λ xs. GivesSorts g v xs) (sym a.variables)
          (all_append (λ x. HasSort g x.sort (v x.name)) p.state.variables a.new
          (sorts_stay g p.state.variables w v (scope_stays w p.state.variables a.new us.0 a.are_new) h)
          (new_sorts g w p.state.variables a.new us.0 us.1 a.are_new)),
    )

-- ---- one case

abbrev pub case_by : RewriteRule → PlacedNext → StepCase
case_by r n = record { rule = Some r; part = n.part; next = n.state }

pub within_hand : (g : KoreSignature) (used : List Text) (s : SymbolicState) (r : RewriteRule) (p : StatePart) (n : PlacedNext) → IsGrown g used (whole s) p → HasInstance g p → n.part ≡ p → IsNextOf g used (whole s) r.body p n.state n.next → IsWithinHand g s (record { rule = Some r; part = n.part; next = n.state })
within_hand g used s r p n a i e f = record {
  part = subst (λ q. AreAtHand s.variables q.state.variables) (sym e) (grown_hand g used (whole s) p a);
  next = subst (λ q. AreAtHand q.state.variables n.state.variables) (sym e) f.at_hand;
  one_sort = one_sort n.state.variables f.ready.sorted.state.one_sort_each;
  values = grown_values g used (whole s) (whole n.state) i.valuation f.grown (hand_sorts a i.sorts);
  instance = subst (λ q. (w : Valuation) × (c : Value) × GivesSorts g w q.state.variables × IsStateInstance g w q.state c) (sym e) (i.valuation, i.configuration, i.sorts, i.met);
}
  where
    hand_sorts : IsGrown g used (whole s) p → GivesSorts g i.valuation p.state.variables → GivesSorts g i.valuation s.variables
    hand_sorts b h = all_left_of (subst (λ xs. GivesSorts g i.valuation xs) b.variables h)
      where
        all_left_of : GivesSorts g i.valuation (s.variables ++ b.new) → GivesSorts g i.valuation s.variables
        all_left_of k = all_left (λ x. HasSort g x.sort (i.valuation x.name)) s.variables b.new k

-- a part that remains
pub remains_at_hand : (g : KoreSignature) (used : List Text) (s : SymbolicState) (q : NumberedPart) → IsPartIn g used (whole s) (whole s) q → HasInstance g q.part → IsWithinHand g s (record { rule = None; part = q.part; next = q.part.state })
remains_at_hand g used s q a i = record {
  part = grown_hand g used (whole s) q.part a.grown;
  next = each_member (λ x. Contains q.part.state.variables x) q.part.state.variables (λ x c. c);
  one_sort = one_sort q.part.state.variables a.ready.sorted.state.one_sort_each;
  values = (i.valuation, i.sorts);
  instance = (i.valuation, i.configuration, i.sorts, i.met);
}

-- ---- the cases of one turn

abbrev pub cases_by : RewriteRule → List PlacedNext → List StepCase
cases_by r [] = []
cases_by r (n ∷ ns) = case_by r n ∷ cases_by r ns

placed_by : (t : Theory) (used : List Text) (s : StatePart) (k : PlacedTurn) (r : RewriteRule) (ps : List NumberedPart) (ns : List PlacedNext) → AllZip (IsNextAt t used s k) ps ns → map placed (cases_by r ns) ≡ map (λ p. (Some r, p)) (parts_of ps)
placed_by t used s k r [] [] z = refl
placed_by t used s k r [] (n ∷ ns) z = absurd z
placed_by t used s k r (p ∷ ps) [] z = absurd z
placed_by t used s k r (p ∷ ps) (n ∷ ns) z = two (z.0.part) (placed_by t used s k r ps ns z.1)
  where
    two : n.part ≡ p.part → map placed (cases_by r ns) ≡ map (λ q. (Some r, q)) (parts_of ps) → (Some r, n.part) ∷ map placed (cases_by r ns) ≡ (Some r, p.part) ∷ map (λ q. (Some r, q)) (parts_of ps)
    two e f = ap (λ q. (Some r, q) ∷ map placed (cases_by r ns)) e ∙ ap (λ zs. (Some r, p.part) ∷ zs) f

follow_by : (t : Theory) (used : List Text) (s : StatePart) (k : PlacedTurn) (r : RewriteRule) (ps : List NumberedPart) (ns : List PlacedNext) → IsAt t k.place r → AllZip (IsNextAt t used s k) ps ns → AllByRecursion (IsNext t.signature) (cases_by r ns)
follow_by t used s k r [] [] at z = tt
follow_by t used s k r [] (n ∷ ns) at z = absurd z
follow_by t used s k r (p ∷ ps) [] at z = absurd z
follow_by t used s k r (p ∷ ps) (n ∷ ns) at z = (subst (λ q. FollowsBy t.signature r.body q n.state) (sym z.0.part) (z.0.follows r at).follows, follow_by t used s k r ps ns at z.1)

hand_by : (t : Theory) (used : List Text) (s : SymbolicState) (m : StatePart) (k : PlacedTurn) (r : RewriteRule) (ps : List NumberedPart) (ns : List PlacedNext) → IsAt t k.place r → AllZip (IsNextAt t used (whole s) k) ps ns → AllByRecursion (IsPartIn t.signature used (whole s) m) ps → AllByRecursion (HasInstance t.signature) (parts_of ps) →
    AllByRecursion (IsWithinHand t.signature s) (cases_by r ns)
hand_by t used s m k r [] [] at z a i = tt
hand_by t used s m k r [] (n ∷ ns) at z a i = absurd z
hand_by t used s m k r (p ∷ ps) [] at z a i = absurd z
hand_by t used s m k r (p ∷ ps) (n ∷ ns) at z a i = (within_hand t.signature used s r p.part n a.0.grown i.0 z.0.part (z.0.follows r at), hand_by t used s m k r ps ns at z.1 a.1 i.1)

-- ---- all turns

abbrev pub all_cases : (t : Theory) (used : List Text) (s : StatePart) (all turns : List PlacedTurn) (ns : List PlacedNext) → AllByRecursion (IsTurnAmong t used s all) turns → AreNextsOf t used s turns ns → List StepCase
all_cases t used s all [] ns h z = []
all_cases t used s all (k ∷ turns) ns h z = cases_by h.0.turn.rule z.0 ++ all_cases t used s all turns z.1 h.1 z.4

pub all_placed : (t : Theory) (used : List Text) (s : StatePart) (all turns : List PlacedTurn) (ns : List PlacedNext) (h : AllByRecursion (IsTurnAmong t used s all) turns) (z : AreNextsOf t used s turns ns) →
    map placed (all_cases t used s all turns ns h z) ≡ flat_map (λ x. map (λ p. (Some x.rule, p)) x.parts) (turns_of t used s all turns h)
all_placed t used s all [] ns h z = refl
all_placed t used s all (k ∷ turns) ns h z =
    map-append placed (cases_by h.0.turn.rule z.0) (all_cases t used s all turns z.1 h.1 z.4)
    ∙ ap (λ xs. xs ++ map placed (all_cases t used s all turns z.1 h.1 z.4)) (placed_by t used s k h.0.turn.rule k.parts z.0 z.3)
    ∙ ap (λ xs. map (λ p. (Some h.0.turn.rule, p)) (parts_of k.parts) ++ xs) (all_placed t used s all turns z.1 h.1 z.4)

pub all_follow : (t : Theory) (used : List Text) (s : StatePart) (all turns : List PlacedTurn) (ns : List PlacedNext) (h : AllByRecursion (IsTurnAmong t used s all) turns) (z : AreNextsOf t used s turns ns) → AllByRecursion (IsNext t.signature) (all_cases t used s all turns ns h z)
all_follow t used s all [] ns h z = tt
all_follow t used s all (k ∷ turns) ns h z = all_append (IsNext t.signature) (cases_by h.0.turn.rule z.0) (all_cases t used s all turns z.1 h.1 z.4) (follow_by t used s k h.0.turn.rule k.parts z.0 h.0.turn.at z.3) (all_follow t used s all turns z.1 h.1 z.4)

pub all_hand : (t : Theory) (used : List Text) (s : SymbolicState) (all turns : List PlacedTurn) (ns : List PlacedNext) (h : AllByRecursion (IsTurnAmong t used (whole s) all) turns) (z : AreNextsOf t used (whole s) turns ns) → AllByRecursion (IsWithinHand t.signature s) (all_cases t used (whole s) all turns ns h z)
all_hand t used s all [] ns h z = tt
all_hand t used s all (k ∷ turns) ns h z = all_append (IsWithinHand t.signature s) (cases_by h.0.turn.rule z.0) (all_cases t used (whole s) all turns z.1 h.1 z.4)
    (hand_by t used s h.0.turn.met_part k h.0.turn.rule k.parts z.0 h.0.turn.at z.3 h.0.turn.left.each h.0.turn.instances) (all_hand t used s all turns z.1 h.1 z.4)

-- ---- the remainder

abbrev pub rest_cases : List NumberedPart → List StepCase
rest_cases [] = []
rest_cases (q ∷ qs) = record { rule = None; part = q.part; next = q.part.state } ∷ rest_cases qs

rest_placed : (qs : List NumberedPart) → map placed (rest_cases qs) ≡ map (λ p. (None, p)) (parts_of qs)
rest_placed [] = refl
rest_placed (q ∷ qs) = ap (λ xs. (None, q.part) ∷ xs) (rest_placed qs)

rest_follow : (g : KoreSignature) (qs : List NumberedPart) → AllByRecursion (IsNext g) (rest_cases qs)
rest_follow g [] = tt
rest_follow g (q ∷ qs) = (refl, rest_follow g qs)

rest_hand : (g : KoreSignature) (used : List Text) (s : SymbolicState) (qs : List NumberedPart) → AllByRecursion (IsPartIn g used (whole s) (whole s)) qs → AllByRecursion (HasInstance g) (parts_of qs) → AllByRecursion (IsWithinHand g s) (rest_cases qs)
rest_hand g used s [] a i = tt
rest_hand g used s (q ∷ qs) a i = (remains_at_hand g used s q a.0 i.0, rest_hand g used s qs a.1 i.1)

-- ---- the step

pub step_cases : (t : Theory) (used : List Text) (s : SymbolicState) (turns : List PlacedTurn) (ns : List PlacedNext) (rest : List NumberedPart) (f : AreAllFound t used (whole s) turns) (z : AreNextsOf t used (whole s) turns ns) → HaveOwnIds t.rules → OfEachInstance t.signature (whole s) (λ w c. ¬ IsUnknown t c) →
    AreUntaken t.signature used None (rules_of (turns_of t used (whole s) turns turns f.each)) (whole s) (whole s) rest → AreStepCases t s (all_cases t used (whole s) turns turns ns f.each z ++ rest_cases rest)
step_cases t used s turns ns rest f z own known l = record {
  turns = turns_of t used (whole s) turns turns f.each;
  remainder = parts_of rest;
  are_turns = record {
    rules = turn_rules t used (whole s) turns turns f.each;
    all = are_all_turns t used (whole s) turns f;
    parts = turn_parts t used (whole s) turns f;
    remain = remainder_fires_none t (whole s) (rules_of (turns_of t used (whole s) turns turns f.each)) (parts_of rest) (are_all_turns t used (whole s) turns f)
        (rules_are (turns_of t used (whole s) turns turns f.each) (turn_rules t used (whole s) turns turns f.each)) l.left;
  };
  own_ids = own_ids t used (whole s) turns turns f.each own f.own_places;
  of_turns = map-append placed (all_cases t used (whole s) turns turns ns f.each z) (rest_cases rest)
      ∙ ap (λ xs. xs ++ map placed (rest_cases rest)) (all_placed t used (whole s) turns turns ns f.each z)
      ∙ ap (λ xs. flat_map (λ x. map (λ p. (Some x.rule, p)) x.parts) (turns_of t used (whole s) turns turns f.each) ++ xs) (rest_placed rest);
  nexts = all_append (IsNext t.signature) (all_cases t used (whole s) turns turns ns f.each z) (rest_cases rest) (all_follow t used (whole s) turns turns ns f.each z) (rest_follow t.signature rest);
  known = known;
}
  where
    rules_are : (xs : List Turn) → AllByRecursion (λ x. Contains t.rules x.rule) xs → AllByRecursion (Contains t.rules) (rules_of xs)
    rules_are [] h = tt
    rules_are (x ∷ xs) h = (h.0, rules_are xs h.1)

pub all_within_hand : (t : Theory) (used : List Text) (s : SymbolicState) (turns : List PlacedTurn) (ns : List PlacedNext) (rest : List NumberedPart) (f : AreAllFound t used (whole s) turns) (z : AreNextsOf t used (whole s) turns ns) →
    AllByRecursion (IsPartIn t.signature used (whole s) (whole s)) rest → AllByRecursion (HasInstance t.signature) (parts_of rest) → AllByRecursion (IsWithinHand t.signature s) (all_cases t used (whole s) turns turns ns f.each z ++ rest_cases rest)
all_within_hand t used s turns ns rest f z a i = all_append (IsWithinHand t.signature s) (all_cases t used (whole s) turns turns ns f.each z) (rest_cases rest) (all_hand t used s turns turns ns f.each z) (rest_hand t.signature used s rest a i)
