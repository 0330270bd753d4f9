-- A rule meets a state where its left side stands for an instance.
use Rattle.std.proofs.Common.{◌≡◌, refl, sym, subst, false, List, [], ◌∷◌, Some, inl, inr}
use Rattle.std.specs.List.{AllByRecursion, Contains}
use Rattle.std.specs.Prelude.{◌↔◌, Option, IsTrue}
use Rattle.kp_kore.specs.Syntax.{Text, KoreSort, sort_of, sort_variable, KoreSorts, no_sorts, next_sort}
use Rattle.kp_kore.specs.Signature.{KoreSignature, SymbolMeaning, injection, construction, interpretation, foreign, meaning_of, itself}
use Rattle.kp_kore.specs.Sorting.{result_sort}
use Rattle.kp_kore.specs.Value.{Value, Values, HasSort}
use Rattle.kp_kore.specs.Instance.{Valuation, GivesSorts, applied}
use Rattle.kp_kore.specs.Rules.{RuleBody, rewrite, ForeignLeft, foreign_rule, Rewrite, RewriteRule}
use Rattle.kp_kore.specs.Sorted.{IsSorted}
use Rattle.kp_kore.specs.Foreign.{IsAnyOf, IsAnyOfMaybe, IsConstructedBy, by_meaning, IsSkeletonInstance}
use Rattle.kp_kore.specs.Steps.{Fires}
use Rattle.kp_kore.specs.Theory.{Theory}
use Rattle.kp_kore.proofs.TurnLemmas.{of_member}
use Rattle.kp_compile.specs.Spelled.{places_of}
use Rattle.kp_symbolic.specs.Terms.{SymbolicTerm, unknown, offset, known, headed, SymbolicTerms, no_terms, next_term, term_instance, term_instances, term_variables, all_term_variables, Replaced, under_replaced}
use Rattle.kp_symbolic.specs.States.{Literal, AreTrue, SymbolicState, IsStateInstance}
use Rattle.kp_symbolic.specs.WellFormed.{IsWellSorted, AreWellSorted, stands_in_terms}
use Rattle.kp_symbolic.specs.Sources.{MayMean, AllMayMean}
use Rattle.kp_symbolic.proofs.WellSorted.{term_sorted}
use Rattle.kp_symbolic.proofs.Distribution.{all_first, all_second}
use Rattle.kp_symbolic_laws.specs.Runs.{IsSortedState}
use Rattle.kp_satisfiability.specs.Read.{HasSortedClauses}
use Rattle.kp_rules.specs.LeftSides.{IsLeftSide}
use Rattle.kp_rules.specs.Skeletons.{Form, skeleton_view, IsAdmitted}
use Rattle.kp_rules.specs.declared.skeleton.Skeleton.{Skeleton}
use Rattle.kp_overlap.specs.Overlaps.{MeetsForm}
use Rattle.kp_case_laws.specs.Parts.{StatePart, whole, with_clauses, OfEachInstance, IsPartBelow}
use Rattle.kp_case_laws.specs.Cases.{IsMetBy, left_side}
use Rattle.kp_case_laws.proofs.CaseLemmas.{all_bound}
use Rattle.kp_case_laws.proofs.PartLemmas.{clauses_restrict}
use Rattle.kp_case_laws.specs.Turns.{FiresFirst, rules_of}
use Rattle.kp_case_laws.proofs.AtHandLemmas.{sorts_of_hand}
use Rattle.kp_case_laws.proofs.PartsWhere.{instance_above}
use Rattle.kp_unify.specs.Narrowed.{NumberedPart}
use Rattle.kp_step.specs.ReadyParts.{HasInstance, parts_of}
use Rattle.kp_step.specs.Ready.{IsWholeReady}
use Rattle.kp_step.specs.Remainders.{IsOneOf}
use Rattle.kp_step.specs.Found.{PlacedTurn, IsTurnAmong}
use Rattle.kp_step.specs.Meets.{IsOfLeft, MeetsRule, AllMeet}
use Rattle.kp_step.specs.Answers.{AreMet, IsMetAnswer, TellsWhereMet}
use Rattle.kp_step.specs.declared.part_answers.PartAnswer as answers
use Rattle.kp_step.specs.declared.part_answers.PartAnswer.TheVariants as answer
use Rattle.kp_step.proofs.FoundLemmas.{turns_of}

-- ---- an instance of a term is what the term may mean

any_of : (g : KoreSignature) (s : KoreSort) (u : Value) → HasSort g s u → IsAnyOf g s u
any_of g (sort_of n ss) u h = h
any_of g (sort_variable n) u h = tt

any_maybe : (g : KoreSignature) (o : Option KoreSort) (s : KoreSort) (u : Value) → o ≡ Some s → HasSort g s u → IsAnyOfMaybe g o u
any_maybe g o s u e h = subst (λ x. IsAnyOfMaybe g x u) (sym e) (any_of g s u h)

by_head : (g : KoreSignature) (v : Valuation) (f : Text) (ts : SymbolicTerms) (us : Values) (u : Value) (m : SymbolMeaning) → IsTrue (stands_in_terms m) → AllMayMean g v ts us → u ≡ applied m f us → IsAnyOfMaybe g (result_sort g f no_sorts) u →
    by_meaning m (IsConstructedBy f (AllMayMean g v ts) u) ⊥ (IsAnyOfMaybe g (result_sort g f no_sorts) u)
by_head g v f ts us u construction s a e any = subst (IsConstructedBy f (AllMayMean g v ts)) (sym e) (refl, a)
by_head g v f ts us u injection s a e any = never s
  where
    never : IsTrue false → {X : Type 0} → X
    never n = absurd (cc)
by_head g v f ts us u (interpretation h) s a e any = any
by_head g v f ts us u foreign s a e any = never s
  where
    never : IsTrue false → {X : Type 0} → X
    never n = absurd (cc)

mutual
  pub may_mean : (g : KoreSignature) (v : Valuation) (s : KoreSort) (t : SymbolicTerm) → IsWellSorted g s t → GivesSorts g v (term_variables t) → MayMean g v t (term_instance g v t)
  may_mean g v s (unknown x) w h = (refl, h.0)
  may_mean g v s (offset x c) w h = term_sorted g v x.sort (offset x c) (w.0, w.1, itself x.sort) h
  may_mean g v s (known u) w h = refl
  may_mean g v s (headed f ts) w h =
      let t = headed f ts in
      let own = w.1.0 in
      by_head g v f ts (term_instances g v ts) (term_instance g v t) (meaning_of g f) w.0 (all_may_mean g v (places_of g f) ts w.2 h) refl
      (any_maybe g (result_sort g f no_sorts) own (term_instance g v t) w.1.1 (term_sorted g v own t (w.0, (own, w.1.1, itself own), w.2) h))

  all_may_mean : (g : KoreSignature) (v : Valuation) (ss : KoreSorts) (ts : SymbolicTerms) → AreWellSorted g ss ts → GivesSorts g v (all_term_variables ts) → AllMayMean g v ts (term_instances g v ts)
  all_may_mean g v no_sorts no_terms w h = tt
  all_may_mean g v (next_sort s ss) (next_term t ts) w h = (
    may_mean g v s t w.0 (all_first (λ x. HasSort g x.sort (v x.name)) (term_variables t) (all_term_variables ts) h),
    all_may_mean g v ss ts w.1 (all_second (λ x. HasSort g x.sort (v x.name)) (term_variables t) (all_term_variables ts) h),
  )
  all_may_mean g v no_sorts (next_term t ts) w h = absurd w
  all_may_mean g v (next_sort s ss) no_terms w h = absurd w

-- ---- an instance of the state

-- it has the state's sort, and is what the state's term may mean
pub instance_sort : (g : KoreSignature) (s : SymbolicState) (w : Valuation) (c : Value) → IsSortedState g s → GivesSorts g w s.variables → IsStateInstance g w s c → HasSort g s.sort c
instance_sort g s w c k h i = subst (λ u. HasSort g s.sort u) (sym i.term) (term_sorted g w s.sort s.term k.term (sorts_of_hand g w (term_variables s.term) s.variables k.term_at_hand h))

pub instance_means : (g : KoreSignature) (s : SymbolicState) (w : Valuation) (c : Value) → IsSortedState g s → GivesSorts g w s.variables → IsStateInstance g w s c → MayMean g w s.term c
instance_means g s w c k h i = subst (MayMean g w s.term) (sym i.term) (may_mean g w s.sort s.term k.term (sorts_of_hand g w (term_variables s.term) s.variables k.term_at_hand h))

-- the left side stands for it
pub instance_meets : (g : KoreSignature) (s : SymbolicState) (body : RuleBody) (w : Valuation) (c : Value) → IsSortedState g s → GivesSorts g w s.variables → IsStateInstance g w s c → IsOfLeft g body c → MeetsRule g s body
instance_meets g s body w c k h i left = record {
  value = c;
  sort = instance_sort g s w c k h i;
  valuation = w;
  of_state = instance_means g s w c k h i;
  of_left = left;
}

fires_of_left : (g : KoreSignature) (body : RuleBody) (c : Value) → Fires g body c → IsOfLeft g body c
fires_of_left g (rewrite m) c f = (f.0, (f.1.sorts, f.1.matches))
fires_of_left g (foreign_rule l) c f = absurd f

-- ---- rules that have their turn

pub some_part_meets : (g : KoreSignature) (s : SymbolicState) (r : RewriteRule) (before : List RewriteRule) (parts : List StatePart) → IsSortedState g s → ¬ (parts ≡ []) → AllByRecursion (IsPartBelow g (whole s)) parts →
    AllByRecursion (λ p. OfEachInstance g p (λ w c. FiresFirst g before r c)) parts → AllByRecursion (HasInstance g) parts → MeetsRule g s r.body
some_part_meets g s r before [] k some below only has = absurd (some refl)
some_part_meets g s r before (p ∷ parts) k some below only has =
    let i = has.0 in
    instance_meets g s r.body i.valuation i.configuration k (below.0.part.within.sorts i.valuation i.sorts) (instance_above g (whole s) p i.valuation i.configuration below.0 i.sorts i.met)
    (fires_of_left g r.body i.configuration (only.0 i.valuation i.configuration i.sorts i.met).0)

pub no_parts : (ps : List NumberedPart) → parts_of ps ≡ [] → ps ≡ []
no_parts [] e = refl
no_parts (p ∷ ps) e = absurd (cc)

pub turns_meet : (t : Theory) (used : List Text) (s : SymbolicState) (all turns : List PlacedTurn) (h : AllByRecursion (IsTurnAmong t used (whole s) all) turns) → AllMeet t.signature s (rules_of (turns_of t used (whole s) all turns h))
turns_meet t used s all [] h = tt
turns_meet t used s all (k ∷ turns) h = (h.0.turn.meets, turns_meet t used s all turns h.1)

-- ---- the rule that is asked for, and those that take from it

all_of : (g : KoreSignature) (s : SymbolicState) (rules : List RewriteRule) (r : RewriteRule) → AllMeet g s rules → Contains rules r → MeetsRule g s r.body
all_of g s rules r h c = of_member (λ q. MeetsRule g s q.body) rules r h c

pub one_of_these_meets : (g : KoreSignature) (s : SymbolicState) (rule : Option RewriteRule) (turns : List RewriteRule) → ((r : RewriteRule) → rule ≡ Some r → MeetsRule g s r.body) → AllMeet g s turns → (b : RuleBody) → IsOneOf rule turns b → MeetsRule g s b
one_of_these_meets g s rule turns asked all b o = subst (MeetsRule g s) o.2 (elim o.1 [ inl c ↦ all_of g s turns o.0 all c | inr e ↦ asked o.0 e ])

pub only_it : (g : KoreSignature) (s : SymbolicState) (q : RewriteRule) → MeetsRule g s q.body → (r : RewriteRule) → Some q ≡ Some r → MeetsRule g s r.body
only_it g s q own r e = subst (λ x. MeetsRule g s x.body) (some_inside e) own
  where
    some_inside : {x y : RewriteRule} → Some x ≡ Some y → x ≡ y
    some_inside d = cc

-- the whole of a state that a step begins with has the sorts of its places
pub whole_sorted : (g : KoreSignature) (used : List Text) (s : SymbolicState) (q : NumberedPart) → IsWholeReady g used s q → IsSortedState g s
whole_sorted g used s q w = subst (λ p. IsSortedState g p.state) w.is w.ready.sorted.state

-- ---- left sides as forms

-- the state is met by the rule that is read where its left side, as a form, meets it
pub form_meets : (g : KoreSignature) (s : SymbolicState) (m : Rewrite) (form : Form) → IsLeftSide g m form → MeetsForm g s.sort s.term form → MeetsRule g s (rewrite m)
form_meets g s m form l k = record { value = k.value; sort = k.sort; valuation = k.of_state; of_state = k.is_term; of_left = (k.of_rule, (l.stands k.of_rule k.value).0 k.is_left) }

pub rule_meets : (g : KoreSignature) (s : SymbolicState) (m : Rewrite) (form : Form) → IsLeftSide g m form → MeetsRule g s (rewrite m) → MeetsForm g s.sort s.term form
rule_meets g s m form l k = record { value = k.value; sort = k.sort; of_state = k.valuation; is_term = k.of_state; of_rule = k.of_left.0; is_left = (l.stands k.of_left.0 k.value).1 k.of_left.1 }

-- and by the foreign rule, where the form stands for what its left side may
pub foreign_meets : (g : KoreSignature) (s : SymbolicState) (l : ForeignLeft) (k : Skeleton) → ((u : Value) → IsSorted g u → IsAdmitted g k u ↔ IsSkeletonInstance g l u) → MeetsForm g s.sort s.term (skeleton_view k) → MeetsRule g s (foreign_rule l)
foreign_meets g s l k stands m = record { value = m.value; sort = m.sort; valuation = m.of_state; of_state = m.is_term; of_left = (stands m.value (s.sort, m.sort)).0 (m.of_rule, m.is_left) }

-- ---- where a rule fires, or its left side is met

-- in a part below the state, where the equations are true
equations_meet : (g : KoreSignature) (s : SymbolicState) (left : Form) (p : StatePart) (equations : List (List Literal)) (bindings : List Replaced) → IsSortedState g s → IsPartBelow g (whole s) p → IsMetBy g (left_side g left) (record { part = p; equations = equations; bindings = bindings }) →
    (w : Valuation) (c : Value) → GivesSorts g w p.state.variables → IsStateInstance g w p.state c → AreTrue g w equations → MeetsForm g s.sort s.term left
equations_meet g s left p equations bindings k below met w c h i says =
    let r = under_replaced g bindings w in
    let sorts = sorts_of_hand g w (term_variables s.term) s.variables k.term_at_hand (below.part.within.sorts w h) in
    let j = instance_above g (whole s) p w c below h i in
    record {
      value = c;
      sort = subst (λ u. HasSort g s.sort u) (sym j.term) (term_sorted g w s.sort s.term k.term sorts);
      of_state = w;
      is_term = subst (MayMean g w s.term) (sym j.term) (may_mean g w s.sort s.term k.term sorts);
      of_rule = r;
      is_left = (met.exactly w c h i r).1 (says, all_bound g w bindings bindings met.once);
    }

-- so each instance of the part with clauses that tell the equations
pub clauses_meet : (g : KoreSignature) (s : SymbolicState) (left : Form) (p : StatePart) (equations clauses : List (List Literal)) (bindings : List Replaced) → IsSortedState g s → IsPartBelow g (whole s) p → IsMetBy g (left_side g left) (record { part = p; equations = equations; bindings = bindings }) →
    ((w : Valuation) → AreTrue g w clauses → AreTrue g w equations) → AreMet g s left (with_clauses p clauses).state
clauses_meet g s left p equations clauses bindings k below met tell w c h i =
    let both = ((clauses_restrict g p clauses).instances w c h).0 i in
    equations_meet g s left p equations bindings k below met w c h both.0 (tell w both.1)

pub other_form : (g : KoreSignature) (s : SymbolicState) (m : Rewrite) (form left : Form) → IsLeftSide g m form → IsLeftSide g m left → MeetsForm g s.sort s.term form → MeetsForm g s.sort s.term left
other_form g s m form left f l k = rule_meets g s m left l (form_meets g s m form f k)

-- what is told where such a part is asked for, of the state as the code has it
pub met_answer : (g h : KoreSignature) (s y p x : SymbolicState) (left : Form) (a : answers.PartAnswer) → h ≡ g → y ≡ s → x ≡ p → HasSortedClauses g p → AreMet g s left p → TellsWhereMet h y x left a → IsMetAnswer g s p left a
met_answer g h s y p x left a e f d sorted met told =
    let one = subst (λ k. TellsWhereMet k y x left a) e told in
    let two = subst (λ u. TellsWhereMet g u x left a) f one in
    subst (λ u. TellsWhereMet g s u left a) d two sorted met

-- where such a part has an instance
pub instance_answer : (g : KoreSignature) (s p : SymbolicState) (left : Form) → HasInstance g (whole p) → AreMet g s left p → IsMetAnswer g s p left answer.Instance
instance_answer g s p left i met = record { right = i; meets = λ n. met i.valuation i.configuration i.sorts i.met }
