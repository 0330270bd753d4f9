-- The beginning and the end of a left side's way.
use Rattle.std.proofs.Common.{◌≡◌, refl, sym, ap, subst, ◌∙◌, ℕ, ◌≤◌, true, List, [], ◌∷◌, ◌++◌, Option, Some, None, option_to_list, map, length, arith}
use Rattle.std.proofs.lemmas.List.{map-append, append-nil}
use Rattle.std.specs.List.{AllByRecursion}
use Rattle.kp_kore.specs.Syntax.{Text}
use Rattle.kp_kore.specs.Signature.{KoreSignature}
use Rattle.kp_kore.specs.Instance.{Valuation, GivesSorts}
use Rattle.kp_symbolic.specs.Terms.{term_instance, term_variables}
use Rattle.kp_symbolic_laws.specs.Runs.{HasOneSortEach}
use Rattle.kp_symbolic_laws.specs.Safe.{IsFormedState, IsSoundQuote}
use Rattle.kp_symbolic_laws.proofs.Step.{at_hand_given}
use Rattle.kp_rules.specs.Skeletons.{Form, Admits}
use Rattle.kp_case_laws.specs.Parts.{StatePart, IsTold, IsSortedPart}
use Rattle.kp_case_laws.specs.Narrowings.{are_never}
use Rattle.kp_case_laws.specs.Cases.{MetPart}
use Rattle.kp_case_laws.specs.Courses.{FormPair, beginning, all_equality_clauses, met_part, form_variables}
use Rattle.kp_case_laws.proofs.NarrowingLemmas.{never_true}
use Rattle.kp_case_laws.proofs.CourseLemmas.{equalities_say}
use Rattle.kp_case_laws.proofs.OnCourse.{on_begins, on_ends, on_ends_never}
use Rattle.kp_case_laws.proofs.OnRows.{all_bound}
use Rattle.kp_case_laws.proofs.GrownLemmas.{grown_itself}
use Rattle.kp_symbolic.specs.States.{Literal}
use Rattle.kp_unify.specs.Clash.{IsNeverOf}
use Rattle.kp_unify.specs.Matched.{IsLaid}
use Rattle.kp_unify.specs.Comes.{itself}
use Rattle.kp_unify.specs.Narrowed.{NumberedPart}
use Rattle.kp_unify.specs.Views.{pair_view}
use Rattle.kp_unify.specs.Way.{AreInUse, IsPlacedEquality, IsOnWay, Stage, IsAllApart, IsNextPair, IsGone, IsMeetable, IsMeeting}
use Rattle.kp_unify.specs.declared.course.Pair.{Pair}
use Rattle.kp_unify.proofs.LaidLemmas.{laid_begins}
use Rattle.kp_unify.proofs.PairLemmas.{never_next}

-- a left side begins
pub begun : (g : KoreSignature) (used : List Text) (left : Form) (p : StatePart) (next : ℕ) → IsTold g p → IsSortedPart g p → IsFormedState g (IsSoundQuote g) p.state → 1 ≤ next → AreInUse used (record { part = p; next = next }) → HasOneSortEach (form_variables left) →
    IsGone g used left p (record { course = beginning left p; next = next; apart = [] })
begun g used left p next told sorted formed from names one = record {
  told = told;
  one = one;
  way = record {
    on = on_begins g left p told sorted;
    here = record { grown = grown_itself g used p; sorted = sorted; formed = formed; begun = from; names = names; narrowed = itself };
    others = tt;
    asked = tt;
    formed = record { equalities = tt; bindings = tt; pairs = (formed.term, tt) };
    laid = laid_begins g left p;
  };
}

-- it ends, where no pair is left
pub ended_met : (g : KoreSignature) (used : List Text) (left : Form) (p : StatePart) (stage : Stage) → IsGone g used left p stage → stage.course.pairs ≡ [] → AllByRecursion (IsPlacedEquality g) stage.course.equalities → IsMeeting g used left p (met_part g stage.course) stage.next stage.apart
ended_met g used left p stage o e w = record {
  cases = on_ends g left p stage.course (map (λ q. q.part) stage.apart) o.way.on e;
  here = o.way.here;
  others = o.way.others;
  bound = all_bound g left p stage.course (map (λ q. q.part) stage.apart) o.one o.way.on e;
  normal = o.way.formed.bindings;
  equations = record { equalities = stage.course.equalities; are = refl; of_sort = o.way.on.sorted.equalities; asked = o.way.asked; normal = o.way.formed.equalities; placed = w; laid = subst (λ (ps : List FormPair). IsLaid g left (record { part = stage.course.part; equalities = stage.course.equalities; bindings = stage.course.bindings; pairs = ps })) e o.way.laid };
}

pub ended_never : (g : KoreSignature) (used : List Text) (left : Form) (p : StatePart) (stage : Stage) → IsGone g used left p stage → are_never (all_equality_clauses g stage.course.equalities) ≡ true → IsAllApart g left p
ended_never g used left p stage o e =
    on_ends_never g left p stage.course (map (λ q. q.part) stage.apart) o.told o.way.on
    (λ w c sorts met h. never_true g w (all_equality_clauses g stage.course.equalities) e ((equalities_say g stage.course.part stage.course.equalities w c o.way.on.sorted.equalities sorts met).1 h))

-- a form that stands for none of the term's values
pub clashed : (g : KoreSignature) (used : List Text) (left : Form) (p : StatePart) (next : ℕ) → IsGone g used left p (record { course = beginning left p; next = next; apart = [] }) →
    ((r w : Valuation) → GivesSorts g w (term_variables p.state.term) → ¬ Admits g r left (term_instance g w p.state.term)) → IsAllApart g left p
clashed g used left p next o never =
    never_next g used left p (record { course = record { part = p; equalities = []; bindings = []; pairs = [] }; next = next; apart = [] }) (record { form = left; term = p.state.term }) (record { told = o.told; one = o.one; way = o.way })
    (λ w c sorts met r. never r w (at_hand_given g w p.state.variables (term_variables p.state.term) sorts o.way.here.sorted.state.term_at_hand))

-- ---- as the code has it

pub set_out : (g : KoreSignature) (used : List Text) (left : Form) (q : NumberedPart) (stage : Stage) → IsMeetable g used left q → stage.course ≡ beginning left q.part → stage.apart ≡ [] → stage.next ≡ q.next → IsGone g used left q.part stage
set_out g used left q stage m course apart next =
    subst (λ k. IsGone g used left q.part (record { course = k; next = stage.next; apart = stage.apart })) (sym course)
    (subst (λ n. IsGone g used left q.part (record { course = beginning left q.part; next = n; apart = stage.apart })) (sym next)
    (subst (λ ps. IsGone g used left q.part (record { course = beginning left q.part; next = q.next; apart = ps })) (sym apart)
    (begun g used left q.part q.next m.told m.sorted m.formed m.begun m.names m.one)))

pub clashed_at_once : (g : KoreSignature) (used : List Text) (left : Form) (q : NumberedPart) → IsMeetable g used left q → IsNeverOf left q.part.state.term → IsAllApart g left q.part
clashed_at_once g used left q m never =
    clashed g used left q.part q.next (begun g used left q.part q.next m.told m.sorted m.formed m.begun m.names m.one) (λ r w given. never g r w q.part.state.sort m.sorted.state.term given)

-- with these pairs to come
abbrev pub with_rest : Stage → List FormPair → Stage
with_rest stage rest = record { course = record { part = stage.course.part; equalities = stage.course.equalities; bindings = stage.course.bindings; pairs = rest }; next = stage.next; apart = stage.apart }

pub taken : (g : KoreSignature) (used : List Text) (left : Form) (p : StatePart) (stage : Stage) (rest : List FormPair) (q : FormPair) → stage.course.pairs ≡ rest ++ q ∷ [] → IsGone g used left p stage → IsNextPair g used left p (with_rest stage rest) q
taken g used left p stage rest q e o = record {
  told = o.told;
  one = o.one;
  way = subst (λ ps. IsOnWay g used left p (with_rest stage ps).course stage.next stage.apart) e o.way;
}

pub none_left : (g : KoreSignature) (used : List Text) (left : Form) (p : StatePart) (stage : Stage) (rest : List FormPair) → stage.course.pairs ≡ rest → rest ≡ [] → IsGone g used left p stage → IsGone g used left p (with_rest stage rest) × (rest ≡ [])
none_left g used left p stage rest e n o = (subst (λ ps. IsGone g used left p (with_rest stage ps)) e o, n)

pub one_taken : (before after : List Pair) (o : Option Pair) (q : Pair) → before ≡ after ++ option_to_list o → o ≡ Some q → map pair_view before ≡ map pair_view after ++ pair_view q ∷ []
one_taken before after o q e s = ap (map pair_view) (e ∙ ap (λ x. after ++ option_to_list x) s) ∙ map-append pair_view after (q ∷ [])

pub all_taken : (before after : List Pair) (o : Option Pair) → before ≡ after ++ option_to_list o → o ≡ None → map pair_view before ≡ map pair_view after
all_taken before after o e s = ap (map pair_view) (e ∙ ap (λ x. after ++ option_to_list x) s ∙ append-nil after)

pub nothing_of : (rest : List Pair) (n : ℕ) → n ≡ length rest → n ≡ 0 → map pair_view rest ≡ []
nothing_of [] n e z = refl
nothing_of (q ∷ rest) n e z = absurd (omega (arith, e, z))

pub met_so : (g : KoreSignature) (used : List Text) (left : Form) (p : StatePart) (stage : Stage) (met : MetPart) (equations : List (List Literal)) (next : ℕ) (apart : List NumberedPart) → IsGone g used left p stage → stage.course.pairs ≡ [] → AllByRecursion (IsPlacedEquality g) stage.course.equalities →
    equations ≡ all_equality_clauses g stage.course.equalities → met ≡ record { part = stage.course.part; equations = equations; bindings = stage.course.bindings } → next ≡ stage.next → apart ≡ stage.apart → IsMeeting g used left p met next apart
met_so g used left p stage met equations next apart o none placed says is same all =
    let here : met ≡ met_part g stage.course = is ∙ ap (λ cs. record { part = stage.course.part; equations = cs; bindings = stage.course.bindings }) says in
    subst (λ m. IsMeeting g used left p m next apart) (sym here)
    (subst (λ n. IsMeeting g used left p (met_part g stage.course) n apart) (sym same)
    (subst (λ ps. IsMeeting g used left p (met_part g stage.course) stage.next ps) (sym all) (ended_met g used left p stage o none placed)))

pub numbered_as : (q : NumberedPart) (p : StatePart) (next : ℕ) → q.part ≡ p → q.next ≡ next → q ≡ record { part = p; next = next }
numbered_as q p next e f = ap (λ x. record { part = x; next = q.next }) e ∙ ap (λ n. record { part = p; next = n }) f
