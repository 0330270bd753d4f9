-- What is found of one rule, by what the code tells of its parts.
use Rattle.std.proofs.Common.{◌≡◌, refl, sym, ap, subst, ◌∙◌, arith, ℕ, ◌==◌, true, false, length, List, [], ◌∷◌, ◌++◌, Option, Some, None, Result, Ok, Err, IfOk, inl, inr, ◌⊎◌}
use Rattle.std.specs.List.{AllByRecursion, AllZip, Contains}
use Rattle.std.specs.Option.{option_map}
use Rattle.std.proofs.lemmas.Bool.Decides.{Decides-eqb}
use Rattle.std.proofs.lemmas.List.Elements.{Contains-push, Contains-append_left, Contains-append_right}
use Rattle.kp_kore.specs.Syntax.{Text}
use Rattle.kp_kore.specs.Signature.{KoreSignature}
use Rattle.kp_kore.specs.Rules.{Rewrite, rewrite, RewriteRule}
use Rattle.kp_kore.specs.Theory.{Theory}
use Rattle.kp_kore.specs.Steps.{Fires, HasTurn, IsUnknown, AnyByRecursion}
use Rattle.kp_kore.specs.Instance.{Valuation, is_named}
use Rattle.kp_kore.proofs.NameLemmas.{true_is_false}
use Rattle.kp_symbolic.specs.Terms.{Replaced}
use Rattle.kp_symbolic.specs.States.{Literal, IsClauseTrue, AreTrue, SymbolicState}
use Rattle.kp_symbolic.proofs.Distribution.{all_first}
use Rattle.kp_symbolic_laws.specs.Runs.{IsSortedState}
use Rattle.kp_symbolic.specs.View.{clauses_view}
use Rattle.kp_rules.specs.Skeletons.{Form, skeleton_view}
use Rattle.kp_rules.specs.declared.skeleton.Skeleton.{Skeleton}
use Rattle.kp_rules.specs.LeftSides.{IsLeftSide}
use Rattle.kp_rules.specs.LeftForms.{left_form}
use Rattle.kp_step.specs.Comes.{IsFormOf}
use Rattle.kp_overlap.specs.Overlaps.{MeetsForm}
use Rattle.kp_rules.specs.Sides.{AreSidesOf}
use Rattle.kp_rules.specs.VerifiedSides.{AreVerifiedSides}
use Rattle.kp_rules.specs.declared.sides.ReadSides.{ReadSides}
use Rattle.kp_limits.specs.Wide.{WideCall, first_wide}
use Rattle.kp_case_laws.specs.Parts.{StatePart, whole, with_clauses, OfEachInstance}
use Rattle.kp_case_laws.specs.Courses.{form_variables}
use Rattle.kp_case_laws.specs.Firing.{HasNoInstance, FiresNowhere, AreFiringCases}
use Rattle.kp_unify.specs.Narrowed.{NumberedPart}
use Rattle.kp_unify.specs.Views.{part_view, numbered_view}
use Rattle.kp_unify.specs.declared.part.Part.{Part}
use Rattle.kp_step.specs.ReadyParts.{IsReadyPart, HasInstance, parts_of}
use Rattle.kp_step.specs.Firings.{clauses_of_firing, FiresOn}
use Rattle.kp_step.specs.declared.firing.Firing.{Firing}
use Rattle.kp_step.proofs.SilentLemmas.{fires_nowhere_there}
use Rattle.kp_step.specs.Places.{IsAt, IsReadAs, IsPriorityAt}
use Rattle.kp_step.specs.Rules.{TellsRead}
use Rattle.kp_step.specs.Ready.{IsWholeReady}
use Rattle.kp_step.specs.Remainders.{IsPartIn, AreUntaken}
use Rattle.kp_step.specs.Found.{PlacedTurn, IsRuleAt, IsMetIn, IsTurnAt, AreTriedBefore}
use Rattle.kp_step.specs.Causes.{AreAllBefore}
use Rattle.kp_step.specs.Limits.{TermLimit, number, Passes, PassesNone, HasNoWideCondition, IsPassed}
use Rattle.kp_step.specs.Meets.{MeetsRule, AllMeet}
use Rattle.kp_step.specs.Tries.{PlacedFiring, narrowed_of, IsLeftAt, IsFiringOf, CanMeet, AreTurnParts}
use Rattle.kp_step.specs.Views.{numbered_views, limit_view}
use Rattle.kp_step.specs.RightSteps.{IsBehindRule, IsToldUndecided}
use Rattle.kp_step.specs.Answers.{IsRightAnswerOf, AreMet, IsMetAnswer, TellsWhereMet, firing_model, AreDecided, TellsParts}
use Rattle.kp_step.specs.declared.part_answers.UndecidedClauses.{UndecidedClauses}
use Rattle.kp_step.specs.declared.part_answers.PartAnswer as answers
use Rattle.kp_step.specs.declared.part_answers.PartAnswer.TheVariants as answer
use Rattle.kp_step.specs.declared.part_answers.Decided as decisions
use Rattle.kp_step.specs.declared.part_answers.Decided.TheVariants as decided
use Rattle.kp_step.specs.declared.outcome.StepLimit.{StepLimit}
use Rattle.kp_step.proofs.AnswerLemmas.{MayBe, may_by_instance, may_by_open}
use Rattle.kp_step.proofs.FiringLemmas.{is_firing}
use Rattle.kp_step.proofs.LimitLemmas.{none_wide}
use Rattle.kp_step.proofs.FoundLemmas.{one_at, contains_at}
use Rattle.kp_step.proofs.MeetLemmas.{no_parts, some_part_meets, form_meets, clauses_meet, other_form, met_answer}
use Rattle.kp_step.proofs.TryLemmas.{fires_there, rules_are_found, rules_in_theory, no_turn_at, unread_no_turn}
use Rattle.kp_step.proofs.TurnLemmas.{can_meet, met_sorted, narrowed_sorted, nothing_there, parts_told, passes_condition, no_wide_condition}
use Rattle.kp_step.specs.Promises.{TellsNoNumber, IsBehindNumber}
use Rattle.kp_step.specs.declared.turns.Tried.{Tried}
use Rattle.kp_step.specs.declared.turns.Tried.TheVariants as tried
use Rattle.kp_step.specs.declared.outcome.StepOutcome.TheVariants as outcome

-- ---- whether its left side may meet the part

nothing_in : (g : KoreSignature) (p : StatePart) → HasNoInstance g (whole p.state) → HasNoInstance g p
nothing_in g p none = λ w c h k. none w c h k

may_be : (g : KoreSignature) (s x : SymbolicState) (a : answers.PartAnswer) → ¬ (a ≡ answer.Nothing) → IsRightAnswerOf g s x a → MayBe g x
may_be g s x answer.Instance some i = may_by_instance g x i
may_be g s x answer.Nothing some i = absurd (some refl)
may_be g s x (answer.UndecidedClauses o) some i = may_by_open g s x o i

pub some_answer : (a : answers.PartAnswer) → (a ≡ answer.Instance) ⊎ ((o : UndecidedClauses) × (a ≡ answer.UndecidedClauses o)) → ¬ (a ≡ answer.Nothing)
some_answer a (inl i) e = let f : answer.Instance ≡ answer.Nothing = sym i ∙ e in absurd (cc)
some_answer a (inr i) e = let f : answer.UndecidedClauses i.0 ≡ answer.Nothing = sym i.1 ∙ e in absurd (cc)

same_read : {m n : Rewrite} → rewrite m ≡ rewrite n → m ≡ n
same_read e = cc

-- the sides' left side is that of the place's rule
pub left_at : (t : Theory) (place : ℕ) (m : Rewrite) (sides : ReadSides) → IsReadAs t place m → AreSidesOf t.signature m sides → IsLeftAt t place sides.left
left_at t place m sides r s n h =
    let body : rewrite m ≡ rewrite n = sym r.2 ∙ (ap (λ q. q.body) (one_at t place r.0 h.0 r.1 h.1) ∙ h.2) in
    subst (λ x. IsLeftSide t.signature x (skeleton_view sides.left) × (skeleton_view sides.left ≡ left_form t.signature x.left)) (same_read body) (s.left, s.form)

-- the rule's left side, as the form by which it fires
left_here : (t : Theory) (used : List Text) (s : SymbolicState) (place : ℕ) (f : PlacedFiring) (k : Skeleton) (i : IsFiringOf t used s place f) → IsLeftAt t place k → IsLeftSide t.signature i.read (skeleton_view k)
left_here t used s place f k i at = (at i.read (i.rule, i.at, i.body)).0

-- as the form of the rule
pub form_here : (t : Theory) (used : List Text) (s : SymbolicState) (place : ℕ) (f : PlacedFiring) (k : Skeleton) (i : IsFiringOf t used s place f) → IsLeftAt t place k → IsFormOf t.signature i.rule.body (skeleton_view k)
form_here t used s place f k i at = subst (λ b. IsFormOf t.signature b (skeleton_view k)) (sym i.body) (at i.read (i.rule, i.at, i.body)).1

-- it meets the state where the part with clauses that tell the equations has an instance
met_there : (t : Theory) (used : List Text) (s : SymbolicState) (place : ℕ) (f : PlacedFiring) (k : Skeleton) (clauses : List (List Literal)) (i : IsFiringOf t used s place f) → IsSortedState t.signature s → IsLeftAt t place k → ((w : Valuation) → AreTrue t.signature w clauses → AreTrue t.signature w f.equations) →
    AreMet t.signature s (skeleton_view k) (with_clauses f.part.part clauses).state
met_there t used s place f k clauses i sorted at tell w c h j =
    other_form t.signature s i.read i.form (skeleton_view k) i.left (left_here t used s place f k i at) (clauses_meet t.signature s i.form f.part.part f.equations clauses f.bindings sorted i.cases.divided.below.0 i.meets_so tell w c h j)

-- and so does the rule
rule_there : (t : Theory) (used : List Text) (s : SymbolicState) (place : ℕ) (f : PlacedFiring) (k : Skeleton) (i : IsFiringOf t used s place f) → IsLeftAt t place k → MeetsForm t.signature s.sort s.term (skeleton_view k) → (r : RewriteRule) → IsAt t place r → MeetsRule t.signature s r.body
rule_there t used s place f k i at m r here = subst (λ x. MeetsRule t.signature s x.body) (one_at t place i.rule r i.at here) (subst (MeetsRule t.signature s) (sym i.body) (form_meets t.signature s i.read (skeleton_view k) (left_here t used s place f k i at) m))

pub may_meet : (t : Theory) (used : List Text) (s y : SymbolicState) (place : ℕ) (f : PlacedFiring) (k : Skeleton) (g : KoreSignature) (x : SymbolicState) (a : answers.PartAnswer) → g ≡ t.signature → y ≡ s → IsSortedState t.signature s → IsLeftAt t place k → IsFiringOf t used s place f → x ≡ (with_clauses f.part.part f.equations).state →
    TellsWhereMet g y x (skeleton_view k) a → ¬ (a ≡ answer.Nothing) → CanMeet t s place f
may_meet t used s y place f k g x a e d sorted at i same told some =
    let z = (with_clauses f.part.part f.equations).state in
    let m = met_answer t.signature g s y z x (skeleton_view k) a e d same (met_sorted t used s place f i) (met_there t used s place f k f.equations i sorted at (λ w h. h)) told in
    can_meet t s place f (rule_there t used s place f k i at (m.meets some)) (may_be t.signature s z a some m.right)

-- it stands for no instance, where that is known
pub not_met : (t : Theory) (used : List Text) (s y : SymbolicState) (place : ℕ) (f : PlacedFiring) (k : Skeleton) (g : KoreSignature) (x : SymbolicState) (a : answers.PartAnswer) → g ≡ t.signature → y ≡ s → IsSortedState t.signature s → IsLeftAt t place k → IsFiringOf t used s place f → x ≡ (with_clauses f.part.part f.equations).state →
    TellsWhereMet g y x (skeleton_view k) a → a ≡ answer.Nothing → HasNoInstance t.signature (with_clauses f.part.part f.equations)
not_met t used s y place f k g x a e d sorted at i same told nothing =
    let p = with_clauses f.part.part f.equations in
    let m = met_answer t.signature g s y p.state x (skeleton_view k) a e d same (met_sorted t used s place f i) (met_there t used s place f k f.equations i sorted at (λ w h. h)) told in
    nothing_in t.signature p (subst (λ b. IsRightAnswerOf t.signature s p.state b) nothing m.right)

-- of the part where the rule fires
pub answer_there : (t : Theory) (used : List Text) (s y : SymbolicState) (place : ℕ) (f : PlacedFiring) (k : Skeleton) (g : KoreSignature) (q : NumberedPart) (a : answers.PartAnswer) → g ≡ t.signature → y ≡ s → IsSortedState t.signature s → IsLeftAt t place k → IsFiringOf t used s place f → q ≡ narrowed_of f →
    TellsWhereMet g y q.part.state (skeleton_view k) a → IsMetAnswer t.signature s (narrowed_of f).part.state (skeleton_view k) a
answer_there t used s y place f k g q a e d sorted at i same told =
    met_answer t.signature g s y (narrowed_of f).part.state q.part.state (skeleton_view k) a e d (ap (λ n. n.part.state) same) (narrowed_sorted t used s place f i)
    (met_there t used s place f k (f.equations ++ f.condition) i sorted at (λ w h. all_first (IsClauseTrue t.signature w) f.equations f.condition h)) told

pub rule_of_firing : (t : Theory) (used : List Text) (s : SymbolicState) (place : ℕ) (f : PlacedFiring) (k : Skeleton) (i : IsFiringOf t used s place f) → IsLeftAt t place k → MeetsForm t.signature s.sort s.term (skeleton_view k) → MeetsRule t.signature s i.rule.body
rule_of_firing t used s place f k i at m = rule_there t used s place f k i at m i.rule i.at

-- ---- the part where it fires

abbrev with_number : StatePart → ℕ → NumberedPart
with_number p n = record { part = p; next = n }

both : (p q : StatePart) (m n : ℕ) → p ≡ q → m ≡ n → with_number p m ≡ with_number q n
both p q m n e f = ap (λ x. with_number x m) e ∙ ap (λ k. with_number q k) f

pub narrowed : {E : Type 0} (f : Firing) (cs : List (List Literal)) (r : Result Part E) → cs ≡ clauses_of_firing f → IfOk r (λ p. part_view p ≡ with_clauses (part_view f.part) cs) → IfOk r (λ p. p.next ≡ f.part.next) → IfOk r (λ p. numbered_view p ≡ narrowed_of (firing_model f))
narrowed f cs (Ok p) e v n = both (part_view p) (with_clauses (part_view f.part) (clauses_of_firing f)) p.next f.part.next (v ∙ ap (with_clauses (part_view f.part)) e) n
narrowed f cs (Err x) e v n = tt

-- ---- a number of its condition

passes_number : (g : KoreSignature) (x : SymbolicState) (l : TermLimit) → Some l ≡ option_map number (first_wide g x) → Passes g x l
passes_number g x l e = by (first_wide g x) refl e
  where
    inside : {a b : TermLimit} → Some a ≡ Some b → a ≡ b
    inside d = cc

    by : (o : Option WideCall) → first_wide g x ≡ o → Some l ≡ option_map number o → Passes g x l
    by None h d = absurd (cc)
    by (Some c) h d = subst (Passes g x) (sym (inside d)) h

pub condition_passes : (t : Theory) (used : List Text) (s : SymbolicState) (place : ℕ) (f : PlacedFiring) (g : KoreSignature) (x : SymbolicState) (l : TermLimit) (o : Option StepLimit) → g ≡ t.signature → IsFiringOf t used s place f → CanMeet t s place f → PassesNone t.signature s → x ≡ (narrowed_of f).part.state →
    option_map limit_view o ≡ option_map number (first_wide g x) → option_map limit_view o ≡ Some l → IsPassed t s l
condition_passes t used s place f g x l o e i m limits same told is = passes_condition t used s place f x l i m limits same (subst (λ h. Passes h x l) e (passes_number g x l (sym is ∙ told)))

-- where none is found, there is none
pub condition_silent : (t : Theory) (f : PlacedFiring) (g : KoreSignature) (x : SymbolicState) (o : Option StepLimit) → g ≡ t.signature → x ≡ (narrowed_of f).part.state → option_map limit_view o ≡ option_map number (first_wide g x) → o ≡ None → TellsNoNumber t.signature f
condition_silent t f g x o e same told is = inl (subst (λ y. first_wide t.signature y ≡ None) same (subst (λ h. first_wide h x ≡ None) e (none_wide g x o is told)))

-- of the rule at the place
pub silent_at : (t : Theory) (used : List Text) (s : SymbolicState) (place : ℕ) (f : PlacedFiring) → IsFiringOf t used s place f → TellsNoNumber t.signature f → (r : RewriteRule) → IsAt t place r → HasNoWideCondition t s r
silent_at t used s place f i none r at = subst (HasNoWideCondition t s) (one_at t place i.rule r i.at at) (no_wide_condition t used s place f i none)

-- whatever is found of it
pub turn_is_silent : (t : Theory) (s : SymbolicState) (place : ℕ) (x : Tried) → ((r : RewriteRule) → IsAt t place r → HasNoWideCondition t s r) → IsBehindNumber t s place x
turn_is_silent t s place tried.NoTurn h = h
turn_is_silent t s place (tried.Turn k) h = h
turn_is_silent t s place (tried.Ended outcome.Empty) h = h
turn_is_silent t s place (tried.Ended (outcome.Cases nexts rest)) h = h
turn_is_silent t s place (tried.Ended (outcome.Undecided told rule)) h = h
turn_is_silent t s place (tried.Ended (outcome.Foreign rule)) h = h
turn_is_silent t s place (tried.Ended (outcome.Limited l)) h = tt

-- ---- its parts

-- where it is known that it has no instance, nothing is left to the rule
pub nothing_told : (t : Theory) (used : List Text) (s : SymbolicState) (place : ℕ) (found : List RewriteRule) (f : PlacedFiring) (left : Form) (a : answers.PartAnswer) (parts : List Part) → IsFiringOf t used s place f → IsMetAnswer t.signature s (narrowed_of f).part.state left a → a ≡ answer.Nothing → parts ≡ [] →
    AreTurnParts t used s place found f.part.part (numbered_views parts)
nothing_told t used s place found f left a parts i m nothing none =
    let n = narrowed_of f in
    let there : HasNoInstance t.signature n.part = nothing_in t.signature n.part (subst (λ b. IsRightAnswerOf t.signature s n.part.state b) nothing m.right) in
    subst (λ ps. AreTurnParts t used s place found f.part.part (numbered_views ps)) (sym none) (nothing_there t used s place found f i there)

-- where it fires, with nothing left out
pub fires_at : (t : Theory) (used : List Text) (s : SymbolicState) (place : ℕ) (f : PlacedFiring) (g : KoreSignature) (q : NumberedPart) (i : IsFiringOf t used s place f) → g ≡ t.signature → q ≡ narrowed_of f → AreUntaken g used (Some i.rule) [] (whole s) f.part.part (q ∷ [])
fires_at t used s place f g q i e same = subst (λ h. AreUntaken h used (Some i.rule) [] (whole s) f.part.part (q ∷ [])) (sym e) (subst (λ u. AreUntaken t.signature used (Some i.rule) [] (whole s) f.part.part (u ∷ [])) (sym same) (fires_there t used s place f i))

all_ready : (g : KoreSignature) (used : List Text) (s m : StatePart) (parts : List NumberedPart) → AllByRecursion (IsPartIn g used s m) parts → AllByRecursion (IsReadyPart g used) parts
all_ready g used s m [] h = tt
all_ready g used s m (p ∷ parts) h = (h.0.ready, all_ready g used s m parts h.1)

-- those that are left, as far as that is decided
pub left_told : (t : Theory) (used : List Text) (s y : SymbolicState) (place : ℕ) (found : List RewriteRule) (f : PlacedFiring) (g : KoreSignature) (i : IsFiringOf t used s place f) (turns : List PlacedTurn) (parts : List NumberedPart) (d : decisions.Decided) → g ≡ t.signature → y ≡ s → HasInstance t.signature (whole s) → AllZip (IsRuleAt t) turns found → MeetsRule t.signature s i.rule.body → AllMeet t.signature s found →
    AreUntaken g used (Some i.rule) found (whole s) f.part.part parts → (AllByRecursion (IsReadyPart g used) parts → AreDecided g y (i.rule ∷ found) parts d) → TellsParts t used s place found f.part.part d
left_told t used s y place found f g i turns parts d e same there z own all l told =
    let k : AreDecided g y (i.rule ∷ found) parts d = told (all_ready g used (whole s) f.part.part parts l.each) in
    parts_told t used s place found f i turns parts d there z own all (subst (λ h. AreUntaken h used (Some i.rule) found (whole s) f.part.part parts) e l)
    (subst (λ h. AreDecided h s (i.rule ∷ found) parts d) e (subst (λ x. AreDecided g x (i.rule ∷ found) parts d) same k))

-- ---- its turn

-- with the rules that were found before
pub turn_told : (t : Theory) (used : List Text) (s : SymbolicState) (place priority : ℕ) (earlier : List PlacedTurn) (found : List RewriteRule) (read : Rewrite) (p : StatePart) (parts : List NumberedPart) (bindings : List Replaced) → AllZip (IsRuleAt t) earlier found → IsSortedState t.signature s → AllMeet t.signature s found →
    IsReadAs t place read → IsPriorityAt t place priority → IsMetIn t read bindings p → AreTurnParts t used s place found p parts → (¬ (parts ≡ [])) →
    (i : IsTurnAt t used (whole s) (record { place = place; priority = priority; parts = parts; bindings = bindings })) × AllByRecursion (λ n. (r : RewriteRule) → IsAt t n.place r → Contains i.before r) earlier
turn_told t used s place priority earlier found read p parts bindings z sorted all r told met a some =
    let body : a.rule.body ≡ rewrite read = subst (λ q. q.body ≡ rewrite read) (one_at t place r.0 a.rule r.1 a.at) r.2 in (
      record {
        rule = a.rule;
        at = a.at;
        number = told a.rule read a.at body;
        read = read;
        body = body;
        met_part = p;
        is_met = met;
        before = found;
        of_theory = rules_in_theory t earlier found z;
        meets = some_part_meets t.signature s a.rule found (parts_of parts) sorted (λ e. some (no_parts parts e)) a.left.left.divided.below a.left.left.only a.instances;
        before_meet = all;
        left = a.left;
        some = some;
        instances = a.instances;
      },
      rules_are_found t earlier found z,
    )

pub no_turn_told : (t : Theory) (used : List Text) (s : SymbolicState) (place : ℕ) (earlier : List PlacedTurn) (found : List RewriteRule) (p : StatePart) (parts : List NumberedPart) → AllZip (IsRuleAt t) earlier found → AreTurnParts t used s place found p parts → parts ≡ [] →
    (r : RewriteRule) → IsAt t place r → OfEachInstance t.signature (whole s) (λ w c. ¬ HasTurn t r c)
no_turn_told t used s place earlier found p parts z a none = no_turn_at t used s place found p (rules_in_theory t earlier found z) (subst (AreTurnParts t used s place found p) none a)

pub no_items : {X : Type 0} (xs : List X) (n : ℕ) → n ≡ length xs → (n == 0) ≡ true → xs ≡ []
no_items [] n l e = refl
no_items (x ∷ xs) n l e = let none : n ≡ 0 = (Decides-eqb n 0).0 e in absurd (omega (arith, l, none))

pub some_items : {X : Type 0} (xs : List X) (n : ℕ) → n ≡ length xs → (n == 0) ≡ false → ¬ (xs ≡ [])
some_items xs n l e none = true_is_false (sym ((Decides-eqb n 0).1 (l ∙ ap length none)) ∙ e)

no_views : (parts : List Part) → numbered_views parts ≡ [] → parts ≡ []
no_views [] e = refl
no_views (p ∷ parts) e = absurd (cc)

pub some_views : (parts : List Part) → ¬ (parts ≡ []) → ¬ (numbered_views parts ≡ [])
some_views parts some e = some (no_views parts e)

-- what is left open of a part
-- a rule that was found at a place is among those of the turns
found_at : (t : Theory) (turns : List PlacedTurn) (found : List RewriteRule) (i : ℕ) (q : RewriteRule) → AllZip (IsRuleAt t) turns found → IsAt t i q → AnyByRecursion (λ k. k.place ≡ i) turns → Contains found q
found_at t [] found i q z at any = absurd any
found_at t (k ∷ turns) [] i q z at any = absurd z
found_at t (k ∷ turns) (r ∷ found) i q z at (inl e) = subst (λ x. Contains (r ∷ found) x) (one_at t i r q (subst (λ p. IsAt t p r) e z.0.0) at) (Contains-append_left (r ∷ []) found r (Contains-push [] r))
found_at t (k ∷ turns) (r ∷ found) i q z at (inr any) = Contains-append_right (r ∷ []) found q (found_at t turns found i q z.1 at any)

-- where all that go before were tried, those found are all
all_before : (t : Theory) (s : SymbolicState) (place : ℕ) (m : Rewrite) (turns : List PlacedTurn) (found : List RewriteRule) (r : RewriteRule) → IsReadAs t place m → IsAt t place r → AllZip (IsRuleAt t) turns found → AreTriedBefore t (whole s) turns place → AreAllBefore t s (Some r) found
all_before t s place m turns found r read at z tried w c sorts met q member less turn =
    let body : r.body ≡ rewrite m = subst (λ x. x.body ≡ rewrite m) (one_at t place read.0 r read.1 at) read.2 in
    let there = contains_at t.rules q member in
    elim (tried r m at body there.0 q there.1 less) [
      | inl any ↦ found_at t turns found there.0 q z there.1 any
      | inr none ↦ absurd (none w c sorts met turn)
    ]

pub open_told : (t : Theory) (used : List Text) (s : SymbolicState) (place : ℕ) (m : Rewrite) (turns : List PlacedTurn) (found : List RewriteRule) (p : StatePart) (o : UndecidedClauses) → IsReadAs t place m → AllZip (IsRuleAt t) turns found → TellsParts t used s place found p (decided.UndecidedClauses o) → AreTriedBefore t (whole s) turns place →
    first_wide t.signature s ≡ None → OfEachInstance t.signature (whole s) (λ w c. ¬ IsUnknown t c) → ((r : RewriteRule) → IsAt t place r → HasNoWideCondition t s r) → IsToldUndecided t s (clauses_view o.shown.items) o.over (Some place)
open_told t used s place m turns found p o read z k tried none known silent = record {
  rule = Some k.0;
  is_rule = k.1;
  weight = k.2;
  weighed = k.3;
  what_is_undecided = k.4 (all_before t s place m turns found k.0 read k.1 z tried);
  no_number = none;
  behind =
      let body : k.0.body ≡ rewrite m = subst (λ x. x.body ≡ rewrite m) (one_at t place read.0 k.0 read.1 k.1) read.2 in
      subst (IsBehindRule t s (Some place) k.0) (sym body) (known, silent k.0 k.1);
}

-- ---- a rule that doesn't fire

pub unmet_no_turn : (t : Theory) (used : List Text) (s : SymbolicState) (place : ℕ) (m : Rewrite) (g : KoreSignature) (p : StatePart) → g ≡ t.signature → p ≡ whole s → IsReadAs t place m → AreFiringCases g (rewrite m) p None (p ∷ []) → (r : RewriteRule) → IsAt t place r → OfEachInstance t.signature (whole s) (λ w c. ¬ HasTurn t r c)
unmet_no_turn t used s place m g p e same read none r at =
    let never : FiresNowhere t.signature (rewrite m) (whole s) = subst (λ h. FiresNowhere h (rewrite m) (whole s)) e (subst (λ q. FiresNowhere g (rewrite m) q) same (fires_nowhere_there g (rewrite m) p none)) in
    let body : r.body ≡ rewrite m = subst (λ q. q.body ≡ rewrite m) (one_at t place read.0 r read.1 at) read.2 in
    λ w c h k turn. never w c h k (subst (λ b. Fires t.signature b c) body turn.fires)

pub no_rule_no_turn : (t : Theory) (s : SymbolicState) (place : ℕ) → TellsRead t place None → (r : RewriteRule) → IsAt t place r → OfEachInstance t.signature (whole s) (λ w c. ¬ HasTurn t r c)
no_rule_no_turn t s place none r at = unread_no_turn t s r (λ m e. none r m at e)

-- ---- a rule that fires

pub is_fired : (t : Theory) (used : List Text) (s : SymbolicState) (place : ℕ) (q : NumberedPart) (m : Rewrite) (sides : ReadSides) (f : Firing) (g : KoreSignature) (bindings : List Replaced) → g ≡ t.signature → IsWholeReady t.signature used s q → IsReadAs t place m → AreSidesOf t.signature m sides →
    AreVerifiedSides t.signature m → FiresOn g used m (skeleton_view sides.left) q.part f → bindings ≡ (firing_model f).bindings → AllByRecursion (λ b. is_named b.name (form_variables (skeleton_view sides.left)) ≡ true) bindings → IsFiringOf t used s place (firing_model f)
is_fired t used s place q m sides f g bindings e w read are verified fires same named = is_firing t used s place q m sides f w read are verified (subst (λ h. FiresOn h used m (skeleton_view sides.left) q.part f) e fires)
    (subst (λ bs. AllByRecursion (λ b. is_named b.name (form_variables (skeleton_view sides.left)) ≡ true) bs) same named)
