-- What the code makes behind a part follows from it.
use Rattle.std.proofs.Common.{◌≡◌, refl, sym, ap, subst, ◌∙◌, List, [], ◌∷◌, ◌++◌, map, true, false, Bool, ◌↔◌}
use Rattle.std.specs.Prelude.{IfOk, Result, Ok, Err, if◌then◌else◌}
use Rattle.std.specs.List.{AllByRecursion}
use Rattle.kp_kore.specs.Syntax.{Text, KoreSort}
use Rattle.kp_kore.specs.Parts.{SortedName}
use Rattle.kp_kore.specs.Signature.{KoreSignature, IsBelow, itself, is_below}
use Rattle.kp_kore.specs.View.{view, sort_view, sorted_variable_view}
use Rattle.kp_signature.proofs.Below.{is_below-Decides}
use Rattle.kp_heads.specs.Heads.{HasValue}
use Rattle.kp_kore.specs.Rules.{Rewrite, rewrite}
use Rattle.kp_kore.specs.Steps.{Fires}
use Rattle.kp_kore.specs.Theory.{Theory}
use Rattle.kp_symbolic.specs.Terms.{Replaced}
use Rattle.kp_symbolic.specs.States.{SymbolicState}
use Rattle.kp_symbolic.specs.Solving.{Solving}
use Rattle.kp_symbolic_laws.specs.Runs.{OfEachKept}
use Rattle.kp_symbolic_laws.specs.Kept.{CanBeWritten}
use Rattle.kp_rules.specs.declared.rule.Rewrite as code
use Rattle.kp_solving.specs.Further.{constrained}
use Rattle.kp_case_laws.specs.Parts.{StatePart, OfEachInstance}
use Rattle.kp_unify.specs.Narrowed.{NumberedPart}
use Rattle.kp_step.specs.Conditions.{condition_clauses}
use Rattle.kp_step.specs.Rules.{IsReadBy}
use Rattle.kp_step.specs.Remainders.{IsPartIn}
use Rattle.kp_step.specs.Found.{IsMetIn}
use Rattle.kp_step.specs.Follows.{IsNextOf, kept_bindings}
use Rattle.kp_step.specs.RightSides.{ChosenNew, AreChosen, written_at, moved_state}
use Rattle.kp_step.proofs.FollowingLemmas.{right_state, following_is}
use Rattle.kp_step.proofs.EmptyLemmas.{nothing_next}

-- the state that is made of the sides, by all bindings and the sort that the right term is written at
abbrev pub state_made : KoreSignature → NumberedPart → code.Rewrite → List Replaced → List SortedName → KoreSort → SymbolicState
state_made g q w all new sort = constrained (moved_state g q.part all new sort (view w.sides.right)) (condition_clauses g all (map view w.sides.ensured.items))

-- what follows, where the code's bindings are these
abbrev pub Follows : Theory → List Text → StatePart → StatePart → NumberedPart → Rewrite → code.Rewrite → List Replaced → List Replaced → ChosenNew → KoreSort → SymbolicState → SymbolicState → KoreSignature → Type 0
Follows t used s m q rule w bs all c sort made x g =
    IsReadBy g rule w → IsMetIn t rule bs m → IsPartIn g used s m q → OfEachInstance g q.part (λ v d. Fires g (rewrite rule) d) → AreChosen used (map sorted_variable_view w.sides.new_variables.items) q.next c →
    all ≡ kept_bindings (map sorted_variable_view w.sides.new_variables.items) bs ++ c.bindings → sort ≡ written_at g (sort_view w.right_sort) q.part.state.sort → made ≡ state_made g q w all c.new sort →
    Solving g made x → OfEachKept g (CanBeWritten g) made → AllByRecursion (λ y. HasValue g y.sort) rule.new_variables → IsNextOf g used s (rewrite rule) q.part x c.next

follows_here : (t : Theory) (used : List Text) (s m : StatePart) (q : NumberedPart) (rule : Rewrite) (w : code.Rewrite) (bs all : List Replaced) (c : ChosenNew) (sort : KoreSort) (made x : SymbolicState) → Follows t used s m q rule w bs all c sort made x t.signature
follows_here t used s m q rule w bs all c sort made x r met i fires chosen be at is run kept values =
    let g = t.signature in
    let names : map sorted_variable_view w.sides.new_variables.items ≡ rule.new_variables = r.sides.new_variables in
    let these : all ≡ kept_bindings rule.new_variables bs ++ c.bindings = be ∙ ap (λ ns. kept_bindings ns bs ++ c.bindings) names in
    let e : made ≡ right_state t rule q bs c (sort_view w.right_sort) =
    is ∙ ap (λ z. constrained (moved_state g q.part all c.new sort z) (condition_clauses g all (map view w.sides.ensured.items))) r.sides.right
    ∙ ap (λ z. constrained (moved_state g q.part all c.new sort rule.right) (condition_clauses g all z)) r.sides.ensured
    ∙ ap (λ z. constrained (moved_state g q.part all c.new z rule.right) (condition_clauses g all rule.ensured)) at
    ∙ ap (λ z. constrained (moved_state g q.part z c.new (written_at g (sort_view w.right_sort) q.part.state.sort) rule.right) (condition_clauses g z rule.ensured)) these in
    following_is t used s m q rule bs c (sort_view w.right_sort) x met i fires r.verified r.right_sort values (subst (λ ns. AreChosen used ns q.next c) names chosen) (subst (OfEachKept g (CanBeWritten g)) e kept) (subst (λ z. Solving g z x) e run)

pub follows_from : (t : Theory) (used : List Text) (s m : StatePart) (q : NumberedPart) (rule : Rewrite) (w : code.Rewrite) (bs all : List Replaced) (c : ChosenNew) (sort : KoreSort) (made x : SymbolicState) (g : KoreSignature) → g ≡ t.signature → Follows t used s m q rule w bs all c sort made x g
follows_from t used s m q rule w bs all c sort made x g same = subst (λ h. Follows t used s m q rule w bs all c sort made x h) (sym same) (follows_here t used s m q rule w bs all c sort made x)

-- where each of the rule's new variables has a value
pub given_values : {X E : Type 0} (r : Result X E) (A : Type 0) (P : X → Type 0) → A → IfOk r (λ x. A → P x) → IfOk r P
given_values (Ok x) A P a h = h a
given_values (Err e) A P a h = tt

pub values_of : (g : KoreSignature) (rule : Rewrite) (w : code.Rewrite) → IsReadBy g rule w → AllByRecursion (λ y. HasValue g y.sort) (map sorted_variable_view w.sides.new_variables.items) ↔ AllByRecursion (λ y. HasValue g y.sort) rule.new_variables
values_of g rule w r = let e = r.sides.new_variables in ((λ h. subst (AllByRecursion (λ y. HasValue g y.sort)) e h), (λ h. subst (AllByRecursion (λ y. HasValue g y.sort)) (sym e) h))

-- where one has none
pub follows_never : (g : KoreSignature) (used : List Text) (s m : StatePart) (q : NumberedPart) (rule : Rewrite) (w : code.Rewrite) (x : SymbolicState) → IsReadBy g rule w → IsPartIn g used s m q → ¬ AllByRecursion (λ y. HasValue g y.sort) (map sorted_variable_view w.sides.new_variables.items) →
    x ≡ constrained q.part.state ([] ∷ []) → IsNextOf g used s (rewrite rule) q.part x q.next
follows_never g used s m q rule w x r i none e = subst (λ z. IsNextOf g used s (rewrite rule) q.part z q.next) (sym e) (nothing_next g used s m q rule i (λ h. none ((values_of g rule w r).1 h)))

-- ---- the sort that the right term is written at

pub written_below : (g : KoreSignature) (own state : KoreSort) → IsBelow g.subsorts own state → state ≡ written_at g own state
written_below g own state b = sym (ap (λ q. if q then state else own) ((is_below-Decides g.subsorts own state).1 b))

pub written_same : (g : KoreSignature) (own state : KoreSort) → own ≡ state → state ≡ written_at g own state
written_same g own state e = written_below g own state (subst (λ s. IsBelow g.subsorts own s) e (itself own))

pub written_own : (g : KoreSignature) (own state : KoreSort) → ¬ IsBelow g.subsorts own state → own ≡ written_at g own state
written_own g own state n = by (is_below g.subsorts own state) (is_below-Decides g.subsorts own state).0
  where
    by : (q : Bool) → (q ≡ true → IsBelow g.subsorts own state) → own ≡ (if q then state else own)
    by true d = absurd (n (d refl))
    by false d = refl

pub still_seen : {X Y E : Type 0} (r : Result X E) (seen : X → Y) (a b : Y) → a ≡ b → IfOk r (λ x. seen x ≡ a) → IfOk r (λ x. seen x ≡ b)
still_seen (Ok x) seen a b e h = h ∙ e
still_seen (Err f) seen a b e h = tt
