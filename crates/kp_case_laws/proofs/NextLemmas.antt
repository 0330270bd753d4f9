-- The state after a rule has the configurations that the rule leads to.
use Rattle.std.proofs.Common.{◌≡◌, refl, sym, ◌∙◌, ap, subst, Bool, true, false, ◌||◌, List, [], ◌∷◌, Option, Some, None, inl, inr, ◌⊎◌}
use Rattle.std.specs.Prelude.{if◌then◌else◌}
use Rattle.std.specs.List.{AllByRecursion}
use Rattle.std.specs.Str.{bytes_eq}
use Rattle.std.proofs.lemmas.Slice.Eq.{bytes_eq-Decides}
use Rattle.kp_kore.specs.Syntax.{Text, KoreSort, sort_variable, KoreSorts, next_sort, KorePattern}
use Rattle.kp_kore.specs.Parts.{SortedName, free_variables}
use Rattle.kp_kore.specs.Signature.{KoreSignature}
use Rattle.kp_kore.specs.Value.{Value, Values, no_values, next_value, HasSort, HaveSorts}
use Rattle.kp_kore.specs.Instance.{Valuation, GivesSorts, AgreesOn, is_named, IsTrueUnder}
use Rattle.kp_kore.specs.Rules.{Rewrite}
use Rattle.kp_kore.specs.Steps.{LeadsTo}
use Rattle.kp_kore.proofs.ArcLemmas.{sorts_stay}
use Rattle.kp_kore.proofs.InstanceLemmas.{same_instance}
use Rattle.kp_kore.proofs.NameLemmas.{first_false, second_false, true_is_false}
use Rattle.kp_kore.proofs.TruthLemmas.{same_truth}
use Rattle.kp_symbolic.specs.Terms.{SymbolicTerm, unknown, term_instance, term_instances, term_variables, Replaced, replacement_for, under_replaced}
use Rattle.kp_symbolic.specs.States.{SymbolicState, IsStateInstance}
use Rattle.kp_symbolic.specs.WellFormed.{AreAtHand}
use Rattle.kp_symbolic.proofs.Distribution.{all_both, all_second}
use Rattle.kp_symbolic.proofs.Folded.{for_instance}
use Rattle.kp_symbolic.proofs.HeadQuestions.{assigned_all}
use Rattle.kp_symbolic.proofs.Agreeing.{term_agrees}
use Rattle.kp_case_laws.specs.Parts.{StatePart, IsSortedPart, AreNew}
use Rattle.kp_case_laws.specs.Narrowings.{all_unknown, sorts_of_names}
use Rattle.kp_case_laws.specs.Cases.{IsBoundBy}
use Rattle.kp_case_laws.specs.Nexts.{fresh_bindings, AreBoundOrNew, all_bindings, IsNextState, IsInstantiated, IsNextOver}
use Rattle.kp_case_laws.proofs.HandLemmas.{agrees_at_hand, clauses_agree}
use Rattle.kp_case_laws.proofs.NewVariables.{scope_stays, new_sorts, new_values}
use Rattle.kp_case_laws.proofs.CourseLemmas.{found_before, found_behind}
use Rattle.kp_case_laws.proofs.RowLemmas.{bound_at}

-- ---- what stands for a name

no_sort : KoreSort
no_sort = sort_variable []

at_bound : (g : KoreSignature) (rs : List Replaced) (w : Valuation) (x : Text) (t : SymbolicTerm) → replacement_for rs x ≡ Some t → under_replaced g rs w x ≡ term_instance g w t
at_bound g rs w x t e = sym (for_instance g rs w x no_sort (Some t) e)

at_free : (g : KoreSignature) (rs : List Replaced) (w : Valuation) (x : Text) → replacement_for rs x ≡ None → under_replaced g rs w x ≡ w x
at_free g rs w x e = sym (for_instance g rs w x no_sort None e)

-- lists that give a name the same
same_there : (g : KoreSignature) (rs qs : List Replaced) (w : Valuation) (x : Text) → replacement_for rs x ≡ replacement_for qs x → under_replaced g rs w x ≡ under_replaced g qs w x
same_there g rs qs w x e = sym (for_instance g rs w x no_sort (replacement_for qs x) e) ∙ for_instance g qs w x no_sort (replacement_for qs x) refl

-- ---- new variables

not_fresh : (ys zs : List SortedName) (x : Text) → is_named x ys ≡ false → replacement_for (fresh_bindings ys zs) x ≡ None
not_fresh [] zs x e = refl
not_fresh (y ∷ ys) [] x e = refl
not_fresh (y ∷ ys) (z ∷ zs) x e = ap (λ b. if b then Some (unknown z) else replacement_for (fresh_bindings ys zs) x) (first_false (bytes_eq y.name x) (is_named x ys) e) ∙ not_fresh ys zs x (second_false (bytes_eq y.name x) (is_named x ys) e)

pub new_is_unbound : (bs : List Replaced) (ys : List SortedName) (x : Text) → AllByRecursion (λ (y : SortedName). replacement_for bs y.name ≡ None) ys → is_named x ys ≡ true → replacement_for bs x ≡ None
new_is_unbound bs [] x h e = absurd (true_is_false (sym e))
new_is_unbound bs (y ∷ ys) x h e = by (bytes_eq y.name x) refl (new_is_unbound bs ys x h.1) e
  where
    by : (b : Bool) → bytes_eq y.name x ≡ b → (is_named x ys ≡ true → replacement_for bs x ≡ None) → b || is_named x ys ≡ true → replacement_for bs x ≡ None
    by true m rest f = subst (λ n. replacement_for bs n ≡ None) ((bytes_eq-Decides y.name x).0 m) h.0
    by false m rest f = rest f

bound_is_old : (bs : List Replaced) (ys : List SortedName) (x : Text) (t : SymbolicTerm) → AllByRecursion (λ (y : SortedName). replacement_for bs y.name ≡ None) ys → replacement_for bs x ≡ Some t → is_named x ys ≡ false
bound_is_old bs ys x t h e = by (is_named x ys) refl
  where
    some_none : {u : SymbolicTerm} → Some u ≡ None → ⊥
    some_none f = cc

    by : (b : Bool) → is_named x ys ≡ b → b ≡ false
    by false q = refl
    by true q = absurd (some_none (sym e ∙ new_is_unbound bs ys x h q))

values_at : Valuation → List SortedName → Values
values_at v [] = no_values
values_at v (y ∷ ys) = next_value (v y.name) (values_at v ys)

values_sorted : (g : KoreSignature) (v : Valuation) (ys : List SortedName) → GivesSorts g v ys → HaveSorts g (sorts_of_names ys) (values_at v ys)
unfolding values_at
values_sorted g v [] h = tt
values_sorted g v (y ∷ ys) h = (h.0, values_sorted g v ys h.1)

first_value : {u w : Value} {us ws : Values} → next_value u us ≡ next_value w ws → u ≡ w
first_value e = cc

other_values : {u w : Value} {us ws : Values} → next_value u us ≡ next_value w ws → us ≡ ws
other_values e = cc

-- a new variable of the rule stands for the value that it was given
fresh_value : (g : KoreSignature) (w v : Valuation) (ys zs : List SortedName) (x : Text) → term_instances g w (all_unknown zs) ≡ values_at v ys → is_named x ys ≡ true → under_replaced g (fresh_bindings ys zs) w x ≡ v x
unfolding values_at
fresh_value g w v [] zs x e n = absurd (true_is_false (sym n))
fresh_value g w v (y ∷ ys) [] x e n = absurd (cc)
fresh_value g w v (y ∷ ys) (z ∷ zs) x e n = by (bytes_eq y.name x) refl (fresh_value g w v ys zs x (other_values e)) n
  where
    by : (b : Bool) → bytes_eq y.name x ≡ b → (is_named x ys ≡ true → under_replaced g (fresh_bindings ys zs) w x ≡ v x) → b || is_named x ys ≡ true → under_replaced g (fresh_bindings (y ∷ ys) (z ∷ zs)) w x ≡ v x
    by true m rest f = at_bound g (fresh_bindings (y ∷ ys) (z ∷ zs)) w x (unknown z) (ap (λ b. if b then Some (unknown z) else replacement_for (fresh_bindings ys zs) x) m) ∙ first_value e ∙ ap v ((bytes_eq-Decides y.name x).0 m)
    by false m rest f = same_there g (fresh_bindings (y ∷ ys) (z ∷ zs)) (fresh_bindings ys zs) w x (ap (λ b. if b then Some (unknown z) else replacement_for (fresh_bindings ys zs) x) m) ∙ rest f

first_sort : {a b : KoreSort} {ss ts : KoreSorts} → next_sort a ss ≡ next_sort b ts → a ≡ b
first_sort e = cc

other_sorts : {a b : KoreSort} {ss ts : KoreSorts} → next_sort a ss ≡ next_sort b ts → ss ≡ ts
other_sorts e = cc

-- and it has a value of its sort; the names before it are others
fresh_sorts : (g : KoreSignature) (w : Valuation) (rs : List Replaced) (ys zs : List SortedName) → ((x : Text) → is_named x ys ≡ true → replacement_for rs x ≡ replacement_for (fresh_bindings ys zs) x) → AreNew [] ys → sorts_of_names zs ≡ sorts_of_names ys → GivesSorts g w zs → GivesSorts g (under_replaced g rs w) ys
fresh_sorts g w rs [] zs same a e h = tt
fresh_sorts g w rs (y ∷ ys) [] same a e h = absurd (cc)
fresh_sorts g w rs (y ∷ ys) (z ∷ zs) same a e h =
    let here : bytes_eq y.name y.name ≡ true = (bytes_eq-Decides y.name y.name).1 refl in (
      subst (λ u. HasSort g y.sort u) (sym (at_bound g rs w y.name (unknown z) (same y.name (ap (λ b. b || is_named y.name ys) here) ∙ ap (λ b. if b then Some (unknown z) else replacement_for (fresh_bindings ys zs) y.name) here)))
          (subst (λ s. HasSort g s (w z.name)) (first_sort e) h.0),
      fresh_sorts g w rs ys zs (λ x n. same x (either (bytes_eq y.name x) n) ∙ ap (λ b. if b then Some (unknown z) else replacement_for (fresh_bindings ys zs) x) (other_than y.name x ys a.1 n)) a.2 (other_sorts e) h.1,
    )
  where
    either : {n : Bool} (b : Bool) → n ≡ true → b || n ≡ true
    either true f = refl
    either false f = f

    other_than : (n x : Text) (xs : List SortedName) → is_named n xs ≡ false → is_named x xs ≡ true → bytes_eq n x ≡ false
    other_than n x xs f t = by (bytes_eq n x) refl
      where
        by : (b : Bool) → bytes_eq n x ≡ b → b ≡ false
        by false q = refl
        by true q = absurd (true_is_false (sym (subst (λ m. is_named m xs ≡ true) (sym ((bytes_eq-Decides n x).0 q)) t) ∙ f))

-- ---- what follows is an instance of the next state

-- a valuation that agrees with the rule's off its new variables
abbrev LeadsToFrom : Rewrite → Valuation → Valuation → Type 0
LeadsToFrom rule r chosen = (y : Text) → is_named y rule.new_variables ≡ false → chosen y ≡ r y

at_hand_of : (p : StatePart) (bs : List Replaced) (x : Text) (t : SymbolicTerm) → replacement_for bs x ≡ Some t → AllByRecursion (λ (b : Replaced). AreAtHand (term_variables b.term) p.state.variables) bs → AreAtHand (term_variables t) p.state.variables
at_hand_of p [] x t e h = absurd (cc)
at_hand_of p (b ∷ bs) x t e h = by (bytes_eq b.name x) (λ f. at_hand_of p bs x t f h.1) e
  where
    inside : {a d : SymbolicTerm} → Some a ≡ Some d → a ≡ d
    inside f = cc

    by : (q : Bool) → (replacement_for bs x ≡ Some t → AreAtHand (term_variables t) p.state.variables) → (if q then Some b.term else replacement_for bs x) ≡ Some t → AreAtHand (term_variables t) p.state.variables
    by true rest f = subst (λ u. AreAtHand (term_variables u) p.state.variables) (inside f) h.0
    by false rest f = rest f

-- a valuation of the part's variables with values for the new ones gives the rule's variables what the rule's valuation gives
agrees_behind : (g : KoreSignature) (rule : Rewrite) (p : StatePart) (bs : List Replaced) (ys new : List SortedName) (v w r chosen : Valuation) (xs : List SortedName) → IsInstantiated g rule p bs ys new → IsBoundBy g v bs r → LeadsToFrom rule r chosen →
    AgreesOn p.state.variables v w → term_instances g w (all_unknown new) ≡ values_at chosen ys → AreBoundOrNew bs ys xs → AgreesOn xs chosen (under_replaced g (all_bindings bs ys new) w)
agrees_behind g rule p bs ys new v w r chosen [] i b off stays values a = tt
agrees_behind g rule p bs ys new v w r chosen (x ∷ xs) i b off stays values a = (by a.0, agrees_behind g rule p bs ys new v w r chosen xs i b off stays values a.1)
  where
    by : ((t : SymbolicTerm) × (replacement_for bs x.name ≡ Some t)) ⊎ (is_named x.name ys ≡ true) → under_replaced g (all_bindings bs ys new) w x.name ≡ chosen x.name
    by (inl (t, e)) = at_bound g (all_bindings bs ys new) w x.name t (found_before bs (fresh_bindings ys new) x.name t e)
        ∙ term_agrees g v w t (agrees_at_hand v w p.state.variables (term_variables t) stays (at_hand_of p bs x.name t e i.at_hand))
        ∙ sym (bound_at g v r bs x.name t e b) ∙ sym (off x.name (sym (i.rules_new.named x.name) ∙ bound_is_old bs ys x.name t i.rules_new.unbound e))
    by (inr n) = same_there g (all_bindings bs ys new) (fresh_bindings ys new) w x.name (found_behind bs (fresh_bindings ys new) x.name (new_is_unbound bs ys x.name i.rules_new.unbound n)) ∙ fresh_value g w chosen ys new x.name values n

all_ensured : (g : KoreSignature) (v w : Valuation) (ps : List KorePattern) → AllByRecursion (λ q. AgreesOn (free_variables q) v w) ps → AllByRecursion (IsTrueUnder g v) ps → AllByRecursion (IsTrueUnder g w) ps
all_ensured g v w [] a h = tt
all_ensured g v w (q ∷ ps) a h = ((same_truth g q v w a.0).0 h.0, all_ensured g v w ps a.1 h.1)

each_agrees : (g : KoreSignature) (rule : Rewrite) (p : StatePart) (bs : List Replaced) (ys new : List SortedName) (v w r chosen : Valuation) (ps : List KorePattern) → IsInstantiated g rule p bs ys new → IsBoundBy g v bs r → LeadsToFrom rule r chosen →
    AgreesOn p.state.variables v w → term_instances g w (all_unknown new) ≡ values_at chosen ys → AllByRecursion (λ q. AreBoundOrNew bs ys (free_variables q)) ps → AllByRecursion (λ q. AgreesOn (free_variables q) chosen (under_replaced g (all_bindings bs ys new) w)) ps
each_agrees g rule p bs ys new v w r chosen [] i b off stays values a = tt
each_agrees g rule p bs ys new v w r chosen (q ∷ ps) i b off stays values a = (agrees_behind g rule p bs ys new v w r chosen (free_variables q) i b off stays values a.0, each_agrees g rule p bs ys new v w r chosen ps i b off stays values a.1)

pub next_found : (g : KoreSignature) (rule : Rewrite) (p : StatePart) (bs : List Replaced) (ys new : List SortedName) (s : SymbolicState) (v r : Valuation) (c next : Value) → IsSortedPart g p → IsInstantiated g rule p bs ys new → IsNextState g rule p bs ys new s →
    GivesSorts g v p.state.variables → IsStateInstance g v p.state c → IsBoundBy g v bs r → LeadsTo g rule r next → IsNextOver g p s v next
next_found g rule p bs ys new s v r c next k i n sorts met b l =
    let us : Values = values_at l.chosen ys in
    let hand = p.state.variables in
    let of_sorts : HaveSorts g (sorts_of_names new) us = subst (λ ss. HaveSorts g ss us) (sym i.same_sorts) (values_sorted g l.chosen ys ((i.rules_new.sorts l.chosen).1 l.sorts)) in
    let w : Valuation = assigned_all v new us in
    let stays : AgreesOn hand v w = scope_stays v hand new us i.are_new in
    let values : term_instances g w (all_unknown new) ≡ us = new_values g v hand new us of_sorts i.are_new in
    let gives : GivesSorts g w s.variables = subst (λ xs. GivesSorts g w xs) (sym n.variables) (all_both (λ x. HasSort g x.sort (w x.name)) hand new (sorts_stay g hand v w stays sorts) (new_sorts g v hand new us of_sorts i.are_new)) in
    let to = under_replaced g (all_bindings bs ys new) w in (
      w,
      record { agrees = stays; sorts = gives },
      record {
        term = l.result ∙ sym (same_instance g l.chosen to rule.right (agrees_behind g rule p bs ys new v w r l.chosen (free_variables rule.right) i b l.agrees stays values i.right)) ∙ sym (n.term w gives);
        clauses = (n.clauses w gives).1 (clauses_agree g v w hand p.state.clauses stays k.state.literals met.clauses, all_ensured g l.chosen to rule.ensured (each_agrees g rule p bs ys new v w r l.chosen rule.ensured i b l.agrees stays values i.ensured) l.ensured);
      },
    )

-- ---- an instance of the next state follows

pub next_follows : (g : KoreSignature) (rule : Rewrite) (p : StatePart) (bs : List Replaced) (ys new : List SortedName) (s : SymbolicState) (w : Valuation) (next : Value) → IsInstantiated g rule p bs ys new → IsNextState g rule p bs ys new s →
    GivesSorts g w s.variables → IsStateInstance g w s next → IsStateInstance g w p.state (term_instance g w p.state.term) × LeadsTo g rule (under_replaced g bs w) next
next_follows g rule p bs ys new s w next i n sorts met =
    let fresh = fresh_bindings ys new in
    let both = (n.clauses w sorts).0 met.clauses in
    let given : GivesSorts g w new = all_second (λ x. HasSort g x.sort (w x.name)) p.state.variables new (subst (λ xs. GivesSorts g w xs) n.variables sorts) in (
      record { term = refl; clauses = both.0 },
      record {
        chosen = under_replaced g (all_bindings bs ys new) w;
        agrees = λ y e. off y e (replacement_for bs y) refl;
        sorts = (i.rules_new.sorts (under_replaced g (all_bindings bs ys new) w)).0 (fresh_sorts g w (all_bindings bs ys new) ys new (λ x m. found_behind bs fresh x (new_is_unbound bs ys x i.rules_new.unbound m)) i.rules_new.once i.same_sorts given);
        ensured = both.1;
        result = met.term ∙ n.term w sorts;
      },
    )
  where
    off : (y : Text) → is_named y rule.new_variables ≡ false → (o : Option SymbolicTerm) → replacement_for bs y ≡ o → under_replaced g (all_bindings bs ys new) w y ≡ under_replaced g bs w y
    off y e (Some t) q = at_bound g (all_bindings bs ys new) w y t (found_before bs (fresh_bindings ys new) y t q) ∙ sym (at_bound g bs w y t q)
    off y e None q = at_free g (all_bindings bs ys new) w y (found_behind bs (fresh_bindings ys new) y q ∙ not_fresh ys new y (i.rules_new.named y ∙ e)) ∙ sym (at_free g bs w y q)
