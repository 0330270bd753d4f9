-- The right term under the bindings, with the part's clauses and the ensured ones, is the rule's next state.
use Rattle.std.proofs.Common.{◌≡◌, refl, sym, subst, Bool, true, false, ◌||◌, List, [], ◌∷◌, ◌++◌, Some, None, inl, inr, ◌⊎◌, ◌↔◌}
use Rattle.std.specs.Prelude.{if◌then◌else◌}
use Rattle.std.specs.List.{AllByRecursion}
use Rattle.std.specs.Str.{bytes_eq}
use Rattle.kp_kore.specs.Syntax.{Text, KoreSort, KoreSorts, next_sort}
use Rattle.kp_kore.specs.Parts.{SortedName, free_variables}
use Rattle.kp_kore.specs.Signature.{KoreSignature}
use Rattle.kp_kore.specs.Value.{HasSort}
use Rattle.kp_kore.specs.Instance.{Valuation, GivesSorts, is_named, IsTrueUnder}
use Rattle.kp_kore.specs.Rules.{Rewrite}
use Rattle.kp_kore.proofs.NameLemmas.{true_is_false}
use Rattle.kp_symbolic.specs.Terms.{SymbolicTerm, unknown, term_variables, Replaced, replacement_for, under_replaced}
use Rattle.kp_symbolic.specs.States.{variables_for, AreGiven, Literal, IsClauseTrue, AreTrue, SymbolicState}
use Rattle.kp_symbolic.specs.Clauses.{without_repeats}
use Rattle.kp_symbolic.specs.WellFormed.{AreAtHand}
use Rattle.kp_symbolic.proofs.Distribution.{all_both, all_first, all_second}
use Rattle.kp_symbolic.proofs.Folded.{folded_is}
use Rattle.kp_symbolic.proofs.Leaf.{once_says}
use Rattle.kp_case_laws.specs.Parts.{StatePart}
use Rattle.kp_case_laws.specs.Narrowings.{sorts_of_names}
use Rattle.kp_case_laws.specs.Nexts.{fresh_bindings, AreBoundOrNew, all_bindings, IsNextState, IsInstantiated}
use Rattle.kp_case_laws.proofs.CourseLemmas.{found_before, found_behind}
use Rattle.kp_case_laws.proofs.AtHandLemmas.{sorts_of_hand}
use Rattle.kp_case_laws.proofs.NextLemmas.{new_is_unbound}
use Rattle.kp_step.specs.RightSides.{moved_state}

-- ---- terms that stand for variables have values of their sorts

inside : {a b : SymbolicTerm} → Some a ≡ Some b → a ≡ b
inside e = cc

pub found_hand : (hand : List SortedName) (bs : List Replaced) (x : Text) (t : SymbolicTerm) → AllByRecursion (λ b. AreAtHand (term_variables b.term) hand) bs → replacement_for bs x ≡ Some t → AreAtHand (term_variables t) hand
found_hand hand [] x t h e = absurd (cc)
found_hand hand (b ∷ bs) x t h e = by (bytes_eq b.name x) (found_hand hand bs x t h.1) e
  where
    by : (q : Bool) → (replacement_for bs x ≡ Some t → AreAtHand (term_variables t) hand) → (if q then Some b.term else replacement_for bs x) ≡ Some t → AreAtHand (term_variables t) hand
    by true rest f = subst (λ u. AreAtHand (term_variables u) hand) (inside f) h.0
    by false rest f = rest f

other_sorts : {a b : KoreSort} {ss ts : KoreSorts} → next_sort a ss ≡ next_sort b ts → ss ≡ ts
other_sorts e = cc

fresh_given : (g : KoreSignature) (w : Valuation) (ys zs : List SortedName) (x : SortedName) → sorts_of_names zs ≡ sorts_of_names ys → is_named x.name ys ≡ true → GivesSorts g w zs → GivesSorts g w (variables_for x (replacement_for (fresh_bindings ys zs) x.name))
fresh_given g w [] zs x e n h = absurd (true_is_false (sym n))
fresh_given g w (y ∷ ys) [] x e n h = absurd (cc)
fresh_given g w (y ∷ ys) (z ∷ zs) x e n h = by (bytes_eq y.name x.name) (λ m. fresh_given g w ys zs x (other_sorts e) m h.1) n
  where
    by : (b : Bool) → (is_named x.name ys ≡ true → GivesSorts g w (variables_for x (replacement_for (fresh_bindings ys zs) x.name))) → b || is_named x.name ys ≡ true → GivesSorts g w (variables_for x (if b then Some (unknown z) else replacement_for (fresh_bindings ys zs) x.name))
    by true rest m = (h.0, tt)
    by false rest m = rest m

given_one : (g : KoreSignature) (w : Valuation) (p : StatePart) (bs : List Replaced) (ys new : List SortedName) (x : SortedName) → AllByRecursion (λ b. AreAtHand (term_variables b.term) p.state.variables) bs → AllByRecursion (λ y. replacement_for bs y.name ≡ None) ys →
    sorts_of_names new ≡ sorts_of_names ys → GivesSorts g w p.state.variables → GivesSorts g w new → ((t : SymbolicTerm) × (replacement_for bs x.name ≡ Some t)) ⊎ (is_named x.name ys ≡ true) → GivesSorts g w (variables_for x (replacement_for (all_bindings bs ys new) x.name))
given_one g w p bs ys new x hand unbound e h k (inl (t, f)) = subst (λ o. GivesSorts g w (variables_for x o)) (sym (found_before bs (fresh_bindings ys new) x.name t f)) (sorts_of_hand g w (term_variables t) p.state.variables (found_hand p.state.variables bs x.name t hand f) h)
given_one g w p bs ys new x hand unbound e h k (inr n) = subst (λ o. GivesSorts g w (variables_for x o)) (sym (found_behind bs (fresh_bindings ys new) x.name (new_is_unbound bs ys x.name unbound n))) (fresh_given g w ys new x e n k)

all_given : (g : KoreSignature) (w : Valuation) (p : StatePart) (bs : List Replaced) (ys new xs : List SortedName) → AllByRecursion (λ b. AreAtHand (term_variables b.term) p.state.variables) bs → AllByRecursion (λ y. replacement_for bs y.name ≡ None) ys →
    sorts_of_names new ≡ sorts_of_names ys → GivesSorts g w p.state.variables → GivesSorts g w new → AreBoundOrNew bs ys xs → AreGiven g (all_bindings bs ys new) w xs
all_given g w p bs ys new [] hand unbound e h k a = tt
all_given g w p bs ys new (x ∷ xs) hand unbound e h k a = (given_one g w p bs ys new x hand unbound e h k a.0, all_given g w p bs ys new xs hand unbound e h k a.1)

-- ---- the state

-- with clauses behind those that stand there
abbrev pub with_these : SymbolicState → List (List Literal) → SymbolicState
with_these s cs = record { term = s.term; sort = s.sort; clauses = without_repeats (s.clauses ++ cs); variables = s.variables }

pub is_next_state : (g : KoreSignature) (rule : Rewrite) (p : StatePart) (bs : List Replaced) (ys new : List SortedName) (sort : KoreSort) (cs : List (List Literal)) → IsInstantiated g rule p bs ys new →
    ((w : Valuation) → GivesSorts g w (p.state.variables ++ new) → AreTrue g w cs ↔ AllByRecursion (IsTrueUnder g (under_replaced g (all_bindings bs ys new) w)) rule.ensured) →
    IsNextState g rule p bs ys new (with_these (moved_state g p (all_bindings bs ys new) new sort rule.right) cs)
is_next_state g rule p bs ys new sort cs i says = record {
  variables = refl;
  term = λ w h. folded_is g (all_bindings bs ys new) w rule.right (all_given g w p bs ys new (free_variables rule.right) i.at_hand i.rules_new.unbound i.same_sorts
      (all_first (λ x. HasSort g x.sort (w x.name)) p.state.variables new h) (all_second (λ x. HasSort g x.sort (w x.name)) p.state.variables new h) i.right);
  clauses = λ w h.
      let once = once_says g w (p.state.clauses ++ cs) in (
        (λ a. let b = once.0 a in (all_first (IsClauseTrue g w) p.state.clauses cs b, (says w h).0 (all_second (IsClauseTrue g w) p.state.clauses cs b))),
        (λ a. once.1 (all_both (IsClauseTrue g w) p.state.clauses cs a.0 ((says w h).1 a.1))),
      );
}
