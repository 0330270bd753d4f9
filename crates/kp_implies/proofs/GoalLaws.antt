-- A goal of a part that is met: where the part has an instance without it the implication isn't valid; where it has none the goal is true.
use Rattle.std.specs.Prelude.{Bool, true, false, ◌||◌, List}
use Rattle.std.specs.List.{AllByRecursion, Contains, list_any}
use Rattle.std.proofs.Common.{◌≡◌, refl, sym, ◌∙◌, subst, inl, inr, [], ◌∷◌, ◌++◌}
use Rattle.std.proofs.lemmas.List.Elements.{Contains-append_cases}
use Rattle.kp_kore.specs.Syntax.{KorePattern}
use Rattle.kp_kore.specs.Parts.{SortedName}
use Rattle.kp_kore.specs.Signature.{KoreSignature}
use Rattle.kp_kore.specs.Instance.{Valuation, GivesSorts, is_named}
use Rattle.kp_kore.specs.Rules.{top_binders}
use Rattle.kp_kore.proofs.NameLemmas.{members_named, true_is_false, first_false, second_false}
use Rattle.kp_kore.proofs.TurnLemmas.{of_member}
use Rattle.kp_symbolic.specs.Terms.{term_instance}
use Rattle.kp_symbolic.specs.States.{Literal, atom_variables, clause_variables, IsClauseTrue, AreTrue, IsStateInstance}
use Rattle.kp_symbolic.specs.Solving.{negated}
use Rattle.kp_symbolic.specs.WellFormed.{AreAtHand}
use Rattle.kp_symbolic.proofs.Distribution.{all_both, all_first, all_second}
use Rattle.kp_symbolic.proofs.Leaf.{once_says}
use Rattle.kp_symbolic_laws.specs.Runs.{IsSortedLiteral}
use Rattle.kp_case_laws.specs.Parts.{StatePart}
use Rattle.kp_case_laws.proofs.HandLemmas.{depends_on_hand, clauses_agree}
use Rattle.kp_step.proofs.Excluded.{opposite_says}
use Rattle.kp_goals.specs.Consequents.{Consequent}
use Rattle.kp_goals.specs.Exact.{IsRightClause, all_variables, AreMatched, AreClear, ClauseDepends, HasBody}
use Rattle.kp_goals.specs.Goals.{IsAskedIn, goals_of, is_unbound}
use Rattle.kp_goals.proofs.Assembled.{match_right, goals_right, goals_are_exact}
use Rattle.kp_goals.proofs.Exact.{refuted}
use Rattle.kp_goals.proofs.Matched.{given_are_good}
use Rattle.kp_implies.specs.Steps.{IsGoalFalse, IsGoalTrue}

-- ---- the goals have the sorts of their places

pub asked_right : (g : KoreSignature) (c : KorePattern) (k : Consequent) (told : List SortedName) (p : StatePart) (goals : List (List Literal)) → AreMatched g c k p → IsAskedIn g k told p goals → AllByRecursion (IsRightClause g (all_variables p c)) goals
asked_right g c k told p goals m asked =
    subst (AllByRecursion (IsRightClause g (all_variables p c))) (sym asked.are)
    (goals_right g c k p m asked.given (given_are_good g (all_variables p c) k told p asked.given (match_right g c k p m) (goals_right g c k p m) asked.is_given))

-- ---- those without bound variables are of variables at hand

is_free : (bound xs ys : List SortedName) → list_any (λ x. is_named x.name bound) (xs ++ ys) ≡ false → (list_any (λ x. is_named x.name bound) xs ≡ false) × (list_any (λ x. is_named x.name bound) ys ≡ false)
is_free bound [] ys e = (refl, e)
is_free bound (x ∷ xs) ys e =
    let i = is_free bound xs ys (second_false (is_named x.name bound) (list_any (λ z. is_named z.name bound) (xs ++ ys)) e) in
    (joined (is_named x.name bound) (list_any (λ z. is_named z.name bound) xs) (first_false (is_named x.name bound) (list_any (λ z. is_named z.name bound) (xs ++ ys)) e) i.0, i.1)
  where
    joined : (a b : Bool) → a ≡ false → b ≡ false → a || b ≡ false
    joined false b e f = f
    joined true b e f = absurd (true_is_false e)

one_at_hand : (hand bound : List SortedName) (x : SortedName) → is_named x.name bound ≡ false → Contains (hand ++ bound) x → Contains hand x
one_at_hand hand bound x e i = elim (Contains-append_cases hand bound x i) [
  | inl a ↦ a
  | inr a ↦ absurd (true_is_false (sym (of_member (λ z. is_named z.name bound ≡ true) bound x (members_named bound) a) ∙ e))
]

pub alone_at_hand : (hand bound xs : List SortedName) → list_any (λ x. is_named x.name bound) xs ≡ false → AreAtHand xs (hand ++ bound) → AreAtHand xs hand
alone_at_hand hand bound [] e h = tt
alone_at_hand hand bound (x ∷ xs) e h = (
  one_at_hand hand bound x (first_false (is_named x.name bound) (list_any (λ z. is_named z.name bound) xs) e) h.0,
  alone_at_hand hand bound xs (second_false (is_named x.name bound) (list_any (λ z. is_named z.name bound) xs) e) h.1,
)

pub of_hand_right : (g : KoreSignature) (hand bound : List SortedName) (c : List Literal) → is_unbound bound c ≡ false → IsRightClause g (hand ++ bound) c → IsRightClause g hand c
of_hand_right g hand bound [] e h = tt
of_hand_right g hand bound (l ∷ c) e h =
    let i = is_free bound (atom_variables l.atom) (clause_variables c) e in
    (((h.0.0.0, alone_at_hand hand bound (atom_variables l.atom) i.0 h.0.0.1), h.0.1), of_hand_right g hand bound c i.1 h.1)

pub sorted_only : (g : KoreSignature) (hand : List SortedName) (c : List Literal) → IsRightClause g hand c → AllByRecursion (IsSortedLiteral g hand) c
sorted_only g hand [] h = tt
sorted_only g hand (l ∷ c) h = (h.0.0, sorted_only g hand c h.1)

-- whether it is true depends on these alone
pub clause_depends : (g : KoreSignature) (hand : List SortedName) (c : List Literal) → IsRightClause g hand c → ClauseDepends g hand c
clause_depends g hand c h v w on t = (clauses_agree g v w hand (c ∷ []) on (sorted_only g hand c h, tt) (t, tt)).0

-- ---- the part without it

-- the part has an instance at which the goal isn't true
pub record IsFalseAt (g : KoreSignature) (p : StatePart) (c : List Literal) : Type 0 where
  pub valuation : Valuation
  pub sorts : GivesSorts g valuation p.state.variables
  pub clauses : AreTrue g valuation p.state.clauses
  pub fails : ¬ IsClauseTrue g valuation c

pub false_at : (g : KoreSignature) (k : Consequent) (p : StatePart) (c : List Literal) → IsRightClause g p.state.variables c → IsGoalFalse g k p c → IsFalseAt g p c
false_at g k p c right false' =
    let x = false'.some.valuation in
    let sorts = false'.some.sorts in
    let others = negated g p.state.sort (c ∷ []) in
    let both = (once_says g x (p.state.clauses ++ others)).0 false'.some.are_true in
    let denies = (opposite_says g x p.state (c ∷ []) sorts (right, tt) false'.denied).0 (all_second (IsClauseTrue g x) p.state.clauses others both) in
    record { valuation = x; sorts = sorts; clauses = all_first (IsClauseTrue g x) p.state.clauses others both; fails = λ t. denies (t, tt) }

pub true_at : (g : KoreSignature) (k : Consequent) (p : StatePart) (c : List Literal) → IsRightClause g p.state.variables c → IsGoalTrue g k p c → (x : Valuation) → GivesSorts g x p.state.variables → AreTrue g x p.state.clauses → IsClauseTrue g x c
true_at g k p c right true' x sorts met none =
    let others = negated g p.state.sort (c ∷ []) in
    let says = opposite_says g x p.state (c ∷ []) sorts (right, tt) true'.denied in
    true'.never (record { valuation = x; sorts = sorts; are_true = (once_says g x (p.state.clauses ++ others)).1 (all_both (IsClauseTrue g x) p.state.clauses others met (says.1 (λ t. t.0 none))) })

-- ---- a goal that is false refutes the body

pub refuted_by : (g : KoreSignature) (c : KorePattern) (k : Consequent) (told : List SortedName) (p : StatePart) (goals : List (List Literal)) (goal : List Literal) → AreMatched g c k p → AreClear c p.state.variables → top_binders c ≡ k.bound →
    IsAskedIn g k told p goals → Contains goals goal → IsGoalFalse g k p goal → (w : Valuation) × GivesSorts g w p.state.variables × IsStateInstance g w p.state (term_instance g w p.state.term) × ¬ HasBody g c w (term_instance g w p.state.term)
refuted_by g c k told p goals goal m clear bound asked among false' =
    let right : IsRightClause g p.state.variables goal = of_hand_right g p.state.variables (top_binders c) goal (subst (λ xs. is_unbound xs goal ≡ false) (sym bound) false'.of_hand) (of_member (IsRightClause g (all_variables p c)) goals goal (asked_right g c k told p goals m asked) among) in
    let at = false_at g k p goal right false' in
    let met : IsStateInstance g at.valuation p.state (term_instance g at.valuation p.state.term) = record { term = refl; clauses = at.clauses } in (
      at.valuation,
      at.sorts,
      met,
      refuted g c p.state asked.given.put (goals_of g k p asked.given) goal at.valuation (term_instance g at.valuation p.state.term) (goals_are_exact g c k p m told asked.given asked.is_given) (depends_on_hand g p.state m.part.sorted) clear
          (subst (λ gs. Contains gs goal) asked.are among) (clause_depends g p.state.variables goal right) at.sorts met at.fails,
    )
