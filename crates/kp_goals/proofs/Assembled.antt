-- The goals of a part are exact.
use Rattle.std.specs.Prelude.{◌≡◌, ◌↔◌, Bool, true, false, List, [], ◌∷◌, ◌++◌, if◌then◌else◌}
use Rattle.std.specs.List.{AllByRecursion, Contains, filter, flat_map}
use Rattle.std.proofs.Common.{refl, sym, ◌∙◌, ap, subst}
use Rattle.kp_kore.specs.Syntax.{KoreSort, KorePattern, exists}
use Rattle.kp_kore.specs.Parts.{SortedName, is_term, free_variables}
use Rattle.kp_kore.specs.Signature.{KoreSignature}
use Rattle.kp_kore.specs.Value.{Value}
use Rattle.kp_kore.specs.Instance.{Valuation, GivesSorts, instance, IsTrueUnder, IsInstance, IsInstanceOfOne, IsConjunctionInstance, conjuncts}
use Rattle.kp_kore.specs.Rules.{top_binders, under_binders}
use Rattle.kp_symbolic.specs.Terms.{SymbolicTerm, Replaced, term_instance, term_variables}
use Rattle.kp_symbolic.specs.States.{same, IsClauseTrue, AreTrue, AreGiven, IsStateInstance}
use Rattle.kp_symbolic.specs.WellFormed.{AreAtHand}
use Rattle.kp_symbolic.specs.Opening.{opened_same}
use Rattle.kp_symbolic.specs.Clauses.{distributed, is_too_large}
use Rattle.kp_symbolic.proofs.CallOpening.{opened_same_says}
use Rattle.kp_symbolic.proofs.Distribution.{all_both, all_first, all_second}
use Rattle.kp_symbolic.proofs.Facts.{Good, GoodTerm, clauses_have, opened_same_good}
use Rattle.kp_symbolic.proofs.Folded.{OfEach, folded_is, folded_variables}
use Rattle.kp_symbolic.proofs.Leaf.{formula_says, one_literal, once_says, then_says}
use Rattle.kp_symbolic.proofs.OpenedState.{placed_as_they_are}
use Rattle.kp_symbolic.proofs.SortedFolding.{folded_sorted}
use Rattle.kp_symbolic.proofs.WellSorted.{term_given, term_sorted}
use Rattle.kp_symbolic_laws.specs.Safe.{IsNormal, IsSoundQuote}
use Rattle.kp_symbolic_laws.proofs.FormedFacts.{same_formed}
use Rattle.kp_symbolic_laws.proofs.NormalTerms.{folded_normal}
use Rattle.kp_symbolic_laws.proofs.Step.{at_hand_given}
use Rattle.kp_case_laws.specs.Parts.{StatePart}
use Rattle.kp_step.specs.Conditions.{IsVerifiedOver, condition_clauses}
use Rattle.kp_step.proofs.Excluded.{condition_says, condition_right}
use Rattle.kp_step.proofs.OpenedWith.{Sound, Right, both_facts}
use Rattle.kp_goals.specs.Consequents.{Consequent}
use Rattle.kp_goals.specs.Exact.{ArePut, IsExact, IsRightClause, all_variables, IsPredicateOf, AreMatched}
use Rattle.kp_goals.specs.Gives.{Given, match_clauses, solved_in}
use Rattle.kp_goals.specs.Goals.{put_in_clause, all_put, goals_of, IsGiven}
use Rattle.kp_goals.proofs.GivenSays.{all_say}
use Rattle.kp_goals.proofs.Matched.{AreGood, AreGoalsRight, AreAsked, IsValue, given_are_good, given_holds, given_back}
use Rattle.kp_goals.proofs.OpenedRight.{all_put_in_right, once_right}
use Rattle.kp_goals.proofs.PutInClauses.{all_put_in_say}
use Rattle.kp_goals.proofs.PutTerms.{IsPutBy, put_placed, put_at_hand, put_normal, put_same}
use Rattle.kp_goals.proofs.SolvedIn.{solved_good, solved_put, safe_clauses, term_at_hand}

-- ---- the consequent

-- an instance of the body is one of a conjunction
pub body_met : (g : KoreSignature) (x : Valuation) (c : KorePattern) (u : Value) → IsInstance g x (under_binders c) u → IsConjunctionInstance g x (under_binders c) u
body_met g x (exists s y t c) u h = body_met g x c u h
body_met g x c u h = h

met_body : (g : KoreSignature) (x : Valuation) (c : KorePattern) (u : Value) → IsConjunctionInstance g x (under_binders c) u → IsInstance g x (under_binders c) u
met_body g x (exists s y t c) u h = met_body g x c u h
met_body g x c u h = h

first_kept : {X : Type 0} (test : X → Bool) (xs : List X) (t : X) (ts : List X) → filter test xs ≡ t ∷ ts → test t ≡ true
first_kept test [] t ts e = absurd (cc)
first_kept {X = X} test (x ∷ xs) t ts e = at (test x) refl e (first_kept test xs t ts)
  where
    head_is : (ys : List X) → x ∷ ys ≡ t ∷ ts → x ≡ t
    head_is ys e = cc

    at : (b : Bool) → test x ≡ b → (if b then x ∷ filter test xs else filter test xs) ≡ t ∷ ts → (filter test xs ≡ t ∷ ts → test t ≡ true) → test t ≡ true
    at true i e later = subst (λ y. test y ≡ true) (head_is (filter test xs) e) i
    at false i e later = later e

each_alone : (hand xs : List SortedName) → AreAtHand xs hand → OfEach [] (λ x. Contains hand x) xs
each_alone hand [] h = tt
each_alone hand (x ∷ xs) h = ((h.0, tt), each_alone hand xs h.1)

given_alone : (g : KoreSignature) (v : Valuation) (xs : List SortedName) → GivesSorts g v xs → AreGiven g [] v xs
given_alone g v [] h = tt
given_alone g v (x ∷ xs) h = ((h.0, tt), given_alone g v xs h.1)

-- ---- the match

-- an equality of two terms with the sorts of their places
equality_right : (g : KoreSignature) (hand : List SortedName) (s : KoreSort) (t u : SymbolicTerm) → GoodTerm g hand s t → GoodTerm g hand s u → IsNormal g t → IsNormal g u →
    AllByRecursion (IsRightClause g hand) (if is_too_large 0 (opened_same g true true s t u) then (record { holds = true; atom = same s t u } ∷ []) ∷ [] else distributed (opened_same g true true s t u))
equality_right g hand s t u i j n m = by (is_too_large 0 (opened_same g true true s t u))
  where
    by : (b : Bool) → AllByRecursion (IsRightClause g hand) (if b then (record { holds = true; atom = same s t u } ∷ []) ∷ [] else distributed (opened_same g true true s t u))
    by true = (((((i.0, j.0), all_both (λ (x : SortedName). Contains hand x) (term_variables t) (term_variables u) i.1 j.1), (n, m)), tt), tt)
    by false = let f = opened_same g true true s t u in clauses_have (Right g hand) f (both_facts (Good g hand) (Sound g) f (opened_same_good g hand true true s t u i j) (same_formed g (IsSoundQuote g) true true s t u n m))

pub equality_says : (g : KoreSignature) (hand : List SortedName) (x : Valuation) (s : KoreSort) (t u : SymbolicTerm) → GivesSorts g x hand → GoodTerm g hand s t → GoodTerm g hand s u →
    AreTrue g x (if is_too_large 0 (opened_same g true true s t u) then (record { holds = true; atom = same s t u } ∷ []) ∷ [] else distributed (opened_same g true true s t u)) ↔ (term_instance g x t ≡ term_instance g x u)
equality_says g hand x s t u sorts i j = by (is_too_large 0 (opened_same g true true s t u))
  where
    by : (b : Bool) → AreTrue g x (if b then (record { holds = true; atom = same s t u } ∷ []) ∷ [] else distributed (opened_same g true true s t u)) ↔ (term_instance g x t ≡ term_instance g x u)
    by true = one_literal g x (record { holds = true; atom = same s t u })
    by false =
        let h = at_hand_given g x hand (term_variables t) sorts i.1 in
        let k = at_hand_given g x hand (term_variables u) sorts j.1 in
        then_says (formula_says g x (opened_same g true true s t u))
        (opened_same_says g x true true s t u h k (term_given g x s t i.0 h) (term_given g x s u j.0 k) (term_sorted g x s t i.0 h) (term_sorted g x s u j.0 k))

-- ---- what is known of a part and a consequent

module _ (g : KoreSignature) (c : KorePattern) (k : Consequent) (p : StatePart) (m : AreMatched g c k p) where
  abbrev Hand : List SortedName
  Hand = all_variables p c

  abbrev PlacesTrue : Valuation → List KorePattern → Type 0
  PlacesTrue x qs = AllByRecursion (IsTrueUnder g x) qs

  pub part_term : GoodTerm g Hand p.state.sort p.state.term
  part_term = (m.part.sorted.term, term_at_hand g p.state (top_binders c) (term_variables p.state.term) m.part.sorted.term_at_hand)

  is_a_term : is_term m.consequent.pattern ≡ true
  is_a_term = first_kept is_term (conjuncts (under_binders c)) m.consequent.pattern [] m.consequent.alone

  pub own_term : GoodTerm g Hand p.state.sort k.term
  own_term =
      let q = m.consequent.pattern in
      subst (GoodTerm g Hand p.state.sort) (sym m.consequent.term) (
        folded_sorted g [] m.term.place q p.state.sort m.term.verified m.sort is_a_term m.term.known (placed_as_they_are g (free_variables q)),
        folded_variables g [] (λ x. Contains Hand x) q (each_alone Hand (free_variables q) m.term.at_hand),
      )

  own_normal : IsNormal g k.term
  own_normal = subst (IsNormal g) (sym m.consequent.term) (folded_normal g [] m.consequent.pattern tt)

  pub match_right : AllByRecursion (IsRightClause g Hand) (match_clauses g k p)
  match_right = equality_right g Hand p.state.sort p.state.term k.term part_term own_term m.part.formed.term own_normal

  pub own_value : (x : Valuation) → GivesSorts g x Hand → term_instance g x k.term ≡ instance g x m.consequent.pattern
  own_value x sorts =
      let q = m.consequent.pattern in
      ap (term_instance g x) m.consequent.term ∙ folded_is g [] x q (given_alone g x (free_variables q) (at_hand_given g x Hand (free_variables q) sorts m.term.at_hand))

  -- the match says that the instance is the consequent's term's
  pub match_says : (x : Valuation) (u : Value) → GivesSorts g x Hand → IsStateInstance g x p.state u → AreTrue g x (match_clauses g k p) ↔ (u ≡ instance g x m.consequent.pattern)
  match_says x u sorts met =
      let i = equality_says g Hand x p.state.sort p.state.term k.term sorts part_term own_term in
      let e = own_value x sorts in (
        λ t. met.term ∙ i.0 t ∙ e,
        λ h. i.1 (sym met.term ∙ h ∙ sym e),
      )

  -- ---- conditions

  pub verified_over : (qs : List Replaced) → AllByRecursion (IsPutBy g Hand) qs → (ps : List KorePattern) → AllByRecursion (IsPredicateOf g Hand) ps → AllByRecursion (IsVerifiedOver g Hand qs) ps
  verified_over qs h [] n = tt
  verified_over qs h (q ∷ ps) n = (
    record {
      place = n.0.1.place;
      verified = n.0.1.verified;
      known = n.0.1.known;
      predicate = n.0.0;
      placed = put_placed g Hand m.one_sort_each qs h (free_variables q) n.0.1.at_hand;
      at_hand = put_at_hand g Hand m.one_sort_each qs h (free_variables q) n.0.1.at_hand;
    },
    verified_over qs h ps n.1,
  )

  part_right : AllByRecursion (IsRightClause g Hand) p.state.clauses
  part_right = safe_clauses g p.state (top_binders c) m.part

  with_solved : (put : List Replaced) → AllByRecursion (IsPutBy g Hand) put → AllByRecursion (IsPutBy g Hand) (put ++ solved_in g p.state)
  with_solved put h = all_both (IsPutBy g Hand) put (solved_in g p.state) h (solved_good g Hand p.state part_right)

  conditions_right : (put : List Replaced) → AllByRecursion (IsPutBy g Hand) put → AllByRecursion (IsRightClause g Hand) (condition_clauses g (put ++ solved_in g p.state) k.predicates)
  conditions_right put h =
      let qs = put ++ solved_in g p.state in
      let good = with_solved put h in
      condition_right g Hand qs k.predicates (put_normal g Hand qs good) (verified_over qs good k.predicates m.predicates)

  pub goals_right : AreGoalsRight g Hand k p
  goals_right o h =
      let qs = all_put g p o in
      let rest = flat_map (put_in_clause g qs) o.rest in
      let asked = condition_clauses g qs k.predicates in
      once_right g Hand (rest ++ asked) (all_both (IsRightClause g Hand) rest asked (all_put_in_right g Hand m.one_sort_each qs (with_solved o.put h.1) o.rest h.0) (conditions_right o.put h.1))

  all_are_put : (x : Valuation) → GivesSorts g x Hand → AreTrue g x p.state.clauses → (put : List Replaced) → ArePut g x put → ArePut g x (put ++ solved_in g p.state)
  all_are_put x sorts met put h = all_both (IsValue g x) put (solved_in g p.state) h (solved_put g Hand p.state x sorts part_right met)

  -- where bound variables are what is put for them, the clauses of the condition say what the predicates say
  conditions_say : (x : Valuation) → GivesSorts g x Hand → AreTrue g x p.state.clauses → (put : List Replaced) → AllByRecursion (IsPutBy g Hand) put → ArePut g x put →
      AreTrue g x (condition_clauses g (put ++ solved_in g p.state) k.predicates) ↔ PlacesTrue x k.predicates
  conditions_say x sorts met put good h =
      let qs = put ++ solved_in g p.state in
      subst (λ v. AreTrue g x (condition_clauses g qs k.predicates) ↔ PlacesTrue v k.predicates) (put_same g x qs (all_are_put x sorts met put h))
      (condition_says g Hand qs x k.predicates (verified_over qs (with_solved put good) k.predicates m.predicates) sorts)

  -- ---- the goals

  -- where bound variables are what is put for them, the goals say what is left of the match and the predicates say
  goals_say : (o : Given) → AreGood g Hand o → (x : Valuation) → GivesSorts g x Hand → AreTrue g x p.state.clauses → ArePut g x o.put → AreTrue g x (goals_of g k p o) ↔ (AreTrue g x o.rest × PlacesTrue x k.predicates)
  goals_say o good x sorts met put =
      let qs = all_put g p o in
      let rest = flat_map (put_in_clause g qs) o.rest in
      let asked = condition_clauses g qs k.predicates in
      let i = all_put_in_say g Hand m.one_sort_each qs (with_solved o.put good.1) x sorts (all_are_put x sorts met o.put put) o.rest good.0 in
      let j = conditions_say x sorts met o.put good.1 put in
      let P = IsClauseTrue g x in
      then_says (once_says g x (rest ++ asked)) (
        λ t. (i.0 (all_first P rest asked t), j.0 (all_second P rest asked t)),
        λ h. all_both P rest asked (i.1 h.0) (j.1 h.1),
      )

  are_asked : (x : Valuation) → GivesSorts g x Hand → AreTrue g x p.state.clauses → PlacesTrue x k.predicates → AreAsked g Hand k p x
  are_asked x sorts met holds o good rest put = (goals_say o good x sorts met put).1 (rest, holds)

  holds_where : (told : List SortedName) (o : Given) → IsGiven g k told p o → (x : Valuation) (u : Value) → GivesSorts g x Hand → IsStateInstance g x p.state u → IsConjunctionInstance g x (under_binders c) u → AreTrue g x o.rest × ArePut g x o.put
  holds_where told o given x u sorts met b =
      given_holds g Hand k told p x o match_right goals_right (all_say g Hand k x sorts)
      (are_asked x sorts met.clauses (subst (PlacesTrue x) (sym m.consequent.predicates) b.predicates)) given
      ((match_says x u sorts met).1 (subst (λ ts. IsInstanceOfOne g x ts u) m.consequent.alone b.term))

  pub goals_are_exact : (told : List SortedName) (o : Given) → IsGiven g k told p o → IsExact g c p.state o.put (goals_of g k p o)
  goals_are_exact told o given = record {
    gives = λ x u sorts met body. (holds_where told o given x u sorts met (body_met g x c u body)).1;
    says = λ x u sorts met put.
        let s = goals_say o (given_are_good g Hand k told p o match_right goals_right given) x sorts met.clauses put in (
          λ t.
              let h = s.0 t in
              let back = given_back g Hand k told p x o match_right goals_right (all_say g Hand k x sorts) given h.0 put in
              met_body g x c u (record {
                term = subst (λ ts. IsInstanceOfOne g x ts u) (sym m.consequent.alone) ((match_says x u sorts met).0 back);
                predicates = subst (PlacesTrue x) m.consequent.predicates h.1;
              }),
          λ body.
              let b = body_met g x c u body in
              s.1 ((holds_where told o given x u sorts met b).0, subst (PlacesTrue x) (sym m.consequent.predicates) b.predicates),
        );
  }
