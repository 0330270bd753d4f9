-- What is given says what the clauses say that gave it.
use Rattle.std.specs.Prelude.{◌≡◌, ◌↔◌, Bool, true, false, not, ◌&&◌, is_some, if◌then◌else◌, Option, Some, None, List, ◌∷◌, ◌++◌}
use Rattle.std.specs.List.{AllByRecursion}
use Rattle.kp_kore.specs.Parts.{SortedName}
use Rattle.kp_kore.specs.Signature.{KoreSignature}
use Rattle.kp_kore.specs.Instance.{Valuation, is_named}
use Rattle.kp_symbolic.specs.Terms.{Replaced, replacement_for, term_instance}
use Rattle.kp_symbolic.specs.Solving.{Equation}
use Rattle.kp_symbolic.specs.States.{Literal, IsClauseTrue, AreTrue}
use Rattle.kp_kore.proofs.TurnLemmas.{of_member}
use Rattle.kp_symbolic.proofs.Distribution.{all_both, all_first, all_second}
use Rattle.kp_case_laws.specs.Parts.{StatePart}
use Rattle.kp_goals.specs.Consequents.{Consequent}
use Rattle.kp_goals.specs.Exact.{ArePut, IsRightClause}
use Rattle.kp_goals.specs.Gives.{Given, given_by, given_in, match_clauses, put_for, if_new}
use Rattle.kp_goals.specs.Goals.{goals_of, IsGiven, nothing, by_match, by_goal}
use Rattle.kp_goals.proofs.PutTerms.{IsPutBy, put_good}
use Rattle.kp_goals.proofs.GoodGivens.{given_good, given_in_good}

-- what is given anew is given
pub new_is : (told : List SortedName) (put : List Replaced) (o : Option Equation) (e : Equation) → if_new told put o ≡ Some e → o ≡ Some e
new_is told put (Some d) e h = by (not (is_some (replacement_for put d.variable.name)) && is_named d.variable.name told) h
  where
    by : (b : Bool) → (if b then Some d else None) ≡ Some e → Some d ≡ Some e
    by true h = h
    by false h = absurd (cc)
new_is told put None e h = h

-- ---- what is given is good

-- the clauses of the match that are left have the sorts of their places, and so have the terms that are put
abbrev pub AreGood : KoreSignature → List SortedName → Given → Type 0
AreGood g hand o = AllByRecursion (IsRightClause g hand) o.rest × AllByRecursion (IsPutBy g hand) o.put

-- and so do the goals, then
abbrev pub AreGoalsRight : KoreSignature → List SortedName → Consequent → StatePart → Type 0
AreGoalsRight g hand k p = (o : Given) → AreGood g hand o → AllByRecursion (IsRightClause g hand) (goals_of g k p o)

pub given_are_good : (g : KoreSignature) (hand : List SortedName) (k : Consequent) (told : List SortedName) (p : StatePart) (o : Given) → AllByRecursion (IsRightClause g hand) (match_clauses g k p) → AreGoalsRight g hand k p → IsGiven g k told p o →
    AreGood g hand o
given_are_good g hand k told p _ match asks nothing = (match, tt)
given_are_good g hand k told p _ match asks (by_match before after c put e before_it gives) =
    let i = given_are_good g hand k told p (record { rest = before ++ c ∷ after; put = put }) match asks before_it in
    let later = all_second (IsRightClause g hand) before (c ∷ after) i.0 in (
      all_both (IsRightClause g hand) before after (all_first (IsRightClause g hand) before (c ∷ after) i.0) later.1,
      all_both (IsPutBy g hand) put (put_for e) i.1 (put_good g hand e (given_good g hand k.bound c e later.0 (new_is told put (given_by g k.bound c) e gives)), tt),
    )
given_are_good g hand k told p _ match asks (by_goal o c e before_it among gives) =
    let i = given_are_good g hand k told p o match asks before_it in
    let right = of_member (IsRightClause g hand) (goals_of g k p o) c (asks o i) among in
    (i.0, all_both (IsPutBy g hand) o.put (put_for e) i.1 (put_good g hand e (given_in_good g hand k.bound c e right (new_is told o.put (given_in g k.bound c) e gives)), tt))

-- ---- what it says

-- what a clause with the sorts of its places gives, it says
pub record SaysWhatItGives (g : KoreSignature) (hand : List SortedName) (k : Consequent) (x : Valuation) : Type 0 where
  pub by_match : (c : List Literal) (e : Equation) → IsRightClause g hand c → given_by g k.bound c ≡ Some e → IsClauseTrue g x c ↔ (x e.variable.name ≡ term_instance g x e.term)
  pub by_goal : (c : List Literal) (e : Equation) → IsRightClause g hand c → given_in g k.bound c ≡ Some e → IsClauseTrue g x c → x e.variable.name ≡ term_instance g x e.term

-- the goals are true where what is left of the match is and bound variables are what is put for them, good clauses and terms, whatever
-- these are
abbrev pub AreAsked : KoreSignature → List SortedName → Consequent → StatePart → Valuation → Type 0
AreAsked g hand k p x = (o : Given) → AreGood g hand o → AreTrue g x o.rest → ArePut g x o.put → AreTrue g x (goals_of g k p o)

abbrev pub IsValue : KoreSignature → Valuation → Replaced → Type 0
IsValue g x r = x r.name ≡ term_instance g x r.term

-- where the match is true and what is asked, the rest of the match is true, and each variable is what is put for it
pub given_holds : (g : KoreSignature) (hand : List SortedName) (k : Consequent) (told : List SortedName) (p : StatePart) (x : Valuation) (o : Given) → AllByRecursion (IsRightClause g hand) (match_clauses g k p) → AreGoalsRight g hand k p →
    SaysWhatItGives g hand k x → AreAsked g hand k p x → IsGiven g k told p o → AreTrue g x (match_clauses g k p) → AreTrue g x o.rest × ArePut g x o.put
given_holds g hand k told p x _ match asks says asked nothing h = (h, tt)
given_holds g hand k told p x _ match asks says asked (by_match before after c put e before_it gives) h =
    let good = given_are_good g hand k told p (record { rest = before ++ c ∷ after; put = put }) match asks before_it in
    let met = given_holds g hand k told p x (record { rest = before ++ c ∷ after; put = put }) match asks says asked before_it h in
    let later = all_second (IsClauseTrue g x) before (c ∷ after) met.0 in
    let right = all_second (IsRightClause g hand) before (c ∷ after) good.0 in (
      all_both (IsClauseTrue g x) before after (all_first (IsClauseTrue g x) before (c ∷ after) met.0) later.1,
      all_both (IsValue g x) put (put_for e) met.1 ((says.by_match c e right.0 (new_is told put (given_by g k.bound c) e gives)).0 later.0, tt),
    )
given_holds g hand k told p x _ match asks says asked (by_goal o c e before_it among gives) h =
    let good = given_are_good g hand k told p o match asks before_it in
    let met = given_holds g hand k told p x o match asks says asked before_it h in
    let all = goals_of g k p o in
    let holds = of_member (IsClauseTrue g x) all c (asked o good met.0 met.1) among in
    let right = of_member (IsRightClause g hand) all c (asks o good) among in
    (met.0, all_both (IsValue g x) o.put (put_for e) met.1 (says.by_goal c e right (new_is told o.put (given_in g k.bound c) e gives) holds, tt))

-- and back: where the rest is true and each variable is what is put for it, the match is true
pub given_back : (g : KoreSignature) (hand : List SortedName) (k : Consequent) (told : List SortedName) (p : StatePart) (x : Valuation) (o : Given) → AllByRecursion (IsRightClause g hand) (match_clauses g k p) → AreGoalsRight g hand k p →
    SaysWhatItGives g hand k x → IsGiven g k told p o → AreTrue g x o.rest → ArePut g x o.put → AreTrue g x (match_clauses g k p)
given_back g hand k told p x _ match asks says nothing h i = h
given_back g hand k told p x _ match asks says (by_match before after c put e before_it gives) h i =
    let good = given_are_good g hand k told p (record { rest = before ++ c ∷ after; put = put }) match asks before_it in
    let right = all_second (IsRightClause g hand) before (c ∷ after) good.0 in
    let last = all_second (IsValue g x) put (put_for e) i in
    let holds = all_both (IsClauseTrue g x) before (c ∷ after) (all_first (IsClauseTrue g x) before after h) ((says.by_match c e right.0 (new_is told put (given_by g k.bound c) e gives)).1 last.0, all_second (IsClauseTrue g x) before after h) in
    given_back g hand k told p x (record { rest = before ++ c ∷ after; put = put }) match asks says before_it holds (all_first (IsValue g x) put (put_for e) i)
given_back g hand k told p x _ match asks says (by_goal o c e before_it among gives) h i =
    given_back g hand k told p x o match asks says before_it h (all_first (IsValue g x) o.put (put_for e) i)
