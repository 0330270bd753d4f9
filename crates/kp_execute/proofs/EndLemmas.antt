-- What the end of a run says of the request's pattern and of the last state's.
use Rattle.std.proofs.Common.{◌≡◌, refl, sym, subst, ℕ, Bool, true, false, not, cond, List, [], ◌∷◌}
use Rattle.std.specs.List.{AllByRecursion, Contains, filter, list_any}
use Rattle.std.specs.Str.{bytes_eq}
use Rattle.kp_kore.specs.Syntax.{Text, KorePattern}
use Rattle.kp_kore.specs.Parts.{SortedName, free_variables}
use Rattle.kp_kore.specs.Instance.{GivesSorts, Valuation, is_named}
use Rattle.kp_kore.specs.Replies.{IsAbsent}
use Rattle.kp_kore.specs.AtHand.{HasNewNames}
use Rattle.kp_kore.specs.Theory.{Theory}
use Rattle.kp_kore.specs.Cases.{HaveOneSort}
use Rattle.kp_kore.specs.Onward.{Leads}
use Rattle.kp_kore.proofs.TurnLemmas.{each_member}
use Rattle.kp_symbolic.specs.States.{SymbolicState}
use Rattle.kp_symbolic.specs.WellFormed.{AreAtHand}
use Rattle.kp_symbolic_laws.specs.Runs.{HasOneSortEach}
use Rattle.kp_case_laws.specs.Parts.{whole}
use Rattle.kp_case_laws.specs.NextStates.{IsPatternOf, IsAtHand, HaveValues}
use Rattle.kp_case_laws.specs.Runs.{HasRunTo}
use Rattle.kp_case_laws.specs.RunLaws.{AreEndsOf}
use Rattle.kp_case_laws.proofs.AtHandLemmas.{sorts_of_hand, hand_in_hand}
use Rattle.kp_case_laws.proofs.RunLaws.{leads_as_patterns}
use Rattle.kp_case_laws.proofs.EndLaws.{gives_values}
use Rattle.kp_execute.specs.Told.{IsRequestOf}
use Rattle.kp_execute.proofs.NextLemmas.{new_names}

-- ---- where a run stands

-- the request's pattern and its state, the last state and its pattern, and the run from the one to the other
pub record Stands (t : Theory) (used : List Text) (request p : KorePattern) (first now : SymbolicState) (d : ℕ) : Type 0 where
  pub first_pattern : IsPatternOf t.signature request first
  pub all : AreAtHand first.variables (free_variables request)
  pub free : (x : Text) → list_any (bytes_eq x) used ≡ false → IsAbsent x request
  pub last_pattern : IsPatternOf t.signature p now
  pub one_sort : HaveOneSort now.variables
  pub run : HasRunTo t used first now d

one_sort_each : (xs : List SortedName) → HasOneSortEach xs → HaveOneSort xs
one_sort_each xs h = each_member (λ x. AllByRecursion (λ y. x.name ≡ y.name → x.sort ≡ y.sort) xs) xs (λ x m. each_member (λ y. x.name ≡ y.name → x.sort ≡ y.sort) xs (λ y n. h x y m n))

pub stands : (t : Theory) (used : List Text) (request p : KorePattern) (first now : SymbolicState) (d : ℕ) → IsRequestOf t.signature used request first → HasRunTo t used first now d → IsPatternOf t.signature p now → HasOneSortEach now.variables → Stands t used request p first now d
stands t used request p first now d h run pattern one = record {
  first_pattern = record {
    at_hand = subst (AreAtHand (free_variables request)) (sym h.read.variables) (each_member (Contains (free_variables request)) (free_variables request) (λ x m. m));
    instances = λ w c sorts. h.read.instances w c (subst (GivesSorts t.signature w) h.read.variables sorts);
  };
  all = subst (λ xs. AreAtHand xs (free_variables request)) (sym h.read.variables) (each_member (Contains (free_variables request)) (free_variables request) (λ x m. m));
  free = h.in_use;
  last_pattern = pattern;
  one_sort = one_sort_each now.variables one;
  run = run;
}

-- values of the request's variables, and of those that came in since
values_at : (t : Theory) (used : List Text) (request p : KorePattern) (first now : SymbolicState) (d : ℕ) → Stands t used request p first now d → (v : Valuation) → GivesSorts t.signature v (free_variables request) → HaveValues t.signature now.variables
values_at t used request p first now d s v sorts = gives_values t used first now (v, sorts_of_hand t.signature v first.variables (free_variables request) s.all sorts) s.run.grown

ends_at : (t : Theory) (used : List Text) (request p : KorePattern) (first now : SymbolicState) (d : ℕ) → Stands t used request p first now d → HaveValues t.signature now.variables → AreEndsOf t used request p first now
ends_at t used request p first now d s values = record { first = s.first_pattern; all = s.all; in_use = s.free; last = s.last_pattern; one_sort = s.one_sort; values = values }

-- ---- where it led

unnamed_on : (p : KorePattern) (x : SortedName) (rest : List SortedName) (b : Bool) → is_named x.name (free_variables p) ≡ b → AllByRecursion (λ y. is_named y.name (free_variables p) ≡ false) rest → AllByRecursion (λ y. is_named y.name (free_variables p) ≡ false) (cond (not b) (x ∷ rest) rest)
unnamed_on p x rest true e h = h
unnamed_on p x rest false e h = (e, h)

beyond : (p : KorePattern) (xs : List SortedName) → AllByRecursion (λ x. is_named x.name (free_variables p) ≡ false) (filter (λ x. not (is_named x.name (free_variables p))) xs)
beyond p [] = tt
beyond p (x ∷ xs) = unnamed_on p x (filter (λ y. not (is_named y.name (free_variables p))) xs) (is_named x.name (free_variables p)) refl (beyond p xs)

new_since : (t : Theory) (used : List Text) (request p : KorePattern) (first now : SymbolicState) (d : ℕ) → Stands t used request p first now d → HasNewNames request request p
new_since t used request p first now d s = new_names t.signature used request request p (free_variables request) first (whole now) s.free s.all s.run.grown s.last_pattern.at_hand (beyond request (free_variables p))

-- each valuation of the request's variables gives the values that are asked for
pub leads : (t : Theory) (used : List Text) (request p : KorePattern) (first now : SymbolicState) (d : ℕ) → Stands t used request p first now d → Leads t request p d
leads t used request p first now d s = record {
  found = λ v c given met later steps. (by v given.0).found v c given met later steps;
  only = λ v later sorts over. (by v sorts).only v later sorts over;
  names = new_since t used request p first now d s;
}
  where
    by : (v : Valuation) → GivesSorts t.signature v (free_variables request) → Leads t request p d
    by v sorts = leads_as_patterns t used request p first now d s.run (ends_at t used request p first now d s (values_at t used request p first now d s v sorts))

-- ---- what is at hand

request_at_hand : (t : Theory) (used : List Text) (request p : KorePattern) (first now : SymbolicState) (d : ℕ) → Stands t used request p first now d → AreAtHand (free_variables request) now.variables
request_at_hand t used request p first now d s = hand_in_hand (free_variables request) first.variables now.variables s.first_pattern.at_hand s.run.leads.at_hand

pub at_hand : (t : Theory) (used : List Text) (request p : KorePattern) (first now : SymbolicState) (d : ℕ) → Stands t used request p first now d → HaveValues t.signature now.variables → IsAtHand t.signature request p now
at_hand t used request p first now d s values = record { pattern = s.last_pattern; request_at_hand = request_at_hand t used request p first now d s; one_sort = s.one_sort; values = values }
