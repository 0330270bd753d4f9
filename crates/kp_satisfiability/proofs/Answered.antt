-- Which answers are right.
use Rattle.std.proofs.Common.{arith, Option, ◌≡◌, refl, sym, ap, subst, ◌∙◌, inl, inr, ℕ, ◌≤◌, Bool, true, false, ◌&&◌, List, [], ◌∷◌, ◌++◌, map, length, Some, None}
use Rattle.std.specs.Prelude.{◌⊎◌, Vec, Result, Ok, Err, IfOk}
use Rattle.std.specs.List.{AllByRecursion, list_all, list_any, filter}
use Rattle.std.specs.declared.alloc.Global.{Global}
use Rattle.std.proofs.lemmas.List.{length-map}
use Rattle.kp_kore.specs.Signature.{KoreSignature}
use Rattle.kp_kore.specs.Instance.{Valuation}
use Rattle.kp_kore.proofs.ListLemmas.{all_map}
use Rattle.kp_heads.specs.Heads.{HasValue}
use Rattle.kp_symbolic.specs.States.{Literal, AreTrue, SymbolicState, CanBeTrue}
use Rattle.kp_symbolic.specs.Plain.{Form, compares, is_truth, equates, asks, gives, ReadLiteral, read_clause, read_from, read_clauses, is_plain_clause, has_form, plain_part, plain_clauses, rough_clauses}
use Rattle.kp_kore.specs.Hooks.{equal, different, less, at_most, greater, at_least}
use Rattle.kp_symbolic.specs.Weights.{Weight, IsWeight, IsOver, form_length, clause_length}
use Rattle.kp_symbolic.specs.Verdicts as model
use Rattle.kp_symbolic.proofs.Exact.{by_plain_can}
use Rattle.kp_literals.specs.Readings.{clauses_view}
use Rattle.kp_literals.specs.declared.reading.ReadLiteral as code
use Rattle.kp_literals.specs.Parts.{clauses_of, is_plain_read}
use Rattle.kp_literals.proofs.Unknowns.{some_of_kind}
use Rattle.kp_limits.specs.Told.{told, weight_view, TellsWeight, TellsOver, IsFirstOver}
use Rattle.kp_limits.specs.declared.weight.Weighed.{Weighed}
use Rattle.kp_clause_demands.specs.Holding.{CanBeAsked, CanBeDecided}
use Rattle.kp_satisfiability.proofs.Asked.{asked_in, CanHaveHeads}
use Rattle.kp_satisfiability.proofs.Decided.{true_where_met, never_where_unmet, never_by_plain}
use Rattle.kp_satisfiability.proofs.Found.{AreThese, are_these, are_light, can_be_decided}
use Rattle.kp_satisfiability.proofs.GivenLemmas.{gives_at_hand}
use Rattle.kp_satisfiability.proofs.Growing.{AreSome, over_all}
use Rattle.kp_satisfiability.proofs.HeadLemmas.{IsSome, stand_where_asked, can_have_heads}
use Rattle.kp_satisfiability.proofs.HeadsTrue.{heads_where_true, asked_at_hand, asked_alone}
use Rattle.kp_satisfiability.proofs.Parts.{as_many, plain_can_be_true, none_by_plain}
use Rattle.kp_satisfiability.specs.Answers.{IsToldAs, ShowsOver, IsRightAnswer}
use Rattle.kp_satisfiability.specs.Heads.{AreStanding}
use Rattle.kp_satisfiability.specs.Read.{has_literal, rough_in, AreReadOf, HasSortedClauses}
use Rattle.kp_satisfiability.specs.declared.verdict.Verdict.{Verdict}
use Rattle.kp_satisfiability.specs.declared.verdict.Verdict.TheVariants.{SomeValuation, NoValuation}

-- the clauses as the code has them
abbrev Clauses : Type 0
Clauses = List (Vec code.ReadLiteral Global)

-- ---- verdicts

pub some_right : (g : KoreSignature) (s : SymbolicState) → CanBeTrue g s.variables s.clauses → IsRightAnswer g s SomeValuation
some_right g s h = record { verdict = model.some_valuation; right = h; is_told = tt }

pub none_right : (g : KoreSignature) (s : SymbolicState) → ¬ CanBeTrue g s.variables s.clauses → IsRightAnswer g s NoValuation
none_right g s n = record { verdict = model.no_valuation; right = n; is_told = tt }

open_right : (g : KoreSignature) (s : SymbolicState) (a : Verdict) (shown : List (List Literal)) → CanBeTrue g s.variables (plain_clauses g s) → ¬ CanBeTrue g s.variables (map plain_part (read_clauses g s)) → shown ≡ rough_clauses g s → IsToldAs (model.undecided shown None) a → IsRightAnswer g s a
open_right g s a shown plain none e told = record { verdict = model.undecided shown None; right = record { plain = plain; none_by_plain = none; shown_are = e }; is_told = told }

-- the plain clauses pass the weight, or can be true
abbrev ArePlainFirst : KoreSignature → SymbolicState → Weight → Type 0
ArePlainFirst g s w = ((n : ℕ) × IsOver w (filter is_plain_clause (read_clauses g s)) n) ⊎ CanBeTrue g s.variables (plain_clauses g s)

heavy_right : (g : KoreSignature) (s : SymbolicState) (a : Verdict) (w : Weighed) (n : ℕ) → IsOver (weight_view w.weight) (read_clauses g s) n → ArePlainFirst g s (weight_view w.weight) → w.number ≡ told n → ShowsOver s.clauses w a → IsRightAnswer g s a
heavy_right g s a w n over first e shows =
    let m : model.Weighed = record { weight = weight_view w.weight; number = n } in
    record { verdict = model.undecided s.clauses (Some m); right = record { over = over; shown_are = refl; plain_first = first }; is_told = shows m (refl, e) }

-- ---- no clause is empty

long : (o : Option Form) → 1 ≤ form_length o
long (Some (compares equal m n)) = omega arith
long (Some (compares different m n)) = omega arith
long (Some (compares less m n)) = omega arith
long (Some (compares at_most m n)) = omega arith
long (Some (compares greater m n)) = omega arith
long (Some (compares at_least m n)) = omega arith
long (Some (is_truth x b)) = omega arith
long (Some (equates b p q)) = omega arith
long (Some (asks x test b)) = omega arith
long (Some (gives e)) = omega arith
long None = omega arith

longer : (c : List ReadLiteral) → IsSome c → 1 ≤ clause_length c
longer [] h = absurd h
longer (l ∷ c) h = let own = long l.form in omega (arith, own)

first_true : (a b : Bool) → (a && b) ≡ true → a ≡ true
first_true true b e = refl
first_true false b e = e

second_true : (a b : Bool) → (a && b) ≡ true → b ≡ true
second_true true b e = e
second_true false b e = absurd (cc)

clause_some : (g : KoreSignature) (s : SymbolicState) (others : List (List Literal)) (c : List Literal) → has_literal c ≡ true → IsSome (read_clause g s others c)
clause_some g s others [] e = absurd (cc)
clause_some g s others (l ∷ []) e = tt
clause_some g s others (l ∷ m ∷ c) e = tt

all_some : (g : KoreSignature) (s : SymbolicState) (before cs : List (List Literal)) → list_all has_literal cs ≡ true → AllByRecursion IsSome (read_from g s before cs)
all_some g s before [] e = tt
all_some g s before (c ∷ cs) e = (clause_some g s (before ++ cs) c (first_true (has_literal c) (list_all has_literal cs) e), all_some g s (before ++ c ∷ []) cs (second_true (has_literal c) (list_all has_literal cs) e))

have_some : (g : KoreSignature) (v : Valuation) (cs : List (List Literal)) → list_all has_literal cs ≡ false → AreTrue g v cs → ⊥
have_some g v [] e h = cc
have_some g v ([] ∷ cs) e h = h.0 tt
have_some g v ((l ∷ c) ∷ cs) e h = have_some g v cs e h.1

-- ---- at once

pub none_of_values : (g : KoreSignature) (s : SymbolicState) → ¬ AllByRecursion (λ x. HasValue g x.sort) s.variables → IsRightAnswer g s NoValuation
none_of_values g s n = none_right g s (λ h. n (all_map _ (λ x. HasValue g x.sort) s.variables (λ x k. (h.valuation x.name, k)) h.sorts))

pub none_of_literals : (g : KoreSignature) (s : SymbolicState) → list_all has_literal s.clauses ≡ false → IsRightAnswer g s NoValuation
none_of_literals g s e = none_right g s (λ h. have_some g h.valuation s.clauses e h.are_true)

pub none_of_heads : (g : KoreSignature) (s : SymbolicState) (rs : List (List ReadLiteral)) → rs ≡ read_clauses g s → list_all has_literal s.clauses ≡ true → ¬ AreStanding g rs → HasSortedClauses g s → IsRightAnswer g s NoValuation
none_of_heads g s rs read e n well = none_right g s (λ h.
    n (subst (AreStanding g) (sym read) (stand_where_asked g h.valuation (read_clauses g s) (all_some g s [] s.clauses e) (heads_where_true g s well h)
    (gives_at_hand g h.valuation s.variables (asked_in (read_clauses g s)) (asked_at_hand g s well) h.sorts))))

-- ---- by all clauses

heads_of : (g : KoreSignature) (s : SymbolicState) (cs : Clauses) → AreReadOf g s cs → CanHaveHeads g (read_clauses g s)
heads_of g s cs k = can_have_heads g s.variables (read_clauses g s) k.sorted.one_sort_each (asked_at_hand g s k.sorted) (asked_alone g s) (subst (AreStanding g) k.read k.heads)

abbrev every : List ReadLiteral → Bool
every c = true

keeps_every : (cs : List (List ReadLiteral)) → filter every cs ≡ cs
keeps_every [] = refl
keeps_every (c ∷ cs) = ap (λ ds. c ∷ ds) (keeps_every cs)

all_these : (g : KoreSignature) (s : SymbolicState) (cs : Clauses) → AreReadOf g s cs → AreThese g s every cs
all_these g s cs k = are_these g s every cs k.sorted (k.read ∙ sym (keeps_every (read_clauses g s))) k.kinds

decided_of : (g : KoreSignature) (s : SymbolicState) (cs : Clauses) → AreReadOf g s cs → TellsOver (clauses_view cs) None → CanBeDecided g cs
decided_of g s cs k light = can_be_decided g s every cs k.sorted k.values (all_these g s cs k) (are_light cs light)

pub right_where_all_met : (g : KoreSignature) (s : SymbolicState) (cs : Clauses) → TellsOver (clauses_view cs) None → (CanBeDecided g cs → CanBeAsked g cs) → AreReadOf g s cs → IsRightAnswer g s SomeValuation
right_where_all_met g s cs light met k =
    let can = true_where_met g s every cs k.sorted k.values (heads_of g s cs k) (all_these g s cs k) (met (decided_of g s cs k light)) in
    some_right g s (by_plain_can g s (subst (λ rs. CanBeTrue g s.variables (map plain_part rs)) (keeps_every (read_clauses g s)) can))

pub open_where_none_met : (g : KoreSignature) (s : SymbolicState) (cs : Clauses) (a : Verdict) → IsToldAs (model.undecided (rough_in (clauses_view cs)) None) a → TellsOver (clauses_view cs) None → (CanBeDecided g cs → ¬ CanBeAsked g cs) → AreReadOf g s cs → CanBeTrue g s.variables (plain_clauses g s) → IsRightAnswer g s a
open_where_none_met g s cs a shows light unmet k plain =
    open_right g s a (rough_in (clauses_view cs)) plain (never_by_plain g s cs k.sorted k.read (all_these g s cs k).at_hand (unmet (decided_of g s cs k light))) (ap rough_in k.read) shows

pub open_where_none_plain : (g : KoreSignature) (s : SymbolicState) (cs : Clauses) (a : Verdict) → IsToldAs (model.undecided (rough_in (clauses_view cs)) None) a → list_all (λ c. list_any has_form c) (clauses_view cs) ≡ false → AreReadOf g s cs → CanBeTrue g s.variables (plain_clauses g s) → IsRightAnswer g s a
open_where_none_plain g s cs a shows e k plain =
    open_right g s a (rough_in (clauses_view cs)) plain (none_by_plain g s (subst (λ rs. list_all (λ c. list_any has_form c) rs ≡ false) k.read e)) (ap rough_in k.read) shows

pub heavy_where_over : (g : KoreSignature) (s : SymbolicState) (cs : Clauses) (a : Verdict) (w : Weighed) → ShowsOver s.clauses w a → IsFirstOver (clauses_view cs) w → AreReadOf g s cs → CanBeTrue g s.variables (plain_clauses g s) → IsRightAnswer g s a
heavy_where_over g s cs a w shows first k plain = heavy_right g s a w first.number (subst (λ rs. IsOver (weight_view w.weight) rs first.number) k.read first.over) (inr plain) first.told_is shows

-- ---- by the plain clauses

-- the code's plain clauses
pub record ArePlainOf (cs ps : Clauses) : Type 0 where
  pub view : clauses_view ps ≡ filter is_plain_clause (clauses_view cs)
  pub same : clauses_of ps ≡ filter is_plain_read (clauses_of cs)

plain_these : (g : KoreSignature) (s : SymbolicState) (cs ps : Clauses) → ArePlainOf cs ps → AreReadOf g s cs → AreThese g s is_plain_clause ps
plain_these g s cs ps p k = are_these g s is_plain_clause ps k.sorted (p.view ∙ ap (filter is_plain_clause) k.read) (some_of_kind g is_plain_read cs ps p.same k.kinds)

plain_decided : (g : KoreSignature) (s : SymbolicState) (cs ps : Clauses) → ArePlainOf cs ps → TellsOver (clauses_view ps) None → AreReadOf g s cs → CanBeDecided g ps
plain_decided g s cs ps p light k = can_be_decided g s is_plain_clause ps k.sorted k.values (plain_these g s cs ps p k) (are_light ps light)

pub none_where_unmet : (g : KoreSignature) (s : SymbolicState) (cs ps : Clauses) → ArePlainOf cs ps → TellsOver (clauses_view ps) None → (CanBeDecided g ps → ¬ CanBeAsked g ps) → AreReadOf g s cs → IsRightAnswer g s NoValuation
none_where_unmet g s cs ps p light unmet k = none_right g s (never_where_unmet g s ps k.sorted (plain_these g s cs ps p k) (unmet (plain_decided g s cs ps p light k)))

plain_met : (g : KoreSignature) (s : SymbolicState) (cs ps : Clauses) → ArePlainOf cs ps → TellsOver (clauses_view ps) None → (CanBeDecided g ps → CanBeAsked g ps) → AreReadOf g s cs → CanBeTrue g s.variables (map plain_part (filter is_plain_clause (read_clauses g s)))
plain_met g s cs ps p light met k = true_where_met g s is_plain_clause ps k.sorted k.values (heads_of g s cs k) (plain_these g s cs ps p k) (met (plain_decided g s cs ps p light k))

pub plain_where_met : (g : KoreSignature) (s : SymbolicState) (cs ps : Clauses) → ArePlainOf cs ps → TellsOver (clauses_view ps) None → (CanBeDecided g ps → CanBeAsked g ps) → AreReadOf g s cs → CanBeTrue g s.variables (plain_clauses g s)
plain_where_met g s cs ps p light met k = plain_can_be_true g s (plain_met g s cs ps p light met k)

pub right_where_plain : (g : KoreSignature) (s : SymbolicState) (cs ps : Clauses) → ArePlainOf cs ps → TellsOver (clauses_view ps) None → (CanBeDecided g ps → CanBeAsked g ps) → length ps ≡ length cs → AreReadOf g s cs → IsRightAnswer g s SomeValuation
right_where_plain g s cs ps p light met many k =
    let long = sym (ap length p.view) ∙ length-map ps _ ∙ many ∙ sym (length-map cs _) in
    let all : filter is_plain_clause (read_clauses g s) ≡ read_clauses g s = subst (λ rs. filter is_plain_clause rs ≡ rs) k.read (as_many is_plain_clause (clauses_view cs) long) in
    some_right g s (by_plain_can g s (subst (λ rs. CanBeTrue g s.variables (map plain_part rs)) all (plain_met g s cs ps p light met k)))

-- the weight that the plain clauses pass, told of all
pub heavy_where_plain : (g : KoreSignature) (s : SymbolicState) (cs ps : Clauses) (a : Verdict) (over w : Weighed) → ArePlainOf cs ps → ShowsOver s.clauses w a → IsFirstOver (clauses_view ps) over → w.weight ≡ over.weight → TellsWeight (clauses_view cs) (weight_view w.weight) w.number → AreReadOf g s cs → IsRightAnswer g s a
heavy_where_plain g s cs ps a over w p shows first kind tells k =
    let rs = read_clauses g s in
    let some : AreSome rs = all_map IsSome (λ c. 1 ≤ clause_length c) rs longer (all_some g s [] s.clauses k.literals) in
    let part : IsOver (weight_view w.weight) (filter is_plain_clause rs) first.number = subst (λ o. IsOver (weight_view o) (filter is_plain_clause rs) first.number) (sym kind) (subst (λ ds. IsOver (weight_view over.weight) ds first.number) (p.view ∙ ap (filter is_plain_clause) k.read) first.over) in
    let weighs = subst (λ ds. IsWeight (weight_view w.weight) ds tells.weight) k.read tells.weighs in
    heavy_right g s a w tells.weight (over_all (weight_view w.weight) is_plain_clause rs first.number tells.weight some part weighs) (inl (first.number, part)) tells.told_is shows

-- ---- results

pub if_ok : {A E : Type 0} (r : Result A E) (P Q : A → Type 0) → ((x : A) → P x → Q x) → IfOk r P → IfOk r Q
if_ok (Ok x) P Q f h = f x h
if_ok (Err e) P Q f h = tt
