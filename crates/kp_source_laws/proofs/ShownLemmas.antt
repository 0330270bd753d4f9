-- What is shown where a step leaves something undecided is sourced in the state and the rules; in nothing, nothing is.
use Rattle.std.proofs.Common.{◌≡◌, sym, subst, ◌∙◌, inl, inr, not, ℕ, List, [], ◌∷◌, ◌++◌, Option, Some, None}
use Rattle.std.specs.List.{AllByRecursion, Contains}
use Rattle.kp_kore.specs.Parts.{SortedName}
use Rattle.kp_kore.specs.Signature.{KoreSignature}
use Rattle.kp_kore.specs.Rules.{RuleBody, RewriteRule}
use Rattle.kp_kore.specs.Theory.{Theory}
use Rattle.kp_kore.proofs.TurnLemmas.{of_member, each_member}
use Rattle.kp_symbolic.specs.States.{Literal, SymbolicState}
use Rattle.kp_symbolic.specs.Plain.{read_clauses, is_plain_clause, literals_of, rough_clauses}
use Rattle.kp_symbolic.specs.Verdicts.{Weighed}
use Rattle.kp_symbolic.proofs.Exact.{kept_true, all_read}
use Rattle.kp_case_laws.specs.Parts.{whole, with_clauses}
use Rattle.kp_step.proofs.ComesLemmas.{comes_by_more}
use Rattle.kp_unify.specs.Views.{part_view}
use Rattle.kp_step.specs.Meets.{MeetsRule}
use Rattle.kp_step.specs.Limits.{IsRuleMet}
use Rattle.kp_step.specs.RightSteps.{IsToldRule}
use Rattle.kp_step.proofs.FoundLemmas.{at_contains}
use Rattle.kp_step.specs.Remainders.{IsOneOf, IsOfTheory}
use Rattle.kp_step.specs.Causes.{IsShownOf, IsUndecidedStep}
use Rattle.kp_source_laws.specs.Sourced.{AreSourcedClauses, IsAllSourced, OfNew}
use Rattle.kp_source_laws.specs.Laws.{IsPartSourced, IsGrownSourced, IsShownSourced, IsMaybeOf, IsShownSourcedInTheory, IsNextSourced, IsRemainderSourced, IsUndecidedSourced, IsConditionSourced, IsCaseSourced}
use Rattle.kp_source_laws.proofs.SourcedParts.{itself_sourced, comes_sourced}

none_is_some : {A : Type 0} {a : A} → None ≡ Some a → ⊥
none_is_some e = cc

some_inside : {A : Type 0} {a b : A} → Some a ≡ Some b → a ≡ b
some_inside e = cc

-- ---- clauses that aren't plain

rough_have : (g : KoreSignature) (P : List Literal → Type 0) (s : SymbolicState) → AllByRecursion P s.clauses → AllByRecursion P (rough_clauses g s)
rough_have g P s h = kept_true P literals_of (λ c. not (is_plain_clause c)) (read_clauses g s) (subst (AllByRecursion P) (sym (all_read g s [] s.clauses)) h)

-- ---- parts

part_sourced : (g : KoreSignature) (R : RuleBody → Type 0) → IsPartSourced g R
part_sourced g R s q c =
    let k = comes_sourced g R s q c in
    (k.more, k.are, k.sourced k.more (each_member (Contains k.more) k.more (λ x i. i)))

pub by_rules : (g : KoreSignature) (rule : Option RewriteRule) (turns : List RewriteRule) → IsPartSourced g (IsOneOf rule turns)
by_rules g rule turns = part_sourced g (IsOneOf rule turns)

pub in_theory : (t : Theory) → IsPartSourced t.signature (IsOfTheory t)
in_theory t = part_sourced t.signature (IsOfTheory t)

same_rest : (xs ys zs : List SortedName) → xs ++ ys ≡ xs ++ zs → ys ≡ zs
same_rest [] ys zs e = e
same_rest (x ∷ xs) ys zs e = same_rest xs ys zs (rest e)
  where
    rest : x ∷ (xs ++ ys) ≡ x ∷ (xs ++ zs) → xs ++ ys ≡ xs ++ zs
    rest i = cc

pub grown_sourced : (t : Theory) → IsGrownSourced t
grown_sourced t used s q k c =
    let h = in_theory t s q c in
    subst (λ new. IsAllSourced t.signature (IsOfTheory t) new s q) (same_rest s.variables h.0 k.new (sym h.1 ∙ k.variables)) h.2

-- ---- what is shown

shown_of : (g : KoreSignature) (R : RuleBody → Type 0) (new : List SortedName) (s p : SymbolicState) (shown : List (List Literal)) (over : Option Weighed) → AreSourcedClauses g R new s p.clauses → IsShownOf g s p shown over → AreSourcedClauses g R new s shown
shown_of g R new s p shown None k (inl h) = subst (AreSourcedClauses g R new s) (sym h.shown_are) (rough_have g _ p k)
shown_of g R new s p shown None k (inr h) = subst (AreSourcedClauses g R new s) (sym h.are) (rough_have g _ s (itself_sourced g R new s).clauses)
shown_of g R new s p shown (Some w) k h = subst (AreSourcedClauses g R new s) (sym h.0.shown_are) k

shown_by : (t : Theory) (R : RuleBody → Type 0) (s : SymbolicState) (rule : Option RewriteRule) (shown : List (List Literal)) (over : Option Weighed) (k : IsUndecidedStep t s rule shown over) → ((b : RuleBody) → IsOneOf rule k.turns b → R b) →
    OfNew s k.part.state.variables (λ new. AreSourcedClauses t.signature R new s shown)
shown_by t R s rule shown over k f =
    let h = part_sourced t.signature R s k.part (comes_by_more t.signature (IsOneOf rule k.turns) R (whole s) k.part f k.comes) in
    (h.0, h.1, shown_of t.signature R h.0 s k.part.state shown over h.2.clauses k.shows)

pub shown_sourced : (t : Theory) → IsShownSourced t
shown_sourced t s rule shown over k = shown_by t (IsOneOf rule k.turns) s rule shown over k (λ b i. i)

pub shown_in_theory : (t : Theory) → IsShownSourcedInTheory t
shown_in_theory t s rule shown over among k = shown_by t (IsRuleMet t s) s rule shown over k (λ b i. (of b i, k.meets b i))
  where
    of : (b : RuleBody) → IsOneOf rule k.turns b → IsOfTheory t b
    of b (r, inl c, e) = (r, of_member (Contains t.rules) k.turns r k.of_theory c, e)
    of b (r, inr i, e) = (r, among r i, e)

-- ---- what a step tells

pub next_sourced : (t : Theory) → IsNextSourced t
next_sourced t used s n k = in_theory t s (part_view n.part) k.comes

pub remainder_sourced : (t : Theory) → IsRemainderSourced t
remainder_sourced t used s p k = grown_sourced t used s (part_view p) k.grown k.comes

pub undecided_sourced : (t : Theory) → IsUndecidedSourced t
undecided_sourced t s shown over place k = shown_in_theory t s k.rule shown k.weight (of place k.rule k.is_rule) k.what_is_undecided
  where
    of : (place : Option ℕ) (rule : Option RewriteRule) → IsToldRule t place rule → IsMaybeOf t rule
    of (Some i) (Some q) at r e = subst (Contains t.rules) (some_inside e) (at_contains t.rules i q at)
    of None None at r e = absurd (none_is_some e)
    of (Some i) None at r e = absurd at
    of None (Some q) at r e = absurd at

-- ---- where a limit is passed

pub condition_sourced : (t : Theory) → IsConditionSourced t
condition_sourced t s x k =
    let part = with_clauses k.firing.part k.firing.clauses in
    (k.is, part_sourced t.signature (IsRuleMet t s) s part (comes_by_more t.signature (λ b. b ≡ k.rule.body) (IsRuleMet t s) (whole s) part (λ b e. ((k.rule, k.of_theory, sym e), subst (MeetsRule t.signature s) (sym e) k.meets)) k.comes))

pub case_sourced : (t : Theory) → IsCaseSourced t
case_sourced t s k m = part_sourced t.signature (IsRuleMet t s) s k.part m.comes
