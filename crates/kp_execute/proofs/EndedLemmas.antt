-- What is written for a run, of its parts.
use Rattle.std.proofs.Common.{◌≡◌, refl, sym, ap, ◌∙◌, subst, ℕ, true, List, [], ◌∷◌, ◌++◌, map, Some, slice_get, string_bytes}
use Rattle.std.specs.List.{AllZip, list_all}
use Rattle.kp_kore.specs.Syntax.{Text, KoreSort, KorePattern}
use Rattle.kp_kore.specs.Signature.{KoreSignature}
use Rattle.kp_kore.specs.Rules.{RewriteRule}
use Rattle.kp_kore.specs.Theory.{Theory}
use Rattle.kp_symbolic.specs.States.{Literal}
use Rattle.kp_symbolic.specs.View.{state_view}
use Rattle.kp_rules.specs.Bodies.{IsCodeOf}
use Rattle.kp_rules.specs.declared.rule.Rule.{Rule}
use Rattle.kp_rule_sets.specs.RuleSets.{RunsAs}
use Rattle.kp_rule_sets.specs.declared.rule_set.RuleSet.{RuleSet}
use Rattle.kp_unify.specs.Views.{part_view}
use Rattle.kp_unify.specs.declared.part.Part.{Part}
use Rattle.kp_step.specs.Places.{IsAt}
use Rattle.kp_step.specs.declared.outcome.Next.{Next}
use Rattle.kp_step.proofs.PlaceLemmas.{zip_at}
use Rattle.kp_execute.specs.declared.ending.Run.{Run}
use Rattle.kp_results.specs.Results.{StateParts, NextParts, Ending, cut_point, terminal, ExecutedParts}
use Rattle.kp_execute.specs.Ended.{IsCutWritten, IsStopWritten}
use Rattle.kp_execute.specs.Lost.{parts_variables, mentions_none_lost}
use Rattle.kp_execute.specs.Written.{IsStateWritten, IsAddedWritten, IsIdAt, IsNextWritten, IsRemainderWritten, AreCasesWritten, IsShown, IsEndWritten, IsRunWritten}
use Rattle.kp_execute.proofs.LostLemmas.{none_mentioned}

-- ---- a run

pub run_written : (t : Theory) (r : Run) (x : ExecutedParts) (state : StateParts) (e : Ending) (xs : List NextParts) → x ≡ record { depth = r.depth; ending = e; state = state; nexts = xs } → IsStateWritten t.signature (state_view r.state) state → IsShown state.predicate → IsEndWritten t r.ending e xs →
    list_all (mentions_none_lost (state_view r.state).variables (parts_variables state)) xs ≡ true → IsRunWritten t r x
run_written t r x state e xs same w shown end kept = subst (IsRunWritten t r) (sym same) (record {
  depth = refl;
  state = w;
  shown = shown;
  end = end;
  none_lost = none_mentioned (state_view r.state).variables (state_view r.state).sort state xs kept;
})

-- ---- ids

-- the code's rule of a place is the theory's, with its id
pub id_is_at : (t : Theory) (rules : RuleSet) (place : ℕ) (x : Rule) (id : Text) → RunsAs t rules → slice_get rules.rules.items place ≡ Some x → id ≡ string_bytes x.id.value → IsIdAt t place id
id_is_at t rules place x id runs found e =
    let r : (r : RewriteRule) × (slice_get t.rules place ≡ Some r) × IsCodeOf t.signature r x = zip_at (IsCodeOf t.signature) t.rules rules.rules.items place x runs.each found in
    (r.0, r.1, e ∙ r.2.id)

pub one_rule : (t : Theory) (place : ℕ) (r s : RewriteRule) → IsAt t place r → IsAt t place s → r ≡ s
one_rule t place r s a b = inside (sym a ∙ b)
  where
    inside : {X : Type 0} {x y : X} → Some x ≡ Some y → x ≡ y
    inside e = cc

-- ---- cases

pub next_is_written : (t : Theory) (n : Next) (x : NextParts) (id : Text) → IsIdAt t n.rule id → x.rule ≡ Some id → IsAddedWritten t.signature (part_view n.part).state.sort (part_view n.part).added x.predicate → IsStateWritten t.signature (state_view n.state) x.state → IsNextWritten t n x
next_is_written t n x id at is predicate state = record { rule = at.0; at = at.1; id = is ∙ ap Some at.2; predicate = predicate; state = state }

pub cases_are_written : (t : Theory) (ns : List Next) (ps : List Part) (xs ys zs : List NextParts) → AllZip (IsNextWritten t) ns xs → AllZip (IsRemainderWritten t) ps ys → zs ≡ xs ++ ys → AreCasesWritten t ns ps zs
cases_are_written t ns ps xs ys zs a b e = record { by_rules = xs; others = ys; each_next = a; each_part = b; are = e }

-- ---- reasons with a rule's id

pub cut_written : (t : Theory) (n : Next) (x : NextParts) (id : Text) (xs : List NextParts) → IsIdAt t n.rule id → IsNextWritten t n x → xs ≡ x ∷ [] → IsCutWritten t n (cut_point id) xs
cut_written t n x id xs at w e = (x, e, w, ap cut_point (at.2 ∙ ap (λ r. r.id) (one_rule t n.rule at.0 w.rule at.1 w.at)))

pub stop_written : (t : Theory) (place : ℕ) (id : Text) (e : Ending) (xs : List NextParts) → IsIdAt t place id → e ≡ terminal id → xs ≡ [] → IsStopWritten t place e xs
stop_written t place id e xs at is none = (at.0, at.1, is ∙ ap terminal at.2, none)

-- ---- what was added, as the theory's signature has it

pub added_of : (g h : KoreSignature) (sort to : KoreSort) (cs ds : List (List Literal)) (q : KorePattern) → g ≡ h → sort ≡ to → cs ≡ ds → IsAddedWritten g sort cs q → IsAddedWritten h to ds q
added_of g h sort to cs ds q a b c w = subst (λ k. IsAddedWritten k to ds q) a (subst (λ k. IsAddedWritten g k ds q) b (subst (λ k. IsAddedWritten g sort k q) c w))

-- ---- lists as they are seen

pub zip_seen : {X Y Z : Type 0} (R : X → Z → Type 0) (seen : Y → Z) (xs : List X) (ys : List Y) → AllZip (λ x y. R x (seen y)) xs ys → AllZip R xs (map seen ys)
zip_seen R seen [] [] z = tt
zip_seen R seen [] (y ∷ ys) z = absurd z
zip_seen R seen (x ∷ xs) [] z = absurd z
zip_seen R seen (x ∷ xs) (y ∷ ys) z = (z.0, zip_seen R seen xs ys z.1)
