-- A round that ends a proof as failed: its node is stuck and not covered, or flagged and not covered.
use Rattle.std.proofs.Common.{◌≡◌, refl, sym, ap, subst, ◌∙◌, ℕ, true, List, Some, None, inl, inr}
use Rattle.std.specs.Prelude.{◌⊎◌}
use Rattle.std.specs.List.{AllByRecursion}
use Rattle.kp_kore.specs.Theory.{Theory}
use Rattle.kp_kore.specs.Children.{target_of}
use Rattle.kp_kore.specs.ClaimRules.{with_rules}
use Rattle.kp_kore.specs.Arcs.{StuckSays}
use Rattle.kp_kore.specs.Implied.{HasCounterexample}
use Rattle.kp_kore.proofs.Ended.{stuck_in_main}
use Rattle.kp_graph.specs.Tree as graph
use Rattle.kp_graph.specs.Tree.{ProofNode, NodeArc, node_at, arc_fault, with_arc}
use Rattle.kp_graph.proofs.Places.{at_place}
use Rattle.kp_graph.proofs.Opened.{Opened, opened, changes, get_placed}
use Rattle.kp_book.specs.Books.{Opening, Registration}
use Rattle.kp_results.specs.Results as parts
use Rattle.kp_results.specs.Results.{ExecutedParts}
use Rattle.kp_replies.proofs.Methods.{told_nexts}
use Rattle.kp_links.specs.Links.{Exchange}
use Rattle.kp_rounds.specs.Jobs.{ProofJob, AddedModules}
use Rattle.kp_rounds.specs.Rounds as rounds
use Rattle.kp_rounds.specs.Rounds.{RoundEnd, goes_on, ends, Round, Leading, failed_at, step_request}
use Rattle.kp_rounds.specs.Sound.{IsStuckAt, dependencies_of, circularities_of}
use Rattle.kp_round_laws.specs.RightRounds.{IsRightFrom, Stands}
use Rattle.kp_round_laws.proofs.RunsSay.{run_stuck}
use Rattle.kp_round_laws.proofs.RoundsSay.{told_uncovered, told_run}

-- node n is flagged and terminal, and some instance of its state is none of the claim's right side
pub record IsLeftTerminal (t : Theory) (job : ProofJob) (tree : List ProofNode) (n : ℕ) : Type 0 where
  pub node : ProofNode
  pub at : node_at tree n ≡ Some node
  pub arc : node.arc ≡ Some graph.terminal
  pub flagged : node.flagged ≡ true
  pub uncovered : HasCounterexample t.signature node.state (target_of job.claim)

record HasArc (tree : List ProofNode) (n : ℕ) (x : ProofNode) (a : NodeArc) : Type 0 where
  node : ProofNode
  at : node_at (with_arc n a tree) n ≡ Some (record node { arc = Some a })
  same : x ≡ node

has_arc : (tree : List ProofNode) (n : ℕ) (x : ProofNode) (a : NodeArc) → arc_fault tree n ≡ None → node_at tree n ≡ Some x → HasArc tree n x a
has_arc tree n x a free at =
    let o : Opened tree n = opened tree n free in
    let both : Some x ≡ Some o.node = sym at ∙ at_place tree n o.place o.number ∙ o.at in
    record {
      node = o.node;
      at = rw (changes (λ y. record y { arc = Some a }) tree n o) (at_place _ n o.place o.number ∙ get_placed tree o.place o.node (record o.node { arc = Some a }) o.at);
      same = cc both;
    }

abbrev pub FailsAt : Theory → ProofJob → RoundEnd → ℕ → Type 0
FailsAt t job (goes_on tree) m = Unit {0}
FailsAt t job (ends tree outcome) m = outcome ≡ failed_at m → IsStuckAt t job.claim tree m ⊎ IsLeftTerminal t job tree m

number_of : (n m : ℕ) → failed_at n ≡ failed_at m → n ≡ m
number_of n m e = cc e

stuck_there : (t : Theory) (job : ProofJob) (tree : List ProofNode) (n : ℕ) (x : ProofNode) → arc_fault tree n ≡ None → node_at tree n ≡ Some x → StuckSays t x.state → HasCounterexample t.signature x.state (target_of job.claim) → IsStuckAt t job.claim (with_arc n graph.stuck tree) n
stuck_there t job tree n x free at final uncovered =
    let h : HasArc tree n x graph.stuck = has_arc tree n x graph.stuck free at in
    let state : x.state ≡ h.node.state = ap (λ (y : ProofNode). y.state) h.same in
    record {
      node = record h.node { arc = Some graph.stuck };
      at = h.at;
      arc = refl;
      final = subst (StuckSays t) state final;
      uncovered = subst (λ s. HasCounterexample t.signature s (target_of job.claim)) state uncovered;
    }

terminal_there : (t : Theory) (job : ProofJob) (tree : List ProofNode) (n : ℕ) (x : ProofNode) → arc_fault tree n ≡ None → node_at tree n ≡ Some x → x.flagged ≡ true → HasCounterexample t.signature x.state (target_of job.claim) → IsLeftTerminal t job (with_arc n graph.terminal tree) n
terminal_there t job tree n x free at flagged uncovered =
    let h : HasArc tree n x graph.terminal = has_arc tree n x graph.terminal free at in
    let state : x.state ≡ h.node.state = ap (λ (y : ProofNode). y.state) h.same in
    record {
      node = record h.node { arc = Some graph.terminal };
      at = h.at;
      arc = refl;
      flagged = sym (ap (λ (y : ProofNode). y.flagged) h.same) ∙ flagged;
      uncovered = subst (λ s. HasCounterexample t.signature s (target_of job.claim)) state uncovered;
    }

added_fails : (t : Theory) (job : ProofJob) (tree : List ProofNode) (n count : ℕ) (grown : List ProofNode) (end : RoundEnd) (m : ℕ) → rounds.AddsNodes tree n count grown end → FailsAt t job end m
added_fails t job tree n count grown end m (rounds.has_room l) = tt
added_fails t job tree n count grown end m (rounds.too_many l) = λ e. absurd (cc e)

leading_fails : (t : Theory) (job : ProofJob) (tree : List ProofNode) (n : ℕ) (x : ProofNode) (e : Exchange) (r : ExecutedParts) (end : RoundEnd) (m : ℕ) → arc_fault tree n ≡ None → node_at tree n ≡ Some x → HasCounterexample t.signature x.state (target_of job.claim) →
    (r.depth ≡ 0 → r.ending ≡ parts.stuck → StuckSays t x.state) → Leading tree n x.state e r end → FailsAt t job end m
leading_fails t job tree n x e r end m free at un stuck (rounds.Leading.edge beyond last some is adds) = added_fails t job tree n 1 _ last m adds
leading_fails t job tree n x e r end m free at un stuck (rounds.stuck none is) = λ same. inl (subst (IsStuckAt t job.claim (with_arc n graph.stuck tree)) (number_of n m same) (stuck_there t job tree n x free at (stuck none is) un))
leading_fails t job tree n x e r end m free at un stuck (rounds.Leading.vacuous none is) = tt
leading_fails t job tree n x e r end m free at un stuck (rounds.Leading.held none is) = tt
leading_fails t job tree n x e r end m free at un stuck (rounds.cut id children last none is z adds) = added_fails t job tree n _ _ last m adds
leading_fails t job tree n x e r end m free at un stuck (rounds.split last none is some whole one adds) = added_fails t job tree n _ _ last m adds
leading_fails t job tree n x e r end m free at un stuck (rounds.undivided none is whole one) = tt
leading_fails t job tree n x e r end m free at un stuck (rounds.branch children last none is some part z adds) = added_fails t job tree n _ _ last m adds

-- a round that ends the proof as failed leaves its node stuck and not covered, or flagged and not covered
pub round_fails : (o : Opening) (t : Theory) (job : ProofJob) (modules : AddedModules) (book : List Registration) (tree : List ProofNode) (n : ℕ) (x : ProofNode) (es : List Exchange) (end : RoundEnd) (m : ℕ) → Stands o t job modules book → arc_fault tree n ≡ None → node_at tree n ≡ Some x →
    AllByRecursion (IsRightFrom o book) es → Round job modules tree n x es end → FailsAt t job end m
round_fails o t job modules book tree n x es end m st free at right (rounds.covered e p q tells is) = tt
round_fails o t job modules book tree n x es end m st free at right (rounds.Round.vacuous e p q tells is) = tt
round_fails o t job modules book tree n x es end m st free at right (rounds.undecided e tells) = tt
round_fails o t job modules book tree n x es end m st free at right (rounds.Round.refused fs code refuses other) = λ e. absurd (cc e)
round_fails o t job modules book tree n x es end m st free at right (rounds.terminal e tells flagged) =
    λ same. inr (subst (IsLeftTerminal t job (with_arc n graph.terminal tree)) (number_of n m same) (terminal_there t job tree n x free at flagged (told_uncovered o t job book x.state e st.main right.0 tells)))
round_fails o t job modules book tree n x es end m st free at right (rounds.steps e fs _ tells plain (rounds.by_run name f r last asks run leads)) =
    let ran = told_run o t job modules book tree n x name f r st at right.1.0 asks run in
    leading_fails t job tree n x f r last m free at (told_uncovered o t job book x.state e st.main right.0 tells)
    (λ none is. stuck_in_main t (dependencies_of job) (circularities_of job) x.progress ran.0.rules x.state ran.0.may (run_stuck (with_rules t ran.0.rules) (step_request job modules name x.state run.number) r ran.1 (told_nexts f.reply r run.told) none is)) leads
round_fails o t job modules book tree n x es end m st free at right (rounds.steps e fs _ tells plain (rounds.by_front name f u last asks run (rounds.LeadingTo.edge beyond after some is adds))) = added_fails t job tree n 1 _ after m adds
round_fails o t job modules book tree n x es end m st free at right (rounds.steps e fs _ tells plain (rounds.by_front name f u last asks run (rounds.LeadingTo.held none))) = tt
round_fails o t job modules book tree n x es end m st free at right (rounds.steps e fs _ tells plain (rounds.Stepping.refused name gs code asks refuses)) = λ same. absurd (cc same)
