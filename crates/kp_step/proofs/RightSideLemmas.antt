-- The state that is made behind a rule is the next state of its part.
use Rattle.std.proofs.Common.{◌≡◌, sym, ap, subst, List, ◌++◌, ◌↔◌}
use Rattle.std.specs.List.{AllByRecursion, Contains}
use Rattle.std.proofs.lemmas.List.Elements.{Contains-append_left}
use Rattle.kp_kore.specs.Syntax.{Text, KoreSort}
use Rattle.kp_kore.specs.Parts.{SortedName}
use Rattle.kp_kore.specs.Signature.{KoreSignature}
use Rattle.kp_kore.specs.Value.{Value, HasSort}
use Rattle.kp_kore.specs.Instance.{Valuation, GivesSorts, IsTrueUnder}
use Rattle.kp_kore.specs.Rules.{Rewrite, rewrite}
use Rattle.kp_kore.specs.Steps.{Fires}
use Rattle.kp_kore.specs.Theory.{Theory}
use Rattle.kp_kore.proofs.ListLemmas.{all_map}
use Rattle.kp_kore.proofs.TurnLemmas.{each_member}
use Rattle.kp_symbolic.specs.Terms.{term_variables, Replaced, under_replaced}
use Rattle.kp_symbolic.specs.States.{Literal, AreTrue, SymbolicState}
use Rattle.kp_symbolic.specs.WellFormed.{AreAtHand}
use Rattle.kp_case_laws.specs.Parts.{StatePart, whole, OfEachInstance}
use Rattle.kp_case_laws.specs.Nexts.{all_bindings, IsInstantiated, IsNextState}
use Rattle.kp_case_laws.proofs.GrownLemmas.{grown_further}
use Rattle.kp_case_laws.specs.NextStates.{FollowsBy}
use Rattle.kp_case_laws.proofs.AtHandLemmas.{hand_in_hand}
use Rattle.kp_unify.specs.Narrowed.{NumberedPart}
use Rattle.kp_symbolic.specs.Solving.{Solving}
use Rattle.kp_step.specs.Conditions.{condition_clauses}
use Rattle.kp_step.specs.Remainders.{IsPartIn}
use Rattle.kp_step.specs.Found.{IsMetIn}
use Rattle.kp_step.specs.Follows.{IsMovedBy, moves, IsNextOf, IsSolvedPart, kept_bindings}
use Rattle.kp_step.specs.RightSides.{ChosenNew, AreChosen, IsOverBoth, moved_state}
use Rattle.kp_step.proofs.FollowLemmas.{follows_right, follows_same}
use Rattle.kp_step.proofs.NewLemmas.{IsChosenFor, all_chosen, is_instantiated}
use Rattle.kp_step.proofs.NextStateLemmas.{with_these, is_next_state}

-- the clauses say what the rule ensures, under these bindings
abbrev pub SayEnsured : KoreSignature → Rewrite → List SortedName → List Replaced → List (List Literal) → Type 0
SayEnsured g rule hand bs cs = (w : Valuation) → GivesSorts g w hand → AreTrue g w cs ↔ AllByRecursion (IsTrueUnder g (under_replaced g bs w)) rule.ensured

-- before its equations are solved
abbrev pub made_state : KoreSignature → Rewrite → StatePart → List Replaced → ChosenNew → KoreSort → List (List Literal) → SymbolicState
made_state g rule p bs c sort cs = with_these (moved_state g p (kept_bindings rule.new_variables bs ++ c.bindings) c.new sort rule.right) cs

pub made_follows : (t : Theory) (used : List Text) (s m : StatePart) (q : NumberedPart) (rule : Rewrite) (bs : List Replaced) (c : ChosenNew) (sort : KoreSort) (cs : List (List Literal)) → IsMetIn t rule bs m → IsPartIn t.signature used s m q →
    OfEachInstance t.signature q.part (λ w d. Fires t.signature (rewrite rule) d) → IsOverBoth rule → (k : IsChosenFor t.signature used q.part.state.variables rule.new_variables c) →
    SayEnsured t.signature rule (q.part.state.variables ++ c.new) (kept_bindings rule.new_variables bs ++ c.bindings) cs → FollowsBy t.signature (rewrite rule) q.part (made_state t.signature rule q.part bs c sort cs)
made_follows t used s m q rule bs c sort cs met i fires over k says =
    let g = t.signature in
    let kept = kept_bindings rule.new_variables bs in
    let same : kept ++ c.bindings ≡ all_bindings kept k.ys c.new = ap (λ rs. kept ++ rs) k.bindings in
    let hand : AllByRecursion (λ b. AreAtHand (term_variables b.term) q.part.state.variables) bs = all_map (λ b. AreAtHand (term_variables b.term) m.state.variables) (λ b. AreAtHand (term_variables b.term) q.part.state.variables) bs
    (λ b h. hand_in_hand (term_variables b.term) m.state.variables q.part.state.variables h i.at_hand) met.at_hand in
    let made : IsInstantiated g rule q.part kept k.ys c.new = is_instantiated g used rule m q.part bs c over met.bound hand k in
    let next : IsNextState g rule q.part kept k.ys c.new (made_state g rule q.part bs c sort cs) =
    subst (λ rs. IsNextState g rule q.part kept k.ys c.new (with_these (moved_state g q.part rs c.new sort rule.right) cs)) (sym same)
    (is_next_state g rule q.part kept k.ys c.new sort cs made (subst (λ rs. SayEnsured g rule (q.part.state.variables ++ c.new) rs cs) same says)) in
    follows_right g rule met.form (record { part = m; equations = met.equations; bindings = bs }) q.part k.ys c.new (made_state g rule q.part bs c sort cs) met.left met.over met.is_met i.below fires i.ready.sorted made next

same_rewrite : {m n : Rewrite} → rewrite m ≡ rewrite n → m ≡ n
same_rewrite e = cc

pub next_of_part : (t : Theory) (used : List Text) (s m : StatePart) (q : NumberedPart) (rule : Rewrite) (bs : List Replaced) (c : ChosenNew) (sort : KoreSort) (cs : List (List Literal)) (x : SymbolicState) → IsMetIn t rule bs m → IsPartIn t.signature used s m q →
    OfEachInstance t.signature q.part (λ w d. Fires t.signature (rewrite rule) d) → IsOverBoth rule → AllByRecursion (λ y. (u : Value) × HasSort t.signature y.sort u) rule.new_variables → AreChosen used rule.new_variables q.next c →
    SayEnsured t.signature rule (q.part.state.variables ++ c.new) (kept_bindings rule.new_variables bs ++ c.bindings) cs → cs ≡ condition_clauses t.signature (kept_bindings rule.new_variables bs ++ c.bindings) rule.ensured →
    IsSolvedPart t.signature used (record { part = whole (made_state t.signature rule q.part bs c sort cs); next = c.next }) (record { part = whole x; next = c.next }) → IsNextOf t.signature used s (rewrite rule) q.part x c.next
next_of_part t used s m q rule bs c sort cs x met i fires over values chosen says are solved =
    let g = t.signature in
    let k : IsChosenFor g used q.part.state.variables rule.new_variables c = all_chosen g used q.part.state.variables rule.new_variables q.next c i.ready.begun i.ready.names values chosen in
    record {
      follows = follows_same g (rewrite rule) q.part (made_state g rule q.part bs c sort cs) x solved.variables solved.same (made_follows t used s m q rule bs c sort cs met i fires over k says);
      moved = λ n e. subst (λ r. IsMovedBy g used r q.part x) (same_rewrite e) (moves m bs q.next c sort x met.laid chosen (subst (λ ds. Solving g (made_state g rule q.part bs c sort ds) x) are solved.solving));
      at_hand = subst (λ ys. AreAtHand q.part.state.variables ys) (sym solved.variables) (each_member (λ y. Contains (q.part.state.variables ++ c.new) y) q.part.state.variables (λ y n. Contains-append_left q.part.state.variables c.new y n));
      grown = grown_further g used s q.part (whole x) i.grown (record { new = c.new; variables = solved.variables; are_new = k.are_new; each = k.each });
      ready = solved.ready;
    }
