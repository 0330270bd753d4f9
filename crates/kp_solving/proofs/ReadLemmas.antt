-- What an opened state is solved to is what the pattern is read as.
use Rattle.std.proofs.Common.{◌≡◌, sym, ◌∙◌, subst, Some, None, Result, Ok, Err, IfOk, IfErr}
use Rattle.std.specs.Prelude.{OnOk}
use Rattle.kp_kore.specs.Syntax.{KorePattern}
use Rattle.kp_kore.specs.Signature.{KoreSignature}
use Rattle.kp_clauses.proofs.StateLemmas.{nothing_misplaced}
use Rattle.kp_clauses.specs.Faults.{state_fault}
use Rattle.kp_clauses.specs.View.{IsUnread}
use Rattle.kp_clauses.specs.declared.state.TermFault.{TermFault}
use Rattle.kp_signature.specs.Places.{the_top}
use Rattle.kp_signature.specs.Verify.{first_fault}
use Rattle.kp_symbolic.specs.States.{SymbolicState, HasInstancesOf}
use Rattle.kp_symbolic.specs.Solving.{opened_state, Solving, IsReadAs}
use Rattle.kp_symbolic.specs.WellFormed.{IsWellFormed}
use Rattle.kp_symbolic_laws.proofs.FormedSteps.{read_well_formed}
use Rattle.kp_symbolic_laws.proofs.KeptCourse.{read_kept}
use Rattle.kp_symbolic_laws.specs.Kept.{CanBeWritten}
use Rattle.kp_symbolic_laws.specs.Runs.{ComesBy, IsSoundState, OfEachKept}
use Rattle.kp_symbolic.specs.View.{state_view}
use Rattle.kp_symbolic.specs.declared.state.State.{State}
use Rattle.kp_solving.specs.Readable.{IsReadable, IsWrittenFaultless}
use Rattle.kp_solving.proofs.FaultlessLemmas.{all_readable}

pub read_where_solved : (g : KoreSignature) (p : KorePattern) (s : SymbolicState) (r : Result State TermFault) → opened_state g p ≡ Some s → IfOk r (λ t. Solving g s (state_view t)) → IfOk r (λ t. IsReadAs g p (state_view t))
read_where_solved g p s (Ok t) e solving = record { opened = s; is_opened = e; solving = solving }
read_where_solved g p s (Err f) e solving = tt

pub unread_where_kept : (g : KoreSignature) (p : KorePattern) (s : SymbolicState) (r : Result State TermFault) → first_fault g the_top p ≡ None → state_fault g p ≡ None → opened_state g p ≡ Some s →
    IfErr r (λ e. IsUnread e → ¬ ((x : SymbolicState) → ComesBy g s x → IsReadable g x)) → IfErr r (λ e. IsUnread e → ¬ ((o : SymbolicState) → opened_state g p ≡ Some o → OfEachKept g (IsWrittenFaultless g) o))
unread_where_kept g p s (Ok t) verified clear is told = tt
unread_where_kept g p s (Err e) verified clear is told =
    let placed = nothing_misplaced g p clear in
    λ unread each. told unread (all_readable g the_top p s verified placed.0 placed.1 is (each s is))

one_opened : (s o : SymbolicState) → Some s ≡ Some o → s ≡ o
one_opened s o e = cc

pub right_where_solved : (g : KoreSignature) (p : KorePattern) (s : SymbolicState) (r : Result State TermFault) → opened_state g p ≡ Some s → OnOk r (OfEachKept g (CanBeWritten g) s) → OnOk r ((o : SymbolicState) → opened_state g p ≡ Some o → OfEachKept g (CanBeWritten g) o)
right_where_solved g p s (Ok t) is right = λ o e. subst (OfEachKept g (CanBeWritten g)) (one_opened s o (sym is ∙ e)) right
right_where_solved g p s (Err e) is right = tt

pub sound_where_solved : (g : KoreSignature) (p : KorePattern) (s : SymbolicState) (r : Result State TermFault) → first_fault g the_top p ≡ None → state_fault g p ≡ None → opened_state g p ≡ Some s →
    IfOk r (λ t. Solving g s (state_view t)) → OnOk r (OfEachKept g (CanBeWritten g) s) → IfOk r (λ t. IsSoundState g (state_view t) × HasInstancesOf g p (state_view t))
sound_where_solved g p s (Ok t) verified clear is solving right =
    let placed = nothing_misplaced g p clear in
    read_kept g the_top p (state_view t) verified placed.0 placed.1 (record { opened = s; is_opened = is; solving = solving }) right
sound_where_solved g p s (Err e) verified clear is solving right = tt

pub formed_where_solved : (g : KoreSignature) (p : KorePattern) (s : SymbolicState) (r : Result State TermFault) → first_fault g the_top p ≡ None → state_fault g p ≡ None → opened_state g p ≡ Some s →
    IfOk r (λ t. Solving g s (state_view t)) → IfOk r (λ t. IsWellFormed g (state_view t))
formed_where_solved g p s (Ok t) verified clear is solving =
    let placed = nothing_misplaced g p clear in
    read_well_formed g the_top p (state_view t) verified placed.0 placed.1 (record { opened = s; is_opened = is; solving = solving })
formed_where_solved g p s (Err e) verified clear is solving = tt
