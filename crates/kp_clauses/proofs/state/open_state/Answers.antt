use Rattle.std.proofs.Common.{◌≡◌, ◌∙◌, ap, sym, subst, not, false, Some, None}
use Rattle.std.proofs.lemmas.Result.{err_from_is_err_and}
use Rattle.std.specs.List.{AllByRecursion, filter, find}
use Rattle.kp_kore.specs.Syntax.{KorePattern}
use Rattle.kp_kore.specs.Parts.{is_term}
use Rattle.kp_kore.specs.View.{view, sort_view}
use Rattle.kp_compile.specs.Parts.{seen}
use Rattle.kp_symbolic.specs.Faultless.{IsFaultless}
use Rattle.kp_symbolic.specs.Languages.{language_view}
use Rattle.kp_symbolic.specs.View.{state_view}
use Rattle.kp_clauses.specs.Faults.{members_fault}
use Rattle.kp_clauses.specs.Opened.{opened_of}
use Rattle.kp_clauses.proofs.FaultlessLemmas.{of_conjuncts}
use Rattle.kp_clauses.proofs.StateLemmas.{is_opened, has_instances, found_term}
use Rattle.kp_clauses.proofs.state.open_state.Goals as goal

pub returns-in-Ok-clause-state : goal.returns-in-Ok-clause-state
returns-in-Ok-clause-state c = λ verified.
    let g = language_view c.args.language.now in
    let p = view c.args.pattern.now in
    let s = sort_view c.args.sort in
    let o = state_view c.in-Ok.state in
    is_opened g p s o (seen c.in_ok-members.members.items) c.in_ok-members.ensures
    (subst (λ xs. members_fault g false (seen xs) ≡ None) c.deref.ensures.value c.in_ok-check_members.ensures.clear) verified
    (subst (λ xs. (t : KorePattern) → find is_term (seen xs) ≡ Some t → o ≡ opened_of g p s t (filter (λ q. not (is_term q)) (seen xs))) c.deref-2.ensures.value c.in-Ok.ensures.opened)

pub returns-in-Ok-clause-instances : goal.returns-in-Ok-clause-instances
returns-in-Ok-clause-instances c = λ verified.
    let g = language_view c.args.language.now in
    let p = view c.args.pattern.now in
    let s = sort_view c.args.sort in
    let o = state_view c.in-Ok.state in
    let clear = subst (λ xs. members_fault g false (seen xs) ≡ None) c.deref.ensures.value c.in_ok-check_members.ensures.clear in
    has_instances g p s o (seen c.in_ok-members.members.items) c.in_ok-members.ensures clear verified
    (is_opened g p s o (seen c.in_ok-members.members.items) c.in_ok-members.ensures clear verified
    (subst (λ xs. (t : KorePattern) → find is_term (seen xs) ≡ Some t → o ≡ opened_of g p s t (filter (λ q. not (is_term q)) (seen xs))) c.deref-2.ensures.value c.in-Ok.ensures.opened))

pub returns-clause-refused : goal.returns-clause-refused
returns-clause-refused c = c.refused.ensures.told _

pub returns-in_err-check_members-clause-unread : goal.returns-in_err-check_members-clause-unread
returns-in_err-check_members-clause-unread c =
    let p = err_from_is_err_and c.from_residual-in_err-check_members.result c.from_residual-in_err-check_members.ensures.1 in
    rw (p.1, p.2) (λ unread. absurd (c.in_err-check_members.ensures.read unread))

pub returns-clause-unread : goal.returns-clause-unread
returns-clause-unread c = λ unread faultless.
    let g = language_view c.args.language.now in
    let p = view c.args.pattern.now in
    let ms = seen c.in_ok-members.members.items in
    let clear : members_fault g false ms ≡ None = subst (λ xs. members_fault g false (seen xs) ≡ None) c.deref.ensures.value c.in_ok-check_members.ensures.clear in
    let term = found_term g p (subst (λ xs. members_fault g false xs ≡ None) c.in_ok-members.ensures clear) in
    let found : find is_term (seen c.deref-2.result.now) ≡ Some term.0 = ap (λ xs. find is_term (seen xs)) c.deref-2.ensures.value ∙ ap (find is_term) c.in_ok-members.ensures ∙ term.2 in
    let all = subst (λ xs. AllByRecursion (IsFaultless g) (seen xs)) (sym c.deref-2.ensures.value) (of_conjuncts g p ms c.in_ok-members.ensures faultless) in
    c.refused.ensures.read (c.in-Err.ensures.refused term.0 found all) unread
