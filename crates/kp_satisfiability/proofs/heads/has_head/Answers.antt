use Rattle.std.proofs.Common.{◌∙◌, refl, sym, subst, Some, None}
use Rattle.std.specs.Option.{option_map}
use Rattle.kp_signature.specs.View.{signature_view}
use Rattle.kp_heads.specs.Made.{IsHeadTableOf}
use Rattle.kp_sort_heads.specs.Live.{IsNextLive}
use Rattle.kp_sort_heads.specs.Views.{head_view, left_of}
use Rattle.kp_symbolic.specs.View.{variable_view}
use Rattle.kp_literals.specs.Readings.{clauses_view}
use Rattle.kp_satisfiability.proofs.HeadSearch.{searched_none, searched_more, found, found_none}
use Rattle.kp_satisfiability.proofs.heads.has_head.Goals as goal

pub loop-head-init : goal.loop-head-init
loop-head-init c = (searched_none (signature_view c.args.signature.now) (variable_view c.args.variable.now) (clauses_view c.args.clauses.now) (left_of c.heads-left.result) c.heads-left.ensures.left, c.heads-left.ensures.signature)

pub loop-head-preserved : goal.loop-head-preserved
loop-head-preserved c =
    let g = signature_view c.args.signature.now in
    let h = head_view c.in-Some.head in
    let before = left_of c.loop-head.left in
    let after = left_of c.next_live.new.self in
    let same = c.loop-head.invariant.1 in
    let told = subst (λ z. IsHeadTableOf (signature_view z) c.args.table.now → IsNextLive (signature_view z) (option_map head_view c.next_live.result) before after) same c.next_live.ensures.next c.requires in
    let next : IsNextLive g (Some h) before after = subst (λ o. IsNextLive g (option_map head_view o) before after) c.in-Some.is told in (
      searched_more g (variable_view c.args.variable.now) (clauses_view c.args.clauses.now) before after h c.loop-head.invariant.0 next.0 (sym c.agrees_with_all.ensures ∙ c.if-agrees_with_all.false),
      c.next_live.ensures.signature ∙ same,
    )

pub returns-then-agrees_with_all : goal.returns-then-agrees_with_all
returns-then-agrees_with_all c =
    let g = signature_view c.args.signature.now in
    let h = head_view c.in-Some.head in
    let before = left_of c.loop-head.left in
    let after = left_of c.next_live.new.self in
    let told = subst (λ z. IsHeadTableOf (signature_view z) c.args.table.now → IsNextLive (signature_view z) (option_map head_view c.next_live.result) before after) c.loop-head.invariant.1 c.next_live.ensures.next c.requires in
    let next : IsNextLive g (Some h) before after = subst (λ o. IsNextLive g (option_map head_view o) before after) c.in-Some.is told in (
      (λ t. found g (variable_view c.args.variable.now) (clauses_view c.args.clauses.now) before after h c.loop-head.invariant.0 next.0 next.1 (sym c.agrees_with_all.ensures ∙ c.if-agrees_with_all.true)),
      (λ m. refl),
    )

pub returns : goal.returns
returns c =
    let g = signature_view c.args.signature.now in
    let before = left_of c.loop-head.left in
    let after = left_of c.next_live.new.self in
    let told = subst (λ z. IsHeadTableOf (signature_view z) c.args.table.now → IsNextLive (signature_view z) (option_map head_view c.next_live.result) before after) c.loop-head.invariant.1 c.next_live.ensures.next c.requires in
    let ended : IsNextLive g None before after = subst (λ o. IsNextLive g (option_map head_view o) before after) c.in_default.is told in (
      (λ t. absurd (cc)),
      (λ m. absurd (found_none g (variable_view c.args.variable.now) (clauses_view c.args.clauses.now) before c.loop-head.invariant.0 ended.0 m)),
    )
