use Rattle.std.proofs.Common.{rules, ◌≡◌, sym, subst, ◌∙◌, true, false, not}
use Rattle.std.specs.Result.{IfOk}
use Rattle.std.specs.List.{AllByRecursion}
use Rattle.kp_kore.specs.View.{sort_view}
use Rattle.kp_symbolic.specs.Clauses.{is_too_large, denied}
use Rattle.kp_symbolic_laws.specs.Kept.{CanBeWrittenAt}
use Rattle.kp_symbolic.specs.Languages.{language_view}
use Rattle.kp_symbolic.specs.View.{clauses_view}
use Rattle.kp_formulas.specs.Distribution.{distribution_of}
use Rattle.kp_formulas.specs.DistributionView.{distributed_view}
use Rattle.kp_outward.proofs.RoomLemmas.{on_ok}
use Rattle.kp_step.proofs.NegateLemmas.{opened_is, quoted_is, never_full}
use Rattle.kp_step.proofs.opposite.negate.Goals as goal

pub returns-then-is_room-clause-negated : goal.returns-then-is_room-clause-negated
returns-then-is_room-clause-negated c =
    let g = language_view c.args.language.now in
    let cs = clauses_view c.args.clauses.now in
    let is : distributed_view c.in_ok-opened.opened ≡ distribution_of (denied g cs) = search rules in
    let room : true ≡ not (is_too_large 0 (denied g cs)) = sym c.if-is_room.true ∙ c.is_room.ensures (denied g cs) is in
    c.clauses_of.ensures ∙ opened_is g (sort_view c.args.sort.now) cs (distributed_view c.in_ok-opened.opened) is room

pub returns-clause-negated : goal.returns-clause-negated
returns-clause-negated c =
    let g = language_view c.args.language.now in
    let cs = clauses_view c.args.clauses.now in
    let is : distributed_view c.in_ok-opened.opened ≡ distribution_of (denied g cs) = search rules in
    let full : false ≡ not (is_too_large 0 (denied g cs)) = sym c.if-is_room.false ∙ c.is_room.ensures (denied g cs) is in
    subst (λ x. IfOk c.quote_denied.result (λ ds. clauses_view ds.items ≡ x)) (quoted_is g (sort_view c.args.sort.now) cs full) c.quote_denied.ensures.quoted

pub returns-then-is_room-clause-right : goal.returns-then-is_room-clause-right
returns-then-is_room-clause-right c =
    let g = language_view c.args.language.now in
    let cs = clauses_view c.args.clauses.now in
    let is : distributed_view c.in_ok-opened.opened ≡ distribution_of (denied g cs) = search rules in
    let room : true ≡ not (is_too_large 0 (denied g cs)) = sym c.if-is_room.true ∙ c.is_room.ensures (denied g cs) is in
    λ full. never_full g cs (AllByRecursion (CanBeWrittenAt g (sort_view c.args.sort.now)) cs) room full

pub returns-clause-right : goal.returns-clause-right
returns-clause-right c = on_ok c.quote_denied.result (λ right full. right) c.quote_denied.ensures.right
