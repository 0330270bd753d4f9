use Rattle.std.proofs.Common.{sym, subst, ◌∙◌}
use Rattle.kp_history.specs.Passes.{hand}
use Rattle.kp_modules.specs.Openings.{IsTableOf}
use Rattle.kp_registry.proofs.Binders.{means_reached}
use Rattle.kp_registry.proofs.PassesOf.{pass_with}
use Rattle.kp_registry.proofs.book.Registry.look.Goals as goal

pub returns-then-reaches-clause-found : goal.returns-then-reaches-clause-found
returns-then-reaches-clause-found g c = λ o book table seen.
    let here : IsTableOf o c.table-table.result.now = subst (IsTableOf o) (sym c.table-table.ensures) table in
    means_reached o c.table-table.result.now book c.args.name.now c.rules_of.result here (sym c.reaches.ensures ∙ c.if-reaches.true) (c.rules_of.ensures o here)

pub returns-clause-pass : goal.returns-clause-pass
returns-clause-pass g c = pass_with c.args.self.now c.put_back.new.pass (hand c.take-book.new.pass) c.put_back.ensures.pass c.put_back.ensures.seen c.take-book.ensures.good.1
