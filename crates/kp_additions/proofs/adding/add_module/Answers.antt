use Rattle.std.proofs.Common.{sym, ap, subst}
use Rattle.kp_additions.specs.Told.{IsReadied}
use Rattle.kp_additions.proofs.Later.{entered, extends_all, looked_on, still_ready}
use Rattle.kp_additions.proofs.adding.add_module.Goals as goal

pub register-requires-clause-extends : goal.register-requires-clause-extends
register-requires-clause-extends g c = extends_all c.args.registry.now c.ready_of.new.pass c.args.text.items c.args.name_as_id c.in_ok-ready.ready.entry c.in_ok-ready.ensures.entry

pub returns-in-Ok-clause-added : goal.returns-in-Ok-clause-added
returns-in-Ok-clause-added g c = entered c.args.registry.now c.args.pass.now c.ready_of.new.pass c.register.new.pass c.args.text.items c.args.name_as_id c.in_ok-ready.ready.entry c.in-Ok.id c.in-Ok.ensures.entered.1
    c.ready_of.ensures.pass c.register.ensures.pass c.ready_of.ensures.looked c.in-Ok.ensures.entered.2 c.in-Ok.ensures.entered.3 c.in-Ok.ensures.own c.in-Ok.ensures.entered.0 c.in_ok-ready.ensures.entry

pub returns-in-Err-clause-left : goal.returns-in-Err-clause-left
returns-in-Err-clause-left g c = looked_on c.args.pass.now c.ready_of.new.pass c.register.new.pass c.ready_of.ensures.looked (record { grows = c.in-Err.ensures.back.1; keeps = c.in-Err.ensures.back.2 })

pub returns-in-Err-clause-refused : goal.returns-in-Err-clause-refused
returns-in-Err-clause-refused g c = λ o s had.
    let text = c.args.text.items in
    let flag = c.args.name_as_id in
    let ready = still_ready c.args.registry.now c.ready_of.new.pass c.register.new.pass text flag c.in_ok-ready.ready.entry c.ready_of.ensures.pass c.register.ensures.pass (record { grows = c.in-Err.ensures.back.1; keeps = c.in-Err.ensures.back.2 })
    c.in_ok-ready.ensures.entry o s had in
    c.fault_told.ensures o s.book text flag (subst (λ r. IsReadied o s.book text flag r.entry) (sym c.in-Err.ensures.back.0) ready) (subst (λ r. Rattle.kp_registry.specs.Refusals.IsRefused o s.book r.entry c.in-Err.fault) (sym c.in-Err.ensures.back.0) (c.in-Err.ensures.refused o s.book had.table had.seen))
