use Rattle.std.proofs.Common.{ap, string_bytes}
use Rattle.kp_conn.proofs.Conversing.{at_err, when_ok}
use Rattle.kp_service.proofs.Adding.{entered_silently, enters_text, refused_all, refused_silently}
use Rattle.kp_service.proofs.added.add_silently.Goals as goal

pub returns-in-Ok-clause-done : goal.returns-in-Ok-clause-done
returns-in-Ok-clause-done g c =
    let registry = c.args.registry.now in
    entered_silently registry c.args.pass.now c.add_module.new.pass (string_bytes c.args.text) c.args.name_as_id c.in-Ok._id
    (enters_text registry c.args.pass.now c.add_module.new.pass c.into_bytes.result.items (string_bytes c.args.text) c.args.name_as_id c.in-Ok._id (ap (λ v. v.items) c.into_bytes.ensures.value) c.in-Ok.ensures.added)

pub returns-in-Err-clause-done : goal.returns-in-Err-clause-done
returns-in-Err-clause-done g c =
    let registry = c.args.registry.now in
    when_ok c.unless_memory.result _ _ c.unless_memory.ensures (λ r.
    refused_silently registry c.args.pass.now c.add_module.new.pass (string_bytes c.args.text) c.args.name_as_id r.0 c.add_module.ensures.pass c.in-Err.ensures.left
    (refused_all registry c.add_module.new.pass c.into_bytes.result.items (string_bytes c.args.text) c.args.name_as_id c.in-Err.error r.0 (ap (λ v. v.items) c.into_bytes.ensures.value) r.1 c.in-Err.ensures.refused))

pub returns-in-Err-clause-left : goal.returns-in-Err-clause-left
returns-in-Err-clause-left g c = at_err c.unless_memory.result _ c.in-Err.ensures.left
