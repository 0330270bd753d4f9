use Rattle.std.proofs.Common.{rules, ◌≡◌, length}
use Rattle.kp_signature.proofs.AloneLemmas.{plain_by_length}
use Rattle.kp_signature.proofs.symbols.is_plain.Goals as goal

pub returns-then-len-eq0 : goal.returns-then-len-eq0
returns-then-len-eq0 c =
    let parameters : c.len.result ≡ length c.args.declaration.now.parameters.items = search rules in
    let arguments : c.len-then-len-eq0.result ≡ length c.args.declaration.now.arguments.items = search rules in
    plain_by_length c.args.declaration.now.parameters.items c.args.declaration.now.arguments.items c.len.result c.len-then-len-eq0.result parameters c.if-len-eq0.true arguments
