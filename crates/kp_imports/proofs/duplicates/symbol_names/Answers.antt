use Rattle.std.proofs.Common.{rules, ◌≡◌, get_or}
use Rattle.kp_kore.specs.Signature.{symbols_in}
use Rattle.kp_signature.specs.Table.{symbol_names}
use Rattle.kp_imports.specs.Names.{texts_of}
use Rattle.kp_imports.proofs.Declared.{symbols_append, next_module}
use Rattle.kp_imports.proofs.duplicates.symbol_names.Goals as goal

pub loop-i-preserved : goal.loop-i-preserved
loop-i-preserved c =
    let i = c.loop-i.i in
    let ms = c.args.modules.now in
    let m = c.index-modules-i.result in
    let read : m ≡ get_or ms i m = search rules in
    next_module (λ l. symbol_names (symbols_in l)) symbols_append ms i m c.loop-i-test.true read
    (texts_of c.loop-i.names.items) (texts_of c.add_symbol_names.new.names.items) c.deref.result.now c.loop-i.invariant c.deref.ensures.value c.in_ok-add_symbol_names.ensures
