use Rattle.std.proofs.Common.{rules, ◌≡◌, get_or}
use Rattle.kp_kore.specs.Signature.{sorts_in}
use Rattle.kp_signature.specs.Table.{sort_names}
use Rattle.kp_imports.specs.Names.{texts_of}
use Rattle.kp_imports.proofs.Declared.{sorts_append, next_module}
use Rattle.kp_imports.proofs.duplicates.sort_names.Goals as goal

pub loop-i-preserved : goal.loop-i-preserved
loop-i-preserved c =
    let i = c.loop-i.i in
    let ms = c.args.modules.now in
    let m = c.index-modules-i.result in
    let read : m ≡ get_or ms i m = search rules in
    next_module (λ l. sort_names (sorts_in l)) sorts_append ms i m c.loop-i-test.true read
    (texts_of c.loop-i.names.items) (texts_of c.add_sort_names.new.names.items) c.deref.result.now c.loop-i.invariant c.deref.ensures.value c.in_ok-add_sort_names.ensures
