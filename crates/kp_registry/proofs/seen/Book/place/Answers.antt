use Rattle.std.proofs.Common.{sym, subst, ◌∙◌, take, drop, map}
use Rattle.kp_registry.specs.Passes.{AreAbove, AreBelow, name_of}
use Rattle.kp_registry.proofs.Rising.{absent_at}
use Rattle.kp_registry.proofs.seen.Book.place.Goals as goal

pub returns-in-Err : goal.returns-in-Err
returns-in-Err c =
    let bs = c.args.self.now.names.items in
    let n = c.args.name.now in
    let gap = subst (λ l. AreBelow n (take c.in-Err.field-0 (map name_of l)) × AreAbove n (drop c.in-Err.field-0 (map name_of l))) c.deref.ensures.value c.in-Err.ensures.absent.1 in
    sym (absent_at bs c.in-Err.field-0 n gap.0 gap.1) ∙ c.requires.sound.told n
