use Rattle.std.proofs.Common.{sym, subst}
use Rattle.std.specs.Str.{IsUtf8}
use Rattle.kp_registry.proofs.Ascii.{id_is_text}
use Rattle.kp_registry.proofs.book.prepare.Goals as goal

pub name_of_id-requires : goal.name_of_id-requires
name_of_id-requires c = record { text = subst IsUtf8 (sym c.id_of-id.ensures) (id_is_text c.deref.result.now) }
