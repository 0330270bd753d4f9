use Rattle.std.proofs.Common.{◌≡◌, take}
use Rattle.kp_kore.specs.Signature.{sorts_in}
use Rattle.kp_signature.specs.Table.{sort_names}
use Rattle.kp_signature.specs.View.{sentences_of}
use Rattle.kp_imports.specs.Names.{texts_of}
use Rattle.kp_imports.proofs.duplicates.sort_names.Given as goal

abbrev pub invariant-loop-i : goal.invariant-loop-i
invariant-loop-i l = texts_of l.names.items ≡ sort_names (sorts_in (sentences_of (take l.i l.modules)))
