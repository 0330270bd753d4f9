use Rattle.std.proofs.Common.{◌≡◌, ◌++◌, map, take}
use Rattle.kp_kore.specs.Signature.{sorts_in}
use Rattle.kp_kore.specs.View.{sentence_view}
use Rattle.kp_signature.specs.Table.{sort_names}
use Rattle.kp_imports.specs.Names.{texts_of}
use Rattle.kp_imports.proofs.duplicates.add_sort_names.Given as goal

abbrev pub invariant-loop-i : goal.invariant-loop-i
invariant-loop-i l = texts_of l.names.items ≡ texts_of l.fn.names.items ++ sort_names (sorts_in (map sentence_view (take l.i l.sentences)))
