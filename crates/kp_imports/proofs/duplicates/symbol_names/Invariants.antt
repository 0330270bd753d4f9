use Rattle.std.proofs.Common.{◌≡◌, take}
use Rattle.kp_kore.specs.Signature.{symbols_in}
use Rattle.kp_signature.specs.Table.{symbol_names}
use Rattle.kp_signature.specs.View.{sentences_of}
use Rattle.kp_imports.specs.Names.{texts_of}
use Rattle.kp_imports.proofs.duplicates.symbol_names.Given as goal

abbrev pub invariant-loop-i : goal.invariant-loop-i
invariant-loop-i l = texts_of l.names.items ≡ symbol_names (symbols_in (sentences_of (take l.i l.modules)))
