use Rattle.std.proofs.Common.{take}
use Rattle.kp_signature.specs.Table.{IsTableOf}
use Rattle.kp_signature.specs.View.{sentences_of}
use Rattle.kp_signature.proofs.declarations.Declarations.new.Given as goal

abbrev pub invariant-loop-module : goal.invariant-loop-module
invariant-loop-module l = IsTableOf l.table (sentences_of (take l.module-index l.modules))
