use Rattle.std.proofs.Common.{take}
use Rattle.kp_imports.specs.Names.{AreOnce, Lists, texts_of}
use Rattle.kp_imports.proofs.repeated.first_repeated.Given as goal

abbrev pub invariant-loop-i : goal.invariant-loop-i
invariant-loop-i l = AreOnce (texts_of (take l.i l.names)) × Lists (texts_of (take l.i l.names)) l.met
