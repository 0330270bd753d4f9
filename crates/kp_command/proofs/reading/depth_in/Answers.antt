use Rattle.std.proofs.Common.{sym, codes}
use Rattle.std.specs.Str.Parse.{ParsesUnsigned, ExplainsUnsignedError, HasUnsignedDigitsIfOk}
use Rattle.clap.specs.Matches.{found_of}
use Rattle.kp_command.proofs.ReadCommands.{number_read}
use Rattle.kp_command.proofs.reading.depth_in.Goals as goal

pub returns-then-depth-le10000 : goal.returns-then-depth-le10000
returns-then-depth-le10000 c =
    number_read (λ bs r. ParsesUnsigned 64 10 bs r × ExplainsUnsignedError 10 bs r × HasUnsignedDigitsIfOk bs r) (found_of c.args.given.now) (codes "max-depth") c.get_one.result c.in_ok-depth.depth
    c.get_one.ensures.none c.get_one.ensures.value (λ t g. (g.0.0.0, sym g.0.1)) c.in_ok-depth.was c.if-depth-ge1.true c.if-depth-le10000.true
