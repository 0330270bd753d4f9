use Rattle.clap.specs.Matches.{found_of}
use Rattle.kp_command.proofs.ReadCommands.{first_read}
use Rattle.kp_command.proofs.reading.value_of.Goals as goal

pub returns : goal.returns
returns c = first_read (found_of c.args.given.now) c.args.id.now c.get_str.result c.get_str.ensures
