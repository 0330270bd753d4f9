use Rattle.std.proofs.Common.{◌≡◌, ◌-◌, length, true}
use Rattle.kp_kore.specs.Foreign.{repeats_literals_only}
use Rattle.kp_signature.specs.View.{signature_view}
use Rattle.kp_rule_reading.specs.ReadRules.{Names}
use Rattle.kp_rule_reading.proofs.NameSets.{names_from}
use Rattle.kp_rule_reading.proofs.names.repeats_literals_only.Given as goal

abbrev pub invariant-loop-i : goal.invariant-loop-i
invariant-loop-i l = record {
  names : Names l.later (names_from l.variables (length l.variables - l.i));
  so : repeats_literals_only (signature_view l.signature) (names_from l.variables (length l.variables - l.i)) ≡ true;
}
