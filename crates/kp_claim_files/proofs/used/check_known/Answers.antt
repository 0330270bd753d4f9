use Rattle.std.proofs.Common.{sym, ap, Some, string_bytes}
use Rattle.std.specs.Option.{option_map}
use Rattle.kp_claims.specs.Faults.{unknown_label}
use Rattle.kp_claim_files.proofs.used.check_known.Goals as goal

pub returns-in_ok-clone-in-Some-clause-err : goal.returns-in_ok-clone-in-Some-clause-err
returns-in_ok-clone-in-Some-clause-err c = record {
  fault = unknown_label (string_bytes c.in-Some.label.now);
  told = ap (λ x. Some (unknown_label x)) c.in_ok-clone-in-Some.ensures.cases;
  holds = ap (option_map unknown_label) (sym c.in-Some.ensures);
}
