use Rattle.std.proofs.Common.{◌≡◌, refl, ◌++◌, ◌∷◌, [], subst, Some, None, IfOk, string_bytes}
use Rattle.kp_claims.specs.Faults.{no_label, label_fault}
use Rattle.kp_names.specs.Met.{Lists}
use Rattle.kp_claims.proofs.label.take_label.Goals as goal

pub returns-in-Some-clause-ok : goal.returns-in-Some-clause-ok
returns-in-Some-clause-ok c before is =
    subst (λ o. IfOk c.take_new.result (λ l. (label_fault before o ≡ None) × Lists (before ++ string_bytes l ∷ []) c.take_new.new.labels)) c.in-Some.ensures (c.take_new.ensures.ok before is)

pub returns-in-None-clause-err : goal.returns-in-None-clause-err
returns-in-None-clause-err c before is = record {
  fault = no_label;
  told = refl;
  holds = subst (λ o. label_fault before o ≡ Some no_label) c.in-None.ensures refl;
}
