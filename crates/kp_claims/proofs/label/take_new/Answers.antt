use Rattle.std.proofs.Common.{rules, ◌≡◌, sym, ap, ◌∙◌, cond, Some, None, string_bytes}
use Rattle.kp_claims.specs.Faults.{repeated_label}
use Rattle.kp_claims.proofs.label.take_new.Goals as goal

pub returns-then-is_noted-clause-err : goal.returns-then-is_noted-clause-err
returns-then-is_noted-clause-err c before is =
    let l = string_bytes c.args.label.now in
    let same : string_bytes c.in_ok-clone.field-0 ≡ l = search rules in
    record {
      fault = repeated_label l;
      told = ap (λ x. Some (repeated_label x)) same;
      holds = ap (λ b. cond b (Some (repeated_label l)) None) (sym (c.is_noted.ensures before is) ∙ c.if-is_noted.true);
    }
