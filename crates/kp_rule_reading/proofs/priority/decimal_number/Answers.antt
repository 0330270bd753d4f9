use Rattle.std.proofs.Common.{rules}
use Rattle.std.proofs.Common.{◌≡◌, ◌&&◌, true, nat_lt, length}
use Rattle.std.specs.List.{list_all}
use Rattle.std.specs.Char.{is_ascii_digit}
use Rattle.kp_rule_reading.proofs.Numbers.{too_large}
use Rattle.kp_rule_reading.proofs.priority.decimal_number.Goals as goal

pub returns-in-Err : goal.returns-in-Err
returns-in-Err c =
    let decimal : nat_lt 0 (length c.args.text.now) && list_all is_ascii_digit c.args.text.now ≡ true = search rules in
    too_large c.args.text.now decimal c.in-Err.ensures.value.0
