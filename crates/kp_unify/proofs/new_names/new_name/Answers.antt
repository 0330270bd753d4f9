use Rattle.std.proofs.Common.{◌≡◌, refl, arith, false, string_bytes}
use Rattle.std.specs.List.{list_any}
use Rattle.std.specs.Str.{bytes_eq}
use Rattle.kp_unify.proofs.new_names.new_name.Goals as goal

pub returns-then-not-is_noted : goal.returns-then-not-is_noted
returns-then-not-is_noted c used lists =
    let x = string_bytes c.in_ok-name.name in
    let no_use : list_any (bytes_eq x) used ≡ false = let p = c.if-not-is_noted.true in let q = c.is_noted.ensures used lists in cc in
    record {
      number = c.loop-number.number;
      is = c.in_ok-name.ensures;
      from = c.loop-number.invariant.0;
      behind = refl;
      few = omega (arith, c.loop-number-test.true);
      is_new = no_use;
      least = c.loop-number.invariant.1 used lists;
    }
