use Rattle.std.proofs.Common.{arith}
use Rattle.kp_text.proofs.Numbers.{digit_turn, digit_fault, number_fits, number_grows}
use Rattle.kp_text.proofs.strings.number.Goals as goal

pub returns-in_default-to_digit-clause-same : goal.returns-in_default-to_digit-clause-same
returns-in_default-to_digit-clause-same c = λ t. digit_fault _ _ _ c.in-Some.c c.args.quote c.args.digits c.loop-i.i c.loop-i.value t _ c.in-Some.ensures.0 c.in_default-to_digit.ensures.value c.loop-i-test.true (c.loop-i.invariant.same t)

pub overflow_mul-value : goal.overflow_mul-value
overflow_mul-value c = let h = number_fits c.loop-i.i c.loop-i.value 0 (omega arith) c.loop-i.invariant.small (omega arith) in omega arith

pub overflow_add-value : goal.overflow_add-value
overflow_add-value c = let h = number_fits c.loop-i.i c.loop-i.value c.in-Some-to_digit.digit (omega arith) c.loop-i.invariant.small (let d = c.in-Some-to_digit.ensures.value in omega arith) in omega arith

pub loop-i-preserved : goal.loop-i-preserved
loop-i-preserved c = record {
  text = c.in-Some.ensures.2;
  small = number_grows c.loop-i.i c.loop-i.value c.in-Some-to_digit.digit c.loop-i.invariant.small (let d = c.in-Some-to_digit.ensures.value in omega arith);
  shorter = omega (arith, c.in-Some.ensures.1);
  same = λ t. digit_turn _ _ _ c.in-Some.c c.in-Some-to_digit.digit c.args.quote c.args.digits c.loop-i.i c.loop-i.value t _ c.in-Some.ensures.0 c.in-Some-to_digit.ensures.value.0 c.in-Some-to_digit.ensures.value.1 c.loop-i-test.true (c.loop-i.invariant.same t);
}
