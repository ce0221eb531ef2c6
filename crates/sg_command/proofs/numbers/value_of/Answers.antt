use Rattle.std.proofs.Common.{◌+◌, ◌-◌, ◌*◌, ◌<◌, ◌^◌, get_or, refl, arith}
use Rattle.sg_command.proofs.Digits.{is_digit_at, one_more, one_more-fits}
use Rattle.sg_command.proofs.numbers.value_of.Goals as goal

pub overflow_sub-digit : goal.overflow_sub-digit
overflow_sub-digit c = (is_digit_at c.args.digits.now c.loop-digit.digit-index c.requires.digits c.loop-digit-test.true).0

pub overflow_mul-value : goal.overflow_mul-value
overflow_mul-value c =
    let digit = get_or c.args.digits.now c.loop-digit.digit-index 0 - 48 in
    let fits : c.loop-digit.value * 10 + digit < 2 ^ 128 =
    one_more-fits c.args.digits.now c.loop-digit.digit-index digit c.loop-digit.value c.requires.digits c.requires.few c.loop-digit-test.true refl c.loop-digit.invariant in
    omega arith

pub overflow_add-value : goal.overflow_add-value
overflow_add-value c =
    let fits : c.loop-digit.value * 10 + c.from.result < 2 ^ 128 =
    one_more-fits c.args.digits.now c.loop-digit.digit-index c.from.result c.loop-digit.value c.requires.digits c.requires.few c.loop-digit-test.true
    c.from.ensures c.loop-digit.invariant in
    grind arith

pub loop-digit-preserved : goal.loop-digit-preserved
loop-digit-preserved c =
    one_more c.args.digits.now c.loop-digit.digit-index c.from.result c.loop-digit.value c.requires.digits c.loop-digit-test.true
    c.from.ensures c.loop-digit.invariant
