use Rattle.std.proofs.Common.{◌+◌, ◌*◌, ◌<◌, ◌^◌, arith, lit≤}
use Rattle.sg_script.proofs.Sizes.{fits_digits, fits_next}
use Rattle.sg_script.proofs.numbers.magnitude.Goals as goal

pub overflow_mul-size : goal.overflow_mul-size
overflow_mul-size c =
    let h : 10 * c.loop-byte.size + 0 < 10 ^ 18 = fits_next c.loop-byte.byte-index c.loop-byte.size 0 c.loop-byte.invariant.small (omega arith) (lit≤ tt) in
    omega arith

pub overflow_add-size : goal.overflow_add-size
overflow_add-size c =
    let h : 10 * c.loop-byte.size + 9 < 10 ^ 18 = fits_next c.loop-byte.byte-index c.loop-byte.size 9 c.loop-byte.invariant.small (omega arith) (lit≤ tt) in
    grind arith

pub returns-clause-within : goal.returns-clause-within
returns-clause-within c = fits_digits c.loop-byte.byte-index c.loop-byte.size c.loop-byte.invariant.small (omega arith)
