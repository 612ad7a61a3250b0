use Rattle.std.proofs.Common.{◌≡◌, arith, take}
use Rattle.std.proofs.lemmas.Grind.{common_steps}
use Rattle.dt_text.proofs.Numerals.{goes_on, stops}
use Rattle.dt_text.proofs.numbers.value_of_digits.Goals as goal

pub loop-byte-preserved : goal.loop-byte-preserved
loop-byte-preserved c =
    let on = goes_on c.args.word.now c.loop-byte.byte-index (omega arith) c.loop-byte.invariant.digits c.in_ok-number.ensures.0.0 in
    record {
      digits = on.0;
      value = omega (arith, c.in_ok-number.ensures.1, on.1, c.loop-byte.invariant.value);
      small = omega (arith, c.in_ok-number.ensures.0.1, c.in_ok-number.ensures.1);
    }

pub returns-in_err-number : goal.returns-in_err-number
returns-in_err-number c =
    let refused = rw c.loop-byte.invariant.value at c.in_err-number.ensures in
    rw c.from_residual.ensures (stops c.args.word.now c.loop-byte.byte-index (omega arith) c.loop-byte.invariant.digits refused)

pub returns : goal.returns
returns c =
    let whole : take c.loop-byte.byte-index c.args.word.now ≡ c.args.word.now = grind (arith, common_steps) in
    let digits = rw whole at c.loop-byte.invariant.digits in
    let value = rw whole at c.loop-byte.invariant.value in
    ((digits, omega (arith, value, c.loop-byte.invariant.small)), value)
