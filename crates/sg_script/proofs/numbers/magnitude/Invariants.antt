use Rattle.std.proofs.Common.{◌≡◌, ◌<◌, ◌^◌, drop}
use Rattle.sg_script.specs.Numbers.{digits_from}
use Rattle.sg_script.proofs.numbers.magnitude.Given as goal

abbrev pub invariant-loop-byte : goal.invariant-loop-byte
invariant-loop-byte l = record {
  small : l.size < 10 ^ l.byte-index;
  same : digits_from 0 l.digits ≡ digits_from l.size (drop l.byte-index l.digits);
}
