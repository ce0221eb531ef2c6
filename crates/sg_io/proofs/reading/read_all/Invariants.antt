use Rattle.std.proofs.Common.{◌≤◌, ◌-◌, vec_len}
use Rattle.std.specs.Io.KnownBytes.{Consumes}
use Rattle.sg_io.proofs.reading.read_all.Given as goal

-- each turn but the last takes a byte at least
abbrev pub decreases-pieces : goal.decreases-pieces
decreases-pieces g l = 67108865 - vec_len l.bytes

abbrev pub invariant-pieces : goal.invariant-pieces
invariant-pieces g l = record {
  within : vec_len l.bytes ≤ 67108864;
  so_far : Consumes (g.S.Source.left l.fn.source) (g.S.Source.left l.source) l.bytes.items;
  later : g.S.Source.faults l.fn.source ≤ g.S.Source.faults l.source;
}
