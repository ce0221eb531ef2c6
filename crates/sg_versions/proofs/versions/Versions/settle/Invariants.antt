use Rattle.std.specs.Prelude.{min}
use Rattle.std.proofs.Common.{◌≡◌, ◌-◌, ◌≤◌, length}
use Rattle.sg_versions.specs.Versions.{settled}
use Rattle.sg_versions.specs.Writers.{IsIndexed, unwritten, count_written}
use Rattle.sg_versions.proofs.versions.Versions.settle.Given as goal

abbrev pub invariant-loop-key : goal.invariant-loop-key
invariant-loop-key g l = record {
  indexed : IsIndexed g.K.Ord.cmp l.self-inside.rows.pairs l.self-inside.listed.pairs l.self-inside.listed.spare;
  counted : l.self-inside.written_keys ≡ count_written l.self-inside.rows.pairs;
  rows : settled l.end l.s l.self-inside.rows.pairs ≡ settled l.end l.s l.fn.self.rows;
  spare : l.fn.self.spare ≤ min l.self-inside.rows.spare (l.self-inside.listed.spare - unwritten l.self-inside.rows.pairs);
}

abbrev pub decreases-loop-key : goal.decreases-loop-key
decreases-loop-key g l = length l.self-inside.listed.pairs
