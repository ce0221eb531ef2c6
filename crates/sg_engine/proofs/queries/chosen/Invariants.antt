use Rattle.std.proofs.Common.{◌≡◌, take}
use Rattle.sg_trace.specs.Pending.{chosen}
use Rattle.sg_engine.proofs.queries.chosen.Given as goal

-- the keys so far were chosen
abbrev pub invariant-loop-key : goal.invariant-loop-key
invariant-loop-key l = l.keys ≡ chosen l.sure l.tested (take l.key-index l.key-items)
