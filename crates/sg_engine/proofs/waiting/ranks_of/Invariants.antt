use Rattle.std.specs.Prelude.{◌⊎◌}
use Rattle.std.proofs.Common.{◌≡◌, ℕ, true, length}
use Rattle.sg_modes.specs.Sessions.{has_session}
use Rattle.sg_waits.specs.Ranks.{rank_of}
use Rattle.sg_engine.specs.Waiting.{rank_in}
use Rattle.sg_engine.proofs.waiting.ranks_of.Given as goal

abbrev pub invariant-loop-s : goal.invariant-loop-s
invariant-loop-s l = (u : ℕ) → has_session l.fn.cycle u ≡ true → (has_session l.rest u ≡ true) ⊎ (rank_of l.ranks u ≡ rank_in l.priorities l.seats u)

abbrev pub decreases-loop-s : goal.decreases-loop-s
decreases-loop-s l = length l.rest
