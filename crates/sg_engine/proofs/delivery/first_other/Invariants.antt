use Rattle.std.proofs.Common.{◌≡◌, take}
use Rattle.sg_engine.proofs.delivery.first_other.Given as goal

-- no difference so far
abbrev pub invariant-loop-place : goal.invariant-loop-place
invariant-loop-place l = take l.place l.these ≡ take l.place l.those
