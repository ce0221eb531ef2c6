use Rattle.std.proofs.Common.{◌≡◌, ◌++◌, take}
use Rattle.sg_script.proofs.scripts.append.Given as goal

-- the first turns went last
abbrev pub invariant-loop-place : goal.invariant-loop-place
invariant-loop-place l = l.order ≡ l.fn.order ++ take l.place l.turns
