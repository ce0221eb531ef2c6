use Rattle.std.proofs.Common.{◌≡◌, take}
use Rattle.sg_script.specs.Plans.{numbers_of}
use Rattle.sg_script.proofs.scripts.set_of.Given as goal

abbrev pub invariant-loop-told : goal.invariant-loop-told
invariant-loop-told l = l.set ≡ numbers_of (take l.told-index l.sessions)
