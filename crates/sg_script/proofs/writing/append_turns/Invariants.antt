use Rattle.std.proofs.Common.{◌≡◌, ◌++◌, take}
use Rattle.sg_script.specs.Canonical.{turns_text}
use Rattle.sg_script.proofs.writing.append_turns.Given as goal

abbrev pub invariant-loop-place : goal.invariant-loop-place
invariant-loop-place l = l.out.items ≡ l.fn.out.items ++ turns_text (take l.place l.order)
