use Rattle.std.proofs.Common.{◌≡◌, drop}
use Rattle.sg_script.specs.Fields.{after_blanks}
use Rattle.sg_script.proofs.fields.skip_blanks.Given as goal

abbrev pub invariant-loop-i : goal.invariant-loop-i
invariant-loop-i l = after_blanks l.text ≡ after_blanks (drop l.i l.text)
