use Rattle.std.proofs.Common.{◌≡◌, ◌+◌, drop}
use Rattle.sg_script.specs.Fields.{word_length}
use Rattle.sg_script.proofs.fields.word_length.Given as goal

abbrev pub invariant-loop-i : goal.invariant-loop-i
invariant-loop-i l = word_length l.text ≡ l.i + word_length (drop l.i l.text)
