use Rattle.std.proofs.Common.{◌≡◌, ◌+◌, ◌≤◌, length}
use Rattle.sg_script.specs.Lines.{lines}
use Rattle.sg_script.specs.Grammar.{read, script_in}
use Rattle.sg_script.proofs.reading.read_script.Given as goal

-- each turn takes a line
abbrev pub decreases-lines : goal.decreases-lines
decreases-lines l = length l.rest

-- what is left, read after what was read, is the whole; there are no more lines than bytes
abbrev pub invariant-lines : goal.invariant-lines
invariant-lines l = record {
  whole : script_in l.text ≡ read l.number l.reader (lines l.rest);
  counted : l.number + length l.rest ≤ length l.text + 1;
  from_one : 1 ≤ l.number;
}
