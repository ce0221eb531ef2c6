use Rattle.std.proofs.Common.{◌≡◌, ◌++◌, All, map, take}
use Rattle.sg_script.specs.declared.words.Line.TheVariants as line
use Rattle.sg_script.specs.Canonical.{lines_text}
use Rattle.sg_script.specs.Told.{IsToldStatement}
use Rattle.sg_script.proofs.writing.append_statements.Given as goal

abbrev pub invariant-loop-statement : goal.invariant-loop-statement
invariant-loop-statement l = record {
  text : l.out.items ≡ l.fn.out.items ++ lines_text (map (λ s. line.Statement s) (take l.statement-index l.statements));
  told : All IsToldStatement (take l.statement-index l.statements);
}
