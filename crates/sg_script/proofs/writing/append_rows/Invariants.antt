use Rattle.std.proofs.Common.{◌≡◌, ◌++◌, All, map, take}
use Rattle.sg_script.specs.declared.words.Line.TheVariants as line
use Rattle.sg_script.specs.Canonical.{lines_text}
use Rattle.sg_script.specs.Told.{IsToldRow}
use Rattle.sg_script.proofs.writing.append_rows.Given as goal

abbrev pub invariant-loop-row : goal.invariant-loop-row
invariant-loop-row l = record {
  text : l.out.items ≡ l.fn.out.items ++ lines_text (map (λ row. line.Row row.0 row.1) (take l.row-index l.rows));
  told : All IsToldRow (take l.row-index l.rows);
}
