use Rattle.std.proofs.Common.{◌≡◌, ℕ, ◌<◌, ◌++◌, get_or, take}
use Rattle.std.specs.List.{flat_map}
use Rattle.sg_texts.specs.Laws.{IsRow}
use Rattle.sg_texts.specs.Texts.{row_line}
use Rattle.sg_texts.proofs.texts.append_each_row.Given as goal

abbrev pub invariant-loop-row : goal.invariant-loop-row
invariant-loop-row l = record {
  text : l.out.items ≡ l.fn.out.items ++ flat_map row_line (take l.row-index l.rows);
  fits : (k : ℕ) (d : _) → k < l.row-index → IsRow (get_or l.rows k d);
}
