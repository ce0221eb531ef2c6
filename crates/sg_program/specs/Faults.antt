-- What is said of a script's first faulty line.
use Rattle.std.specs.Prelude.{ℕ, List, [], ◌∷◌, ◌++◌, codes}
use Rattle.std.specs.Fmt.{decimal}
use Rattle.sg_cells.specs.declared.faults.GridFault.{GridFault}
use Rattle.sg_cells.specs.declared.faults.GridFault.TheVariants.{BoxEmpty, CoordOut, CellsOut}
use Rattle.sg_script.specs.declared.faults.ScriptFault.{ScriptFault}
use Rattle.sg_script.specs.declared.faults.ScriptKind.{ScriptKind}
use Rattle.sg_script.specs.declared.faults.ScriptKind.TheVariants as kind
use Rattle.sg_wkt.specs.declared.faults.WktKind.{WktKind}
use Rattle.sg_wkt.specs.declared.faults.WktKind.TheVariants as shape

-- what is wrong at a token of a shape
abbrev pub token_text : WktKind → List ℕ
token_text shape.Keyword = codes "keyword"
token_text shape.Number = codes "number"
token_text shape.Fraction = codes "fraction"
token_text shape.Punctuation = codes "punctuation"
token_text shape.CoordOut = codes "coordinate out"
token_text shape.TooMany = codes "too many"
token_text shape.TooFew = codes "too few"
token_text shape.RingOpen = codes "ring open"
token_text shape.End = codes "end"
token_text shape.After = codes "after"

-- why there is no such grid
abbrev pub grid_text : GridFault → List ℕ
grid_text BoxEmpty = codes "grid box empty"
grid_text CoordOut = codes "grid coordinate out"
grid_text CellsOut = codes "grid cells out"

abbrev pub kind_text : ScriptKind → List ℕ
kind_text kind.Word = codes "word"
kind_text kind.Number = codes "number"
kind_text (kind.Shape fault) = codes "shape " ++ token_text fault.kind ++ codes " at byte " ++ decimal fault.at
kind_text kind.Session = codes "session"
kind_text kind.NotClosed = codes "not closed"
kind_text (kind.Grid fault) = grid_text fault

-- the number of the line, and what is wrong there
abbrev pub fault_line : ScriptFault → List ℕ
fault_line fault = codes "script line " ++ decimal fault.line ++ codes ": " ++ kind_text fault.kind ++ 10 ∷ []
