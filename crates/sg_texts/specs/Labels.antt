-- The texts of labels: what sessions did, a line for each.
use Rattle.std.specs.Prelude.{ℕ, List, [], ◌∷◌, ◌++◌, length, codes}
use Rattle.std.specs.Fmt.{decimal}
use Rattle.std.specs.List.{flat_map}
use Rattle.sg_cells.specs.Cells.{Cell as Path}
use Rattle.sg_cells.specs.declared.keys.Key.{Key}
use Rattle.sg_cells.specs.declared.keys.Key.TheVariants.{Row, RowEnd, Cell, CellEnd}
use Rattle.sg_modes.specs.declared.modes.Mode.{Mode}
use Rattle.sg_modes.specs.declared.modes.Mode.TheVariants.{S, U, X, RangeSS, RangeSU, RangeIN, RangeXX}
use Rattle.sg_trace.specs.declared.labels.Cause.{Cause}
use Rattle.sg_trace.specs.declared.labels.Cause.TheVariants.{Asked, NoMemory}
use Rattle.sg_trace.specs.declared.labels.Label.{Label}
use Rattle.sg_trace.specs.declared.labels.Label.TheVariants as label
use Rattle.sg_texts.specs.Texts.{spaced, answer_text, count_line, cycle_text}

-- a number after a dot
abbrev pub dotted : ℕ → List ℕ
dotted n = codes "." ++ decimal n

-- the places of a cell with dots between them; the cell of all that lies outside has none
abbrev pub cell_text : Path → List ℕ
cell_text [] = codes "out"
cell_text (d ∷ ds) = decimal d ++ flat_map dotted ds

abbrev pub key_text : Key → List ℕ
key_text (Row k) = codes "row " ++ decimal k
key_text RowEnd = codes "row end"
key_text (Cell c k) = codes "cell " ++ cell_text c ++ codes " row " ++ decimal k
key_text CellEnd = codes "cell end"

abbrev pub mode_text : Mode → List ℕ
mode_text S = codes "S"
mode_text U = codes "U"
mode_text X = codes "X"
mode_text RangeSS = codes "RangeS-S"
mode_text RangeSU = codes "RangeS-U"
mode_text RangeIN = codes "RangeI-N"
mode_text RangeXX = codes "RangeX-X"

-- a key and the mode in which it is asked for
abbrev pub lock_text : Key → Mode → List ℕ
lock_text k m = key_text k ++ codes " " ++ mode_text m

abbrev pub cause_text : Cause → List ℕ
cause_text Asked = codes "asked"
cause_text NoMemory = codes "memory"

-- whose label it is
abbrev pub owner_of : Label → ℕ
owner_of (label.Begin s t) = s
owner_of (label.Ask s n) = s
owner_of (label.Take s k m) = s
owner_of (label.Put s k m) = s
owner_of (label.Wait s k m b) = s
owner_of (label.Victim s c) = s
owner_of (label.Answer s a) = s
owner_of (label.Commit s p) = s
owner_of (label.Rollback s c) = s

-- what its session did
abbrev pub deed_text : Label → List ℕ
deed_text (label.Begin s t) = codes "begin " ++ decimal t
deed_text (label.Ask s n) = codes "ask " ++ decimal n
deed_text (label.Take s k m) = codes "take " ++ lock_text k m
deed_text (label.Put s k m) = codes "put " ++ lock_text k m
deed_text (label.Wait s k m b) = codes "wait " ++ lock_text k m ++ codes " for" ++ flat_map spaced b
deed_text (label.Victim s c) = codes "victim" ++ cycle_text c
deed_text (label.Answer s a) = codes "answer " ++ answer_text a
deed_text (label.Commit s p) = codes "commit " ++ decimal p
deed_text (label.Rollback s c) = codes "rollback " ++ cause_text c

-- both after two spaces
abbrev pub label_line : Label → List ℕ
label_line l = codes "  session " ++ decimal (owner_of l) ++ codes " " ++ deed_text l ++ 10 ∷ []

-- how many labels there are, and each of them in order
abbrev pub labels_text : List Label → List ℕ
labels_text ls = count_line (codes "labels ") (length ls) ++ flat_map label_line ls
