-- Three scripts of two sessions, and the labels of a run of each, in the order in which they came.
use Rattle.std.specs.Prelude.{ℤ, pos, List, [], ◌∷◌, Some, None}
use Rattle.sg_shape.specs.declared.shapes.Shape.{Shape}
use Rattle.sg_shape.specs.declared.shapes.Shape.TheVariants as shape
use Rattle.sg_shape.specs.declared.matrices.Pred.TheVariants.{Intersects}
use Rattle.sg_cells.specs.declared.settings.Settings.{Settings}
use Rattle.sg_cells.specs.declared.keys.Key.TheVariants.{Row, RowEnd, Cell, CellEnd}
use Rattle.sg_modes.specs.declared.modes.Mode.TheVariants.{X, RangeSS, RangeIN, RangeXX}
use Rattle.sg_plain.specs.declared.statements.Statement.{Statement}
use Rattle.sg_plain.specs.declared.statements.Statement.TheVariants.{Insert, Update, Select}
use Rattle.sg_plain.specs.declared.statements.Answer.TheVariants.{Inserted, Done, Keys}
use Rattle.sg_plain.specs.declared.statements.Query.{Query}
use Rattle.sg_plain.specs.declared.statements.Test.TheVariants as test
use Rattle.sg_plain.specs.declared.transactions.End.TheVariants as finish
use Rattle.sg_plain.specs.Transactions.{TransactionPlan, SessionPlan}
use Rattle.sg_trace.specs.declared.labels.Label.{Label}
use Rattle.sg_trace.specs.declared.labels.Label.TheVariants as label
use Rattle.sg_trace.specs.Traces.{Stage}
use Rattle.sg_trace.specs.Scripts.{Script}

-- the point (x, x), and what intersects the point (5, 5)
abbrev pub at : ℤ → Shape
at x = shape.Point (record { x = x; y = x })

abbrev pub near_five : Query
near_five = record { test = test.Relate Intersects; shape = at (pos 5) }

-- one transaction of a session, which commits
abbrev pub committing : List Statement → List TransactionPlan
committing sts = record { statements = sts; end = finish.Commit } ∷ []

abbrev pub of_two : List Statement → List Statement → Script
of_two one two = record { number = 1; transactions = committing one } ∷ record { number = 2; transactions = committing two } ∷ []

-- a table without an index; and one of four levels of 4 by 4 cells over the box from (0, 0) to (80, 80)
abbrev pub bare : Settings
bare = record { grid = None; window = 64 }

abbrev pub indexed : Settings
indexed = record { grid = Some (record { west = pos 0; south = pos 0; width = 80; height = 80; sides = 2 ∷ 2 ∷ 2 ∷ 2 ∷ []; cells = 16 }); window = 64 }

-- ---- A phantom that waits. Session 1 searches twice; between the two session 2 wants to insert a point there. It puts
-- the row's key, and waits at the end of the cells until session 1 has committed.
abbrev pub phantom_stage : Stage
phantom_stage = record { settings = indexed; opening = []; priorities = [] }

abbrev pub phantom_script : Script
phantom_script = of_two (Select near_five ∷ Select near_five ∷ []) (Insert 1 (at (pos 5)) ∷ [])

abbrev pub phantom_labels : List Label
phantom_labels =
    label.Begin 1 1
    ∷ label.Ask 1 1
    ∷ label.Take 1 CellEnd RangeSS
    ∷ label.Answer 1 (Keys [])
    ∷ label.Begin 2 1
    ∷ label.Ask 2 1
    ∷ label.Put 2 (Row 1) X
    ∷ label.Wait 2 CellEnd RangeIN (1 ∷ [])
    ∷ label.Ask 1 2
    ∷ label.Answer 1 (Keys [])
    ∷ label.Commit 1 1
    ∷ label.Put 2 (Cell (0 ∷ 2 ∷ 0 ∷ 10 ∷ []) 1) X
    ∷ label.Answer 2 Inserted
    ∷ label.Commit 2 2
    ∷ []

-- ---- A deadlock. Each session updates a row and then the row of the other; session 2 closes the cycle, and of the
-- two members, of one priority and with one key each, it has the greater number.
abbrev pub deadlock_stage : Stage
deadlock_stage = record { settings = bare; opening = (1, at (pos 1)) ∷ (2, at (pos 2)) ∷ []; priorities = [] }

abbrev pub deadlock_script : Script
deadlock_script = of_two (Update 1 (at (pos 10)) ∷ Update 2 (at (pos 20)) ∷ []) (Update 2 (at (pos 30)) ∷ Update 1 (at (pos 40)) ∷ [])

abbrev pub deadlock_labels : List Label
deadlock_labels =
    label.Begin 1 1
    ∷ label.Ask 1 1
    ∷ label.Take 1 (Row 1) X
    ∷ label.Answer 1 Done
    ∷ label.Begin 2 1
    ∷ label.Ask 2 1
    ∷ label.Take 2 (Row 2) X
    ∷ label.Answer 2 Done
    ∷ label.Ask 1 2
    ∷ label.Wait 1 (Row 2) X (2 ∷ [])
    ∷ label.Ask 2 2
    ∷ label.Wait 2 (Row 1) X (1 ∷ [])
    ∷ label.Victim 2 (1 ∷ 2 ∷ [])
    ∷ label.Take 1 (Row 2) X
    ∷ label.Answer 1 Done
    ∷ label.Commit 1 1
    ∷ []

-- ---- One's own scanned gap. Session 1 has locked all gaps of the rows by its search; its own row 6 takes over the gap
-- below it, and session 2 waits there.
abbrev pub own_gap_stage : Stage
own_gap_stage = record { settings = bare; opening = (9, at (pos 0)) ∷ []; priorities = [] }

abbrev pub own_gap_script : Script
own_gap_script = of_two (Select near_five ∷ Insert 6 (at (pos 6)) ∷ Select near_five ∷ []) (Insert 4 (at (pos 5)) ∷ [])

abbrev pub own_gap_labels : List Label
own_gap_labels =
    label.Begin 1 1
    ∷ label.Ask 1 1
    ∷ label.Take 1 (Row 9) RangeSS
    ∷ label.Take 1 RowEnd RangeSS
    ∷ label.Answer 1 (Keys [])
    ∷ label.Ask 1 2
    ∷ label.Put 1 (Row 6) RangeXX
    ∷ label.Answer 1 Inserted
    ∷ label.Begin 2 1
    ∷ label.Ask 2 1
    ∷ label.Wait 2 (Row 6) RangeIN (1 ∷ [])
    ∷ label.Ask 1 3
    ∷ label.Take 1 (Row 6) RangeSS
    ∷ label.Answer 1 (Keys [])
    ∷ label.Commit 1 1
    ∷ label.Put 2 (Row 4) X
    ∷ label.Answer 2 Inserted
    ∷ label.Commit 2 2
    ∷ []
