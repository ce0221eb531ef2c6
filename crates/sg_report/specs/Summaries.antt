-- The one line that sums up a run.
use Rattle.std.specs.Prelude.{◌≡◌, ℕ, Bool, true, false, List, [], ◌∷◌, ◌++◌, length, count_by, codes}
use Rattle.std.specs.Fmt.{decimal}
use Rattle.sg_plain.specs.Rows.{Rows}
use Rattle.sg_texts.specs.declared.others.Ending.{Ending}
use Rattle.sg_texts.specs.declared.others.Ending.TheVariants.{RolledBack, Victim, NoMemory}
use Rattle.sg_texts.specs.declared.others.Other.{Other}
use Rattle.sg_trace.specs.Replies.{SerialIn}
use Rattle.sg_run.specs.Runs.{RunShown, IsRun}
use Rattle.sg_report.specs.Reports.{others_in}

-- its script asked for the rollback; it was a victim; there was no memory
abbrev pub was_asked : Ending → Bool
was_asked RolledBack = true
was_asked (Victim cycle) = false
was_asked NoMemory = false

abbrev pub was_victim : Ending → Bool
was_victim RolledBack = false
was_victim (Victim cycle) = true
was_victim NoMemory = false

abbrev pub had_no_memory : Ending → Bool
had_no_memory RolledBack = false
had_no_memory (Victim cycle) = false
had_no_memory NoMemory = true

-- how many transactions ended so
abbrev pub ended_by : (Ending → Bool) → List Other → ℕ
ended_by was others = count_by (λ (o : Other). was o.ending) others

-- how many transactions committed and ended otherwise, how many rows there are at the end, and how many labels
abbrev pub summary_line : RunShown → ℕ → List ℕ
summary_line v rows =
    codes "# commits " ++ decimal (length v.engine.journal)
    ++ codes " rolled back " ++ decimal (ended_by was_asked (others_in v))
    ++ codes " victims " ++ decimal (ended_by was_victim (others_in v))
    ++ codes " no memory " ++ decimal (ended_by had_no_memory (others_in v))
    ++ codes " rows " ++ decimal rows
    ++ codes " labels " ++ decimal (length v.engine.labels) ++ 10 ∷ []

-- The line sums up a run whose trace is legal: the rows are those that its journal leaves.
pub record IsSummaryOf (v : RunShown) (line : List ℕ) : Type 0 where
  pub rows : Rows
  pub legal : IsRun v
  pub left : SerialIn v.engine.stage.settings v.engine.stage.opening v.engine.journal rows
  pub is : line ≡ summary_line v (length rows)
