-- What a report tells of a run: its commits in their order, its other transactions by session and number, its rows at
-- the end, and where they are asked for its labels and its schedule.
use Rattle.std.specs.Prelude.{◌≡◌, ℕ, List, [], ◌∷◌, ◌++◌, codes, All, Option, Some, None, IfSome}
use Rattle.std.specs.List.{flat_map}
use Rattle.sg_modes.specs.Sessions.{IsSession}
use Rattle.sg_plain.specs.Rows.{Rows}
use Rattle.sg_trace.specs.declared.labels.Label.{Label}
use Rattle.sg_texts.specs.Texts.{Commit}
use Rattle.sg_texts.specs.declared.others.Other.{Other}
use Rattle.sg_texts.specs.Texts.{spaced, commits_text, other_text, rows_text}
use Rattle.sg_texts.specs.Labels.{labels_text}
use Rattle.sg_texts.specs.Laws.{IsCommit, IsOther, IsRow}
use Rattle.sg_texts.specs.Fitting.{IsLabel}

pub record Told : Type 0 where
  pub commits : List Commit
  pub others : List Other
  pub rows : Rows
  pub labels : Option (List Label)
  pub schedule : Option (List ℕ)

-- the text of what is asked for
abbrev pub if_asked : {X : Type 0} → (X → List ℕ) → Option X → List ℕ
if_asked text None = []
if_asked text (Some x) = text x

-- whose turns came one after another
abbrev pub schedule_text : List ℕ → List ℕ
schedule_text turns = codes "schedule" ++ flat_map spaced turns ++ 10 ∷ []

abbrev pub told_text : Told → List ℕ
told_text told =
    commits_text told.commits ++ flat_map other_text told.others ++ rows_text told.rows
    ++ if_asked labels_text told.labels ++ if_asked schedule_text told.schedule

-- all numbers fit, and all shapes are sound
pub record IsTold (told : Told) : Type 0 where
  pub commits : All IsCommit told.commits
  pub others : All IsOther told.others
  pub rows : All IsRow told.rows
  pub labels : IfSome told.labels (λ labels. All IsLabel labels)
  pub schedule : IfSome told.schedule (λ turns. All IsSession turns)

-- no two of them have one text
abbrev pub ToldTells : Type 0
ToldTells = (r s : Told) → IsTold r → IsTold s → told_text r ≡ told_text s → r ≡ s
