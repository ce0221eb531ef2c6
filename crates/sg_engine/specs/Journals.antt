-- What holds of an engine at hand: of its run, and of its journal.
use Rattle.std.specs.Prelude.{All, List}
use Rattle.sg_plain.specs.Rows.{Rows}
use Rattle.sg_plain.specs.Sat.{AreSound}
use Rattle.sg_plain.specs.Serial.{Serial}
use Rattle.sg_trace.specs.Traces.{Event}
use Rattle.sg_trace.specs.Legal.{IsStage}
use Rattle.sg_engine.specs.Shown.{Shown, IsRunOf}

-- Its transactions, executed one after another on a plain list of rows, give their answers and leave these rows; and
-- their statements are sound.
pub record IsSerialJournal (v : Shown) : Type 0 where
  pub rows : Rows
  pub serial : Serial v.stage.opening v.journal rows
  pub sound : All (λ entry. AreSound entry.statements) v.journal

-- It was opened on a sound stage, and some legal events, after which no cycle of waits stands, led to what it shows.
pub record IsLegalRun (v : Shown) : Type 0 where
  pub stage : IsStage v.stage
  pub events : List Event
  pub run : IsRunOf events v
