-- How a table goes on from one moment to another, and what ties a publisher to it.
use Rattle.std.specs.Prelude.{◌≡◌, List}
use Rattle.sg_trace.specs.Traces.{Event}
use Rattle.sg_engine.specs.Shown.{Shown, IsRunOf}
use Rattle.sg_fronts.specs.Journals.{BeginsWith}
use Rattle.sg_replica.specs.Values.{PublisherValue}
use Rattle.sg_replica.specs.Queues.{journal_of}

-- legal events lead to it
abbrev pub IsCourse : Shown → Type 0
IsCourse v = (es : List Event) × IsRunOf es v

-- the journal has grown, if at all
pub record HasGrown (old new : Shown) : Type 0 where
  pub course : IsCourse new
  pub journal : BeginsWith new.journal old.journal

-- it is the same table, later
pub record GoesOn (old new : Shown) : Type 0 where
  pub stage : new.stage ≡ old.stage
  pub grows : IsCourse old → HasGrown old new

-- the publisher has the table's opening rows, and the table's journal begins with the publisher's
pub record IsTied (table : Shown) (publisher : PublisherValue) : Type 0 where
  pub course : IsCourse table
  pub opening : table.stage.opening ≡ publisher.opening
  pub journal : BeginsWith table.journal (journal_of publisher)
