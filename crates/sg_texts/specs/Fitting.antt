-- Labels whose numbers fit into their words, and whose answers fit.
use Rattle.std.specs.Prelude.{◌<◌, ◌^◌, All}
use Rattle.sg_cells.specs.Cells.{Cell as Path}
use Rattle.sg_cells.specs.declared.keys.Key.{Key}
use Rattle.sg_cells.specs.declared.keys.Key.TheVariants.{Row, RowEnd, Cell, CellEnd}
use Rattle.sg_modes.specs.Sessions.{IsSession, AreSessions}
use Rattle.sg_trace.specs.declared.labels.Label.{Label}
use Rattle.sg_trace.specs.declared.labels.Label.TheVariants as label
use Rattle.sg_texts.specs.Laws.{IsAnswer}
use Rattle.sg_texts.specs.Labels.{owner_of}

-- each place is a byte
abbrev pub IsCell : Path → Type 0
IsCell cell = All (λ place. place < 256) cell

abbrev pub IsKey : Key → Type 0
IsKey (Row k) = k < 2 ^ 32
IsKey RowEnd = Unit {0}
IsKey (Cell c k) = IsCell c × (k < 2 ^ 32)
IsKey CellEnd = Unit {0}

-- what a label says beside its session
abbrev pub IsDeed : Label → Type 0
IsDeed (label.Begin s t) = t < 2 ^ 64
IsDeed (label.Ask s n) = n < 2 ^ 64
IsDeed (label.Take s k m) = IsKey k
IsDeed (label.Put s k m) = IsKey k
IsDeed (label.Wait s k m b) = IsKey k × AreSessions b
IsDeed (label.Victim s c) = AreSessions c
IsDeed (label.Answer s a) = IsAnswer a
IsDeed (label.Commit s p) = p < 2 ^ 64
IsDeed (label.Rollback s c) = Unit {0}

pub record IsLabel (l : Label) : Type 0 where
  pub owner : IsSession (owner_of l)
  pub deed : IsDeed l
