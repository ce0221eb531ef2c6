-- For which key and mode the open statement of a session may have to wait, and for whom.
use Rattle.std.specs.Prelude.{◌≡◌, ℕ, List}
use Rattle.sg_cells.specs.declared.keys.Key.{Key}
use Rattle.sg_modes.specs.declared.modes.Mode.{Mode}
use Rattle.sg_plain.specs.declared.statements.Statement.{Statement}
use Rattle.sg_trace.specs.Traces.{Event, state}
use Rattle.sg_trace.specs.Legal.{IsOpen, IsWaitFor, conflict}
use Rattle.sg_engine.specs.Shown.{Shown, IsRunOf}

-- it asks for the key in the mode: to lock it, or to put a new key below it
abbrev pub IsWish : Shown → ℕ → Key → Mode → Type 0
IsWish v s k m = (es : List Event) → IsRunOf es v → (st : Statement) × IsOpen v.stage es s st × IsWaitFor v.stage es s st k m

-- these are in the way
abbrev pub AreInTheWay : Shown → ℕ → Key → Mode → List ℕ → Type 0
AreInTheWay v s k m b = (es : List Event) → IsRunOf es v → b ≡ conflict (state v.stage es).of s k m
