-- Histories of a table that callers share: what happened to it, as one list of events. An event is a label, and that of
-- an Ask has its statement beside it. As in all traces of events the newest stands first.
use Rattle.std.specs.Prelude.{◌≡◌, ℕ, Bool, cond, not, ◌&&◌, List, [], ◌∷◌, ◌++◌, eqb}
use Rattle.sg_trace.specs.Traces.{Stage, Event, session_of}
use Rattle.sg_trace.specs.Legal.{IsStage, IsLegal}
use Rattle.sg_trace.specs.Scripts.{Follows, is_victim}
use Rattle.sg_serial.specs.Told.{script_of}

-- the new history begins with all of the old one
abbrev pub Begins : List Event → List Event → Type 0
Begins old new = (more : List Event) × (new ≡ more ++ old)

-- an event of the session, but not that which made it a victim
abbrev pub is_own : ℕ → Event → Bool
is_own s e = eqb (session_of e) s && not (is_victim e)

-- the session's events in a history, but for those that made it a victim
abbrev pub own : ℕ → List Event → List Event
own s [] = []
own s (e ∷ es) = cond (is_own s e) (e ∷ own s es) (own s es)

-- ---- histories
-- A history of a sound table that is legal for the script that it tells.
pub record IsHistory (w : Stage) (es : List Event) : Type 0 where
  pub stage : IsStage w
  pub legal : IsLegal w es
  pub follows : Follows (script_of es) w es
