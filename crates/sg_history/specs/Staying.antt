-- What a history leaves of one session.
use Rattle.std.specs.Prelude.{◌≡◌, ℕ, List, [], ◌∷◌, None}
use Rattle.sg_trace.specs.Traces.{Local, Stage, Event, state, after, idle}

abbrev pub local : Stage → List Event → ℕ → Local
local w es s = (state w es).of s

-- no statement is open
abbrev pub IsClosed : Local → Type 0
IsClosed x = x.open_one ≡ None

-- what these events of one session leave of it, one after another
abbrev pub made : List Event → Local
made [] = idle 0
made (e ∷ es) = after e (made es)
