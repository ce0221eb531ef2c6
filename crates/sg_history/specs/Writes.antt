-- What one call under the lock adds to the history.
use Rattle.std.specs.Prelude.{◌≡◌, ◌≢◌, ℕ, ◌<◌, ◌^◌, ◌⊎◌, true, List, [], ◌∷◌, ◌++◌, length, Option, Some, None}
use Rattle.sg_plain.specs.declared.statements.Statement.{Statement}
use Rattle.sg_trace.specs.declared.labels.Label.{Label}
use Rattle.sg_trace.specs.declared.labels.Label.TheVariants as label
use Rattle.sg_trace.specs.Traces.{Event, Begin, Ask, Take, Put, Wait, Victim, Answered, Commit, Rollback, session_of}
use Rattle.sg_trace.specs.Scripts.{is_victim}
use Rattle.sg_history.specs.Histories.{Begins, own, IsHistory}
use Rattle.sg_history.specs.Views.{Pen, Known, resting}

-- the event of a label, where what was asked for is this statement
abbrev pub event_of : Statement → Label → Event
event_of st (label.Begin s t) = Begin s t
event_of st (label.Ask s n) = Ask s n st
event_of st (label.Take s k m) = Take s k m
event_of st (label.Put s k m) = Put s k m
event_of st (label.Wait s k m b) = Wait s k m b
event_of st (label.Victim s c) = Victim s c
event_of st (label.Answer s a) = Answered s a
event_of st (label.Commit s p) = Commit s p
event_of st (label.Rollback s c) = Rollback s c

-- the events of labels; the newest event stands first, and the newest label last
abbrev pub events_of : Statement → List Label → List Event
events_of st [] = []
events_of st (l ∷ ls) = events_of st ls ++ event_of st l ∷ []

-- ---- the pen at rest
abbrev pub history_in : Option Pen → List Event
history_in None = []
history_in (Some p) = p.history

-- the history of the view that has the pen
abbrev pub history_of : Known → List Event
history_of v = history_in v.pen

-- the view is the pen by itself, with this history
abbrev pub IsResting : Known → List Event → Type 0
IsResting v es = (seats : ℕ) × (v ≡ resting v.stage es seats)

-- ---- a caller's view with events added
-- each event is the session's own, or a victim's
abbrev pub AreOf : ℕ → List Event → Type 0
AreOf s [] = Unit {0}
AreOf s (e ∷ es) = ((session_of e ≡ s) ⊎ (is_victim e ≡ true)) × AreOf s es

-- the events may be added to the pen's history by the caller
pub record MayWrite (pen v : Known) (es : List Event) : Type 0 where
  pub rests : IsResting pen (history_of pen)
  pub caller : v.session ≢ 0
  pub penless : v.pen ≡ None
  pub whose : AreOf v.session es
  pub legal : IsHistory pen.stage (es ++ history_of pen)
  pub room : length (es ++ history_of pen) < 2 ^ 64

-- The caller has seen the whole history, which begins with all that it had seen or learnt and has of its session just
-- the labels that its calls had made; and then the events, which have come to it, those of its own to what its calls
-- made too. What it has seen is legal.
pub record HasWritten (es history : List Event) (v w : Known) : Type 0 where
  pub same : w ≡ record v { seen = es ++ history; kept = []; mine = own v.session es ++ v.mine }
  pub seen : Begins v.seen history
  pub kept : Begins v.kept history
  pub mine : v.mine ≡ own v.session history
  pub legal : IsHistory v.stage (es ++ history)

-- the pen is at rest again, with the events
pub record HasMore (es : List Event) (old new : Known) : Type 0 where
  pub stage : new.stage ≡ old.stage
  pub pen : IsResting new (es ++ history_of old)

-- ---- inside: the view while it adds
abbrev pub pens_with : List Event → Option Pen → Option Pen
pens_with es None = None
pens_with es (Some p) = Some (record { stage = p.stage; history = es ++ p.history; seats = p.seats })

-- the view with all these events added
abbrev pub all_added : List Event → Known → Known
all_added es v = record v { seen = es ++ v.seen; mine = own v.session es ++ v.mine; pen = pens_with es v.pen }

-- all of them may be added
pub record MayAddAll (v : Known) (es : List Event) : Type 0 where
  pub seats : ℕ
  pub pen : v.pen ≡ Some (record { stage = v.stage; history = v.seen; seats = seats })
  pub caller : v.session ≢ 0
  pub whose : AreOf v.session es
  pub legal : IsHistory v.stage (es ++ v.seen)
  pub room : length (es ++ v.seen) < 2 ^ 64
