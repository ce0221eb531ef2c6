-- What one step of a seat tells it.
use Rattle.std.specs.Prelude.{◌≡◌, ◌≢◌, ℕ, ◌<◌, ◌^◌, cond, ◌⊎◌, true, List, [], ◌∷◌, length, Option, Some, None}
use Rattle.sg_trace.specs.Traces.{Stage, Event, session_of}
use Rattle.sg_trace.specs.Scripts.{is_victim}
use Rattle.sg_history.specs.Histories.{Begins, own, is_own, IsHistory}
use Rattle.sg_history.specs.Views.{Pen, Known}

-- the view has the pen of a table that was opened so, with this history
abbrev pub HasPen : Known → Stage → List Event → Type 0
HasPen v w es = (seats : ℕ) × (v.pen ≡ Some (record { stage = w; history = es; seats = seats }))

-- A seat has looked: it has now seen the history, which is as long as the word says, begins with all that it had seen
-- or learnt, and has of its session just the labels that its own calls made. Whoever has the pen knew the history.
pub record Looks (v : Known) (found : ℕ) (w : Known) : Type 0 where
  pub same : w ≡ record v { seen = w.seen; kept = [] }
  pub length : length w.seen ≡ found
  pub history : IsHistory v.stage w.seen
  pub seen : Begins v.seen w.seen
  pub kept : Begins v.kept w.seen
  pub mine : v.session ≢ 0 → v.mine ≡ own v.session w.seen
  pub pen : (u : Stage) (es : List Event) → HasPen v u es → (v.stage ≡ u) × (w.seen ≡ es)

-- the event may be added to this history by the session's seat, which has the pen
pub record MayAdd (v : Known) (e : Event) : Type 0 where
  pub pen : HasPen v v.stage v.seen
  pub caller : v.session ≢ 0
  pub whose : (session_of e ≡ v.session) ⊎ (is_victim e ≡ true)
  pub legal : IsHistory v.stage (e ∷ v.seen)
  pub room : length (e ∷ v.seen) < 2 ^ 64

-- the pen with the event added
abbrev pub pen_with : Event → Option Pen → Option Pen
pen_with e None = None
pen_with e (Some p) = Some (record { stage = p.stage; history = e ∷ p.history; seats = p.seats })

-- the view with the event added to the history, and to its own labels where it is one of them
abbrev pub added : Event → Known → Known
added e v = record v { seen = e ∷ v.seen; mine = cond (is_own v.session e) (e ∷ v.mine) v.mine; pen = pen_with e v.pen }
