-- What a step of the engine appends.
use Rattle.std.proofs.Common.{◌≡◌, ℕ, List, [], ◌∷◌, ◌++◌, ◌≤◌, length, drop, refl, sym, ◌∙◌, subst, inl, inr}
use Rattle.atomic_table.specs.Seated.{TableId}
use Rattle.sg_plain.specs.declared.statements.Statement.{Statement}
use Rattle.sg_trace.specs.Traces.{Event, Take, Put, Wait, Answered, session_of}
use Rattle.sg_engine.specs.declared.steps.Step.{Step}
use Rattle.sg_engine.specs.declared.steps.Step.TheVariants as step
use Rattle.sg_engine.specs.Shown.{Shown, Appends}
use Rattle.sg_engine.specs.Stepping.{HasStepped}
use Rattle.sg_engine.specs.Waiting.{Victims, victims_of}
use Rattle.sg_history.specs.Views.{Known}
use Rattle.sg_history.specs.Openings.{Held}
use Rattle.sg_history.specs.Writes.{events_of, history_of, AreOf, HasWritten, HasMore}
use Rattle.sg_db.specs.Locks.{IsLocked, IsSeatOf, MayTell}
use Rattle.sg_db.specs.Events.{AskOnly, AreStep, HasMadeStep}
use Rattle.sg_db.proofs.Telling.{appends_none, appends_same, longer, may_tell, locked_again, has_done}

victims_ask : (st : Statement) (vs : Victims) (e : Event) → AskOnly st (e ∷ []) → AskOnly st (victims_of vs ++ e ∷ [])
victims_ask st [] e h = h
victims_ask st (v ∷ vs) e h = victims_ask st vs e h

victims_are : (s : ℕ) (vs : Victims) (e : Event) → session_of e ≡ s → AreOf s (victims_of vs ++ e ∷ [])
victims_are s [] e h = (inl h, tt)
victims_are s (v ∷ vs) e h = (inr refl, victims_are s vs e h)

-- the events of a step
pub record Steps (s : ℕ) (old new : Shown) (it : Step) : Type 0 where
  pub events : List Event
  pub run : Appends events old new
  pub step : AreStep s it events
  pub asks : (st : Statement) → AskOnly st events
  pub whose : AreOf s events

pub steps : (s : ℕ) (old new : Shown) (it : Step) → HasStepped s old new it → Steps s old new it
steps s old new (step.Took k m) h = record { events = Take s k m ∷ []; run = h.run; step = refl; asks = λ st. tt; whose = (inl refl, tt) }
steps s old new (step.Put k m) h = record { events = Put s k m ∷ []; run = h.run; step = refl; asks = λ st. tt; whose = (inl refl, tt) }
steps s old new (step.Waiting k m b) (inl h) = record { events = []; run = appends_none old new h.same; step = inl refl; asks = λ st. tt; whose = tt }
steps s old new (step.Waiting k m b) (inr h) =
    let vs = h.waited.victims in record {
      events = victims_of vs ++ Wait s k m b ∷ [];
      run = h.waited.run;
      step = inr (vs, record { events = refl }, sym h.waited.itself);
      asks = λ st. victims_ask st vs (Wait s k m b) tt;
      whose = victims_are s vs (Wait s k m b) refl;
    }
steps s old new (step.Job job) h = record { events = []; run = appends_same old new h.run; step = refl; asks = λ st. tt; whose = tt }
steps s old new step.Answered h = record { events = Answered s h.answer ∷ []; run = h.run; step = (h.answer, refl); asks = λ st. tt; whose = (inl refl, tt) }
steps s old new (step.Victim cycle) h =
    let vs = h.wait.waited.victims in record {
      events = victims_of vs ++ Wait s h.key h.mode h.blockers ∷ [];
      run = h.wait.waited.run;
      step = (h.key, h.mode, h.blockers, vs, record { events = refl }, sym h.wait.waited.itself);
      asks = λ st. victims_ask st vs (Wait s h.key h.mode h.blockers) tt;
      whose = victims_are s vs (Wait s h.key h.mode h.blockers) refl;
    }
steps s old new step.Idle h = record { events = []; run = appends_none old new h; step = refl; asks = λ st. tt; whose = tt }

-- ---- under the lock
pub may_tell_step : (st : Statement) (s : ℕ) (t : TableId) (old new : Shown) (it : Step) (pen : Held) (v : Known) → IsLocked t old pen → HasStepped s old new it → IsSeatOf s v → MayTell st (length old.labels) new pen.known v
may_tell_step st s t old new it pen v locked h seat = let x = steps s old new it h in may_tell st x.events s t old new pen v locked x.run seat (x.asks st) x.whose

pub locked_step : (st : Statement) (s : ℕ) (t : TableId) (old new : Shown) (it : Step) (pen pen' : Held) → IsLocked t old pen → HasStepped s old new it → pen'.table ≡ pen.table → HasMore (events_of st (drop (length old.labels) new.labels)) pen.known pen'.known → IsLocked t new pen'
locked_step st s t old new it pen pen' locked h table more = let x = steps s old new it h in locked_again st x.events t old new pen pen' locked x.run (x.asks st) table more

pub made_step : (st : Statement) (s : ℕ) (t : TableId) (old new : Shown) (it : Step) (pen pen' : Held) (v w : Known) → IsLocked t old pen → HasStepped s old new it → HasMore (events_of st (drop (length old.labels) new.labels)) pen.known pen'.known → v.stage ≡ pen.known.stage
    → HasWritten (events_of st (drop (length old.labels) new.labels)) (history_of pen.known) v w
    → HasMadeStep s (record { engine = old; history = history_of pen.known }) (record { engine = new; history = history_of pen'.known }) v w it
made_step st s t old new it pen pen' v w locked h more stage written =
    let x = steps s old new it h in
    record { events = x.events; step = x.step; done = has_done st x.events t old new pen pen' v w locked x.run (x.asks st) more stage written }

-- a result that was delivered changes nothing of the history
pub locked_same : (t : TableId) (old new : Shown) (pen : Held) → IsLocked t old pen → Rattle.sg_engine.specs.Steps.IsSameRun old new → IsLocked t new pen
locked_same t old new pen l h =
    let a = appends_same old new h in record {
      table = l.table;
      stage = l.stage ∙ sym h.stage;
      rests = l.rests;
      run = a.runs (history_of pen.known) l.run;
      staged = subst Rattle.sg_trace.specs.Legal.IsStage (sym h.stage) l.staged;
    }

pub longer_step : (s : ℕ) (t : TableId) (old new : Shown) (it : Step) (pen : Held) → IsLocked t old pen → HasStepped s old new it → length old.labels ≤ length new.labels
longer_step s t old new it pen locked h = let x = steps s old new it h in longer x.events (history_of pen.known) old new locked.run (x.run.runs (history_of pen.known) locked.run)
