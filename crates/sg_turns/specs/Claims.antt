-- The laws of ends, of waits and of turns.
use Rattle.std.specs.Prelude.{◌||◌, is_some, slice_get, length, map, filter, ◌≡◌, ℕ, suc, true, false, List, [], ◌∷◌, ◌++◌}
use Rattle.sg_cells.specs.declared.keys.Key.{Key}
use Rattle.sg_modes.specs.declared.modes.Mode.{Mode}
use Rattle.sg_modes.specs.Sessions.{IsSession, AreSessions, has_session}
use Rattle.sg_modes.specs.Waits.{Chain, NoCycle}
use Rattle.sg_plain.specs.declared.statements.Statement.{Statement}
use Rattle.sg_plain.specs.declared.statements.Answer.{Answer}
use Rattle.sg_cells.specs.declared.settings.Settings.{Settings}
use Rattle.sg_plain.specs.Rows.{Rows, AreRows}
use Rattle.sg_plain.specs.Sat.{IsSoundStatement}
use Rattle.sg_trace.specs.Replies.{Reply}
use Rattle.sg_trace.specs.declared.labels.Cause.{Cause}
use Rattle.sg_trace.specs.Keys.{rising_keys, is_write}
use Rattle.sg_trace.specs.Traces.{Stage, Event, Victim, Rollback, state, labels_of}
use Rattle.sg_trace.specs.Legal.{IsStage, cost, IsLegal, IsSettled, conflict, blocks, waits}
use Rattle.sg_trace.specs.Scripts.{Script, transactions_of, IsSoundScript, Follows, IsTurn, turns, MemoryLasts}
use Rattle.sg_trace.specs.Driven.{IsDriven, can_turn}
use Rattle.sg_laws.specs.Reading.{IsLive}
use Rattle.sg_laws.specs.Ends.{erase, LeaveSame}

-- ---- what is rolled back
-- the rows, the present keys and what each session holds are as without the transaction that was rolled back
abbrev pub RollbacksLeaveNothing : Type 0
RollbacksLeaveNothing = (w : Stage) (s : ℕ) (c : Cause) (es : List Event) → IsLegal w (Rollback s c ∷ es) → LeaveSame w (erase s es) (Rollback s c ∷ es)

abbrev pub VictimsLeaveNothing : Type 0
VictimsLeaveNothing = (w : Stage) (s : ℕ) (c : List ℕ) (es : List Event) → IsLegal w (Victim s c ∷ es) → LeaveSame w (erase s es) (Victim s c ∷ es)

-- ---- waits
abbrev pub NoCycles : Type 0
NoCycles = (w : Stage) (es : List Event) → IsLegal w es → IsSettled es → (s : ℕ) → NoCycle (waits es) s

-- where a session is live, some live session doesn't wait
abbrev pub SomeoneIsFree : Type 0
SomeoneIsFree = (w : Stage) (es : List Event) → IsStage w → IsLegal w es → IsSettled es → (s : ℕ) → IsLive w es s → (y : ℕ) × IsLive w es y × (waits es y ≡ [])

-- one that alone is live never waits
abbrev pub AloneIsFree : Type 0
AloneIsFree = (w : Stage) (es : List Event) → IsStage w → IsLegal w es → IsSettled es → (s : ℕ) → IsLive w es s → ((u : ℕ) → IsLive w es u → u ≡ s) → waits es s ≡ []

-- a victim is live and waits
abbrev pub VictimsWait : Type 0
VictimsWait = (w : Stage) (v : ℕ) (c : List ℕ) (es : List Event) → IsLegal w (Victim v c ∷ es) → IsLive w es v × ((y : ℕ) × (has_session (waits es v) y ≡ true))

-- each session of the set waits, by a chain of standing waits, for itself
abbrev pub AreOnCycles : List Event → List ℕ → Type 0
AreOnCycles es set = (u : ℕ) → has_session set u ≡ true → (n : ℕ) × Chain (waits es) (suc n) u u

-- a victim is of its cycle, whose sessions all wait for themselves
abbrev pub VictimsStandOnCycles : Type 0
VictimsStandOnCycles = (w : Stage) (v : ℕ) (c : List ℕ) (es : List Event) → IsLegal w (Victim v c ∷ es) → (has_session c v ≡ true) × AreOnCycles es c

-- the cost of a session is the number of the keys that it holds to be written
abbrev pub CostsAreKeys : Type 0
CostsAreKeys =
    (w : Stage) (es : List Event) → IsStage w → IsLegal w es → (s : ℕ) → cost ((state w es).of s).held ≡ length (rising_keys (map (λ h. h.0) (filter (λ h. is_write h.1) ((state w es).of s).held)))

-- the conflict is the set of the sessions that are in the way
pub record IsConflict (w : Stage) (es : List Event) (s : ℕ) (k : Key) (m : Mode) : Type 0 where
  pub sessions : AreSessions (conflict (state w es).of s k m)
  pub has : (n : ℕ) → has_session (conflict (state w es).of s k m) n ≡ blocks (state w es).of s k m n

abbrev pub ConflictsAreSets : Type 0
ConflictsAreSets = (w : Stage) (es : List Event) → IsStage w → IsLegal w es → (s : ℕ) (k : Key) (m : Mode) → IsConflict w es s k m

-- ---- turns
-- each sound statement has an answer
abbrev pub RepliesExist : Type 0
RepliesExist = (c : Settings) (rows : Rows) (st : Statement) → AreRows rows → IsSoundStatement st → (answer : Answer) × Reply c rows st answer

-- a session that can turn has one event to append
abbrev pub TurnsFit : Type 0
TurnsFit = (ps : Script) (w : Stage) (es : List Event) → IsStage w → IsSoundScript ps → IsLegal w es → (s : ℕ) → IsSession s → can_turn ps w es s ≡ true → (e : Event) × IsTurn ps w es s e

-- where a session is live or has a transaction left, some session can turn
abbrev pub HasMore : Script → Stage → List Event → ℕ → Type 0
HasMore ps w es s = (((state w es).of s).live || is_some (slice_get (transactions_of ps s) ((state w es).of s).begun)) ≡ true

abbrev pub SomeoneCanTurn : Type 0
SomeoneCanTurn = (ps : Script) (w : Stage) (es : List Event) → IsStage w → IsLegal w es → IsSettled es → (s : ℕ) → IsSession s → HasMore ps w es s → (y : ℕ) × IsSession y × (can_turn ps w es y ≡ true)

-- no session has two events to append
abbrev pub TurnsAreOne : Type 0
TurnsAreOne = (ps : Script) (w : Stage) (es : List Event) (s : ℕ) (e d : Event) → IsTurn ps w es s e → IsTurn ps w es s d → e ≡ d

-- a trace of the script in which memory lasts
pub record IsLasting (ps : Script) (w : Stage) (es : List Event) : Type 0 where
  pub legal : IsLegal w es
  pub follows : Follows ps w es
  pub lasts : MemoryLasts es

-- a settled trace is determined by the turns that it took
abbrev pub TurnsDetermine : Type 0
TurnsDetermine = (ps : Script) (w : Stage) (x y : List Event) → IsLasting ps w x → IsSettled x → IsLasting ps w y → IsSettled y → turns x ≡ turns y → x ≡ y

-- and by the script and its labels
abbrev pub LabelsDetermine : Type 0
LabelsDetermine = (ps : Script) (w : Stage) (x y : List Event) → Follows ps w x → Follows ps w y → labels_of x ≡ labels_of y → x ≡ y

-- two runs that the same turns drive are equal
abbrev pub DrivenRunsAreOne : Type 0
DrivenRunsAreOne = (ps : Script) (w : Stage) (ts : List ℕ) (x y : List Event) → IsLasting ps w x → IsLasting ps w y → IsDriven ps w ts x → IsDriven ps w ts y → x ≡ y

-- where all of a trace has ended, its own turns and then any others drive that trace
abbrev pub TracesReplayThemselves : Type 0
TracesReplayThemselves =
    (ps : Script) (w : Stage) (rounds : List ℕ) (x y : List Event) → IsLasting ps w x → IsSettled x → IsLasting ps w y → ((s : ℕ) → can_turn ps w x s ≡ false) → IsDriven ps w (rounds ++ turns x) y → y ≡ x
