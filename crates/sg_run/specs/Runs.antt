-- What contracts see of a run, and what its type keeps.
use Rattle.std.specs.Prelude.{◌≡◌, ℕ, zero, suc, ◌+◌, ◌-◌, ◌≤◌, ℤ, pos, Bool, not, ◌||◌, List, [], length, map, slice_get, slice_index_or, is_some, Option, None, option_map, unwrap_or}
use Rattle.sg_modes.specs.Sessions.{IsSession}
use Rattle.sg_modes.specs.Priorities.{priority_of}
use Rattle.sg_plain.specs.Serial.{Entry}
use Rattle.sg_plain.specs.Transactions.{TransactionPlan}
use Rattle.sg_script.specs.declared.sessions.SessionScript.{SessionScript}
use Rattle.sg_script.specs.Plans.{Plan, session_at, transaction_at, sessions_of}
use Rattle.sg_trace.specs.Traces.{Stage, Event, state}
use Rattle.sg_trace.specs.Legal.{IsStage}
use Rattle.sg_trace.specs.Scripts.{Script, IsDue, Follows, transactions_of}
use Rattle.sg_trace.specs.Measure.{one}
use Rattle.sg_engine.specs.Shown.{Shown, IsRunOf, is_live_in}
use Rattle.sg_run.specs.declared.outcomes.Outcome.{Outcome}
use Rattle.sg_run.specs.Ends.{Past, ends, begun_count, begun_ones, begun_numbers, all_ends}

-- the script, the engine, and of each session from session 1 on the transactions that are over
pub record RunShown : Type 0 where
  pub script : Plan
  pub engine : Shown
  pub past : List Past

-- what is over of a session's transactions
abbrev pub past_in : List Past → ℕ → Past
past_in past zero = []
past_in past (suc i) = slice_index_or past i []

-- the script without the transactions that were left unbegun
abbrev pub without_unbegun : List Past → Script → Script
without_unbegun past ps = map (λ p. record { number = p.number; transactions = begun_ones (past_in past p.number) p.transactions }) ps

abbrev pub begun_script : RunShown → Script
begun_script v = without_unbegun v.past (sessions_of v.script)

-- none was left unbegun
abbrev pub NoneUnbegun : RunShown → Type 0
NoneUnbegun v = (s : ℕ) → begun_count (past_in v.past s) ≡ length (past_in v.past s)

-- the transaction that the session is in or that comes next; there is none past its last one
abbrev pub at_hand : RunShown → ℕ → Option TransactionPlan
at_hand v s = transaction_at v.script.sessions s (length (past_in v.past s))

-- the session has no transaction left
abbrev pub has_ended : RunShown → ℕ → Bool
has_ended v s = not (is_live_in v.engine s || is_some (at_hand v s))

-- how a session's transactions ended, in the script's order
abbrev pub outcomes_in : RunShown → ℕ → List Outcome
outcomes_in v s = all_ends (past_in v.past s) (ends s v.engine.labels)

-- how the transaction with this number in the script ended; they count from 1
abbrev pub outcome_in : RunShown → ℕ → ℕ → Option Outcome
outcome_in v s zero = None
outcome_in v s (suc place) = slice_get (outcomes_in v s) place

-- the number in the script of the session's transaction that was the n-th to begin
abbrev pub number_of : Past → ℕ → ℕ
number_of past n = slice_index_or (begun_numbers 1 past) (n - 1) 0

-- whose the commit at this place is, and the number of its transaction in the script; places count from 1
abbrev pub commit_in : RunShown → ℕ → Option (ℕ × ℕ)
commit_in v zero = None
commit_in v (suc i) = option_map (λ (e : Entry). (e.session, number_of (past_in v.past e.session) e.transaction)) (slice_get v.engine.journal i)

-- ---- what the type keeps
-- the priority of a session, 0 where it isn't in the script
abbrev pub priority_in : List SessionScript → ℕ → ℤ
priority_in sessions s = unwrap_or (option_map (λ (x : SessionScript). x.priority) (session_at sessions s)) (pos 0)

-- what a script opens an engine with
pub record IsStageOf (plan : Plan) (w : Stage) : Type 0 where
  pub settings : w.settings ≡ plan.settings
  pub opening : w.opening ≡ plan.rows
  pub priorities : (s : ℕ) → IsSession s → priority_of w.priorities s ≡ priority_in plan.sessions s

-- The trace is legal for the script without the transactions that were left unbegun, and of each session the begun ones
-- that are over are those that the trace ended.
pub record IsRun (v : RunShown) : Type 0 where
  pub events : List Event
  pub staged : IsStage v.engine.stage
  pub stage : IsStageOf v.script v.engine.stage
  pub run : IsRunOf events v.engine
  pub follows : Follows (begun_script v) v.engine.stage events
  pub sessions : length v.past ≡ 64
  pub over : (s : ℕ) → IsSession s → begun_count (past_in v.past s) ≡ length (ends s v.engine.labels)
  pub within : (s : ℕ) → IsSession s → length (past_in v.past s) + one (is_live_in v.engine s) ≤ length (transactions_of (sessions_of v.script) s)

-- the script has this next for its session
abbrev pub Due : RunShown → Event → Type 0
Due v e = (es : List Event) → IsRunOf es v.engine → IsDue (begun_script v) (state v.engine.stage es) e
