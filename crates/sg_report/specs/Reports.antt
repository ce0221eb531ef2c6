-- What a report tells of a run.
use Rattle.std.specs.Prelude.{◌≡◌, ℕ, Bool, true, false, List, [], ◌∷◌, length, map, Option, Some, None}
use Rattle.std.specs.List.{flat_map}
use Rattle.sg_plain.specs.Serial.{Entry}
use Rattle.sg_script.specs.declared.sessions.SessionScript.{SessionScript}
use Rattle.sg_texts.specs.declared.others.Ending.{Ending}
use Rattle.sg_texts.specs.declared.others.Ending.TheVariants as ending
use Rattle.sg_texts.specs.declared.others.Other.{Other}
use Rattle.sg_texts.specs.Texts.{Commit}
use Rattle.sg_texts.specs.Told.{Told, IsTold, told_text}
use Rattle.sg_trace.specs.Replies.{SerialIn}
use Rattle.sg_trace.specs.Scripts.{schedule}
use Rattle.sg_trace.specs.Traces.{count_from}
use Rattle.sg_run.specs.declared.outcomes.Outcome.{Outcome}
use Rattle.sg_run.specs.declared.outcomes.Outcome.TheVariants.{Committed, RolledBack, Victim, NoMemory}
use Rattle.sg_run.specs.Ends.{Past}
use Rattle.sg_run.specs.Runs.{RunShown, IsRun, past_in, number_of, outcome_in}

-- ---- the journal
-- an entry with its transaction's number in the script
abbrev pub scripted : List Past → Entry → Entry
scripted past e = record { session = e.session; transaction = number_of (past_in past e.session) e.transaction; statements = e.statements; answers = e.answers }

-- the transactions that committed, in the order of their commits
abbrev pub journal_in : RunShown → List Entry
journal_in v = map (scripted v.past) v.engine.journal

-- what is told of one
abbrev pub commit_of : Entry → Commit
commit_of e = record { session = e.session; transaction = e.transaction; answers = e.answers }

-- ---- the other transactions
-- what is told of an outcome, unless it is a commit
abbrev pub ending_of : Outcome → Option Ending
ending_of (Committed place) = None
ending_of RolledBack = Some ending.RolledBack
ending_of (Victim cycle) = Some (ending.Victim cycle)
ending_of NoMemory = Some ending.NoMemory

abbrev pub other_with : ℕ → ℕ → Option Ending → List Other
other_with s n None = []
other_with s n (Some e) = record { session = s; transaction = n; ending = e } ∷ []

abbrev pub other_by : ℕ → ℕ → Option Outcome → List Other
other_by s n None = []
other_by s n (Some o) = other_with s n (ending_of o)

-- the session's transaction with this number, unless it committed
abbrev pub other_at : RunShown → ℕ → ℕ → List Other
other_at v s n = other_by s n (outcome_in v s n)

-- those of a session, by number, which counts from 1
abbrev pub others_of : RunShown → SessionScript → List Other
others_of v x = flat_map (other_at v x.session) (count_from 1 (length x.transactions))

-- and of all sessions, by session
abbrev pub others_in : RunShown → List Other
others_in v = flat_map (others_of v) v.script.sessions

-- ---- the whole
-- what is told only where it is asked for
abbrev pub asked : {A : Type 0} → Bool → A → Option A
asked true x = Some x
asked false x = None

-- The commits in their order, the other transactions with their endings, and the rows that the journal leaves; and the
-- labels and the turns that they came of, where these are asked for.
pub record Tells (with_labels with_turns : Bool) (v : RunShown) (told : Told) : Type 0 where
  pub commits : told.commits ≡ map commit_of (journal_in v)
  pub others : told.others ≡ others_in v
  pub rows : SerialIn v.engine.stage.settings v.engine.stage.opening v.engine.journal told.rows
  pub labels : told.labels ≡ asked with_labels v.engine.labels
  pub turns : told.schedule ≡ asked with_turns (schedule v.engine.labels)

-- The text tells this of a run whose trace is legal; what it tells fits, so that no other such text tells otherwise.
pub record IsReportOf (with_labels with_turns : Bool) (v : RunShown) (text : List ℕ) : Type 0 where
  pub told : Told
  pub legal : IsRun v
  pub tells : Tells with_labels with_turns v told
  pub fits : IsTold told
  pub is : text ≡ told_text told
