-- What is shown of the fields of a run, and what they keep.
use Rattle.std.specs.Prelude.{◌≡◌, ℕ, ◌+◌, ◌≤◌, List, map, length}
use Rattle.sg_modes.specs.Sessions.{IsSession}
use Rattle.sg_plain.specs.Transactions.{TransactionPlan}
use Rattle.sg_script.specs.Plans.{Plan, sessions_of}
use Rattle.sg_trace.specs.Scripts.{transactions_of}
use Rattle.sg_engine.specs.Shown.{Shown}
use Rattle.sg_run.specs.declared.outcomes.Outcome.{Outcome}
use Rattle.sg_run.specs.declared.courses.Course.{Course}
use Rattle.sg_run.specs.Ends.{ends, begun_numbers, all_ends}
use Rattle.sg_run.specs.Courses.{past_at, outcome_of, course_in}
use Rattle.sg_run.specs.Runs.{RunShown, IsRun}

abbrev pub run_of : Plan → Shown → List Course → RunShown
run_of script engine courses = record { script = script; engine = engine; past = map past_at courses }

-- what is kept of a session with these transactions, of which those that were begun ended so; and room for the others
pub record IsCourse (ts : List TransactionPlan) (os : List Outcome) (c : Course) : Type 0 where
  pub outcomes : map outcome_of c.over.items ≡ all_ends (past_at c) os
  pub numbers : c.numbers.items ≡ begun_numbers 1 (past_at c)
  pub over_room : length ts ≤ length c.over.items + c.over.spare
  pub number_room : length ts ≤ length c.over.items + c.numbers.spare

pub record IsInside (script : Plan) (engine : Shown) (courses : List Course) : Type 0 where
  pub run : IsRun (run_of script engine courses)
  pub courses_are : (s : ℕ) → IsSession s → IsCourse (transactions_of (sessions_of script) s) (ends s engine.labels) (course_in courses s)
