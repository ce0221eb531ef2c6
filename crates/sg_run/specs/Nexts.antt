-- What a script has next in a transaction between statements.
use Rattle.std.specs.Prelude.{◌≡◌, ℕ, slice_get, Option, Some, None}
use Rattle.sg_plain.specs.declared.transactions.End.TheVariants as finish
use Rattle.sg_plain.specs.Sat.{IsSoundStatement}
use Rattle.sg_refine.specs.Jobs.{Job}
use Rattle.sg_plain.specs.Transactions.{TransactionPlan}
use Rattle.sg_trace.specs.declared.labels.Cause.TheVariants.{Asked}
use Rattle.sg_trace.specs.Traces.{Ask, Commit, Rollback}
use Rattle.sg_engine.specs.declared.steps.Step.{Step}
use Rattle.sg_engine.specs.declared.steps.Step.TheVariants as step
use Rattle.sg_run.specs.declared.turns.Next.{Next}
use Rattle.sg_run.specs.declared.turns.Next.TheVariants as next
use Rattle.sg_run.specs.Runs.{RunShown, Due}

-- it comes in the transaction once so many of its statements were answered
abbrev pub IsNextOf : TransactionPlan → ℕ → Next → Type 0
IsNextOf t answered (next.Ask st) = (slice_get t.statements answered ≡ Some st) × IsSoundStatement st
IsNextOf t answered next.Commit = (slice_get t.statements answered ≡ None) × (t.end ≡ finish.Commit)
IsNextOf t answered next.RollBack = (slice_get t.statements answered ≡ None) × (t.end ≡ finish.Rollback)

-- the script has it next for the session, whatever its number
abbrev pub MayGoOn : RunShown → ℕ → Next → Type 0
MayGoOn v s (next.Ask st) = ((n : ℕ) → Due v (Ask s n st)) × IsSoundStatement st
MayGoOn v s next.Commit = (n : ℕ) → Due v (Commit s n)
MayGoOn v s next.RollBack = Due v (Rollback s Asked)

-- the job that a step gave out; there is none where it gave none
abbrev pub IsGiven : Step → Option Job → Type 0
IsGiven (step.Job job) (Some it) = it ≡ job
IsGiven (step.Job job) None = ⊥
IsGiven (step.Took k m) given = given ≡ None
IsGiven (step.Put k m) given = given ≡ None
IsGiven (step.Waiting k m b) given = given ≡ None
IsGiven step.Answered given = given ≡ None
IsGiven (step.Victim cycle) given = given ≡ None
IsGiven step.Idle given = given ≡ None
