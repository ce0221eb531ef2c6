-- What follows once a session has read what its open statement needs.
use Rattle.std.specs.Prelude.{◌≡◌, ◌≢◌, ◌⊎◌, ℕ, true, false, List, [], Some, None}
use Rattle.sg_plain.specs.declared.statements.Statement.{Statement}
use Rattle.sg_plain.specs.Rows.{Rows}
use Rattle.sg_refine.specs.Jobs.{Job}
use Rattle.sg_trace.specs.Traces.{Stage, Event, state, view}
use Rattle.sg_trace.specs.Legal.{Replies}
use Rattle.sg_engine.specs.declared.preparing.Prepared.{Prepared}
use Rattle.sg_engine.specs.declared.preparing.Prepared.TheVariants as prepared
use Rattle.sg_engine.specs.Shown.{Shown, IsRunOf, job_in}
use Rattle.sg_engine.specs.Phases.{IsNameOf, IsJobOf, AreLeft}
use Rattle.sg_engine.specs.Nexts.{IsNextAct}
use Rattle.sg_engine.specs.Steps.{IsSameRun, SetsJob, OpenReads}

-- the job is that of the session's open statement, with all that is left to refine, which is something
pub record IsJobAt (w : Stage) (es : List Event) (s : ℕ) (st : Statement) (job : Job) : Type 0 where
  pub name : IsNameOf w es s job
  pub asks : IsJobOf st job
  pub items : AreLeft w.settings (view (state w es) s) st job.items
  pub some : job.items ≢ []

abbrev pub IsJobFor : Shown → ℕ → Job → Type 0
IsJobFor v s job = (es : List Event) → IsRunOf es v → (st : Statement) → ((state v.stage es).of s).open_one ≡ Some st → IsJobAt v.stage es s st job

-- what was left to refine of the session's open statement was refined, or nothing was left
abbrev pub HasNoneLeft : Shown → ℕ → Type 0
HasNoneLeft v s =
    ((job_in v.jobs s).delivered ≡ true)
    ⊎ ((es : List Event) → IsRunOf es v → (st : Statement) → ((state v.stage es).of s).open_one ≡ Some st → (items : Rows) → AreLeft v.stage.settings (view (state v.stage es) s) st items → items ≡ [])

-- Its answer is the session's next act; or its job is waited for, and given again as long as it is; or it has come to
-- its writes.
abbrev pub Prepares : ℕ → Shown → Shown → Prepared → Type 0
Prepares s old new (prepared.Answer a) = (new ≡ old) × IsNextAct old s (Replies a) × OpenReads old s
Prepares s old new (prepared.Job job) = IsSameRun old new × SetsJob s (record { job = Some job; delivered = false; writes = false }) old new × IsJobFor old s job × ((job_in old.jobs s).delivered ≡ false)
Prepares s old new prepared.Writes = IsSameRun old new × SetsJob s (record { job = None; delivered = (job_in old.jobs s).delivered; writes = true }) old new × ((job_in old.jobs s).job ≡ None)

-- no job is asked for
abbrev pub IsNoJob : Prepared → Type 0
IsNoJob (prepared.Answer a) = Unit {0}
IsNoJob (prepared.Job job) = ⊥
IsNoJob prepared.Writes = Unit {0}
