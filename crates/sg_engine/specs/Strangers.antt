-- Whose result isn't the one that a session waits for, and why.
use Rattle.std.specs.Prelude.{◌≡◌, ◌≢◌, ℕ, true, Option, Some, None, take, slice_get}
use Rattle.std.specs.Option.{option_map}
use Rattle.sg_plain.specs.Rows.{Rows}
use Rattle.sg_refine.specs.Jobs.{Job, Refined}
use Rattle.sg_engine.specs.declared.delivery.Stranger.{Stranger}
use Rattle.sg_engine.specs.declared.delivery.Stranger.TheVariants.{Name, Asked, Item}
use Rattle.sg_engine.specs.declared.shared.Work.{Work}
use Rattle.sg_engine.specs.declared.shared.Work.TheVariants as work
use Rattle.sg_engine.specs.declared.shared.Pending.{Pending}
use Rattle.sg_engine.specs.declared.shared.Running.{Running}
use Rattle.sg_engine.specs.declared.shared.Seat.{Seat}

-- both ask the same test, against the same shape
pub record AsksSame (a b : Job) : Type 0 where
  pub test : a.test ≡ b.test
  pub query : a.query ≡ b.query

-- the first place, from 0, at which the items differ, or at which one list has an item and the other none
pub record IsFirstOther (xs ys : Rows) (at : ℕ) : Type 0 where
  pub before : take at xs ≡ take at ys
  pub other : slice_get xs at ≢ slice_get ys at

-- Why the job that has come isn't the one that is waited for. None is, or one of another name; else the names are the
-- same, and it asks something else; else it asks the same, of other candidates.
abbrev pub IsStranger : Option Job → Job → Stranger → Type 0
IsStranger None come (Name expected got) = (expected ≡ None) × (got ≡ come.name)
IsStranger None come (Asked got) = ⊥
IsStranger None come (Item at) = ⊥
IsStranger (Some job) come (Name expected got) = (expected ≡ Some job.name) × (got ≡ come.name) × (job.name ≢ come.name)
IsStranger (Some job) come (Asked got) = (got ≡ come.name) × (job.name ≡ come.name) × ¬ (AsksSame job come)
IsStranger (Some job) come (Item at) = (job.name ≡ come.name) × AsksSame job come × IsFirstOther job.items come.items at

-- ---- a seat inside
-- the candidates of the job that was waited for, with its result
abbrev pub refined : Refined → Work → Work
refined done (work.Awaits found job) = work.Refined found done
refined done it = it

abbrev pub with_result : Refined → Pending → Pending
with_result done p = record { statement = p.statement; scan = p.scan; work = refined done p.work; delivered = true }

abbrev pub running_with : Refined → Running → Running
running_with done r = record { statements = r.statements; answers = r.answers; pending = option_map (with_result done) r.pending; cost = r.cost }

abbrev pub delivered : Refined → Seat → Seat
delivered done x = record { begun = x.begun; wish = x.wish; running = option_map (running_with done) x.running }
