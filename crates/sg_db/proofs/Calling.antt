-- What a call of the shared table leaves of its seat.
use Rattle.std.proofs.Common.{◌≡◌, ℕ, Bool, true, false, Option, Some, None, IfSome, IfNone, List, ◌++◌, refl, sym, ap, ◌∙◌, subst}
use Rattle.sg_plain.specs.declared.statements.Statement.{Statement}
use Rattle.sg_trace.specs.Traces.{Stage, Event, Local}
use Rattle.sg_trace.specs.Legal.{IsLegal, IsSettled}
use Rattle.sg_history.specs.Views.{Known}
use Rattle.sg_history.specs.Openings.{Held}
use Rattle.sg_history.specs.Staying.{local}
use Rattle.sg_db.specs.declared.going.End.{End}
use Rattle.sg_db.specs.declared.going.End.TheVariants as end
use Rattle.sg_db.specs.declared.going.Going.TheVariants.{On, Waits, Job, Over}
use Rattle.sg_db.specs.Callers.{SeatShown, HasSeen, is_live, IsSeat, seat_shown, Goes}
use Rattle.sg_db.specs.Executions.{IsAsking, IsLiveClosed, IsOver}
use Rattle.sg_db.specs.Ends.{Ran, RanOut, Started, HasGone, Ended, Advanced}
use Rattle.sg_plain.specs.declared.statements.Answer.{Answer}
use Rattle.sg_db.specs.Callers.{FrontShown}
use Rattle.sg_db.specs.Theorem.{HasExecuted, HasYielded, HasRunOut, front_of}
use Rattle.sg_db.proofs.Under.{same_local}
use Rattle.sg_db.proofs.Knowing.{goes_on}
use Rattle.sg_db.proofs.Advancing.{Looked, still, still_all, ended_all}

-- ---- one step
pub on_gone : (s : ℕ) (v w : Known) → Advanced s v w On → HasGone s v w
on_gone s v w h = record { more = h.more; goes = h.goes; now = h.now }

pub wait_gone : (s : ℕ) (v w : Known) → Advanced s v w Waits → HasGone s v w
wait_gone s v w h = record { more = h.more; goes = h.goes; now = h.now }

pub job_gone : (s : ℕ) (v w : Known) (job : Rattle.sg_refine.specs.Jobs.Job) → Advanced s v w (Job job) → HasGone s v w
job_gone s v w job h = record { more = h.more; goes = h.goes; now = h.now.0 }

pub over_ended : (s : ℕ) (v w : Known) (it : End) → Advanced s v w (Over it) → Ended s v w it
over_ended s v w it h = record { more = h.more; goes = h.goes; now = h.now }

pub asking_still : (s : ℕ) (v w : Known) → HasGone s v w → IsAsking (local w.stage w.seen s)
asking_still s v w h = subst IsAsking (sym (same_local s h.more v w h.goes)) h.now.asking

pub asking_started : (s : ℕ) (st : Statement) (v w : Known) → Started s st v w → IsAsking (local w.stage w.seen s)
asking_started s st v w h = subst IsAsking (sym (same_local s h.more v w h.goes)) h.now.asking

pub ran_out : (s : ℕ) (st : Statement) (v w : Known) → RanOut s v w → Ran s st v w end.NoMemory
ran_out s st v w h = record { more = h.more; goes = h.goes; now = h.now }

-- ---- the whole call
pub has_seen : (s : ℕ) (more : List Event) (old new : Held) → Goes s more old.known new.known → new.table ≡ old.table → HasSeen more (seat_shown s old) (seat_shown s new)
has_seen s more old new g table = record { table = table; stage = g.stage; session = refl; seen = g.seen; mine = g.mine; all = sym g.caller.mine; legal = g.caller.history }

pub seat_live : (s : ℕ) (more : List Event) (v w : Known) → Goes s more v w → IsLiveClosed (local v.stage (more ++ v.seen) s) → IsSeat s true w
seat_live s more v w g h =
    let at = same_local s more v w g in
    record { caller = g.caller; live = sym (ap (λ (x : Local). x.live) at ∙ h.live); closed = ap (λ (x : Local). x.open_one) at ∙ h.closed }

pub seat_over : (s : ℕ) (more : List Event) (v w : Known) → Goes s more v w → IsOver (local v.stage (more ++ v.seen) s) → IsSeat s false w
seat_over s more v w g h =
    let at = same_local s more v w g in
    record { caller = g.caller; live = sym (ap (λ (x : Local). x.live) at ∙ h.live); closed = ap (λ (x : Local). x.open_one) at ∙ h.closed }

-- ---- a job, and what came of it
abbrev waited : (s : ℕ) (u v : Known) (job : Rattle.sg_refine.specs.Jobs.Job) → Advanced s u v (Job job) → Looked s u v
waited s u v job h = record { others = h.more; goes = h.goes; own = h.now.1; legal = subst (IsLegal u.stage) h.goes.seen (subst (λ (x : Stage). IsLegal x v.seen) h.goes.stage h.goes.caller.history.legal) }

live_then : (s : ℕ) (u v : Known) (job : Rattle.sg_refine.specs.Jobs.Job) → Advanced s u v (Job job) → (local v.stage v.seen s).live ≡ true
live_then s u v job h = ap (λ (x : Local). x.live) (same_local s h.more u v h.goes) ∙ h.now.0.asking.live

pub job_then : (s : ℕ) (u v w : Known) (job : Rattle.sg_refine.specs.Jobs.Job) → IsAsking (local u.stage u.seen s) → Advanced s u v (Job job) → HasGone s v w → HasGone s u w
job_then s u v w job a h n =
    let l = waited s u v job h in
    let t = still s u v a l (live_then s u v job h) in
    record { more = n.more ++ h.more; goes = goes_on s h.more n.more u v w h.goes n.goes; now = still_all s u v w l t.0 t.1 n.more n.now }

pub job_ended : (s : ℕ) (u v w : Known) (job : Rattle.sg_refine.specs.Jobs.Job) (it : End) → IsAsking (local u.stage u.seen s) → Advanced s u v (Job job) → Ended s v w it → Ended s u w it
job_ended s u v w job it a h n =
    let l = waited s u v job h in
    let t = still s u v a l (live_then s u v job h) in
    record { more = n.more ++ h.more; goes = goes_on s h.more n.more u v w h.goes n.goes; now = ended_all s u v w l t.0 t.1 n.more it n.now }

pub on_none : {A : Type 0} {P Q : Type 0} (o : Option A) → (P → Q) → IfNone o P → IfNone o Q
on_none None f h = f h
on_none (Some x) f h = h

pub on_some : {A : Type 0} {P Q : A → Type 0} (o : Option A) → ((x : A) → P x → Q x) → IfSome o P → IfSome o Q
on_some None f h = h
on_some (Some x) f h = f x h

-- ---- execute
pub executed : (s : ℕ) (st : Statement) (a : Answer) (old new : Held) → new.table ≡ old.table → Ran s st old.known new.known (end.Answered a) → HasExecuted st a (seat_shown s old) (seat_shown s new)
executed s st a old new table h = record { more = h.more; seen = has_seen s h.more old new h.goes table; execution = h.now; settled = h.goes.settled }

pub made_victim : (s : ℕ) (st : Statement) (c : List ℕ) (front : FrontShown) (old new : Held) → new.table ≡ old.table → front ≡ front_of (seat_shown s new) → Ran s st old.known new.known (end.Victim c) → HasYielded c front (seat_shown s old) (seat_shown s new)
made_victim s st c front old new table is h = record { more = h.more; seen = has_seen s h.more old new h.goes table; yielded = h.now; front = is; settled = subst IsSettled (sym (ap (λ (f : FrontShown). f.history) is)) h.goes.settled }

pub out_of_memory : (s : ℕ) (st : Statement) (old new : Held) → new.table ≡ old.table → Ran s st old.known new.known end.NoMemory → HasRunOut (seat_shown s old) (seat_shown s new)
out_of_memory s st old new table h = record { more = h.more; seen = has_seen s h.more old new h.goes table; out = h.now; settled = h.goes.settled }

-- ---- what callers ask for next
-- whether it is live, by what came
pub live_now : (more : List Event) (b : Bool) (old new : SeatShown) → HasSeen more old new → (local old.stage (more ++ old.seen) old.session).live ≡ b → is_live new ≡ b
live_now more b old new h e = (λ i. (local (h.stage i) (h.seen i) (h.session i)).live) ∙ e

pub executed_live : (st : Statement) (a : Answer) (old new : SeatShown) → HasExecuted st a old new → is_live new ≡ true
executed_live st a old new h = live_now h.more true old new h.seen h.execution.live.live

pub yielded_over : (c : List ℕ) (front : FrontShown) (old new : SeatShown) → HasYielded c front old new → is_live new ≡ false
yielded_over c front old new h = live_now h.more false old new h.seen h.yielded.over.live

pub ran_out_over : (old new : SeatShown) → HasRunOut old new → is_live new ≡ false
ran_out_over old new h = live_now h.more false old new h.seen h.out.over.live
