-- A seat that gets the result of the job that it waits for.
use Rattle.std.specs.Prelude.{IfSome, OnOk, OnErr, Result, Ok, Err}
use Rattle.std.specs.Option.{option_map}
use Rattle.std.proofs.Common.{◌≡◌, ℕ, ◌+◌, ◌≤◌, ◌<◌, true, false, List, length, get_or, set, Option, Some, None, inl, refl, sym, ap, ◌∙◌, subst}
use Rattle.std.proofs.lemmas.List.{set-get_or}
use Rattle.sg_locks.specs.Grants.{Grant}
use Rattle.sg_cells.specs.declared.keys.Key.{Key}
use Rattle.sg_modes.specs.Waits.{Wait}
use Rattle.sg_plain.specs.declared.statements.Statement.{Statement}
use Rattle.sg_plain.specs.Serial.{Entry}
use Rattle.sg_refine.specs.Jobs.{Job, Refined, AreKeysOf}
use Rattle.sg_rows.specs.Table.{TableRow}
use Rattle.sg_cellrows.specs.CellTable.{CellRow}
use Rattle.sg_trace.specs.declared.labels.Label.{Label}
use Rattle.sg_trace.specs.Traces.{Stage, Event}
use Rattle.sg_engine.specs.declared.delivery.Stranger.{Stranger}
use Rattle.sg_engine.specs.declared.shared.Work.{Work}
use Rattle.sg_engine.specs.declared.shared.Work.TheVariants as work
use Rattle.sg_engine.specs.declared.shared.Pending.{Pending}
use Rattle.sg_engine.specs.declared.shared.Running.{Running}
use Rattle.sg_engine.specs.declared.shared.Seat.{Seat}
use Rattle.sg_engine.specs.Shown.{Shown, Seated, Refining}
use Rattle.sg_engine.specs.Shown as shown
use Rattle.sg_engine.specs.Inside.{seat_of, job_of, job_in_running, job_in_pending, job_in_work, is_writing, running_in, shown_in, was_delivered}
use Rattle.sg_engine.specs.Phases.{HasRefinedAll, IsPending, IsRunning, IsSeat, IsWork}
use Rattle.sg_engine.specs.Ties.{IsEngine}
use Rattle.sg_engine.specs.Steps.{IsSameRun, SetsJob}
use Rattle.sg_engine.specs.Strangers.{refined, with_result, running_with, delivered}
use Rattle.sg_engine.proofs.Kept.{own_seat}
use Rattle.sg_engine.proofs.JobSeats.{same_run, sets_job, job_engine}
use Rattle.sg_engine.proofs.Reached.{asked_query}

module _ (done : Refined) where
  -- ---- what is shown
  open_same : (o : Option Pending) → option_map (λ (p : Pending). p.statement) (option_map (with_result done) o) ≡ option_map (λ (p : Pending). p.statement) o
  open_same None = refl
  open_same (Some p) = refl

  abbrev shown_running : Running → Option Statement → shown.Running
  shown_running r o = record { statements = r.statements.items; answers = r.answers.items; open_one = o }

  running_same : (o : Option Running) → option_map running_in (option_map (running_with done) o) ≡ option_map running_in o
  running_same None = refl
  running_same (Some r) = ap (λ o. Some (shown_running r o)) (open_same r.pending)

  abbrev seat_with : ℕ → Option shown.Running → Seated
  seat_with b o = record { begun = b; running = o }

  pub delivered_seat : (d : Seat) → seat_of (delivered done d) ≡ seat_of d
  delivered_seat d = ap (seat_with d.begun) (running_same d.running)

  -- it has the result, and waits for no job
  abbrev pub has_result : Refining
  has_result = record { job = None; delivered = true; writes = false }

  job_by_work : (it : Work) (p : Pending) → p.work ≡ it → job_in_work it ≡ Some done.job → job_in_pending (Some (with_result done p)) ≡ has_result
  job_by_work work.Unread p e h = absurd (cc)
  job_by_work (work.Awaits found job) p e h = ap (λ (it : Work). record { job = job_in_work (refined done it); delivered = was_delivered (refined done it) true; writes = is_writing (refined done it) }) e
  job_by_work (work.Refined found it) p e h = absurd (cc)
  job_by_work (work.Writes change) p e h = absurd (cc)

  job_by_pending : (o : Option Pending) → (job_in_pending o).job ≡ Some done.job → job_in_pending (option_map (with_result done) o) ≡ has_result
  job_by_pending None h = absurd (cc)
  job_by_pending (Some p) h = job_by_work p.work p refl h

  job_by_running : (o : Option Running) → (job_in_running o).job ≡ Some done.job → job_in_running (option_map (running_with done) o) ≡ has_result
  job_by_running None h = absurd (cc)
  job_by_running (Some r) h = job_by_pending r.pending h

  pub delivered_job : (d : Seat) → (job_of d).job ≡ Some done.job → job_of (delivered done d) ≡ has_result
  delivered_job d h = job_by_running d.running h

  -- ---- what is kept
  module _ (exact : AreKeysOf done.job done.keys) (w : Stage) (es : List Event) (table : List TableRow) (index : List CellRow) (grants : List (Grant Key)) (s : ℕ) where
    abbrev Works : Statement → Work → Type 0
    Works = IsWork w es table index grants s

    work_kept : (st : Statement) (it : Work) → job_in_work it ≡ Some done.job → Works st it → Works st (refined done it)
    work_kept st work.Unread h k = absurd (cc)
    work_kept st (work.Awaits found job) h k =
        let same : done.job ≡ job = cc in
        record { asks = asked_query st job k.asks; guarded = k.guarded; reply = k.replies done.keys (subst (λ (j : Job). AreKeysOf j done.keys) same exact) }
    work_kept st (work.Refined found it) h k = absurd (cc)
    work_kept st (work.Writes change) h k = absurd (cc)

    all_refined : (st : Statement) (it : Work) → HasRefinedAll w es s st (refined done it) true
    all_refined st work.Unread = tt
    all_refined st (work.Awaits found job) = tt
    all_refined st (work.Refined found it) = tt
    all_refined st (work.Writes change) = inl refl

    abbrev Keeps : Option Pending → Type 0
    Keeps o = IfSome o (λ (p : Pending). IsPending w es table index grants s p.statement p.scan p.work p.delivered)

    pending_kept : (o : Option Pending) → (job_in_pending o).job ≡ Some done.job → Keeps o → Keeps (option_map (with_result done) o)
    pending_kept None h k = tt
    pending_kept (Some p) h k = record { sound = k.sound; search = k.search; work = work_kept p.statement p.work h k.work; refined = all_refined p.statement p.work }

    room_kept : (Q : Type 0) (o : Option Pending) → IfSome o (λ (p : Pending). Q) → IfSome (option_map (with_result done) o) (λ (p : Pending). Q)
    room_kept Q None k = tt
    room_kept Q (Some p) k = k

    running_kept : (o : Option Running) → (job_in_running o).job ≡ Some done.job → IfSome o (IsRunning w es table index grants s) → IfSome (option_map (running_with done) o) (IsRunning w es table index grants s)
    running_kept None h k = tt
    running_kept (Some r) h k = record {
      cost = k.cost;
      pending = pending_kept r.pending h k.pending;
      statement_room = room_kept (1 ≤ r.statements.spare) r.pending k.statement_room;
      answer_room = room_kept (1 ≤ r.answers.spare) r.pending k.answer_room;
    }

    pub delivered_kept : (d : Seat) → (job_of d).job ≡ Some done.job → IsSeat w es table index grants s d → IsSeat w es table index grants s (delivered done d)
    delivered_kept d h k = record { wish = k.wish; running = running_kept d.running h k.running }

-- ---- the engine, whatever comes of it
module _ (w : Stage) (labels : List Label) (entries : List Entry) (seats : List Seat) (table : List TableRow) (index : List CellRow) (grants : List (Grant Key)) (standing : List Wait) (live room entry_room : ℕ)
    (ok : IsEngine (shown_in w labels entries seats) table index grants standing seats live room entry_room)
    (s i : ℕ) (within : i < length seats) (mine : i + 1 ≡ s) (d : Seat) (there : d ≡ get_or seats i d) (done : Refined) (x : Seat) where
  abbrev before : Shown
  before = shown_in w labels entries seats

  abbrev later : Shown
  later = shown_in w labels entries (set seats i x)

  unchanged : x ≡ d → set seats i x ≡ seats
  unchanged e = ap (λ y. set seats i y) (e ∙ there) ∙ set-get_or seats i d

  pub deliver_engine : (exact : AreKeysOf done.job done.keys) → (r : Result Unit Stranger) → OnOk r ((job_of d).job ≡ Some done.job) → OnOk r (x ≡ delivered done d) → OnErr r (x ≡ d)
      → IsEngine later table index grants standing (set seats i x) live room entry_room
  deliver_engine exact (Ok u) waits is e =
      let own = own_seat w ok.events table index grants seats s i within mine d there ok.kept in
      job_engine seats i d x there (ap seat_of is ∙ delivered_seat done d) w labels entries s within mine table index grants standing live room entry_room ok
      (subst (IsSeat w ok.events table index grants s) (sym is) (delivered_kept done exact w ok.events table index grants s d waits own))
  deliver_engine exact (Err why) waits is e =
      subst (λ (xs : List Seat). IsEngine (shown_in w labels entries xs) table index grants standing xs live room entry_room) (sym (unchanged e)) ok

  pub deliver_same : (r : Result Unit Stranger) → OnErr r (x ≡ d) → OnErr r (later ≡ before)
  deliver_same (Ok u) e = tt
  deliver_same (Err why) e = ap (shown_in w labels entries) (unchanged e)

  pub deliver_run : (r : Result Unit Stranger) → OnOk r (x ≡ delivered done d) → OnOk r (IsSameRun before later)
  deliver_run (Ok u) is = same_run seats i d x there (ap seat_of is ∙ delivered_seat done d) w labels entries
  deliver_run (Err why) is = tt

  pub deliver_job : (r : Result Unit Stranger) → OnOk r ((job_of d).job ≡ Some done.job) → OnOk r (x ≡ delivered done d) → OnOk r (SetsJob s (record { job = None; delivered = true; writes = false }) before later)
  deliver_job (Ok u) waits is =
      subst (λ (it : Refining). SetsJob s it before later) (ap job_of is ∙ delivered_job done d waits)
      (sets_job seats i d x there (ap seat_of is ∙ delivered_seat done d) w labels entries s within mine)
  deliver_job (Err why) waits is = tt
