-- Where something is left to refine, a step gives a job.
use Rattle.std.specs.Prelude.{IfSome}
use Rattle.std.proofs.Common.{◌≡◌, ◌⊎◌, ℕ, ◌+◌, ◌<◌, Bool, true, false, List, [], length, get_or, Option, Some, None, inl, inr, refl, sym, ap, ◌∙◌, subst}
use Rattle.sg_cells.specs.declared.keys.Key.{Key}
use Rattle.sg_cells.specs.declared.settings.Settings.{Settings}
use Rattle.sg_modes.specs.declared.modes.Mode.{Mode}
use Rattle.sg_modes.proofs.BoolLaws.{clash}
use Rattle.sg_modes.specs.Sessions.{IsSession}
use Rattle.sg_modes.specs.Waits.{Wait}
use Rattle.sg_locks.specs.Grants.{Grant}
use Rattle.sg_plain.specs.declared.statements.Statement.{Statement}
use Rattle.sg_plain.specs.declared.statements.Statement.TheVariants.{Insert, Update, Delete, Get, Select, Plan, Filter, DeleteWhere}
use Rattle.sg_plain.specs.Rows.{Rows}
use Rattle.sg_plain.specs.Sat.{IsSoundStatement}
use Rattle.sg_plain.specs.Serial.{Entry}
use Rattle.sg_rows.specs.Table.{TableRow}
use Rattle.sg_cellrows.specs.CellTable.{CellRow}
use Rattle.sg_trace.specs.declared.labels.Label.{Label}
use Rattle.sg_trace.specs.Traces.{Stage, State, state, view}
use Rattle.sg_laws.specs.Reading.{IsReading}
use Rattle.sg_engine.specs.declared.shared.Work.{Work}
use Rattle.sg_engine.specs.declared.shared.Work.TheVariants as work
use Rattle.sg_engine.specs.declared.shared.Pending.{Pending}
use Rattle.sg_engine.specs.declared.shared.Running.{Running}
use Rattle.sg_engine.specs.declared.shared.Seat.{Seat}
use Rattle.sg_engine.specs.Shown.{Shown, Refining, is_open_in}
use Rattle.sg_engine.specs.Inside.{shown_in, is_writing, was_delivered, job_in_pending, job_in_running, job_of}
use Rattle.sg_engine.specs.Ties.{IsEngine}
use Rattle.sg_engine.specs.Phases.{AreLeft, HasRefinedAll, IsPending, IsRunning}
use Rattle.sg_engine.specs.Nexts.{HasReadAll}
use Rattle.sg_engine.specs.Searches.{pending_in, pending_of}
use Rattle.sg_engine.specs.Steps.{Stands}
use Rattle.sg_engine.specs.Preparing.{HasNoneLeft}
use Rattle.sg_engine.specs.Stepping.{IsLeftToRefine}
use Rattle.sg_engine.specs.Outside.{outside}
use Rattle.sg_engine.proofs.Outer.{run_in, run_out, job_out}
use Rattle.sg_engine.proofs.Nexts.{opened, one, own_now, same_state}
use Rattle.sg_engine.proofs.Prepared.{job_at, job_now}

-- ---- what comes in place of a job
-- a wait that stands
pub no_wait : {P : Type 0} (v : Shown) (s : ℕ) (k : Key) (m : Mode) (b : List ℕ) → Stands v s k m b → IsLeftToRefine (outside v) s → P
no_wait v s k m b h x = absurd (x.left (inr (λ es run st is items left. absurd (h.some (sym (h.waits es (run_in es v run)) ∙ x.free es run)))))

-- no open statement
pub none_idle : {P : Type 0} (v : Shown) (s : ℕ) → is_open_in v s ≡ false → IsLeftToRefine (outside v) s → P
none_idle v s shut x = absurd (clash _ x.is_open shut)

-- nothing left
none_left_out : (v : Shown) (s : ℕ) → IsSession s → HasNoneLeft v s → HasNoneLeft (outside v) s
none_left_out v s is (inl e) = inl (ap (λ (x : Refining). x.delivered) (job_out v s is) ∙ e)
none_left_out v s is (inr f) = inr (λ es run. f es (run_in es v run))

pub some_left : {P : Type 0} (v : Shown) (s : ℕ) → IsSession s → HasNoneLeft v s → IsLeftToRefine (outside v) s → P
some_left v s is none x = absurd (x.left (none_left_out v s is none))

pub read_in : (v : Shown) (s : ℕ) → IsLeftToRefine (outside v) s → HasReadAll v s
read_in v s x = λ es run. x.read es (run_out es v run)

-- something needed and nothing needed
pub some_none : {A P : Type 0} (o : Option A) (a : A) → o ≡ Some a → o ≡ None → P
some_none o a some none = absurd (no (sym some ∙ none))
  where
    no : Some a ≡ None → ⊥
    no e = cc

-- ---- a statement that has come to its writes
-- what a search has left to refine is one list
left_one : (c : Settings) (rows : Rows) (st : Statement) (xs ys : Rows) → AreLeft c rows st xs → AreLeft c rows st ys → ys ≡ xs
left_one c rows (Select q) xs ys h k = k ∙ sym h
left_one c rows (Plan q) xs ys h k = k ∙ sym h
left_one c rows (DeleteWhere q) xs ys h k = k ∙ sym h
left_one c rows (Filter f) xs ys h k = k.1 ∙ sym h.1
left_one c rows (Get j) xs ys h k = absurd h
left_one c rows (Insert j f) xs ys h k = absurd h
left_one c rows (Update j f) xs ys h k = absurd h
left_one c rows (Delete j) xs ys h k = absurd h

left_reads : (c : Settings) (rows : Rows) (st : Statement) (xs : Rows) → AreLeft c rows st xs → IsReading st
left_reads c rows (Select q) xs h = tt
left_reads c rows (Plan q) xs h = tt
left_reads c rows (DeleteWhere q) xs h = tt
left_reads c rows (Filter f) xs h = tt
left_reads c rows (Get j) xs h = absurd h
left_reads c rows (Insert j f) xs h = absurd h
left_reads c rows (Update j f) xs h = absurd h
left_reads c rows (Delete j) xs h = absurd h

module _ (w : Stage) (labels : List Label) (entries : List Entry) (seats : List Seat) (table : List TableRow) (index : List CellRow) (grants : List (Grant Key)) (standing : List Wait) (live room entry_room : ℕ)
    (ok : IsEngine (shown_in w labels entries seats) table index grants standing seats live room entry_room)
    (s i : ℕ) (session : IsSession s) (within : i < length seats) (mine : i + 1 ≡ s) (d : Seat) (there : d ≡ get_or seats i d) where
  abbrev v : Shown
  v = shown_in w labels entries seats

  -- its job's result has come, or nothing is left, as the seat keeps it
  abbrev Refined : Statement → Bool → Type 0
  Refined st had = (had ≡ true) ⊎ ((items : Rows) → AreLeft w.settings (view (state w ok.events) s) st items → items ≡ [])

  refined_by : (st : Statement) (it : Work) (kept : Bool) → is_writing it ≡ true → HasRefinedAll w ok.events s st it kept → Refined st (was_delivered it kept)
  refined_by st work.Unread kept e h = absurd (cc)
  refined_by st (work.Awaits found job) kept e h = absurd (cc)
  refined_by st (work.Refined found done) kept e h = absurd (cc)
  refined_by st (work.Writes change) kept e (inl had) = inl had
  refined_by st (work.Writes change) kept e (inr none) =
      inr (λ items left. left_one w.settings (view (state w ok.events) s) st [] items (none (left_reads w.settings (view (state w ok.events) s) st items left)) left)

  -- and as it is shown, whatever run led here
  module _ (p : Pending) (at : pending_of d ≡ Some p) (sound : IsSoundStatement p.statement) where
    shown_left : Refined p.statement (was_delivered p.work p.delivered) → HasNoneLeft v s
    shown_left (inl had) = inl (ap (λ (x : Refining). x.delivered) (job_at seats i within s session mine d there ∙ job_now d p at) ∙ had)
    shown_left (inr none) = inr (λ xs run st open_one items left.
        let o = opened w labels entries seats table index grants standing live room entry_room ok s i session within mine d there p at sound xs run in
        let same = same_state w labels entries seats table index grants standing live room entry_room ok s i session within mine d there p at sound xs run in
        none items (subst (λ (q : Statement). AreLeft w.settings (view (state w ok.events) s) q items) (one st p.statement (sym open_one ∙ o.open_one))
        (subst (λ (z : State). AreLeft w.settings (view z s) st items) (sym same) left)))

  by_running : (o : Option Running) → d.running ≡ o → IfSome o (IsRunning w ok.events table index grants s) → (job_in_running o).writes ≡ true → HasNoneLeft v s
  by_running None e k writes = absurd (cc)
  by_running (Some r) e k writes = by_pending r.pending refl k.pending writes
    where
      by_pending : (o : Option Pending) → r.pending ≡ o → IfSome o (λ (p : Pending). IsPending w ok.events table index grants s p.statement p.scan p.work p.delivered) → (job_in_pending o).writes ≡ true → HasNoneLeft v s
      by_pending None at q writes = absurd (cc)
      by_pending (Some p) at q writes = shown_left p (ap pending_in e ∙ at) q.sound (refined_by p.statement p.work p.delivered writes q.refined)

  pub writes_refined : (job_of d).writes ≡ true → HasNoneLeft v s
  writes_refined writes = by_running d.running refl (own_now w labels entries seats table index grants standing live room entry_room ok s i session within mine d there).running writes
