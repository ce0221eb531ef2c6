-- A seat with other room, and one with a statement opened.
use Rattle.std.specs.Prelude.{map, IfSome, OnErr, Result, Ok, Err}
use Rattle.std.specs.Option.{option_map}
use Rattle.std.proofs.Common.{◌≡◌, ℕ, suc, ◌+◌, ◌≤◌, ◌<◌, List, length, get_or, set, Option, Some, None, refl, sym, ap, ◌∙◌, subst, add-one}
use Rattle.std.proofs.Math.Seq.{map-set_same}
use Rattle.sg_locks.specs.Grants.{Grant}
use Rattle.sg_cells.specs.declared.keys.Key.{Key}
use Rattle.sg_modes.specs.Waits.{Wait}
use Rattle.sg_plain.specs.declared.statements.Statement.{Statement}
use Rattle.sg_plain.specs.declared.statements.Answer.{Answer}
use Rattle.sg_plain.specs.Serial.{Entry}
use Rattle.sg_rows.specs.Table.{TableRow}
use Rattle.sg_cellrows.specs.CellTable.{CellRow}
use Rattle.sg_trace.specs.declared.labels.Label.{Label}
use Rattle.sg_trace.specs.Traces.{Stage}
use Rattle.sg_engine.specs.declared.shared.Seat.{Seat}
use Rattle.sg_engine.specs.declared.shared.Running.{Running}
use Rattle.sg_engine.specs.declared.shared.Pending.{Pending}
use Rattle.sg_engine.specs.Shown.{Shown, Seated, Refining, no_job, HasNoneOpen, with_open}
use Rattle.sg_engine.specs.Shown as shown
use Rattle.sg_engine.specs.Inside.{seat_of, job_of, job_in_running, job_in_pending, running_in, shown_in, OnRunning, SeatChanges, IsOpened, IsSame}
use Rattle.sg_engine.specs.Phases.{IsPending, IsRunning, IsSeat}
use Rattle.sg_engine.specs.Ties.{IsEngine}
use Rattle.sg_engine.proofs.Kept.{each_set, own_seat}

pub on_err : {T E P : Type 0} (r : Result T E) → P → OnErr r P
on_err (Ok x) h = tt
on_err (Err e) h = h

-- ---- what is shown of them
abbrev pub seat_with : ℕ → Option shown.Running → Seated
seat_with b o = record { begun = b; running = o }

pub told : (b : ℕ) (a : Option shown.Running) (c : ℕ) (d : Option shown.Running) → b ≡ c → a ≡ d → seat_with b a ≡ seat_with c d
told b a c d p q = ap (λ n. seat_with n a) p ∙ ap (seat_with c) q

abbrev pub run_with : List Statement → List Answer → Option Statement → shown.Running
run_with xs a o = record { statements = xs; answers = a; open_one = o }

pub told_running : (xs ys : List Statement) (a b : List Answer) (o p : Option Statement) → xs ≡ ys → a ≡ b → o ≡ p → run_with xs a o ≡ run_with ys b p
told_running xs ys a b o p e f g = ap (λ z. run_with z a o) e ∙ (ap (λ z. run_with ys z o) f ∙ ap (run_with ys b) g)

abbrev statement_in : Option Pending → Option Statement
statement_in o = option_map (λ (p : Pending). p.statement) o

module _ (st : Statement) where
  opened : (a b : Option Running) → OnRunning (IsOpened st) a b
      → option_map running_in b ≡ option_map (λ (r : shown.Running). record { statements = r.statements; answers = r.answers; open_one = Some st }) (option_map running_in a)
  opened None None h = refl
  opened None (Some b) h = absurd h
  opened (Some a) None h = absurd h
  opened (Some a) (Some b) h = ap (λ r. Some r) (told_running b.statements.items a.statements.items b.answers.items a.answers.items (statement_in b.pending) (Some st) h.statements h.answers (ap statement_in h.pending))

  pub opened_seat : (d x : Seat) → SeatChanges (IsOpened st) d x → seat_of x ≡ with_open st (seat_of d)
  opened_seat d x h = told x.begun (option_map running_in x.running) d.begun _ h.begun (opened d.running x.running h.running)

  opened_job_by : (a b : Option Running) → OnRunning (IsOpened st) a b → job_in_running b ≡ no_job
  opened_job_by None None h = refl
  opened_job_by None (Some b) h = absurd h
  opened_job_by (Some a) None h = absurd h
  opened_job_by (Some a) (Some b) h = ap job_in_pending h.pending

  pub opened_job : (d x : Seat) → SeatChanges (IsOpened st) d x → job_of x ≡ no_job
  opened_job d x h = opened_job_by d.running x.running h.running

none_pending : (o : Option Pending) → statement_in o ≡ None → o ≡ None
none_pending None h = refl
none_pending (Some p) h = absurd (cc)

job_by : (o : Option Running) → HasNoneOpen (option_map running_in o) → job_in_running o ≡ no_job
job_by None h = refl
job_by (Some r) h = ap job_in_pending (none_pending r.pending h)

-- with no statement open no job is waited for
pub no_job_at : (d : Seat) → HasNoneOpen (seat_of d).running → job_of d ≡ no_job
no_job_at d h = job_by d.running h

idle_by : (o : Option Running) → option_map running_in o ≡ None → job_in_running o ≡ no_job
idle_by None h = refl
idle_by (Some r) h = absurd (cc)

-- and so without a transaction
pub idle_job : (d : Seat) → (seat_of d).running ≡ None → job_of d ≡ no_job
idle_job d h = idle_by d.running h

same_by : (a b : Option Running) → OnRunning IsSame a b → option_map running_in b ≡ option_map running_in a
same_by None None h = refl
same_by None (Some b) h = absurd h
same_by (Some a) None h = absurd h
same_by (Some a) (Some b) h = ap (λ r. Some r) (told_running b.statements.items a.statements.items b.answers.items a.answers.items (statement_in b.pending) (statement_in a.pending) h.statements h.answers (ap statement_in h.pending))

same_job_by : (a b : Option Running) → OnRunning IsSame a b → job_in_running b ≡ job_in_running a
same_job_by None None h = refl
same_job_by None (Some b) h = absurd h
same_job_by (Some a) None h = absurd h
same_job_by (Some a) (Some b) h = ap job_in_pending h.pending

pub same_seat : (d x : Seat) → SeatChanges IsSame d x → seat_of x ≡ seat_of d
same_seat d x h = told x.begun (option_map running_in x.running) d.begun (option_map running_in d.running) h.begun (same_by d.running x.running h.running)

-- ---- in the list of seats
pub jobs_same : (seats : List Seat) (i : ℕ) (d x : Seat) → d ≡ get_or seats i d → job_of x ≡ job_of d → map job_of (set seats i x) ≡ map job_of seats
jobs_same seats i d x there e = map-set_same job_of seats i x d (e ∙ ap job_of there)

module _ (seats : List Seat) (i : ℕ) (d x : Seat) (there : d ≡ get_or seats i d) (same : SeatChanges IsSame d x) where
  pub seats_same : map seat_of (set seats i x) ≡ map seat_of seats
  seats_same = map-set_same seat_of seats i x d (same_seat d x same ∙ ap seat_of there)

  abbrev shown_with : Stage → List Label → List Entry → List Seated → List Refining → Shown
  shown_with w labels entries xs a = record { stage = w; labels = labels; journal = entries; seats = xs; jobs = a }

  both_same : (xs ys : List Seated) (a b : List Refining) (w : Stage) (labels : List Label) (entries : List Entry) → xs ≡ ys → a ≡ b → shown_with w labels entries xs a ≡ shown_with w labels entries ys b
  both_same xs ys a b w labels entries e f = ap (λ z. shown_with w labels entries z a) e ∙ ap (shown_with w labels entries ys) f

  pub shown_same : (w : Stage) (labels : List Label) (entries : List Entry) → shown_in w labels entries (set seats i x) ≡ shown_in w labels entries seats
  shown_same w labels entries =
      both_same (map seat_of (set seats i x)) (map seat_of seats) (map job_of (set seats i x)) (map job_of seats) w labels entries
      seats_same (jobs_same seats i d x there (same_job_by d.running x.running same.running))

  -- ---- the engine, where only room was made
  module _ (w : Stage) (labels : List Label) (entries : List Entry) (table : List TableRow) (index : List CellRow) (grants : List (Grant Key)) (standing : List Wait) (live room entry_room : ℕ)
      (ok : IsEngine (shown_in w labels entries seats) table index grants standing seats live room entry_room)
      (s : ℕ) (within : i < length seats) (mine : i + 1 ≡ s) (none : HasNoneOpen (seat_of d).running) where
    abbrev Kept : Option Running → Type 0
    Kept o = IfSome o (IsRunning w ok.events table index grants s)

    kept_by : (a b : Option Running) → OnRunning IsSame a b → HasNoneOpen (option_map running_in a) → Kept a → Kept b
    kept_by None None h n k = tt
    kept_by None (Some b) h n k = absurd h
    kept_by (Some a) None h n k = absurd h
    kept_by (Some a) (Some b) h n k =
        let empty : b.pending ≡ None = h.pending ∙ none_pending a.pending n in
        record {
          cost = h.cost ∙ k.cost;
          pending = subst (λ o. IfSome o (λ (p : Pending). IsPending w ok.events table index grants s p.statement p.scan p.work p.delivered)) (sym empty) tt;
          statement_room = subst (λ o. IfSome o (λ (p : Pending). 1 ≤ b.statements.spare)) (sym empty) tt;
          answer_room = subst (λ o. IfSome o (λ (p : Pending). 1 ≤ b.answers.spare)) (sym empty) tt;
        }

    own : IsSeat w ok.events table index grants s x
    own =
        let old = own_seat w ok.events table index grants seats s i within mine d there ok.kept in
        record { wish = same.wish ∙ old.wish; running = kept_by d.running x.running same.running none old.running }

    pub quiet_engine : (room' : ℕ) → live ≤ room' → IsEngine (shown_in w labels entries (set seats i x)) table index grants standing (set seats i x) live room' entry_room
    quiet_engine room' fits =
        subst (λ v. IsEngine v table index grants standing (set seats i x) live room' entry_room) (sym (shown_same w labels entries)) (record {
          events = ok.events;
          staged = ok.staged;
          run = ok.run;
          ties = ok.ties;
          waits_are = ok.waits_are;
          kept = each_set (λ j. IsSeat w ok.events table index grants (suc j)) (λ j. IsSeat w ok.events table index grants (suc j)) seats i x (λ j ne y e h. h) ok.kept
              (subst (λ u. IsSeat w ok.events table index grants u x) (sym mine ∙ add-one i) own) within;
          seats = ok.seats;
          live_is = ok.live_is;
          labels_fit = fits;
          entries_fit = ok.entries_fit;
        })
