-- A seat that shows the same but for its job.
use Rattle.std.specs.Prelude.{map, ◌-◌}
use Rattle.std.proofs.Common.{◌≡◌, ℕ, suc, ◌+◌, ◌<◌, List, length, get_or, set, refl, sym, ap, ◌∙◌, subst, arith, add-one, get_or-set_same, get_or-set_other}
use Rattle.std.proofs.Math.Seq.{map-set_same}
use Rattle.std.proofs.lemmas.List.{get_or-map, map-set, length-set}
use Rattle.sg_locks.specs.Grants.{Grant}
use Rattle.sg_cells.specs.declared.keys.Key.{Key}
use Rattle.sg_modes.specs.Waits.{Wait}
use Rattle.sg_plain.specs.Serial.{Entry}
use Rattle.sg_rows.specs.Table.{TableRow}
use Rattle.sg_cellrows.specs.CellTable.{CellRow}
use Rattle.sg_trace.specs.declared.labels.Label.{Label}
use Rattle.sg_trace.specs.Traces.{Stage, Event}
use Rattle.sg_engine.specs.declared.shared.Seat.{Seat}
use Rattle.sg_engine.specs.Shown.{Shown, Seated, IsRunOf, job_in, no_job, seat_in}
use Rattle.sg_engine.specs.Inside.{seat_of, job_of, shown_in}
use Rattle.sg_engine.specs.Phases.{IsSeat}
use Rattle.sg_engine.specs.Ties.{IsEngine, running_count}
use Rattle.sg_engine.specs.Steps.{IsSameRun, SetsJob}
use Rattle.sg_engine.proofs.Kept.{each_set}

-- the job of a session is that of its seat
pub job_at : (seats : List Seat) (i : ℕ) → i < length seats → (s : ℕ) → i + 1 ≡ s → (d : Seat) → d ≡ get_or seats i d → job_in (map job_of seats) s ≡ job_of d
job_at seats i within s mine d there =
    let at : s - 1 ≡ i = omega arith in
    ap (λ n. get_or (map job_of seats) n no_job) at ∙ (get_or-map job_of seats i d no_job within ∙ ap job_of (sym there))

module _ (seats : List Seat) (i : ℕ) (d x : Seat) (there : d ≡ get_or seats i d) (same : seat_of x ≡ seat_of d) where
  seats_same : map seat_of (set seats i x) ≡ map seat_of seats
  seats_same = map-set_same seat_of seats i x d (same ∙ ap seat_of there)

  module _ (w : Stage) (labels : List Label) (entries : List Entry) where
    abbrev before : Shown
    before = shown_in w labels entries seats

    abbrev later : Shown
    later = shown_in w labels entries (set seats i x)

    pub same_run : IsSameRun before later
    same_run = record { stage = refl; labels = refl; journal = refl; seats = seats_same }

    run_on : (es : List Event) → IsRunOf es before → IsRunOf es later
    run_on es run = record {
      shows = record {
        labels = run.shows.labels;
        journal = run.shows.journal;
        seats = λ u is. ap (λ (xs : List Seated). seat_in xs u) seats_same ∙ run.shows.seats u is;
      };
      legal = run.legal;
      settled = run.settled;
    }

    module _ (s : ℕ) (within : i < length seats) (mine : i + 1 ≡ s) where
      pub sets_job : SetsJob s (job_of x) before later
      sets_job = record {
        own =
            let at : s - 1 ≡ i = omega arith in
            let long : i < length (set seats i x) = (let l = length-set seats i x in omega (arith, l, within)) in
            ap (λ n. get_or (map job_of (set seats i x)) n no_job) at ∙ (get_or-map job_of (set seats i x) i x no_job long ∙ ap job_of (get_or-set_same seats i x x within));
        others = λ u is ne.
            let low = is.0 in
            ap (λ xs. get_or xs (u - 1) no_job) (map-set job_of seats i x) ∙ get_or-set_other (map job_of seats) i (u - 1) (job_of x) no_job (λ e. ne (omega (arith, e, mine, low)));
      }

      -- the engine, where the seat keeps what it has to
      pub job_engine : (table : List TableRow) (index : List CellRow) (grants : List (Grant Key)) (standing : List Wait) (live room entry_room : ℕ)
          → (ok : IsEngine before table index grants standing seats live room entry_room) → IsSeat w ok.events table index grants s x → IsEngine later table index grants standing (set seats i x) live room entry_room
      job_engine table index grants standing live room entry_room ok own = record {
        events = ok.events;
        staged = ok.staged;
        run = run_on ok.events ok.run;
        ties = ok.ties;
        waits_are = ok.waits_are;
        kept = each_set (λ j. IsSeat w ok.events table index grants (suc j)) (λ j. IsSeat w ok.events table index grants (suc j)) seats i x (λ j ne y e h. h) ok.kept
            (subst (λ u. IsSeat w ok.events table index grants u x) (sym mine ∙ add-one i) own) within;
        seats = ap (λ (xs : List Seated). length xs) seats_same ∙ ok.seats;
        live_is = ok.live_is ∙ ap running_count (sym seats_same);
        labels_fit = ok.labels_fit;
        entries_fit = ok.entries_fit;
      }
