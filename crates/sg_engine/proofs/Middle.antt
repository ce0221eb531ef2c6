-- An engine between two labels of one call: as ever, but maybe with a cycle of waits left; and what an end leaves of it.
use Rattle.std.specs.Prelude.{map, ◌-◌}
use Rattle.std.proofs.Common.{◌≡◌, ℕ, zero, suc, ◌+◌, ◌≤◌, ◌<◌, Bool, true, false, cond, ◌||◌, List, [], ◌∷◌, ◌++◌, length, get_or, set, eqb, Some, None, refl, sym, ap, ◌∙◌, subst, arith}
use Rattle.std.proofs.lemmas.List.{length-set, map-set}
use Rattle.sg_cells.specs.declared.keys.Key.{Key}
use Rattle.sg_locks.specs.Grants.{Grant, RemovesSession}
use Rattle.sg_modes.specs.Sessions.{IsSession, has_session}
use Rattle.sg_modes.specs.Waits.{Wait, blockers_of, AreWaits, waits_after, NoCycle, Chain}
use Rattle.sg_plain.specs.Serial.{Entry}
use Rattle.sg_rows.specs.Table.{TableRow}
use Rattle.sg_cellrows.specs.CellTable.{CellRow}
use Rattle.sg_versions.specs.declared.version.WritesEnd.{WritesEnd}
use Rattle.sg_versions.specs.Versions.{settled}
use Rattle.sg_trace.specs.declared.labels.Label.{Label}
use Rattle.sg_trace.specs.Traces.{Stage, Event, State, state, idle, after, session_of, label_of}
use Rattle.sg_trace.specs.Legal.{IsStage, IsLegal, IsSettled, waits, cleared, journal}
use Rattle.sg_laws.proofs.Kept.{legal_good}
use Rattle.sg_stores.specs.Held.{key_cmp}
use Rattle.sg_engine.specs.declared.shared.Seat.{Seat}
use Rattle.sg_engine.specs.Shown.{Shown, Seated, Running, empty_seat, seat_in, seated, Shows, IsRunOf}
use Rattle.sg_engine.specs.Inside.{seat_of, shown_in}
use Rattle.sg_engine.specs.Ends.{quit}
use Rattle.sg_engine.specs.Phases.{last_wish, IsSeat, AreSeats}
use Rattle.sg_engine.specs.Ties.{Ties, IsEngine, is_running, running_count}
use Rattle.sg_engine.proofs.Seats.{seat_at, length_map, count_set}
use Rattle.sg_engine.proofs.Begins.{seats_after}
use Rattle.sg_engine.proofs.Kept.{seats_on, own_seat}
use Rattle.sg_engine.proofs.Passes.{Side}
use Rattle.sg_engine.proofs.Stays.{passed_stays, behind_stays}
use Rattle.sg_engine.proofs.Ended.{ended, end_ties}
use Rattle.sg_engine.proofs.Standing.{waits_ended}

-- what an engine is but for its settled waits
pub record Middle (w : Stage) (es : List Event) (labels : List Label) (entries : List Entry) (seats : List Seat) (table : List TableRow) (index : List CellRow) (grants : List (Grant Key)) (standing : List Wait) (live room entry_room : ℕ) : Type 0 where
  pub staged : IsStage w
  pub legal : IsLegal w es
  pub shows : Shows es (shown_in w labels entries seats)
  pub ties : Ties w.settings (state w es) table index grants
  pub waits_are : (u : ℕ) → IsSession u → blockers_of standing u ≡ waits es u
  pub kept : AreSeats w es table index grants seats
  pub long : length seats ≡ 64
  pub live_is : live ≡ running_count (map seat_of seats)
  pub labels_fit : live ≤ room
  pub entries_fit : live ≤ entry_room

module _ (w : Stage) (labels : List Label) (entries : List Entry) (seats : List Seat) (table : List TableRow) (index : List CellRow) (grants : List (Grant Key)) (standing : List Wait) (live room entry_room : ℕ) where
  pub middle_of : (ok : IsEngine (shown_in w labels entries seats) table index grants standing seats live room entry_room) → Middle w ok.events labels entries seats table index grants standing live room entry_room
  middle_of ok = record {
    staged = ok.staged;
    legal = ok.run.legal;
    shows = ok.run.shows;
    ties = ok.ties;
    waits_are = ok.waits_are;
    kept = ok.kept;
    long = sym (length_map seats) ∙ ok.seats;
    live_is = ok.live_is;
    labels_fit = ok.labels_fit;
    entries_fit = ok.entries_fit;
  }

  pub engine_of : (es : List Event) → Middle w es labels entries seats table index grants standing live room entry_room → IsSettled es → IsEngine (shown_in w labels entries seats) table index grants standing seats live room entry_room
  engine_of es m settled = record {
    events = es;
    staged = m.staged;
    run = record { shows = m.shows; legal = m.legal; settled = settled };
    ties = m.ties;
    waits_are = m.waits_are;
    kept = m.kept;
    seats = length_map seats ∙ m.long;
    live_is = m.live_is;
    labels_fit = m.labels_fit;
    entries_fit = m.entries_fit;
  }

-- ---- waits that end leave no cycle where none was
cleared_less : (f : ℕ → List ℕ) (e x y : ℕ) → has_session (cleared f e x) y ≡ true → has_session (f x) y ≡ true
cleared_less f e x y h = by_test (eqb e x || has_session (f x) e) h
  where
    by_test : (b : Bool) → has_session (cond b [] (f x)) y ≡ true → has_session (f x) y ≡ true
    by_test true h = absurd (cc)
    by_test false h = h

chain_less : (f : ℕ → List ℕ) (e n x s : ℕ) → Chain (cleared f e) n x s → Chain f n x s
chain_less f e zero x s c = c
chain_less f e (suc n) x s c = (c.0, cleared_less f e x c.0 c.1, chain_less f e n c.0 s c.2)

pub cleared_settled : (f : ℕ → List ℕ) (e s : ℕ) → NoCycle f s → NoCycle (cleared f e) s
cleared_settled f e s none y n h c = none y n (cleared_less f e s y h) (chain_less f e n y s c)

-- ---- an end
module _ (w : Stage) (es : List Event) (labels : List Label) (entries : List Entry) (seats : List Seat) (table : List TableRow) (index : List CellRow) (grants : List (Grant Key)) (standing : List Wait) (live room entry_room : ℕ)
    (m : Middle w es labels entries seats table index grants standing live room entry_room)
    (s i : ℕ) (session : IsSession s) (below : i < 64) (mine : i + 1 ≡ s) (d : Seat) (there : d ≡ get_or seats i d) where
  abbrev z : State
  z = state w es

  within : i < length seats
  within = let l = m.long in omega (arith, l, below)

  -- the seat tells whether the session is live
  pub seat_is : seat_of d ≡ seated (z.of s)
  seat_is = sym (seat_at seats i within s mine d there) ∙ m.shows.seats s session

  begun_is : d.begun ≡ (z.of s).begun
  begun_is = ap (λ (r : Seated). r.begun) seat_is

  pub live_some : (z.of s).live ≡ true → is_running (seat_of d) ≡ 1
  live_some live = ap is_running seat_is ∙ by_live (z.of s).live live
    where
      by_live : (b : Bool) → b ≡ true → is_running (record { begun = (z.of s).begun; running = cond b (Some (Rattle.sg_engine.specs.Shown.running_of (z.of s))) None }) ≡ 1
      by_live true e = refl
      by_live false e = absurd (cc)

  -- one runs less
  pub one_less : (z.of s).live ≡ true → running_count (map seat_of (set seats i (quit d))) + 1 ≡ live
  one_less on =
      let long' : i < length (map seat_of seats) = (let l = length_map seats in let h = within in omega (arith, l, h)) in
      let c = count_set (map seat_of seats) i (seat_of (quit d)) empty_seat long' in
      let at : s - 1 ≡ i = omega arith in
      let old : is_running (get_or (map seat_of seats) i empty_seat) ≡ 1 =
      ap (λ n. is_running (get_or (map seat_of seats) n empty_seat)) (sym at) ∙ (ap is_running (seat_at seats i within s mine d there) ∙ live_some on) in
      let l = m.live_is in
      let r : running_count (map seat_of (set seats i (quit d))) ≡ running_count (set (map seat_of seats) i (seat_of (quit d))) = ap running_count (map-set seat_of seats i (quit d)) in
      omega (arith, c, old, l, r)

  module _ (how : WritesEnd) (e : Event) (own : session_of e ≡ s) (ends : state w (e ∷ es) ≡ ended how z s) (local : after e (z.of (session_of e)) ≡ idle (z.of (session_of e)).begun) (clears : (u : ℕ) → waits (e ∷ es) u ≡ cleared (waits es) s u) (wish : last_wish (e ∷ es) s ≡ last_wish es s)
      (legal : IsLegal w (e ∷ es)) (on : (z.of s).live ≡ true)
      (labels' : List Label) (entries' : List Entry) (table' : List TableRow) (index' : List CellRow) (grants' : List (Grant Key)) (standing' : List Wait) (live' room' entry_room' : ℕ)
      (pushed : labels' ≡ labels ++ label_of e ∷ []) (journal_is : entries' ≡ journal w (e ∷ es)) (table_ends : table' ≡ settled how s table) (index_ends : index' ≡ settled how s index) (released : RemovesSession key_cmp grants grants' s)
      (standing_is : standing' ≡ waits_after s standing) (are : AreWaits standing) (fewer : live ≡ live' + 1) (fits : live' ≤ room') (entries_fit : live' ≤ entry_room') where
    ties' : Ties w.settings (state w (e ∷ es)) table' index' grants'
    ties' = subst (λ (y : State). Ties w.settings y table' index' grants') (sym ends)
        (end_ties w.settings z (legal_good w m.staged es m.legal).sound s session how table index grants m.ties table' index' grants' table_ends index_ends released)

    seat_after : seat_of (quit d) ≡ seated (after e (z.of (session_of e)))
    seat_after = ap (λ n. record { begun = n; running = None }) (begun_is ∙ ap (λ u. (z.of u).begun) (sym own)) ∙ sym (ap seated local)

    side : Side w es table index grants
    side = record { legal = m.legal; ties = m.ties }

    side' : Side w (e ∷ es) table' index' grants'
    side' = record { legal = legal; ties = ties' }

    own_after : IsSeat w (e ∷ es) table' index' grants' (session_of e) (quit d)
    own_after =
        let old = own_seat w es table index grants seats s i within mine d there m.kept in
        subst (λ u. IsSeat w (e ∷ es) table' index' grants' u (quit d)) (sym own) (record { wish = old.wish ∙ sym wish; running = tt })

    pub end_middle : Middle w (e ∷ es) labels' entries' (set seats i (quit d)) table' index' grants' standing' live' room' entry_room'
    end_middle = record {
      staged = m.staged;
      legal = legal;
      shows = record {
        labels = pushed ∙ ap (λ (ls : List Label). ls ++ label_of e ∷ []) m.shows.labels;
        journal = journal_is;
        seats = seats_after w es e seats i within (mine ∙ sym own) (quit d) m.shows.seats seat_after;
      };
      ties = ties';
      waits_are = λ u is. ap (λ ws. blockers_of ws u) standing_is ∙ (waits_ended es standing m.waits_are are s u is ∙ sym (clears u));
      kept = seats_on w es seats m.long m.shows.seats m.staged e legal i (mine ∙ sym own) (quit d) table index grants table' index' grants'
          (λ u is ne st scan h. passed_stays w m.staged u is e es ne table index grants side table' index' grants' side' st scan h.scan_for h.passed)
          (λ u is ne st change h. behind_stays w m.staged u is e es ne table index grants side table' index' grants' side' change h.behind) m.kept own_after within;
      long = length-set seats i (quit d) ∙ m.long;
      live_is = (let h = one_less on in omega (arith, h, fewer));
      labels_fit = fits;
      entries_fit = entries_fit;
    }
