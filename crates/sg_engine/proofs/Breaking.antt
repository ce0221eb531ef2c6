-- A wait of an engine, and the victims that it makes.
use Rattle.std.specs.Prelude.{map, is_some, ◌-◌, IfSome, slice_get, not, ◌&&◌}
use Rattle.std.specs.Option.{option_map}
use Rattle.std.proofs.Common.{◌≡◌, ◌≢◌, ◌↔◌, ℕ, zero, suc, ◌+◌, ◌≤◌, ◌<◌, Bool, true, false, cond, List, [], ◌∷◌, ◌++◌, length, get_or, set, eqb, Option, Some, None, inl, inr, refl, sym, ap, ◌∙◌, subst, arith, eqb-true}
use Rattle.std.proofs.lemmas.Bool.{eq-eqb, eqb-false}
use Rattle.std.proofs.lemmas.List.{length-set, map-set, append_assoc}
use Rattle.std.proofs.lemmas.Option.{slice_get-get_or}
use Rattle.sg_cells.specs.declared.keys.Key.{Key}
use Rattle.sg_locks.specs.Grants.{Grant, RemovesSession}
use Rattle.sg_modes.specs.declared.modes.Mode.{Mode}
use Rattle.sg_modes.specs.Sessions.{IsSession, AreSessions, has_session}
use Rattle.sg_modes.proofs.SessionLaws.{member_is_session}
use Rattle.sg_modes.specs.Waits as waiting
use Rattle.sg_modes.specs.Waits.{is_waiting, blockers_of, AreWaits, with_wait, waits_after, NoCycle, IsCycleSet}
use Rattle.sg_modes.proofs.WaitLaws.{RisingWaits-with, RisingWaits-after, blockers-is_waiting}
use Rattle.sg_modes.specs.Victims.{IsVictim}
use Rattle.sg_plain.specs.declared.statements.Statement.{Statement}
use Rattle.sg_plain.specs.Serial.{Entry}
use Rattle.sg_rows.specs.Table.{TableRow}
use Rattle.sg_cellrows.specs.CellTable.{CellRow}
use Rattle.sg_versions.specs.declared.version.WritesEnd.TheVariants.{Undo}
use Rattle.sg_versions.specs.Versions.{settled}
use Rattle.sg_waits.specs.declared.ranks.Rank.{Rank}
use Rattle.sg_waits.specs.Ranks.{rank_of}
use Rattle.sg_refine.specs.Jobs.{Job}
use Rattle.sg_trace.specs.declared.labels.Label.{Label}
use Rattle.sg_trace.specs.declared.labels.Label.TheVariants as label
use Rattle.sg_modes.specs.Modes.{is_compatible}
use Rattle.sg_trace.specs.Needs.{Selects, holds_by}
use Rattle.sg_trace.specs.Replies.{Reply}
use Rattle.sg_trace.specs.Traces.{Stage, Event, Wait, Victim, Local, State, state, with_one, view, IsPresent}
use Rattle.sg_trace.specs.Legal.{IsLegal, IsSettled, IsChosen, Fits, waits, last_waiter, since_wait, cost, journal}
use Rattle.sg_laws.specs.Invariant.{Guards}
use Rattle.sg_laws.specs.Reading.{IsGuarded}
use Rattle.sg_turns.proofs.Clean.{idle_unless_live}
use Rattle.sg_turns.proofs.Victims.{victim_live}
use Rattle.sg_turns.proofs.Cycles.{conflict_has}
use Rattle.sg_stores.specs.Held.{key_cmp}
use Rattle.sg_engine.specs.declared.shared.Work.{Work}
use Rattle.sg_engine.specs.declared.shared.Work.TheVariants as work
use Rattle.sg_engine.specs.declared.shared.Pending.{Pending}
use Rattle.sg_engine.specs.declared.shared.Running.{Running}
use Rattle.sg_engine.specs.declared.shared.Seat.{Seat}
use Rattle.sg_engine.specs.Shown.{Shown, Seated, Refining, empty_seat, seated, running_of, IsRunOf, job_in, no_job}
use Rattle.sg_engine.specs.Inside.{seat_of, running_in, job_of, shown_in}
use Rattle.sg_engine.specs.Phases.{AreLeft, HasRefinedAll, last_wish, answer_of, IsNameOf, IsWork, IsSearching, IsPending, IsRunning, IsSeat}
use Rattle.sg_engine.specs.Ends.{quit}
use Rattle.sg_engine.specs.Ties.{Ties, IsEngine, is_running, running_count}
use Rattle.sg_engine.specs.Waiting.{Victims, victims_of, cycle_of, HasWaited, cost_in, cost_at, rank_in, wishing}
use Rattle.sg_engine.proofs.Seats.{seat_at, length_map, count_set}
use Rattle.sg_engine.proofs.Begins.{seats_after}
use Rattle.sg_engine.proofs.Kept.{if_some, seats_on, own_seat}
use Rattle.sg_engine.proofs.Rooms.{jobs_same}
use Rattle.sg_engine.proofs.Middle.{Middle, engine_of, middle_of, seat_is, one_less, end_middle}
use Rattle.sg_engine.proofs.Runs.{appends_by}
use Rattle.sg_engine.proofs.Standing.{all_waits, waits_more, is_settled, is_chosen}
use Rattle.sg_engine.proofs.Commits.{ends_job}

-- ---- what a seat keeps depends on the state alone
module _ (w : Stage) (es es' : List Event) (same : state w es ≡ state w es') (s : ℕ) where
  name_alike : (job : Job) → IsNameOf w es s job → IsNameOf w es' s job
  name_alike job h = record {
    session = h.session;
    transaction = h.transaction ∙ ap (λ (z : State). (z.of s).begun) same;
    statement = h.statement ∙ ap (λ (z : State). suc (length (z.of s).done)) same;
  }

  guarded_alike : (st : Statement) → IsGuarded w es s st → IsGuarded w es' s st
  guarded_alike st h = subst (λ (z : State). Guards w.settings (IsPresent w.settings z) z.rows (z.of s) st) same h

  module _ (table : List TableRow) (index : List CellRow) (grants : List (Grant Key)) where
    work_alike : (st : Statement) (it : Work) → IsWork w es table index grants s st it → IsWork w es' table index grants s st it
    work_alike st work.Unread h = tt
    work_alike st (work.Awaits found job) h = record {
      name = name_alike job h.name;
      asks = h.asks;
      items = subst (λ (z : State). AreLeft w.settings (view z s) st job.items) same h.items;
      some = h.some;
      guarded = guarded_alike st h.guarded;
      replies = λ ks is. subst (λ (z : State). IfSome (answer_of st found ks) (Reply w.settings (view z s) st)) same (h.replies ks is);
    }
    work_alike st (work.Refined found done) h = record {
      asks = h.asks;
      guarded = guarded_alike st h.guarded;
      reply = subst (λ (z : State). IfSome (answer_of st found done.keys) (Reply w.settings (view z s) st)) same h.reply;
    }
    work_alike st (work.Writes change) h = record {
      writes = h.writes;
      change_for = h.change_for;
      behind = h.behind;
      selects = subst (λ (z : State). Selects (view z s) st change.selected) same h.selects;
      guarded = λ reads. guarded_alike st (h.guarded reads);
    }

    refined_alike : (st : Statement) (it : Work) (delivered : Bool) → HasRefinedAll w es s st it delivered → HasRefinedAll w es' s st it delivered
    refined_alike st work.Unread delivered h = tt
    refined_alike st (work.Awaits found job) delivered h = tt
    refined_alike st (work.Refined found done) delivered h = tt
    refined_alike st (work.Writes change) delivered (inl had) = inl had
    refined_alike st (work.Writes change) delivered (inr none) = inr (λ reads. subst (λ (z : State). AreLeft w.settings (view z s) st []) same (none reads))

    pending_alike : (p : Pending) → IsPending w es table index grants s p.statement p.scan p.work p.delivered → IsPending w es' table index grants s p.statement p.scan p.work p.delivered
    pending_alike p h = record {
      sound = h.sound;
      search = if_some (IsSearching w es table index grants s p.statement) (IsSearching w es' table index grants s p.statement) p.scan (λ scan _ x. record { scan_for = x.scan_for; passed = x.passed }) h.search;
      work = work_alike p.statement p.work h.work;
      refined = refined_alike p.statement p.work p.delivered h.refined;
    }

    running_alike : (r : Running) → IsRunning w es table index grants s r → IsRunning w es' table index grants s r
    running_alike r h = record {
      cost = h.cost ∙ ap (λ (z : State). cost (z.of s).held) same;
      pending = if_some (λ (p : Pending). IsPending w es table index grants s p.statement p.scan p.work p.delivered) (λ (p : Pending). IsPending w es' table index grants s p.statement p.scan p.work p.delivered) r.pending (λ p _ x. pending_alike p x) h.pending;
      statement_room = h.statement_room;
      answer_room = h.answer_room;
    }

    pub runs_alike : (o : Option Running) → IfSome o (IsRunning w es table index grants s) → IfSome o (IsRunning w es' table index grants s)
    runs_alike o h = if_some (IsRunning w es table index grants s) (IsRunning w es' table index grants s) o (λ r _ x. running_alike r x) h

-- ---- the wait
module _ (w : Stage) (es : List Event) (labels : List Label) (entries : List Entry) (seats : List Seat) (table : List TableRow) (index : List CellRow) (grants : List (Grant Key)) (standing : List waiting.Wait) (live room entry_room : ℕ)
    (m : Middle w es labels entries seats table index grants standing live room entry_room)
    (s i : ℕ) (session : IsSession s) (below : i < 64) (mine : i + 1 ≡ s) (d : Seat) (there : d ≡ get_or seats i d) (k : Key) (mode : Mode) (b : List ℕ) where
  abbrev z : State
  z = state w es

  abbrev e : Event
  e = Wait s k mode b

  within : i < length seats
  within = let l = m.long in omega (arith, l, below)

  same_state : z ≡ state w (e ∷ es)
  same_state = λ j. record { rows = z.rows; of = λ u. each u j }
    where
      each : (u : ℕ) → z.of u ≡ with_one z.of s (z.of s) u
      each u = by_test (eqb s u) refl
        where
          by_test : (t : Bool) → eqb s u ≡ t → z.of u ≡ cond t (z.of s) (z.of u)
          by_test true q = ap z.of (sym (eqb-true s u q))
          by_test false q = refl

  wish_is : Some (k, mode) ≡ last_wish (e ∷ es) s
  wish_is = ap (λ t. cond t (Some (k, mode)) (last_wish es s)) (sym (eq-eqb s s refl))

  same_count : running_count (map seat_of (set seats i (wishing k mode d))) ≡ live
  same_count =
      let long' : i < length (map seat_of seats) = (let l = length_map seats in let h = within in omega (arith, l, h)) in
      let c = count_set (map seat_of seats) i (seat_of (wishing k mode d)) empty_seat long' in
      let at : s - 1 ≡ i = omega arith in
      let old : is_running (get_or (map seat_of seats) i empty_seat) ≡ is_running (seat_of d) =
      ap (λ n. is_running (get_or (map seat_of seats) n empty_seat)) (sym at) ∙ ap is_running (seat_at seats i within s mine d there) in
      let l = m.live_is in
      let r : running_count (map seat_of (set seats i (wishing k mode d))) ≡ running_count (set (map seat_of seats) i (seat_of (wishing k mode d))) = ap running_count (map-set seat_of seats i (wishing k mode d)) in
      let g : is_running (seat_of (wishing k mode d)) ≡ is_running (seat_of d) = refl in
      omega (arith, c, old, l, r, g)

  module _ (legal : IsLegal w (e ∷ es)) (none : is_waiting standing s ≡ false) (labels' : List Label) (standing' : List waiting.Wait) (room' : ℕ) (pushed : labels' ≡ labels ++ label.Wait s k mode b ∷ [])
      (standing_is : standing' ≡ with_wait standing (record { session = s; blockers = b })) (fits : live ≤ room') where
    own_after : IsSeat w (e ∷ es) table index grants s (wishing k mode d)
    own_after =
        let old = own_seat w es table index grants seats s i within mine d there m.kept in
        record { wish = wish_is; running = runs_alike w es (e ∷ es) same_state s table index grants d.running old.running }

    pub wait_middle : Middle w (e ∷ es) labels' entries (set seats i (wishing k mode d)) table index grants standing' live room' entry_room
    wait_middle = record {
      staged = m.staged;
      legal = legal;
      shows = record {
        labels = pushed ∙ ap (λ (ls : List Label). ls ++ label.Wait s k mode b ∷ []) m.shows.labels;
        journal = m.shows.journal;
        seats = seats_after w es e seats i within mine (wishing k mode d) m.shows.seats (seat_is w es labels entries seats table index grants standing live room entry_room m s i session below mine d there);
      };
      ties = subst (λ (y : State). Ties w.settings y table index grants) same_state m.ties;
      waits_are = λ u is. ap (λ ws. blockers_of ws u) standing_is ∙ waits_more es standing m.waits_are s k mode b none u is;
      kept = seats_on w es seats m.long m.shows.seats m.staged e legal i mine (wishing k mode d) table index grants table index grants (λ u is ne st scan h. h.passed) (λ u is ne st change h. h.behind) m.kept own_after within;
      long = length-set seats i (wishing k mode d) ∙ m.long;
      live_is = sym same_count;
      labels_fit = fits;
      entries_fit = m.entries_fit;
    }

-- ---- costs
-- what is kept of the cost of each session is right
module _ (w : Stage) (es : List Event) (labels : List Label) (entries : List Entry) (seats : List Seat) (table : List TableRow) (index : List CellRow) (grants : List (Grant Key)) (standing : List waiting.Wait) (live room entry_room : ℕ)
    (m : Middle w es labels entries seats table index grants standing live room entry_room) where
  cost_by : (u : ℕ) (o : Option Running) → IfSome o (IsRunning w es table index grants u) → (x : Local) → x ≡ (state w es).of u → (record { begun = x.begun; running = option_map running_in o } ≡ seated x) → cost_in o ≡ cost x.held
  cost_by u (Some r) h x e q = h.cost ∙ ap (λ (y : Local). cost y.held) (sym e)
  cost_by u None h x e q = by_live x.live refl
    where
      by_live : (b : Bool) → x.live ≡ b → 0 ≡ cost x.held
      by_live true l = absurd (let f : None ≡ cond x.live (Some (running_of x)) None = ap (λ (r : Seated). r.running) q in let g : None ≡ Some (running_of x) = f ∙ ap (λ b. cond b (Some (running_of x)) None) l in cc)
      by_live false l =
          let idle = idle_unless_live w es m.legal u (ap (λ (y : Local). y.live) (sym e) ∙ l) in
          sym (ap (λ (y : Local). cost y.held) e ∙ ap (λ (y : Local). cost y.held) idle)

  pub cost_is : (u : ℕ) → IsSession u → cost_at (slice_get seats (u - 1)) ≡ cost ((state w es).of u).held
  cost_is u is =
      let low = is.0 in
      let high = is.1 in
      let l = m.long in
      let within : u - 1 < length seats = omega (arith, low, high, l) in
      let one : suc (u - 1) ≡ u = omega (arith, low) in
      let one' : u - 1 + 1 ≡ u = omega (arith, low) in
      let first = first_of seats within in
      let at : slice_get seats (u - 1) ≡ Some (get_or seats (u - 1) first) = slice_get-get_or seats (u - 1) first within in
      let x = get_or seats (u - 1) first in
      let kept : IsSeat w es table index grants u x = subst (λ n. IsSeat w es table index grants n x) one (subst (λ o. IfSome o (IsSeat w es table index grants (suc (u - 1)))) at (m.kept (u - 1))) in
      let there : x ≡ get_or seats (u - 1) x = same_default seats (u - 1) first x within in
      let shown = sym (seat_at seats (u - 1) within u one' x there) ∙ m.shows.seats u is in
      ap cost_at at ∙ cost_by u x.running kept.running ((state w es).of u) refl (ap (λ n. record { begun = n; running = option_map running_in x.running }) (sym (ap (λ (r : Seated). r.begun) shown)) ∙ shown)
    where
      first_of : (xs : List Seat) → u - 1 < length xs → Seat
      first_of [] h = absurd (omega (arith, h))
      first_of (x ∷ xs) h = x

      same_default : (xs : List Seat) (n : ℕ) (a c : Seat) → n < length xs → get_or xs n a ≡ get_or xs n c
      same_default [] n a c h = absurd (omega (arith, h))
      same_default (x ∷ xs) zero a c h = refl
      same_default (x ∷ xs) (suc n) a c h = same_default xs n a c (omega (arith, h))

-- ---- victims
module _ (s : ℕ) (k : Key) (mode : Mode) (b : List ℕ) (es : List Event) where
  pub since_all : (vs : Victims) → since_wait (victims_of vs ++ Wait s k mode b ∷ es) ≡ true
  since_all [] = refl
  since_all (v ∷ vs) = since_all vs

  pub last_all : (vs : Victims) → last_waiter (victims_of vs ++ Wait s k mode b ∷ es) ≡ s
  last_all [] = refl
  last_all (v ∷ vs) = last_all vs

-- an engine after a wait and some victims, and the cycle that is left
pub record Breaking (w : Stage) (es : List Event) (s : ℕ) (k : Key) (mode : Mode) (b : List ℕ) (jobs : List Refining) (labels : List Label) (entries : List Entry) (seats : List Seat) (table : List TableRow) (index : List CellRow) (grants : List (Grant Key))
    (standing : List waiting.Wait) (live room entry_room : ℕ) (cycle : List ℕ) (own : Option (List ℕ)) : Type 0 where
  pub victims : Victims
  pub middle : Middle w (victims_of victims ++ Wait s k mode b ∷ es) labels entries seats table index grants standing live room entry_room
  pub are : AreWaits standing
  pub set : IsCycleSet (blockers_of standing) s cycle
  pub empty : (cycle ≡ []) ↔ NoCycle (blockers_of standing) s
  pub sessions : AreSessions cycle
  pub itself : own ≡ cycle_of s victims
  pub jobs_are : (u : ℕ) → IsSession u → job_in (map job_of seats) u ≡ cond (is_some (cycle_of u victims)) no_job (job_in jobs u)

module _ (w : Stage) (es : List Event) (s : ℕ) (k : Key) (mode : Mode) (b : List ℕ) (jobs : List Refining) (labels : List Label) (entries : List Entry) (seats : List Seat) (table : List TableRow) (index : List CellRow) (grants : List (Grant Key))
    (standing : List waiting.Wait) (live room entry_room : ℕ) (cycle : List ℕ) (own : Option (List ℕ)) (h : Breaking w es s k mode b jobs labels entries seats table index grants standing live room entry_room cycle own) where
  abbrev now : List Event
  now = victims_of h.victims ++ Wait s k mode b ∷ es

  all_same : (u : ℕ) → blockers_of standing u ≡ waits now u
  all_same = all_waits w h.middle.staged now h.middle.legal standing h.are h.middle.waits_are

  module _ (ranks : List Rank) (right : (u : ℕ) → has_session cycle u ≡ true → rank_of ranks u ≡ rank_in w.priorities seats u) (some : cycle ≢ []) (v : ℕ) (chosen : IsVictim (λ u. (rank_of ranks u).priority) (λ u. (rank_of ranks u).cost) cycle v) where
    pub victim_chosen : IsChosen w now v cycle
    victim_chosen =
        is_chosen w now standing all_same s (since_all s k mode b es h.victims) (last_all s k mode b es h.victims) cycle h.sessions h.set some (λ u. (rank_of ranks u).priority) (λ u. (rank_of ranks u).cost)
        (λ u in_it. ap (λ (r : Rank). r.priority) (right u in_it))
        (λ u in_it. ap (λ (r : Rank). r.cost) (right u in_it) ∙ cost_is w now labels entries seats table index grants standing live room entry_room h.middle u (member_is_session cycle u h.sessions in_it)) v chosen

    pub victim_on : ((state w now).of v).live ≡ true
    victim_on = victim_live w now h.middle.legal v cycle victim_chosen

    module _ (i : ℕ) (session : IsSession v) (below : i < 64) (mine : i + 1 ≡ v) (d : Seat) (there : d ≡ get_or seats i d) where
      inside : i < length seats
      inside = let l = h.middle.long in omega (arith, l, below)

      pub live_some : 1 ≤ live
      live_some = let n = one_less w now labels entries seats table index grants standing live room entry_room h.middle v i session below mine d there victim_on in omega (arith, n)

      module _ (labels' : List Label) (table' : List TableRow) (index' : List CellRow) (grants' : List (Grant Key)) (standing' : List waiting.Wait) (live' room' : ℕ) (cycle' : List ℕ) (own' : Option (List ℕ))
          (pushed : labels' ≡ labels ++ label.Victim v cycle ∷ []) (table_ends : table' ≡ settled Undo v table) (index_ends : index' ≡ settled Undo v index) (released : RemovesSession key_cmp grants grants' v)
          (standing_is : standing' ≡ waits_after v standing) (fewer : live ≡ live' + 1) (fits : live' ≤ room')
          (set' : IsCycleSet (blockers_of standing') s cycle') (empty' : (cycle' ≡ []) ↔ NoCycle (blockers_of standing') s) (sessions' : AreSessions cycle') (own_is : own' ≡ cond (eqb v s) (Some cycle) own) where
        abbrev after : List Event
        after = Victim v cycle ∷ now

        legal : IsLegal w after
        legal = (h.middle.legal, victim_chosen, tt)

        jobs_after : (u : ℕ) → IsSession u → job_in (map job_of (set seats i (quit d))) u ≡ cond (is_some (cond (eqb v u) (Some cycle) (cycle_of u h.victims))) no_job (job_in jobs u)
        jobs_after u is = by_test (eqb v u) refl
          where
            by_test : (t : Bool) → eqb v u ≡ t → job_in (map job_of (set seats i (quit d))) u ≡ cond (is_some (cond t (Some cycle) (cycle_of u h.victims))) no_job (job_in jobs u)
            by_test true q = ap (job_in (map job_of (set seats i (quit d)))) (sym (eqb-true v u q)) ∙ (ends_job seats v i inside mine d w w labels labels' entries entries).own
            by_test false q = (ends_job seats v i inside mine d w w labels labels' entries entries).others u is (λ p. eqb-false v u q (sym p)) ∙ h.jobs_are u is

        pub broken : Breaking w es s k mode b jobs labels' entries (set seats i (quit d)) table' index' grants' standing' live' room' entry_room cycle' own'
        broken = record {
          victims = (v, cycle) ∷ h.victims;
          middle =
              end_middle w now labels entries seats table index grants standing live room entry_room h.middle v i session below mine d there Undo (Victim v cycle) refl refl refl (λ u. refl) refl legal victim_on
              labels' entries table' index' grants' standing' live' room' entry_room pushed h.middle.shows.journal table_ends index_ends released standing_is h.are fewer fits
              (let f = h.middle.entries_fit in omega (arith, f, fewer));
          are = subst AreWaits (sym standing_is) (RisingWaits-after standing 0 v h.are);
          set = set';
          empty = empty';
          sessions = sessions';
          itself = own_is ∙ ap (λ o. cond (eqb v s) (Some cycle) o) h.itself;
          jobs_are = jobs_after;
        }

  -- ---- no cycle is left
  module _ (none : cycle ≡ []) where
    settled_now : IsSettled now
    settled_now = is_settled now standing all_same s (last_all s k mode b es h.victims) (h.empty.0 none)

    pub broken_engine : IsEngine (shown_in w labels entries seats) table index grants standing seats live room entry_room
    broken_engine = engine_of w labels entries seats table index grants standing live room entry_room now h.middle settled_now

    pub has_waited : (old : Shown) → old.stage ≡ w → old.jobs ≡ jobs → IsRunOf es old → HasWaited s k mode b old (shown_in w labels entries seats) own
    has_waited old staged jobs_is run = record {
      victims = h.victims;
      run = record {
        stage = sym staged;
        runs =
            appends_by old (shown_in w labels entries seats) (subst Rattle.sg_trace.specs.Legal.IsStage (sym staged) h.middle.staged) (sym staged) (victims_of h.victims ++ Wait s k mode b ∷ []) es run
            (subst (λ xs. IsRunOf xs (shown_in w labels entries seats)) (sym (append_assoc (victims_of h.victims) (Wait s k mode b ∷ []) es)) (record { shows = h.middle.shows; legal = h.middle.legal; settled = settled_now }));
      };
      itself = h.itself;
      jobs = λ u is. h.jobs_are u is ∙ ap (λ js. cond (is_some (cycle_of u h.victims)) no_job (job_in js u)) (sym jobs_is);
    }

-- ---- in the loop
-- some run of what was shown before led here
pub record Breaks (s : ℕ) (k : Key) (mode : Mode) (b : List ℕ) (old : Shown) (w : Stage) (labels : List Label) (entries : List Entry) (seats : List Seat) (table : List TableRow) (index : List CellRow) (grants : List (Grant Key)) (standing : List waiting.Wait)
    (live room entry_room : ℕ) (cycle : List ℕ) (own : Option (List ℕ)) : Type 0 where
  pub staged : old.stage ≡ w
  pub events : List Event
  pub run : IsRunOf events old
  pub breaking : Breaking w events s k mode b old.jobs labels entries seats table index grants standing live room entry_room cycle own

-- ---- the loop's first round
module _ (w : Stage) (labels : List Label) (entries : List Entry) (seats : List Seat) (table : List TableRow) (index : List CellRow) (grants : List (Grant Key)) (standing : List waiting.Wait) (live room entry_room : ℕ)
    (ok : IsEngine (shown_in w labels entries seats) table index grants standing seats live room entry_room)
    (s : ℕ) (session : IsSession s) (k : Key) (mode : Mode) (b : List ℕ) (fits : Fits w ok.events (Wait s k mode b)) where
  -- a session is not in its own way
  pub not_itself : has_session b s ≡ false
  not_itself =
      ap (λ ns. has_session ns s) fits.3
      ∙ (conflict_has w ok.staged ok.events ok.run.legal s k mode s ∙ ap (λ t. not t && holds_by (λ held. not (is_compatible held mode)) ((state w ok.events).of s).held k) (eq-eqb s s refl))

  module _ (are : AreWaits standing) where
    pub none_stands : is_waiting standing s ≡ false
    none_stands = blockers-is_waiting standing 0 s are (ok.waits_are s session ∙ fits.1.no_wait)

    module _ (i : ℕ) (below : i < 64) (mine : i + 1 ≡ s) (d : Seat) (there : d ≡ get_or seats i d) (labels' : List Label) (x : Seat) (standing' : List waiting.Wait) (room' : ℕ) (cycle : List ℕ) (wished : x ≡ wishing k mode d)
        (pushed : labels' ≡ labels ++ label.Wait s k mode b ∷ []) (standing_is : standing' ≡ with_wait standing (record { session = s; blockers = b })) (room_fits : live ≤ room')
        (set' : IsCycleSet (blockers_of standing') s cycle) (empty' : (cycle ≡ []) ↔ NoCycle (blockers_of standing') s) (sessions' : AreSessions cycle) where
      abbrev Begun : Seat → Type 0
      Begun y = Breaks s k mode b (shown_in w labels entries seats) w labels' entries (set seats i y) table index grants standing' live room' entry_room cycle None

      begun : Begun (wishing k mode d)
      begun = record {
        staged = refl;
        events = ok.events;
        run = ok.run;
        breaking = record {
          victims = [];
          middle =
              wait_middle w ok.events labels entries seats table index grants standing live room entry_room (middle_of w labels entries seats table index grants standing live room entry_room ok) s i session below mine d there k mode b
              (ok.run.legal, fits, ok.run.settled) none_stands labels' standing' room' pushed standing_is room_fits;
          are = subst AreWaits (sym standing_is) (RisingWaits-with standing 0 (record { session = s; blockers = b }) are none_stands (let low = session.0 in omega (arith, low)) session.1 fits.4 not_itself);
          set = set';
          empty = empty';
          sessions = sessions';
          itself = refl;
          jobs_are = λ u is. ap (λ js. job_in js u) (jobs_same seats i d (wishing k mode d) there refl);
        };
      }

      pub breaks_first : Begun x
      breaks_first = subst Begun (sym wished) begun
