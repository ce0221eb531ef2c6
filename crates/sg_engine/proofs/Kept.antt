-- What the seats keep, where another session goes on.
use Rattle.std.proofs.Common.{◌≡◌, ◌≢◌, ℕ, zero, suc, ◌+◌, ◌-◌, ◌<◌, Bool, true, false, cond, List, [], ◌∷◌, length, set, eqb, Option, Some, None, inl, inr, refl, sym, ap, ◌∙◌, subst, arith, add-one, get_or, map, IfSome, slice_get}
use Rattle.std.proofs.lemmas.Bool.{ne_eqb}
use Rattle.std.proofs.lemmas.List.{get_or-map}
use Rattle.std.proofs.lemmas.Option.{slice_get_within, slice_get-get_or, get_or_from_slice_get}
use Rattle.std.specs.Option.{option_map}
use Rattle.sg_cells.specs.declared.keys.Key.{Key}
use Rattle.sg_locks.specs.Grants.{Grant}
use Rattle.sg_modes.specs.Sessions.{IsSession}
use Rattle.sg_plain.specs.declared.statements.Statement.{Statement}
use Rattle.sg_plain.specs.declared.statements.Statement.TheVariants.{Insert, Update, Delete, Get, Select, Plan, Filter, DeleteWhere}
use Rattle.sg_plain.specs.declared.statements.Answer.{Answer}
use Rattle.sg_plain.specs.declared.statements.Answer.TheVariants.{Deleted}
use Rattle.sg_plain.specs.Sat.{IsSoundStatement}
use Rattle.sg_refine.specs.Jobs.{Job}
use Rattle.sg_rows.specs.Table.{TableRow}
use Rattle.sg_cellrows.specs.CellTable.{CellRow}
use Rattle.sg_trace.specs.Needs.{Selects}
use Rattle.sg_trace.specs.Replies.{Reply}
use Rattle.sg_trace.specs.Traces.{Stage, Event, Begin, Ask, Take, Put, Wait, Victim, Answered, Commit, Rollback, Local, state, after, view, session_of}
use Rattle.sg_trace.specs.Legal.{IsStage, IsLegal, cost}
use Rattle.sg_scan.specs.declared.scans.Scan.{Scan}
use Rattle.sg_scan.specs.Cursors.{IsPassed}
use Rattle.sg_writes.specs.declared.changes.Change.{Change}
use Rattle.sg_writes.specs.Changes.{IsBehindHeld}
use Rattle.sg_laws.specs.Reading.{IsReading, IsGuarded, IsLive}
use Rattle.sg_reading.proofs.Readings.{guards_stay, replies_stay}
use Rattle.sg_engine.specs.declared.shared.Work.{Work}
use Rattle.sg_engine.specs.declared.shared.Work.TheVariants as work
use Rattle.sg_engine.specs.declared.shared.Pending.{Pending}
use Rattle.sg_engine.specs.declared.shared.Running.{Running}
use Rattle.sg_engine.specs.declared.shared.Seat.{Seat}
use Rattle.sg_engine.specs.Shown.{Seated, empty_seat, seat_in, seated, running_of}
use Rattle.sg_engine.specs.Inside.{seat_of, running_in}
use Rattle.sg_engine.specs.Phases.{last_wish, HasRefinedAll, IsNameOf, IsWriting, IsWork, IsSearching, IsPending, IsRunning, IsSeat, AreSeats}
use Rattle.sg_engine.proofs.Events.{with_other}
use Rattle.sg_engine.proofs.Unsure.{left_stays}

-- ---- lists of seats
pub if_some : {A : Type 0} (P Q : A → Type 0) (o : Option A) → ((x : A) → o ≡ Some x → P x → Q x) → IfSome o P → IfSome o Q
if_some P Q None f h = h
if_some P Q (Some x) f h = f x refl h

-- one changes, and each other one that is P is Q
pub each_set : (P Q : ℕ → Seat → Type 0) (seats : List Seat) (i : ℕ) (x : Seat) → ((j : ℕ) → j ≢ i → (y : Seat) → slice_get seats j ≡ Some y → P j y → Q j y)
    → ((j : ℕ) → IfSome (slice_get seats j) (P j)) → Q i x → i < length seats → (j : ℕ) → IfSome (slice_get (set seats i x) j) (Q j)
each_set P Q [] i x others all own h j = absurd (omega arith)
each_set P Q (y ∷ ys) zero x others all own h zero = own
each_set P Q (y ∷ ys) zero x others all own h (suc j) = if_some (P (suc j)) (Q (suc j)) (slice_get ys j) (others (suc j) (omega arith)) (all (suc j))
each_set P Q (y ∷ ys) (suc i) x others all own h zero = others zero (omega arith) y refl (all zero)
each_set P Q (y ∷ ys) (suc i) x others all own h (suc j) =
    each_set (λ n. P (suc n)) (λ n. Q (suc n)) ys i x (λ k ne z e p. others (suc k) (λ q. ne (omega (arith, q))) z e p) (λ k. all (suc k)) own (omega (arith, h)) j

-- ---- an event of another session
pub wish_same : (es : List Event) (e : Event) (u : ℕ) → session_of e ≢ u → last_wish (e ∷ es) u ≡ last_wish es u
wish_same es (Begin s t) u ne = refl
wish_same es (Ask s n st) u ne = refl
wish_same es (Take s k m) u ne = refl
wish_same es (Put s k m) u ne = refl
wish_same es (Wait s k m b) u ne = let e : eqb u s ≡ false = ne_eqb u s (λ q. ne (sym q)) in rw e refl
wish_same es (Victim s c) u ne = refl
wish_same es (Answered s a) u ne = refl
wish_same es (Commit s p) u ne = refl
wish_same es (Rollback s c) u ne = refl

module _ (w : Stage) (staged : IsStage w) (e : Event) (es : List Event) (legal : IsLegal w (e ∷ es)) (u : ℕ) (ne : session_of e ≢ u) where
  pub local_same : (state w (e ∷ es)).of u ≡ (state w es).of u
  local_same = with_other (state w es).of (session_of e) u (after e ((state w es).of (session_of e))) ne

  name_on : (job : Job) → IsNameOf w es u job → IsNameOf w (e ∷ es) u job
  name_on job h = record {
    session = h.session;
    transaction = h.transaction ∙ ap (λ (x : Local). x.begun) (sym local_same);
    statement = h.statement ∙ ap (λ (x : Local). suc (length x.done)) (sym local_same);
  }

  module _ (live : IsLive w es u) where
    live_on : IsLive w (e ∷ es) u
    live_on = ap (λ (x : Local). x.live) local_same ∙ live

    pub guarded_on : (st : Statement) → IsGuarded w es u st → IsGuarded w (e ∷ es) u st
    guarded_on st g = guards_stay w e es staged legal u live live_on st g

    pub reply_on : (st : Statement) → IsSoundStatement st → IsGuarded w es u st → (a : Answer) → Reply w.settings (view (state w es) u) st a → Reply w.settings (view (state w (e ∷ es)) u) st a
    reply_on st sound g a h = replies_stay w e es staged legal u ne st a sound g h

    selects_on : (st : Statement) (ks : List ℕ) → IsSoundStatement st → (IsReading st → IsGuarded w es u st) → Selects (view (state w es) u) st ks → Selects (view (state w (e ∷ es)) u) st ks
    selects_on (DeleteWhere q) ks sound g h = reply_on (DeleteWhere q) sound (g tt) (Deleted ks) h
    selects_on (Insert k s) ks sound g h = h
    selects_on (Update k s) ks sound g h = h
    selects_on (Delete k) ks sound g h = h
    selects_on (Get k) ks sound g h = h
    selects_on (Select q) ks sound g h = h
    selects_on (Plan q) ks sound g h = h
    selects_on (Filter s) ks sound g h = h

    module _ (table : List TableRow) (index : List CellRow) (grants : List (Grant Key)) (table' : List TableRow) (index' : List CellRow) (grants' : List (Grant Key))
        (passed : (st : Statement) (scan : Scan) → IsSearching w es table index grants u st scan → IsPassed grants' u table' index' scan)
        (behind : (st : Statement) (change : Change) → IsWriting w es table index grants u st change → IsBehindHeld grants' u table' index' change) where
      work_on : (st : Statement) → IsSoundStatement st → (it : Work) → IsWork w es table index grants u st it → IsWork w (e ∷ es) table' index' grants' u st it
      work_on st sound work.Unread h = tt
      work_on st sound (work.Awaits found job) h = record {
        name = name_on job h.name;
        asks = h.asks;
        items = left_stays w staged e es legal u ne st job.items h.guarded h.items;
        some = h.some;
        guarded = guarded_on st h.guarded;
        replies = λ ks is. if_some (Reply w.settings (view (state w es) u) st) (Reply w.settings (view (state w (e ∷ es)) u) st) _ (λ a _ r. reply_on st sound h.guarded a r) (h.replies ks is);
      }
      work_on st sound (work.Refined found done) h = record {
        asks = h.asks;
        guarded = guarded_on st h.guarded;
        reply = if_some (Reply w.settings (view (state w es) u) st) (Reply w.settings (view (state w (e ∷ es)) u) st) _ (λ a _ r. reply_on st sound h.guarded a r) h.reply;
      }
      work_on st sound (work.Writes change) h = record {
        writes = h.writes;
        change_for = h.change_for;
        behind = behind st change h;
        selects = selects_on st change.selected sound h.guarded h.selects;
        guarded = λ reads. guarded_on st (h.guarded reads);
      }

      refined_on : (st : Statement) (it : Work) (delivered : Bool) → IsWork w es table index grants u st it → HasRefinedAll w es u st it delivered → HasRefinedAll w (e ∷ es) u st it delivered
      refined_on st work.Unread delivered k h = tt
      refined_on st (work.Awaits found job) delivered k h = tt
      refined_on st (work.Refined found done) delivered k h = tt
      refined_on st (work.Writes change) delivered k (inl had) = inl had
      refined_on st (work.Writes change) delivered k (inr none) = inr (λ reads. left_stays w staged e es legal u ne st [] (k.guarded reads) (none reads))

      pending_on : (p : Pending) → IsPending w es table index grants u p.statement p.scan p.work p.delivered → IsPending w (e ∷ es) table' index' grants' u p.statement p.scan p.work p.delivered
      pending_on p h = record {
        sound = h.sound;
        search = if_some (IsSearching w es table index grants u p.statement) (IsSearching w (e ∷ es) table' index' grants' u p.statement) p.scan
            (λ scan _ x. record { scan_for = x.scan_for; passed = passed p.statement scan x }) h.search;
        work = work_on p.statement h.sound p.work h.work;
        refined = refined_on p.statement p.work p.delivered h.work h.refined;
      }

      pub running_on : (r : Running) → IsRunning w es table index grants u r → IsRunning w (e ∷ es) table' index' grants' u r
      running_on r h = record {
        cost = h.cost ∙ ap (λ (x : Local). cost x.held) (sym local_same);
        pending = if_some (λ (p : Pending). IsPending w es table index grants u p.statement p.scan p.work p.delivered) (λ (p : Pending). IsPending w (e ∷ es) table' index' grants' u p.statement p.scan p.work p.delivered) r.pending (λ p _ x. pending_on p x) h.pending;
        statement_room = h.statement_room;
        answer_room = h.answer_room;
      }

  module _ (table : List TableRow) (index : List CellRow) (grants : List (Grant Key)) (table' : List TableRow) (index' : List CellRow) (grants' : List (Grant Key))
      (passed : (st : Statement) (scan : Scan) → IsSearching w es table index grants u st scan → IsPassed grants' u table' index' scan)
      (behind : (st : Statement) (change : Change) → IsWriting w es table index grants u st change → IsBehindHeld grants' u table' index' change) where
    -- what is behind each cursor has to stay met; all else of the seat stays by itself
    pub seat_on : (x : Seat) → ((r : Running) → x.running ≡ Some r → IsLive w es u) → IsSeat w es table index grants u x → IsSeat w (e ∷ es) table' index' grants' u x
    seat_on x live h = record {
      wish = h.wish ∙ sym (wish_same es e u ne);
      running = if_some (IsRunning w es table index grants u) (IsRunning w (e ∷ es) table' index' grants' u) x.running
          (λ r is y. running_on (live r is) table index grants table' index' grants' passed behind r y) h.running;
    }

-- ---- all seats
live_by : (x : Local) (b : Bool) → x.live ≡ b → (r : Running) → option_map running_in (Some r) ≡ cond b (Some (running_of x)) None → x.live ≡ true
live_by x true e r h = e
live_by x false e r h = absurd (cc)

module _ (w : Stage) (es : List Event) (seats : List Seat) (long : length seats ≡ 64) (shown : (u : ℕ) → IsSession u → seat_in (map seat_of seats) u ≡ seated ((state w es).of u)) where
  session_at : (j : ℕ) (y : Seat) → slice_get seats j ≡ Some y → IsSession (suc j)
  session_at j y at = let h = slice_get_within seats j y at in (omega arith, omega (arith, h, long))

  shown_at : (j : ℕ) (y : Seat) → slice_get seats j ≡ Some y → seat_of y ≡ seated ((state w es).of (suc j))
  shown_at j y at =
      let h = slice_get_within seats j y at in
      let place : j ≡ suc j - 1 = omega arith in
      sym (get_or-map seat_of seats j y empty_seat h ∙ ap seat_of (get_or_from_slice_get seats j y y at)) ∙ (ap (λ n. get_or (map seat_of seats) n empty_seat) place ∙ shown (suc j) (session_at j y at))

  -- a seat with a transaction is that of a live session
  pub live_at : (j : ℕ) (y : Seat) → slice_get seats j ≡ Some y → (r : Running) → y.running ≡ Some r → IsLive w es (suc j)
  live_at j y at r is =
      let x : Local = (state w es).of (suc j) in
      live_by x x.live refl r (ap (option_map running_in) (sym is) ∙ ap (λ (o : Seated). o.running) (shown_at j y at))

  -- after an event, where what lies behind each cursor of other sessions stays met
  pub seats_on : (staged : IsStage w) (e : Event) → IsLegal w (e ∷ es) → (i : ℕ) → i + 1 ≡ session_of e → (x : Seat)
      → (table : List TableRow) (index : List CellRow) (grants : List (Grant Key)) (table' : List TableRow) (index' : List CellRow) (grants' : List (Grant Key))
      → ((u : ℕ) → IsSession u → session_of e ≢ u → (st : Statement) (scan : Scan) → IsSearching w es table index grants u st scan → IsPassed grants' u table' index' scan)
      → ((u : ℕ) → IsSession u → session_of e ≢ u → (st : Statement) (change : Change) → IsWriting w es table index grants u st change → IsBehindHeld grants' u table' index' change)
      → AreSeats w es table index grants seats → IsSeat w (e ∷ es) table' index' grants' (session_of e) x → i < length seats → AreSeats w (e ∷ es) table' index' grants' (set seats i x)
  seats_on staged e legal i mine x table index grants table' index' grants' passed behind all own within =
      each_set (λ j. IsSeat w es table index grants (suc j)) (λ j. IsSeat w (e ∷ es) table' index' grants' (suc j)) seats i x
      (λ j ne y at h.
      let other : session_of e ≢ suc j = (λ q. ne (omega (arith, q, mine))) in
      seat_on w staged e es legal (suc j) other table index grants table' index' grants' (passed (suc j) (session_at j y at) other) (behind (suc j) (session_at j y at) other) y (live_at j y at) h)
      all (subst (λ u. IsSeat w (e ∷ es) table' index' grants' u x) (sym mine ∙ add-one i) own) within

-- the seat of the session is the one that was read
pub own_seat : (w : Stage) (es : List Event) (table : List TableRow) (index : List CellRow) (grants : List (Grant Key)) (seats : List Seat) (s i : ℕ) → i < length seats → i + 1 ≡ s → (d : Seat) → d ≡ get_or seats i d
    → AreSeats w es table index grants seats → IsSeat w es table index grants s d
own_seat w es table index grants seats s i within mine d there all =
    let at : slice_get seats i ≡ Some d = slice_get-get_or seats i d within ∙ ap (λ y. Some y) (sym there) in
    subst (λ u. IsSeat w es table index grants u d) (sym (add-one i) ∙ mine) (subst (λ o. IfSome o (IsSeat w es table index grants (suc i))) at (all i))
