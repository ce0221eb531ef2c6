-- The wait of a session that stands, and who is in the way of what its open statement asks for.
use Rattle.std.specs.Prelude.{is_some, IsSome, ◌||◌}
use Rattle.std.proofs.Common.{◌≡◌, ◌≢◌, ◌⊎◌, inl, inr, ℕ, ◌+◌, ◌<◌, Bool, true, false, cond, eqb, List, [], ◌∷◌, length, get_or, Option, Some, None, refl, sym, ap, ◌∙◌, subst}
use Rattle.sg_locks.specs.Grants.{Grant}
use Rattle.sg_locks.specs.Grants as locks
use Rattle.sg_cells.specs.declared.keys.Key.{Key}
use Rattle.sg_modes.specs.declared.modes.Mode.{Mode}
use Rattle.sg_modes.specs.declared.modes.Mode.TheVariants.{RangeIN}
use Rattle.sg_modes.specs.Sessions.{IsSession, AreSessions, has_session}
use Rattle.sg_modes.specs.Waits.{Wait, blockers_of}
use Rattle.sg_plain.specs.declared.statements.Statement.{Statement}
use Rattle.sg_plain.specs.Serial.{Entry}
use Rattle.sg_rows.specs.Table.{TableRow}
use Rattle.sg_cellrows.specs.CellTable.{CellRow}
use Rattle.sg_trace.specs.declared.labels.Label.{Label}
use Rattle.sg_trace.specs.Keys.{next_key}
use Rattle.sg_trace.specs.Needs.{Lock, New, Held, first_unmet}
use Rattle.sg_trace.specs.Traces.{Stage, Event, Begin, Ask, Take, Put, Victim, Answered, Commit, Rollback, Local, State, state, IsPresent, present_keys}
use Rattle.sg_trace.specs.Traces as traces
use Rattle.sg_trace.specs.Legal.{IsWaitFor, IsAct, Act, Takes, Puts, Fits, needs_of, waits, cleared, conflict}
use Rattle.sg_stores.specs.Held.{key_cmp}
use Rattle.sg_laws.proofs.Kept.{Good, legal_good, lists_of, needs_good, unmet_has, takes_for, puts_for}
use Rattle.sg_laws.proofs.Needs.{NeedOk}
use Rattle.sg_laws.proofs.Present.{next_is}
use Rattle.sg_turns.proofs.Driven.{WaitsOpen, waits_open}
use Rattle.sg_engine.specs.declared.shared.Seat.{Seat}
use Rattle.sg_engine.specs.Shown.{Shown, Seated, seated, running_of, IsRunOf, is_open_in, open_of}
use Rattle.sg_engine.specs.Inside.{shown_in}
use Rattle.sg_engine.specs.Phases.{last_wish}
use Rattle.sg_engine.specs.Nexts.{IsNextAct, IsFree, WaitsForNone}
use Rattle.sg_engine.specs.Steps.{Stands}
use Rattle.sg_engine.specs.Wishes.{IsWish, AreInTheWay}
use Rattle.sg_engine.specs.Ties.{IsCoded, IsEngine}
use Rattle.sg_engine.proofs.Kept.{own_seat}
use Rattle.sg_engine.proofs.Runs.{plains, by_plains, runs_alike}
use Rattle.sg_engine.proofs.Conflicts.{conflict_is}
use Rattle.sg_engine.proofs.Replied.{coded_key}

-- ---- what is asked for
module _ (v : Shown) (s : ℕ) where
  pub lock_wish : (k : Key) (m : Mode) → IsNextAct v s (Takes k m) → IsWish v s k m
  lock_wish k m next = λ es run. let n = next es run in (n.0, n.1, record { act = Takes k m; is_act = n.2; reason = inl refl })

  pub gap_wish : (new k : Key) (m : Mode) → IsNextAct v s (Puts new k m) → IsWish v s k RangeIN
  gap_wish new k m next = λ es run. let n = next es run in (n.0, n.1, record { act = Puts new k m; is_act = n.2; reason = inr (refl, (new, m, refl)) })

  module _ (k : Key) (m : Mode) (b : List ℕ) (are : AreInTheWay v s k m b) where
    pub none_free : b ≡ [] → IsFree v s k m
    none_free none = λ es run. sym (are es run) ∙ none

    pub wait_fits : IsWish v s k m → b ≢ [] → (es : List Event) → IsRunOf es v → Fits v.stage es (traces.Wait s k m b)
    wait_fits wish some = λ es run. let h = wish es run in (h.0, h.1, h.2, are es run, some)

  -- whoever asks for something waits for nobody
  pub wish_free : (k : Key) (m : Mode) → IsWish v s k m → WaitsForNone v s
  wish_free k m wish = λ es run. (wish es run).1.no_wait

-- ---- the last wish
-- whoever waits has one
waiter_has : (t : Bool) (b : List ℕ) (x : Held) (es : List Event) (s : ℕ) → (waits es s ≢ [] → IsSome (last_wish es s)) → cond t b (waits es s) ≢ [] → IsSome (cond t (Some x) (last_wish es s))
waiter_has true b x es s ih h = refl
waiter_has false b x es s ih h = ih h

not_cleared : (f : ℕ → List ℕ) (e s : ℕ) → cleared f e s ≢ [] → f s ≢ []
not_cleared f e s h = by_test (eqb e s || has_session (f s) e) h
  where
    by_test : (t : Bool) → cond t [] (f s) ≢ [] → f s ≢ []
    by_test true h = absurd (h refl)
    by_test false h = h

pub has_wish : (es : List Event) (s : ℕ) → waits es s ≢ [] → IsSome (last_wish es s)
has_wish [] s h = absurd (h refl)
has_wish (traces.Wait u k m b ∷ es) s h = waiter_has (eqb s u) b (k, m) es s (has_wish es s) h
has_wish (Victim u c ∷ es) s h = has_wish es s (not_cleared (waits es) u s h)
has_wish (Commit u p ∷ es) s h = has_wish es s (not_cleared (waits es) u s h)
has_wish (Rollback u c ∷ es) s h = has_wish es s (not_cleared (waits es) u s h)
has_wish (Begin u t ∷ es) s h = has_wish es s h
has_wish (Ask u n st ∷ es) s h = has_wish es s h
has_wish (Take u k m ∷ es) s h = has_wish es s h
has_wish (Put u k m ∷ es) s h = has_wish es s h
has_wish (Answered u a ∷ es) s h = has_wish es s h

-- the labels determine it
wish_plain : (s : ℕ) (es : List Event) → last_wish (plains es) s ≡ last_wish es s
wish_plain s [] = refl
wish_plain s (traces.Wait u k m b ∷ es) = ap (λ (o : Option Held). cond (eqb s u) (Some (k, m)) o) (wish_plain s es)
wish_plain s (Victim u c ∷ es) = wish_plain s es
wish_plain s (Commit u p ∷ es) = wish_plain s es
wish_plain s (Rollback u c ∷ es) = wish_plain s es
wish_plain s (Begin u t ∷ es) = wish_plain s es
wish_plain s (Ask u n st ∷ es) = wish_plain s es
wish_plain s (Take u k m ∷ es) = wish_plain s es
wish_plain s (Put u k m ∷ es) = wish_plain s es
wish_plain s (Answered u a ∷ es) = wish_plain s es

-- ---- what is open
abbrev is_open_at : Seated → Bool
is_open_at x = is_some (open_of x.running)

open_seated : (y : Local) (st : Statement) → y.live ≡ true → y.open_one ≡ Some st → is_open_at (seated y) ≡ true
open_seated y st live is = ap (λ (b : Bool). is_some (open_of (cond b (Some (running_of y)) None))) live ∙ ap (λ (o : Option Statement). is_some o) is

module _ (w : Stage) (labels : List Label) (entries : List Entry) (seats : List Seat) (table : List TableRow) (index : List CellRow) (grants : List (Grant Key)) (standing : List Wait) (live room entry_room : ℕ)
    (ok : IsEngine (shown_in w labels entries seats) table index grants standing seats live room entry_room) (s : ℕ) where
  abbrev v : Shown
  v = shown_in w labels entries seats

  abbrev z : State
  z = state w ok.events

  -- ---- who is in the way
  good : Good w z
  good = legal_good w ok.staged ok.events ok.run.legal

  taken_coded : (st : Statement) (k : Key) (m : Mode) → IsAct w z s st (Takes k m) → IsCoded k
  taken_coded st k m act =
      let unmet = takes_for w z s st k m (first_unmet (z.of s).held (needs_of w z s st act.selected)) act.follows in
      let need = unmet_has (NeedOk (IsPresent w.settings z)) (z.of s) (needs_of w z s st act.selected) (Lock k m) (needs_good w z s st act.selected good act.selects) unmet in
      coded_key k ((lists_of w z good).coded k need.0)

  next_coded : (st : Statement) (new k : Key) (m : Mode) → IsAct w z s st (Puts new k m) → IsCoded k
  next_coded st new k m act =
      let unmet = puts_for w z s st new k m (first_unmet (z.of s).held (needs_of w z s st act.selected)) act.follows in
      let need = unmet_has (NeedOk (IsPresent w.settings z)) (z.of s) (needs_of w z s st act.selected) (New new) (needs_good w z s st act.selected good act.selects) unmet.0 in
      let l = lists_of w z good in
      let next = next_is (IsPresent w.settings z) (present_keys w z) new l need.1 in
      subst IsCoded (sym unmet.1) (coded_key (next_key (present_keys w z) new) (l.coded (next_key (present_keys w z) new) next.there))

  wish_coded : (st : Statement) (k : Key) (m : Mode) → IsWaitFor w ok.events s st k m → IsCoded k
  wish_coded st k m h = by_reason h.reason
    where
      by_reason : (h.act ≡ Takes k m) ⊎ ((m ≡ RangeIN) × ((new : Key) × (mode : Mode) × (h.act ≡ Puts new k mode))) → IsCoded k
      by_reason (inl e) = taken_coded st k m (subst (λ (a : Act). IsAct w z s st a) e h.is_act)
      by_reason (inr (e, (new, mode, p))) = next_coded st new k mode (subst (λ (a : Act). IsAct w z s st a) p h.is_act)

  -- the sessions that the lock table gives
  pub in_the_way : (k : Key) (m : Mode) → IsWish v s k m → (found : List ℕ) → AreSessions found → ((n : ℕ) → has_session found n ≡ locks.blocks key_cmp grants s k m n) → AreInTheWay v s k m found
  in_the_way k m wish found are has = λ xs run.
      let mine = wish ok.events ok.run in
      conflict_is w ok.staged ok.events ok.run.legal table index grants ok.ties s k (wish_coded mine.0 k m mine.2) m found are has
      ∙ ap (λ (y : State). conflict y.of s k m) (runs_alike v ok.staged ok.events xs ok.run run).state

  -- ---- its wait
  module _ (session : IsSession s) where
    pub waits_are : (b : List ℕ) → b ≡ blockers_of standing s → (xs : List Event) → IsRunOf xs v → waits xs s ≡ b
    waits_are b e xs run = ap (λ (f : ℕ → List ℕ). f s) (sym (runs_alike v ok.staged ok.events xs ok.run run).waits) ∙ (sym (ok.waits_are s session) ∙ sym e)

    module _ (b : List ℕ) (are : b ≡ blockers_of standing s) where
      pub waits_for_none : b ≡ [] → WaitsForNone v s
      waits_for_none none = λ xs run. waits_are b are xs run ∙ none

      pub not_standing : b ≡ [] → ((xs : List Event) → IsRunOf xs v → waits xs s ≢ []) → ⊥
      not_standing none stands = stands ok.events ok.run (waits_for_none none ok.events ok.run)

      module _ (some : b ≢ []) where
        is_waiting : waits ok.events s ≢ []
        is_waiting e = some (sym (waits_are b are ok.events ok.run) ∙ e)

        pub open_there : is_open_in v s ≡ true
        open_there = ap is_open_at (ok.run.shows.seats s session) ∙ by_case (waits_open w ok.events ok.run.legal s)
          where
            by_case : WaitsOpen w ok.events s → is_open_at (seated (z.of s)) ≡ true
            by_case (inl e) = absurd (is_waiting e)
            by_case (inr h) = open_seated (z.of s) h.1.0 h.0 h.1.1

        module _ (i : ℕ) (within : i < length seats) (mine : i + 1 ≡ s) (d : Seat) (there : d ≡ get_or seats i d) where
          wish_is : d.wish ≡ last_wish ok.events s
          wish_is = (own_seat w ok.events table index grants seats s i within mine d there ok.kept).wish

          pub has_wish_there : IsSome d.wish
          has_wish_there = subst IsSome (sym wish_is) (has_wish ok.events s is_waiting)

          pub stands_there : (k : Key) (m : Mode) → d.wish ≡ Some (k, m) → Stands v s k m b
          stands_there k m e = record {
            some = some;
            wish = λ xs run. by_plains w xs ok.events (runs_alike v ok.staged xs ok.events run ok.run).labels (λ ys. last_wish ys s) (wish_plain s) ∙ (sym wish_is ∙ e);
            waits = waits_are b are;
          }
