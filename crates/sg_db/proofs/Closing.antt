-- The end of a transaction that its caller asks for.
use Rattle.std.proofs.Common.{◌≡◌, ℕ, Bool, true, false, List, [], ◌∷◌, ◌++◌, refl, sym, ap, ◌∙◌, subst}
use Rattle.sg_trace.specs.declared.labels.Cause.TheVariants.{Asked}
use Rattle.sg_trace.specs.Traces.{Stage, Event, Commit, Rollback, Local, state, session_of}
use Rattle.sg_trace.specs.Legal.{IsSettled, journal, entry_of}
use Rattle.sg_trace.specs.Replies.{SerialIn}
use Rattle.sg_trace.specs.Scripts.{is_victim}
use Rattle.sg_serial.proofs.Serials.{serial_in}
use Rattle.sg_history.specs.Histories.{own, IsHistory}
use Rattle.sg_history.specs.Views.{Known}
use Rattle.sg_history.specs.Openings.{Held}
use Rattle.sg_history.specs.Staying.{local, made}
use Rattle.sg_history.proofs.Making.{made_is}
use Rattle.sg_db.specs.Locks.{LockedShown, HasDone}
use Rattle.sg_db.specs.Callers.{FrontShown, IsCaller, IsSeat, seat_shown}
use Rattle.sg_db.specs.Executions.{IsLiveClosed, IsOver}
use Rattle.sg_db.specs.Ends.{Closed}
use Rattle.sg_db.specs.Theorem.{HasCommitted, HasRolledBack, front_of}
use Rattle.sg_db.proofs.Knowing.{goes_on, knows_all, known_goes}
use Rattle.sg_db.proofs.Parts.{own_here, local_here}
use Rattle.sg_db.proofs.Under.{looked_on, same_local}
use Rattle.sg_db.proofs.Calling.{has_seen, seat_over}

-- ---- under the lock
-- after the look the transaction is live, and nothing is open in it
pub live_still : (s : ℕ) (old new : LockedShown) (v w : Known) → IsCaller s v → IsLiveClosed (local v.stage v.seen s) → HasDone [] old new v w → IsLiveClosed (local w.stage w.seen s)
live_still s old new v w c live d =
    let a = looked_on s old new v w c live.closed d in
    subst IsLiveClosed (sym (same_local s a.0 v w a.1 ∙ a.3)) live

pub closed_now : (s : ℕ) (e : Event) (l0 l1 l2 : LockedShown) (t u v : Known) → IsCaller s t → IsLiveClosed (local t.stage t.seen s) → HasDone [] l0 l1 t u → HasDone (e ∷ []) l1 l2 u v → Closed s e t v
closed_now s e l0 l1 l2 t u v c live look d =
    let a = looked_on s l0 l1 t u c live.closed look in
    record {
      others = a.0;
      none = a.2;
      same = a.3;
      goes = goes_on s a.0 (e ∷ []) t u v a.1 (known_goes s (e ∷ []) l1 l2 u v (knows_all s [] l0 l1 t u c look) d);
    }

-- ---- the calls
-- between calls a seat that is live has nothing open
pub seat_between : (s : ℕ) (flag : Bool) (v : Known) → IsSeat s flag v → (local v.stage v.seen s).live ≡ true → IsLiveClosed (local v.stage v.seen s)
seat_between s flag v seat live = record { live = live; closed = seat.closed }

own_closed : (s : ℕ) (e : Event) (v w : Known) → session_of e ≡ s → is_victim e ≡ false → (h : Closed s e v w) → own s (e ∷ h.others) ≡ e ∷ []
own_closed s e v w q n h = own_here s e h.others q n ∙ ap (λ l. e ∷ l) h.none

over_commit : (w : Stage) (s p : ℕ) (es : List Event) → IsOver (local w (Commit s p ∷ es) s)
over_commit w s p es =
    let at = local_here w s (Commit s p) es refl in
    record { live = ap (λ (x : Local). x.live) at; closed = ap (λ (x : Local). x.open_one) at }

over_rollback : (w : Stage) (s : ℕ) (es : List Event) → IsOver (local w (Rollback s Asked ∷ es) s)
over_rollback w s es =
    let at = local_here w s (Rollback s Asked) es refl in
    record { live = ap (λ (x : Local). x.live) at; closed = ap (λ (x : Local). x.open_one) at }

pub seat_committed : (s p : ℕ) (v w : Known) → Closed s (Commit s p) v w → IsSeat s false w
seat_committed s p v w h = seat_over s (Commit s p ∷ h.others) v w h.goes (over_commit v.stage s p (h.others ++ v.seen))

pub seat_rolled_back : (s : ℕ) (v w : Known) → Closed s (Rollback s Asked) v w → IsSeat s false w
seat_rolled_back s v w h = seat_over s (Rollback s Asked ∷ h.others) v w h.goes (over_rollback v.stage s (h.others ++ v.seen))

module _ (s : ℕ) (flag : Bool) (old new : Held) (shown : FrontShown) (seat : IsSeat s flag old.known) (table : new.table ≡ old.table) (front : shown ≡ front_of (seat_shown s new)) where
  abbrev v : Known
  v = old.known

  abbrev w : Known
  w = new.known

  history_is : shown.history ≡ w.seen
  history_is = ap (λ (f : FrontShown). f.history) front

  stage_is : shown.stage ≡ w.stage
  stage_is = ap (λ (f : FrontShown). f.stage) front

  serial_now : IsHistory w.stage w.seen → SerialIn shown.stage.settings shown.stage.opening (journal shown.stage shown.history) (state shown.stage shown.history).rows
  serial_now h = subst (λ (f : FrontShown). SerialIn f.stage.settings f.stage.opening (journal f.stage f.history) (state f.stage f.history).rows) (sym front) (serial_in w.stage h.stage w.seen h.legal)

  pub has_committed : (local v.stage v.seen s).live ≡ true → (x : (place : ℕ) × Closed s (Commit s place) v w) → HasCommitted (seat_shown s old) (seat_shown s new) shown
  has_committed live x =
      let h = x.1 in
      let e = Commit s x.0 in
      record {
        more = e ∷ h.others;
        seen = has_seen s (e ∷ h.others) old new h.goes table;
        place = x.0;
        before = h.others ++ v.seen;
        last = history_is ∙ h.goes.seen;
        front = front;
        own = own_closed s e v w refl refl h;
        entry = ap (entry_of s)
            ((λ i. local ((stage_is ∙ h.goes.stage) i) (h.others ++ v.seen) s)
            ∙ (h.same ∙ (sym (made_is v.stage s v.seen seat.caller.history.legal live) ∙ ap made (sym seat.caller.mine))));
        serial = serial_now h.goes.caller.history;
        settled = subst IsSettled (sym history_is) h.goes.settled;
        over = subst IsOver (sym (same_local s (e ∷ h.others) v w h.goes)) (over_commit v.stage s x.0 (h.others ++ v.seen));
      }

  pub has_rolled_back : Closed s (Rollback s Asked) v w → HasRolledBack (seat_shown s old) (seat_shown s new) shown
  has_rolled_back h =
      let e = Rollback s Asked in
      record {
        more = e ∷ h.others;
        seen = has_seen s (e ∷ h.others) old new h.goes table;
        before = h.others ++ v.seen;
        last = history_is ∙ h.goes.seen;
        front = front;
        own = own_closed s e v w refl refl h;
        settled = subst IsSettled (sym history_is) h.goes.settled;
        over = subst IsOver (sym (same_local s (e ∷ h.others) v w h.goes)) (over_rollback v.stage s (h.others ++ v.seen));
      }
