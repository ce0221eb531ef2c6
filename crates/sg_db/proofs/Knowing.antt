-- What a caller knows under the lock.
use Rattle.std.proofs.Common.{◌≡◌, ◌≢◌, ℕ, suc, Bool, true, false, cond, ◌⊎◌, List, [], ◌∷◌, ◌++◌, eqb, Option, Some, None, is_some, refl, sym, ap, ◌∙◌, subst, inl, inr, append_assoc}
use Rattle.sg_trace.specs.declared.labels.Cause.TheVariants.{NoMemory, Asked}
use Rattle.sg_trace.specs.Traces.{Event, Local}
use Rattle.sg_trace.specs.Legal.{IsSettled}
use Rattle.sg_engine.specs.Shown.{Seated, seat_in, seated, running_of, IsIdle, IsBetween, HasNoneOpen, open_of, is_open_in, is_live_in}
use Rattle.sg_engine.specs.Ends.{MayRollBack}
use Rattle.sg_history.specs.Histories.{own, IsHistory}
use Rattle.sg_history.specs.Views.{Known}
use Rattle.sg_history.specs.Writes.{HasWritten}
use Rattle.sg_history.specs.Staying.{local}
use Rattle.sg_history.proofs.Staying.{own_append, none_own}
use Rattle.sg_db.specs.Locks.{LockedShown, HasDone}
use Rattle.sg_db.specs.Callers.{IsCaller, Goes, KnowsAll}
use Rattle.sg_db.specs.Executions.{IsAsking, IsLiveClosed}

-- ---- more on top of more
pub goes_none : (s : ℕ) (v : Known) → IsCaller s v → IsSettled v.seen → Goes s [] v v
goes_none s v c settled = record { caller = c; settled = settled; stage = refl; seen = refl; mine = refl }

pub goes_on : (s : ℕ) (xs ys : List Event) (u v w : Known) → Goes s xs u v → Goes s ys v w → Goes s (ys ++ xs) u w
goes_on s xs ys u v w p q = record {
  caller = q.caller;
  settled = q.settled;
  stage = q.stage ∙ p.stage;
  seen = q.seen ∙ (ap (λ l. ys ++ l) p.seen ∙ sym (append_assoc ys xs u.seen));
  mine = q.mine ∙ (ap (λ l. own s ys ++ l) p.mine ∙ (sym (append_assoc (own s ys) (own s xs) u.mine) ∙ ap (λ l. l ++ u.mine) (sym (own_append s ys xs))));
}

-- ---- a call under the lock
-- the same seat, with what was written
written_caller : (s : ℕ) (es history : List Event) (v w : Known) → IsCaller s v → HasWritten es history v w → IsCaller s w
written_caller s es history v w c h =
    let session : w.session ≡ v.session = ap (λ (u : Known). u.session) h.same in
    let mine : w.mine ≡ own v.session es ++ own v.session history = ap (λ (u : Known). u.mine) h.same ∙ ap (λ l. own v.session es ++ l) h.mine in
    record {
      seat = record { session = session ∙ c.seat.session; caller = c.seat.caller; penless = ap (λ (u : Known). u.pen) h.same ∙ c.seat.penless };
      kept = ap (λ (u : Known). u.kept) h.same;
      history = subst (λ (u : Known). IsHistory u.stage u.seen) (sym h.same) h.legal;
      mine = mine ∙ (sym (own_append v.session es history) ∙ (ap (λ n. own n (es ++ history)) c.seat.session ∙ ap (λ (u : Known). own s u.seen) (sym h.same)));
    }

pub knows_all : (s : ℕ) (es : List Event) (old new : LockedShown) (v w : Known) → IsCaller s v → HasDone es old new v w → KnowsAll s new w
knows_all s es old new v w c d = record {
  caller = written_caller s es old.history v w c d.written;
  seen = ap (λ (u : Known). u.seen) d.written.same ∙ sym d.history;
  stage = ap (λ (u : Known). u.stage) d.written.same ∙ (d.stage ∙ sym d.opened);
  run = d.now;
}

-- what is known under the lock is settled
pub all_settled : (s : ℕ) (lock : LockedShown) (v : Known) → KnowsAll s lock v → IsSettled v.seen
all_settled s lock v k = subst IsSettled (sym k.seen) k.run.settled

-- what others did meanwhile, and then these events
pub record Between (s : ℕ) (es : List Event) (v w : Known) : Type 0 where
  pub others : List Event
  pub none : own s others ≡ []
  pub goes : Goes s (es ++ others) v w

pub done_goes : (s : ℕ) (es : List Event) (old new : LockedShown) (v w : Known) → IsCaller s v → HasDone es old new v w → Between s es v w
done_goes s es old new v w c d =
    let others = d.written.seen.0 in
    let is : old.history ≡ others ++ v.seen = d.written.seen.1 in
    let none : own s others ≡ [] = none_own s others v.seen (ap (own s) (sym is) ∙ (ap (λ n. own n old.history) (sym c.seat.session) ∙ (sym d.written.mine ∙ c.mine))) in
    record {
      others = others;
      none = none;
      goes = record {
        caller = written_caller s es old.history v w c d.written;
        settled = all_settled s new w (knows_all s es old new v w c d);
        stage = ap (λ (u : Known). u.stage) d.written.same;
        seen = ap (λ (u : Known). u.seen) d.written.same ∙ (ap (λ l. es ++ l) is ∙ sym (append_assoc es others v.seen));
        mine = ap (λ (u : Known). u.mine) d.written.same ∙ ap (λ l. l ++ v.mine) (ap (λ n. own n es) c.seat.session ∙ sym (own_append s es others ∙ (ap (λ l. own s es ++ l) none ∙ Rattle.std.proofs.Common.append-nil (own s es))));
      };
    }

-- where the caller knew all, just these events came
pub known_goes : (s : ℕ) (es : List Event) (old new : LockedShown) (v w : Known) → KnowsAll s old v → HasDone es old new v w → Goes s es v w
known_goes s es old new v w k d = record {
  caller = written_caller s es old.history v w k.caller d.written;
  settled = all_settled s new w (knows_all s es old new v w k.caller d);
  stage = ap (λ (u : Known). u.stage) d.written.same;
  seen = ap (λ (u : Known). u.seen) d.written.same ∙ ap (λ l. es ++ l) (sym k.seen);
  mine = ap (λ (u : Known). u.mine) d.written.same ∙ ap (λ n. own n es ++ v.mine) k.caller.seat.session;
}

-- ---- what the engine shows of the session
pub seat_is : (s : ℕ) (lock : LockedShown) (v : Known) → KnowsAll s lock v → seat_in lock.engine.seats s ≡ seated (local v.stage v.seen s)
seat_is s lock v k = k.run.shows.seats s k.caller.seat.caller ∙ ((λ i. seated (local (sym k.stage i) (sym k.seen i) s)))

live_seated : (x : Local) → is_some (seated x).running ≡ x.live
live_seated x = by_test x.live
  where
    by_test : (b : Bool) → is_some (cond b (Some (running_of x)) None) ≡ b
    by_test true = refl
    by_test false = refl

pub live_is : (s : ℕ) (lock : LockedShown) (v : Known) → KnowsAll s lock v → is_live_in lock.engine s ≡ (local v.stage v.seen s).live
live_is s lock v k = ap (λ (x : Seated). is_some x.running) (seat_is s lock v k) ∙ live_seated (local v.stage v.seen s)

pub is_idle : (s : ℕ) (lock : LockedShown) (v : Known) → KnowsAll s lock v → (local v.stage v.seen s).live ≡ false → IsIdle lock.engine s
is_idle s lock v k dead = ap (λ (x : Seated). x.running) (seat_is s lock v k) ∙ ap (λ b. cond b (Some (running_of (local v.stage v.seen s))) None) dead

pub is_between : (s : ℕ) (lock : LockedShown) (v : Known) → KnowsAll s lock v → IsLiveClosed (local v.stage v.seen s) → IsBetween lock.engine s
is_between s lock v k c = subst (λ (x : Seated). HasNoneOpen x.running) (sym (seat_is s lock v k)) (subst (λ b. HasNoneOpen (cond b (Some (running_of (local v.stage v.seen s))) None)) (sym c.live) c.closed)

pub is_open : (s : ℕ) (lock : LockedShown) (v : Known) → KnowsAll s lock v → IsAsking (local v.stage v.seen s) → is_open_in lock.engine s ≡ true
is_open s lock v k a =
    ap (λ (x : Seated). is_some (open_of x.running)) (seat_is s lock v k)
    ∙ (ap (λ b. is_some (open_of (cond b (Some (running_of (local v.stage v.seen s))) None))) a.live ∙ ap is_some a.open_one)

pub may_give_up : (s : ℕ) (lock : LockedShown) (v : Known) → KnowsAll s lock v → (local v.stage v.seen s).live ≡ true → MayRollBack lock.engine s NoMemory
may_give_up s lock v k live = live_is s lock v k ∙ live

pub may_roll_back : (s : ℕ) (lock : LockedShown) (v : Known) → KnowsAll s lock v → IsLiveClosed (local v.stage v.seen s) → MayRollBack lock.engine s Asked
may_roll_back s lock v k c = is_between s lock v k c
