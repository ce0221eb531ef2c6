-- Calls under the lock, put together.
use Rattle.std.proofs.Common.{◌≡◌, ℕ, suc, true, false, cond, List, [], ◌∷◌, ◌++◌, Some, Result, Ok, Err, OnOk, OnErr, refl, sym, ap, ◌∙◌, subst, inl, inr, ⊎_elim, append-nil}
use Rattle.sg_cells.specs.Laws.{Has}
use Rattle.sg_plain.specs.declared.statements.Statement.{Statement}
use Rattle.sg_trace.specs.declared.labels.Cause.TheVariants.{NoMemory}
use Rattle.sg_trace.specs.Traces.{Stage, Event, Begin, Ask, Victim, Rollback, Local, idle}
use Rattle.sg_trace.specs.Legal.{IsLegal}
use Rattle.sg_engine.specs.Shown.{seat_in}
use Rattle.sg_history.specs.Histories.{own}
use Rattle.sg_history.specs.Views.{Known}
use Rattle.sg_history.specs.Staying.{local, IsClosed}
use Rattle.sg_history.proofs.Staying.{own_append, closed_stays}
use Rattle.sg_db.specs.Locks.{LockedShown, HasDone}
use Rattle.sg_db.specs.Callers.{IsCaller, Goes, KnowsAll}
use Rattle.sg_db.specs.Executions.{IsOver, NoVictim, EndsNone, begins_for}
use Rattle.sg_db.specs.Ends.{Begun, NotBegun, Started, RanOut}
use Rattle.sg_db.proofs.Knowing.{goes_none, all_settled, goes_on, knows_all, known_goes, done_goes, seat_is}
use Rattle.sg_db.proofs.Parts.{own_here, local_here, none_append, begins_end}

-- a session that has a transaction needs none
pub live_already : (s : ℕ) (lock : LockedShown) (v : Known) → KnowsAll s lock v → (local v.stage v.seen s).live ≡ true → IsClosed (local v.stage v.seen s) → Begun s lock v v
live_already s lock v k live closed = record {
  knows = k;
  more = [];
  goes = goes_none s v k.caller (all_settled s lock v k);
  now = record {
    own = ap (λ b. cond b [] (Begin s (suc (local v.stage v.seen s).begun) ∷ [])) (sym live);
    none = λ c has. has;
    live = record { live = live; closed = closed };
  };
}

pub begun_now : (s n : ℕ) (old new : LockedShown) (v w : Known) → KnowsAll s old v → (local v.stage v.seen s).live ≡ false → n ≡ (local v.stage v.seen s).begun → HasDone (Begin s (suc n) ∷ []) old new v w → Begun s new v w
begun_now s n old new v w k dead count d =
    let e = Begin s (suc n) in
    let after : local v.stage (e ∷ v.seen) s ≡ record (idle (suc (local v.stage v.seen s).begun)) { live = true } = local_here v.stage s e v.seen refl in
    record {
      knows = knows_all s (e ∷ []) old new v w k.caller d;
      more = e ∷ [];
      goes = known_goes s (e ∷ []) old new v w k d;
      now = record {
        own = own_here s e [] refl refl ∙ (ap (λ m. Begin s (suc m) ∷ []) count ∙ ap (λ b. cond b [] (Begin s (suc (local v.stage v.seen s).begun) ∷ [])) (sym dead));
        none = λ c has. ⊎_elim (λ (q : e ≡ Victim s c). absurd (cc q)) (λ (x : ⊥). x) has;
        live = record { live = ap (λ (x : Local). x.live) after; closed = ap (λ (x : Local). x.open_one) after };
      };
    }

-- how many transactions the engine shows that the session began
pub begun_is : (s : ℕ) (lock : LockedShown) (v : Known) → KnowsAll s lock v → (seat_in lock.engine.seats s).begun ≡ (local v.stage v.seen s).begun
begun_is s lock v k = ap (λ x. x.begun) (seat_is s lock v k)

pub on_ok : {A E : Type 0} {P Q : Type 0} (r : Result A E) → (P → Q) → OnOk r P → OnOk r Q
on_ok (Ok x) f h = f h
on_ok (Err e) f h = h

pub on_err : {A E : Type 0} {P Q : Type 0} (r : Result A E) → (P → Q) → OnErr r P → OnErr r Q
on_err (Ok x) f h = h
on_err (Err e) f h = f h

-- ---- the start of a statement
-- others did this meanwhile, and what they leave of a session that has nothing open
pub looked_on : (s : ℕ) (old new : LockedShown) (v w : Known) → IsCaller s v → IsClosed (local v.stage v.seen s) → HasDone [] old new v w
    → (more : List Event) × Goes s more v w × (own s more ≡ []) × (local v.stage (more ++ v.seen) s ≡ local v.stage v.seen s) × NoVictim s more
looked_on s old new v w c closed d =
    let b = done_goes s [] old new v w c d in
    let legal : IsLegal v.stage (b.others ++ v.seen) = subst (IsLegal v.stage) b.goes.seen (subst (λ (x : Stage). IsLegal x w.seen) b.goes.stage b.goes.caller.history.legal) in
    let stays = closed_stays v.stage s b.others v.seen legal b.none closed in
    (b.others, b.goes, b.none, stays.0, stays.1)

-- the same in its new view
pub same_local : (s : ℕ) (more : List Event) (v w : Known) → Goes s more v w → local w.stage w.seen s ≡ local v.stage (more ++ v.seen) s
same_local s more v w g = λ i. local (g.stage i) (g.seen i) s

pub asked_now : (s n : ℕ) (st : Statement) (l0 l1 l2 l3 : LockedShown) (t u v w : Known) → IsCaller s t → IsClosed (local t.stage t.seen s) → HasDone [] l0 l1 t u → Begun s l2 u v → HasDone (Ask s n st ∷ []) l2 l3 v w → Started s st t w
asked_now s n st l0 l1 l2 l3 t u v w c closed look b d =
    let e = Ask s n st in
    let a = looked_on s l0 l1 t u c closed look in
    let first = goes_on s a.0 b.more t u v a.1 b.goes in
    let last = known_goes s (e ∷ []) l2 l3 v w b.knows d in
    let all = goes_on s (b.more ++ a.0) (e ∷ []) t v w first last in
    let at : local t.stage ((b.more ++ a.0) ++ t.seen) s ≡ local u.stage (b.more ++ u.seen) s = sym (same_local s (b.more ++ a.0) t v first) ∙ same_local s b.more u v b.goes in
    let was : local u.stage u.seen s ≡ local t.stage t.seen s = same_local s a.0 t u a.1 ∙ a.3 in
    let after : local t.stage (e ∷ ((b.more ++ a.0) ++ t.seen)) s ≡ record (local t.stage ((b.more ++ a.0) ++ t.seen) s) { open_one = Some st } = local_here t.stage s e ((b.more ++ a.0) ++ t.seen) refl in
    record {
      more = e ∷ (b.more ++ a.0);
      goes = all;
      now = record {
        number = n;
        steps = [];
        own = own_here s e (b.more ++ a.0) refl refl ∙ ap (λ l. e ∷ l) (own_append s b.more a.0 ∙ (ap (λ l. own s b.more ++ l) a.2 ∙ (append-nil (own s b.more) ∙ (b.now.own ∙ ap (begins_for s) was))));
        are_steps = tt;
        none = λ x has. ⊎_elim (λ (q : e ≡ Victim s x). absurd (cc q)) (λ (h : Has (b.more ++ a.0) (Victim s x)). none_append s b.more a.0 b.now.none a.4 x h) has;
        asking = record {
          live = ap (λ (x : Local). x.live) after ∙ (ap (λ (x : Local). x.live) at ∙ b.now.live.live);
          statement = st;
          open_one = ap (λ (x : Local). x.open_one) after;
        };
      };
    }

-- nothing was begun, for want of memory
pub not_begun : (s : ℕ) (l0 l1 : LockedShown) (t u v : Known) → IsCaller s t → IsClosed (local t.stage t.seen s) → HasDone [] l0 l1 t u → NotBegun s u v → RanOut s t v
not_begun s l0 l1 t u v c closed look n =
    let a = looked_on s l0 l1 t u c closed look in
    let was : local u.stage u.seen s ≡ local t.stage t.seen s = same_local s a.0 t u a.1 ∙ a.3 in
    let dead : (local t.stage t.seen s).live ≡ false = ap (λ (x : Local). x.live) (sym was) ∙ n.idle in
    record {
      more = a.0;
      goes = subst (λ (x : Known). Goes s a.0 t x) (sym n.same) a.1;
      now = record {
        last = inl (dead, a.2);
        none = a.4;
        ends = subst EndsNone (sym a.2) tt;
        over = record { live = ap (λ (x : Local). x.live) a.3 ∙ dead; closed = ap (λ (x : Local). x.open_one) a.3 ∙ closed };
      };
    }

over_now : (w : Stage) (s : ℕ) (es : List Event) → IsOver (local w (Rollback s NoMemory ∷ es) s)
over_now w s es =
    let at = local_here w s (Rollback s NoMemory) es refl in
    record { live = ap (λ (x : Local). x.live) at; closed = ap (λ (x : Local). x.open_one) at }

-- the transaction is given up, on top of this
pub gave_up : (s : ℕ) (more : List Event) (t v w : Known) → Goes s more t v → NoVictim s more → EndsNone (own s more) → Goes s (Rollback s NoMemory ∷ []) v w → RanOut s t w
gave_up s more t v w g none ends r =
    let e = Rollback s NoMemory in
    let here = own_here s e more refl refl in
    record {
      more = e ∷ more;
      goes = goes_on s more (e ∷ []) t v w g r;
      now = record {
        last = inr (own s more, here);
        none = λ x has. ⊎_elim (λ (q : e ≡ Victim s x). absurd (cc q)) (λ (h : Has more (Victim s x)). none x h) has;
        ends = subst EndsNone (sym here) (refl, ends);
        over = over_now t.stage s (more ++ t.seen);
      };
    }

-- the statement couldn't be asked for
pub not_asked : (s : ℕ) (l0 l1 l2 : LockedShown) (t u v x w : Known) → IsCaller s t → IsClosed (local t.stage t.seen s) → HasDone [] l0 l1 t u → Begun s l2 u v → x ≡ v → Goes s (Rollback s NoMemory ∷ []) x w → RanOut s t w
not_asked s l0 l1 l2 t u v x w c closed look b same r =
    let a = looked_on s l0 l1 t u c closed look in
    gave_up s (b.more ++ a.0) t v w (goes_on s a.0 b.more t u v a.1 b.goes) (none_append s b.more a.0 b.now.none a.4)
    (subst EndsNone (sym (own_append s b.more a.0 ∙ (ap (λ l. own s b.more ++ l) a.2 ∙ (append-nil (own s b.more) ∙ b.now.own)))) (begins_end s (local u.stage u.seen s)))
    (subst (λ (y : Known). Goes s (Rollback s NoMemory ∷ []) y w) same r)

pub err_any : {A E : Type 0} {P : Type 0} (r : Result A E) → P → OnErr r P
err_any (Ok x) p = tt
err_any (Err e) p = p
