-- A session that can turn has an event that fits.
use Rattle.std.proofs.Common.{◌≡◌, ℕ, zero, suc, ◌<◌, Bool, true, false, ◌||◌, List, [], ◌∷◌, length, Option, Some, None, refl, sym, subst, inl, inr, arith}
use Rattle.std.specs.Prelude.{pred, is_some, slice_get, slice_index_or, All, IfSome}
use Rattle.std.proofs.lemmas.Bool.{and_parts}
use Rattle.sg_modes.specs.declared.modes.Mode.TheVariants.{RangeIN}
use Rattle.sg_modes.specs.Sessions.{IsSession}
use Rattle.sg_plain.specs.declared.statements.Statement.{Statement}
use Rattle.sg_plain.specs.declared.transactions.End.{End}
use Rattle.sg_plain.specs.declared.transactions.End.TheVariants as finish
use Rattle.sg_plain.specs.Transactions.{TransactionPlan}
use Rattle.sg_plain.specs.Rows.{AreRows}
use Rattle.sg_plain.specs.Sat.{IsSoundStatement}
use Rattle.sg_trace.specs.declared.labels.Cause.TheVariants.{Asked}
use Rattle.sg_trace.specs.Keys.{next_key}
use Rattle.sg_trace.specs.Needs.{Need, Lock, New, first_unmet, put_mode}
use Rattle.sg_trace.specs.Traces.{Local, State, Stage, Event, Begin, Ask, Take, Put, Wait, Answered, Commit, Rollback, state, view, present_keys}
use Rattle.sg_trace.specs.Legal.{IsSettled, IsStage, Act, Takes, Puts, Replies, IsAct, IsActFor, needs_of, conflict, IsLegal, IsOpen, IsBetween, waits, commits}
use Rattle.sg_trace.specs.Scripts.{Script, IsSoundScript, transactions_of, statements_in, end_in, current, upcoming, IsTurn}
use Rattle.sg_trace.specs.Driven.{is_nil, can_turn}
use Rattle.sg_laws.proofs.Lists.{AreRows-effects}
use Rattle.sg_laws.proofs.Kept.{legal_good}
use Rattle.sg_turns.proofs.Cycles.{some_free}
use Rattle.sg_turns.proofs.Driven.{waits_open, free_unless_live}
use Rattle.sg_serial.proofs.Told.{live_session}
use Rattle.sg_turns.proofs.Answers.{reply, selected}
use Rattle.sg_turns.proofs.Unique.{fits_next, next_same, Next}

-- ---- acts
act_for : (w : Stage) (z : State) (s : ℕ) (st : Statement) → IsSoundStatement st → AreRows (view z s) → (o : Option Need) → (a : Act) × IsActFor w z s st o a
act_for w z s st h r None = let i = reply w.settings (view z s) r st h in (Replies i.0, i.1)
act_for w z s st h r (Some (Lock k m)) = (Takes k m, refl)
act_for w z s st h r (Some (New k)) = (Puts k (next_key (present_keys w z) k) (put_mode (z.of s).held (next_key (present_keys w z) k)), refl)

pub act : (w : Stage) (z : State) (s : ℕ) (st : Statement) → IsSoundStatement st → AreRows (view z s) → (a : Act) × IsAct w z s st a
act w z s st h r =
    let js = selected (view z s) r st h in
    let a = act_for w z s st h r (first_unmet (z.of s).held (needs_of w z s st js.0)) in
    (a.0, record { selected = js.0; selects = js.1; follows = a.1 })

-- ---- events
abbrev Fitting : Script → Stage → List Event → ℕ → Type 0
Fitting p w ls s = (e : Event) × IsTurn p w ls s e

open_fits : (p : Script) (w : Stage) (ls : List Event) (s : ℕ) (st : Statement) → IsOpen w ls s st → (a : Act) → IsAct w (state w ls) s st a → Fitting p w ls s
open_fits p w ls s st o (Takes k m) act = go (conflict (state w ls).of s k m) refl
  where
    go : (c : List ℕ) → conflict (state w ls).of s k m ≡ c → Fitting p w ls s
    go [] q = (Take s k m, record { own = refl; plain = refl; fits = (st, o, act, q); due = tt })
    go (b ∷ bs) q = (Wait s k m (b ∷ bs), record { own = refl; plain = refl; fits = (st, o, record { act = Takes k m; is_act = act; reason = inl refl }, sym q, λ r. absurd (cc)); due = tt })
open_fits p w ls s st o (Puts k n m) act = go (conflict (state w ls).of s n RangeIN) refl
  where
    go : (c : List ℕ) → conflict (state w ls).of s n RangeIN ≡ c → Fitting p w ls s
    go [] q = (Put s k m, record { own = refl; plain = refl; fits = (st, o, (n, act, q)); due = tt })
    go (b ∷ bs) q = (Wait s n RangeIN (b ∷ bs), record { own = refl; plain = refl; fits = (st, o, record { act = Puts k n m; is_act = act; reason = inr (refl, (k, m, refl)) }, sym q, λ r. absurd (cc)); due = tt })
open_fits p w ls s st o (Replies a) act = (Answered s a, record { own = refl; plain = refl; fits = (st, o, act); due = tt })

end_fits : (p : Script) (w : Stage) (ls : List Event) (s : ℕ) → IsBetween ((state w ls).of s) → upcoming p ((state w ls).of s) s ≡ None → (e : End) → end_in (current p ((state w ls).of s) s) ≡ e → Fitting p w ls s
end_fits p w ls s b u finish.Commit q = (Commit s (suc (commits ls)), record { own = refl; plain = refl; fits = (b, refl); due = (u, q) })
end_fits p w ls s b u finish.Rollback q = (Rollback s Asked, record { own = refl; plain = refl; fits = b; due = (u, q) })

all_get : {A : Type 0} (P : A → Type 0) (xs : List A) (i : ℕ) (x : A) → All P xs → slice_get xs i ≡ Some x → P x
all_get {A} P xs i x h e = let g = at xs i e in subst P g.1 (h i x g.0)
  where
    at : (ys : List A) (i : ℕ) → slice_get ys i ≡ Some x → (i < length ys) × (slice_index_or ys i x ≡ x)
    at [] i e = absurd (cc)
    at (y ∷ ys) zero e = (omega arith, cc)
    at (y ∷ ys) (suc i) e = let r = at ys i e in (omega (arith, r.0), r.1)

upcoming_sound : (p : Script) → IsSoundScript p → (x : Local) (s : ℕ) (st : Statement) → upcoming p x s ≡ Some st → IsSoundStatement st
upcoming_sound p h x s st e = go (current p x s) refl e
  where
    go : (o : Option TransactionPlan) → current p x s ≡ o → slice_get (statements_in o) (length x.done) ≡ Some st → IsSoundStatement st
    go None q e = absurd (cc)
    go (Some t) q e = all_get IsSoundStatement t.statements (length x.done) st (h s (pred x.begun) t q) e

is_nil_of : (xs : List ℕ) → is_nil xs ≡ true → xs ≡ []
is_nil_of [] e = refl
is_nil_of (x ∷ xs) e = absurd (cc)

some_of : {A : Type 0} (o : Option A) → is_some o ≡ true → (x : A) × (o ≡ Some x)
some_of None e = absurd (cc)
some_of (Some x) e = (x, refl)

pub turn_fits : (p : Script) (w : Stage) (ls : List Event) → IsStage w → IsSoundScript p → IsLegal w ls → (s : ℕ) → IsSession s → can_turn p w ls s ≡ true → Fitting p w ls s
turn_fits p w ls r sound l s number can =
    let c = and_parts (is_nil (waits ls s)) (x.live || is_some (slice_get (transactions_of p s) x.begun)) can in
    go x.live refl (is_nil_of (waits ls s) c.0) c.1
  where
    x : Local
    x = (state w ls).of s

    open_or : x.live ≡ true → waits ls s ≡ [] → (o : Option Statement) → x.open_one ≡ o → Fitting p w ls s
    open_or live free (Some st) e =
        let g = legal_good w r ls l in
        let h : IsSoundStatement st = subst (λ (o : Option Statement). IfSome o IsSoundStatement) e (g.sound.statements s).open_one in
        let a = act w (state w ls) s st h (AreRows-effects ((state w ls).of s).done (state w ls).rows (g.sound.statements s).done g.sound.rows) in
        open_fits p w ls s st (record { live = live; open_one = e; no_wait = free }) a.0 a.1
    open_or live free None e = next (upcoming p x s) refl
      where
        next : (o : Option Statement) → upcoming p x s ≡ o → Fitting p w ls s
        next (Some st) q = (Ask s (suc (length x.done)) st, record { own = refl; plain = refl; fits = (record { live = live; none_open = e }, upcoming_sound p sound x s st q, refl); due = q })
        next None q = end_fits p w ls s (record { live = live; none_open = e }) q (end_in (current p x s)) refl

    go : (b : Bool) → x.live ≡ b → waits ls s ≡ [] → (b || is_some (slice_get (transactions_of p s) x.begun)) ≡ true → Fitting p w ls s
    go true e free h = open_or e free x.open_one refl
    go false e free h = let t = some_of (slice_get (transactions_of p s) x.begun) h in (Begin s (suc x.begun), record { own = refl; plain = refl; fits = (number, e, refl); due = (t.0, t.1) })

pub turns_are_one : (p : Script) (w : Stage) (ls : List Event) (s : ℕ) (e d : Event) → IsTurn p w ls s e → IsTurn p w ls s d → e ≡ d
turns_are_one p w ls s e d x y =
    let a : Next p w ls s e = subst (λ u. Next p w ls u e) x.own (fits_next p w ls e x.fits x.due x.plain) in
    let b : Next p w ls s d = subst (λ u. Next p w ls u d) y.own (fits_next p w ls d y.fits y.due y.plain) in
    next_same p w ls s e d a b

can_of : (p : Script) (w : Stage) (ls : List Event) (s : ℕ) → waits ls s ≡ [] → (((state w ls).of s).live || is_some (slice_get (transactions_of p s) ((state w ls).of s).begun)) ≡ true → can_turn p w ls s ≡ true
can_of p w ls s free more = rw (free, more) refl

pub someone_can : (p : Script) (w : Stage) (ls : List Event) → IsStage w → IsLegal w ls → IsSettled ls → (s : ℕ) → IsSession s → (((state w ls).of s).live || is_some (slice_get (transactions_of p s) ((state w ls).of s).begun)) ≡ true
    → (y : ℕ) × IsSession y × (can_turn p w ls y ≡ true)
someone_can p w ls r l st s n more = go ((state w ls).of s).live refl
  where
    left : (y : ℕ) → ((state w ls).of y).live ≡ true → (((state w ls).of y).live || is_some (slice_get (transactions_of p y) ((state w ls).of y).begun)) ≡ true
    left y live = rw live refl

    go : (b : Bool) → ((state w ls).of s).live ≡ b → (y : ℕ) × IsSession y × (can_turn p w ls y ≡ true)
    go true e = let f = some_free w r ls l st s e in (f.0, live_session w ls l f.0 f.1, can_of p w ls f.0 f.2 (left f.0 f.1))
    go false e = (s, n, can_of p w ls s (free_unless_live w ls s (waits_open w ls l s) e) more)
