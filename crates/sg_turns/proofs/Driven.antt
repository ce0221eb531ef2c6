-- What turns leave is determined; a trace is what its own turns leave.
use Rattle.std.proofs.Common.{◌≡◌, ℕ, Bool, true, false, cond, ◌||◌, ◌⊎◌, List, [], ◌∷◌, ◌++◌, eqb, Some, None, refl, sym, ap, ◌∙◌, subst, inl, inr}
use Rattle.std.specs.Prelude.{slice_get}
use Rattle.std.proofs.lemmas.Bool.{eqb-true}
use Rattle.sg_modes.proofs.BoolLaws.{eqb-swap}
use Rattle.sg_modes.specs.Sessions.{has_session}
use Rattle.sg_plain.specs.declared.statements.Statement.{Statement}
use Rattle.sg_plain.specs.Transactions.{TransactionPlan}
use Rattle.sg_trace.specs.declared.labels.Cause.TheVariants.{Asked, NoMemory}
use Rattle.sg_trace.specs.Traces.{Local, Stage, Event, Begin, Ask, Take, Put, Wait, Victim, Answered, Commit, Rollback, session_of, state, after, idle, with_one}
use Rattle.sg_trace.specs.Legal.{IsLegal, Fits, IsSettled, waits, cleared}
use Rattle.sg_trace.specs.Scripts.{Script, IsDue, transactions_of, turns, is_plain, is_victim}
use Rattle.sg_trace.specs.Driven.{OnTop, can_turn, IsMove, IsDriven}
use Rattle.sg_turns.proofs.Unique.{empty, label, base, Run, run_below, same_base, Next, next_same, fits_next, turns_top, turns_label, settled_top}

moved_same : (p : Script) (w : Stage) (b : List Event) (s : ℕ) (x y : List Event) → Run p w x → Run p w y → IsMove p w b s x → IsMove p w b s y → x ≡ y
moved_same p w b s x y rx ry m n =
    let h = run_below p w m.event b x m.no_victim m.top rx in
    let k = run_below p w n.event b y n.no_victim n.top ry in
    let e1 : Next p w b s m.event = subst (λ u. Next p w b u m.event) m.own (fits_next p w b m.event h.2 h.3 h.4) in
    let e2 : Next p w b s n.event = subst (λ u. Next p w b u n.event) n.own (fits_next p w b n.event k.2 k.3 k.4) in
    let e : m.event ≡ n.event = next_same p w b s m.event n.event e1 e2 in
    same_base w (m.event ∷ b) x y rx.legal m.settled ry.legal n.settled m.top (subst (λ (l : Event). OnTop (l ∷ b) y) (sym e) n.top)

-- Two runs that the same turns drive are equal.
pub driven_same : (p : Script) (w : Stage) (ts : List ℕ) (x y : List Event) → Run p w x → Run p w y → IsDriven p w ts x → IsDriven p w ts y → x ≡ y
driven_same p w [] x y rx ry d k = d ∙ sym k
driven_same p w (s ∷ ts) x y rx ry (b, d, inl m) (c, k, inl n) =
    m.1 ∙ (driven_same p w ts b c (subst (Run p w) m.1 rx) (subst (Run p w) n.1 ry) d k ∙ sym n.1)
driven_same p w (s ∷ ts) x y rx ry (b, d, inl m) (c, k, inr n) =
    let e = driven_same p w ts b c (subst (Run p w) m.1 rx) (run_below p w n.event c y n.no_victim n.top ry).0 d k in
    let q = m.0 in
    let q' : can_turn p w b s ≡ true = ap (λ z. can_turn p w z s) e ∙ n.can in cc
driven_same p w (s ∷ ts) x y rx ry (b, d, inr m) (c, k, inl n) =
    let e = driven_same p w ts b c (run_below p w m.event b x m.no_victim m.top rx).0 (subst (Run p w) n.1 ry) d k in
    let q = n.0 in
    let q' : can_turn p w c s ≡ true = ap (λ z. can_turn p w z s) (sym e) ∙ m.can in cc
driven_same p w (s ∷ ts) x y rx ry (b, d, inr m) (c, k, inr n) =
    let e = driven_same p w ts b c (run_below p w m.event b x m.no_victim m.top rx).0 (run_below p w n.event c y n.no_victim n.top ry).0 d k in
    moved_same p w b s x y rx ry m (subst (λ z. IsMove p w z s y) (sym e) n)

-- a label that fits is one of a session that can turn, where the session does not wait
abbrev no_wait_of : List Event → Event → Type 0
no_wait_of b l = waits b (session_of l) ≡ []

can_live : (p : Script) (w : Stage) (b : List Event) (s : ℕ) → waits b s ≡ [] → ((state w b).of s).live ≡ true → can_turn p w b s ≡ true
can_live p w b s n l = rw (n, l) refl

can_begin : (p : Script) (w : Stage) (b : List Event) (s : ℕ) (x : TransactionPlan) → waits b s ≡ [] → slice_get (transactions_of p s) ((state w b).of s).begun ≡ Some x → can_turn p w b s ≡ true
can_begin p w b s x n e = rw (n, e) (go ((state w b).of s).live)
  where
    go : (c : Bool) → (c || true) ≡ true
    go true = refl
    go false = refl

pub can_fits : (p : Script) (w : Stage) (b : List Event) (l : Event) → Fits w b l → IsDue p (state w b) l → is_victim l ≡ false → no_wait_of b l → can_turn p w b (session_of l) ≡ true
can_fits p w b (Begin s t) f d q n = can_begin p w b s d.0 n d.1
can_fits p w b (Ask s i st) f d q n = can_live p w b s n f.0.live
can_fits p w b (Take s k m) f d q n = can_live p w b s n f.1.live
can_fits p w b (Put s k m) f d q n = can_live p w b s n f.1.live
can_fits p w b (Wait s k m c) f d q n = can_live p w b s n f.1.live
can_fits p w b (Victim s c) f d q n = cc
can_fits p w b (Answered s a) f d q n = can_live p w b s n f.1.live
can_fits p w b (Commit s i) f d q n = can_live p w b s n f.0.live
can_fits p w b (Rollback s Asked) f d q n = can_live p w b s n f.live
can_fits p w b (Rollback s NoMemory) f d q n = can_live p w b s n f

-- a session that waits is live and has an open statement
abbrev pub WaitsOpen : Stage → List Event → ℕ → Type 0
WaitsOpen w ls s = (waits ls s ≡ []) ⊎ ((((state w ls).of s).live ≡ true) × ((st : Statement) × (((state w ls).of s).open_one ≡ Some st)))

pub free_unless_live : (w : Stage) (ls : List Event) (s : ℕ) → WaitsOpen w ls s → ((state w ls).of s).live ≡ false → waits ls s ≡ []
free_unless_live w ls s (inl e) l = e
free_unless_live w ls s (inr h) l = let q = h.0 in cc

free_between : (w : Stage) (ls : List Event) (s : ℕ) → WaitsOpen w ls s → ((state w ls).of s).open_one ≡ None → waits ls s ≡ []
free_between w ls s (inl e) l = e
free_between w ls s (inr h) l = let q = h.1.1 in cc

-- the waits are as before, and those of the session u that the label changes are none
open_step : (w : Stage) (ls : List Event) (u : ℕ) (x : Local) (s : ℕ) → WaitsOpen w ls s → waits ls u ≡ []
    → (waits ls s ≡ []) ⊎ (((with_one (state w ls).of u x s).live ≡ true) × ((st : Statement) × ((with_one (state w ls).of u x s).open_one ≡ Some st)))
open_step w ls u x s h free = go (eqb u s) refl
  where
    go : (b : Bool) → eqb u s ≡ b → (waits ls s ≡ []) ⊎ (((cond b x ((state w ls).of s)).live ≡ true) × ((st : Statement) × ((cond b x ((state w ls).of s)).open_one ≡ Some st)))
    go true e = inl (subst (λ v. waits ls v ≡ []) (eqb-true u s e) free)
    go false e = h

end_step : (w : Stage) (ls : List Event) (u s : ℕ) → WaitsOpen w ls s
    → (cleared (waits ls) u s ≡ []) ⊎ (((with_one (state w ls).of u (idle ((state w ls).of u).begun) s).live ≡ true) × ((st : Statement) × ((with_one (state w ls).of u (idle ((state w ls).of u).begun) s).open_one ≡ Some st)))
end_step w ls u s h = go (eqb u s) h (has_session (waits ls s) u)
  where
    go : (b : Bool) → WaitsOpen w ls s → (c : Bool) → (cond (b || c) [] (waits ls s) ≡ []) ⊎ (((cond b (idle ((state w ls).of u).begun) ((state w ls).of s)).live ≡ true) × ((st : Statement) × ((cond b (idle ((state w ls).of u).begun) ((state w ls).of s)).open_one ≡ Some st)))
    go true h c = inl refl
    go false h true = inl refl
    go false h false = h

pub waits_open : (w : Stage) (ls : List Event) → IsLegal w ls → (s : ℕ) → WaitsOpen w ls s
waits_open w [] l s = inl refl
waits_open w (Begin u t ∷ ls) l s = open_step w ls u (after (Begin u t) ((state w ls).of u)) s (waits_open w ls l.0 s) (free_unless_live w ls u (waits_open w ls l.0 u) l.1.1)
waits_open w (Ask u n st ∷ ls) l s = open_step w ls u (after (Ask u n st) ((state w ls).of u)) s (waits_open w ls l.0 s) (free_between w ls u (waits_open w ls l.0 u) l.1.0.none_open)
waits_open w (Take u k m ∷ ls) l s = open_step w ls u (after (Take u k m) ((state w ls).of u)) s (waits_open w ls l.0 s) l.1.1.no_wait
waits_open w (Put u k m ∷ ls) l s = open_step w ls u (after (Put u k m) ((state w ls).of u)) s (waits_open w ls l.0 s) l.1.1.no_wait
waits_open w (Answered u a ∷ ls) l s = open_step w ls u (after (Answered u a) ((state w ls).of u)) s (waits_open w ls l.0 s) l.1.1.no_wait
waits_open w (Victim u c ∷ ls) l s = end_step w ls u s (waits_open w ls l.0 s)
waits_open w (Commit u p ∷ ls) l s = end_step w ls u s (waits_open w ls l.0 s)
waits_open w (Rollback u c ∷ ls) l s = end_step w ls u s (waits_open w ls l.0 s)
waits_open w (Wait u k m b ∷ ls) l s = go (waits_open w ls l.0 s) (eqb u s) refl (eqb s u) refl
  where
    go : WaitsOpen w ls s → (c : Bool) → eqb u s ≡ c → (d : Bool) → eqb s u ≡ d → (cond d b (waits ls s) ≡ []) ⊎ (((cond c ((state w ls).of u) ((state w ls).of s)).live ≡ true) × ((st : Statement) × ((cond c ((state w ls).of u) ((state w ls).of s)).open_one ≡ Some st)))
    go h true e d q = inr (l.1.1.live, (l.1.0, l.1.1.open_one))
    go h false e true q = absurd (let r = eqb-swap u s in cc)
    go h false e false q = h

fits_free : (w : Stage) (b : List Event) (l : Event) → IsLegal w b → Fits w b l → is_plain l ≡ true → no_wait_of b l
fits_free w b (Begin s t) h f q = free_unless_live w b s (waits_open w b h s) f.1
fits_free w b (Ask s n st) h f q = free_between w b s (waits_open w b h s) f.0.none_open
fits_free w b (Take s k m) h f q = f.1.no_wait
fits_free w b (Put s k m) h f q = f.1.no_wait
fits_free w b (Wait s k m c) h f q = f.1.no_wait
fits_free w b (Victim s c) h f q = cc
fits_free w b (Answered s a) h f q = f.1.no_wait
fits_free w b (Commit s n) h f q = free_between w b s (waits_open w b h s) f.0.none_open
fits_free w b (Rollback s Asked) h f q = free_between w b s (waits_open w b h s) f.none_open
fits_free w b (Rollback s NoMemory) h f q = cc

none_settled : IsSettled []
none_settled y n m l = absurd (cc)

-- A trace is what its own turns drive.
pub own_driven : (p : Script) (w : Stage) (ts : List ℕ) (x : List Event) → Run p w x → IsSettled x → turns x ≡ ts → IsDriven p w ts x
own_driven p w [] x r st e =
    elim (base x) [
      | empty o ↦ sym (settled_top w [] x none_settled r.legal o)
      | label l b q o ↦ let e' : session_of l ∷ turns b ≡ [] = sym (turns_label l b q) ∙ (sym (turns_top (l ∷ b) x o) ∙ e) in cc
    ]
own_driven p w (t ∷ ts) x r st e =
    elim (base x) [
      | empty o ↦ let e' : [] ≡ t ∷ ts = sym (turns_top [] x o) ∙ e in cc
      | label l b q o ↦
          let e' : session_of l ∷ turns b ≡ t ∷ ts = sym (turns_label l b q) ∙ (sym (turns_top (l ∷ b) x o) ∙ e) in
          let eh : session_of l ≡ t = cc in
          let et : turns b ≡ ts = cc in
          let h = run_below p w l b x q o r in
          let can = can_fits p w b l h.2 h.3 q (fits_free w b l h.0.legal h.2 h.4) in
          (b, own_driven p w ts b h.0 h.1 et, inr (record { can = subst (λ s. can_turn p w b s ≡ true) eh can; event = l; own = eh; no_victim = q; top = o; settled = st }))
    ]

-- What a script's turns drive after all of a trace in which no session can turn list_any more is that trace.
pub replayed : (p : Script) (w : Stage) (rounds ts : List ℕ) (x y : List Event) → Run p w x → Run p w y → ((s : ℕ) → can_turn p w x s ≡ false) → IsDriven p w ts x → IsDriven p w (rounds ++ ts) y → y ≡ x
replayed p w [] ts x y rx ry none dx dy = sym (driven_same p w ts x y rx ry dx dy)
replayed p w (s ∷ rounds) ts x y rx ry none dx (b, d, inl m) = m.1 ∙ replayed p w rounds ts x b rx (subst (Run p w) m.1 ry) none dx d
replayed p w (s ∷ rounds) ts x y rx ry none dx (b, d, inr m) =
    let e = replayed p w rounds ts x b rx (run_below p w m.event b y m.no_victim m.top ry).0 none dx d in
    let q = none s in
    let q' : can_turn p w x s ≡ true = ap (λ z. can_turn p w z s) (sym e) ∙ m.can in cc
