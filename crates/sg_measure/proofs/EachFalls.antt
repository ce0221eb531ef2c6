-- Each event of a legal trace of a script lowers the measure.
use Rattle.std.proofs.Common.{◌≡◌, ℕ, zero, suc, pred, ◌<◌, ◌≤◌, Bool, true, false, cond, ◌&&◌, ◌||◌, ◌⊎◌, List, [], ◌∷◌, length, Some, refl, sym, ap, ◌∙◌, subst, inl, inr, arith}
use Rattle.std.specs.Prelude.{slice_get}
use Rattle.std.proofs.lemmas.Bool.{or_cases, and_parts, and_from}
use Rattle.sg_cells.specs.Laws.{Has}
use Rattle.sg_cells.specs.declared.keys.Key.{Key}
use Rattle.sg_modes.specs.declared.modes.Mode.{Mode}
use Rattle.sg_modes.specs.declared.modes.Mode.TheVariants.{S, U, X, RangeSS, RangeSU, RangeIN, RangeXX}
use Rattle.sg_modes.specs.Sessions.{has_session}
use Rattle.sg_plain.specs.declared.statements.Statement.{Statement}
use Rattle.sg_trace.specs.declared.labels.Cause.{Cause}
use Rattle.sg_trace.specs.declared.labels.Cause.TheVariants.{Asked, NoMemory}
use Rattle.sg_trace.specs.Keys.{same_key, meets}
use Rattle.sg_trace.specs.Needs.{Held, Need, Lock, New, holds_by, is_met, first_unmet}
use Rattle.sg_trace.specs.Traces.{Local, State, Stage, Event, Begin, Ask, Take, Put, Wait, Victim, Answered, Commit, Rollback, IsPresent, state, after, answered, with_one, all_sessions}
use Rattle.sg_trace.specs.Legal.{IsStage, IsLegal, Fits, IsChosen, needs_of, waits}
use Rattle.sg_trace.specs.Scripts.{Script, Follows, transactions_of, upcoming, statements_in}
use Rattle.sg_trace.specs.Measure.{same_mode, parts, IsLower, holds_exactly}
use Rattle.sg_laws.proofs.Numbers.{session_listed}
use Rattle.sg_laws.proofs.Present.{same_key_is, same_key_refl}
use Rattle.sg_laws.proofs.Needs.{NeedOk}
use Rattle.sg_laws.proofs.Kept.{Good, legal_good, takes_for, puts_for, unmet_has, needs_good, live_member}
use Rattle.sg_turns.proofs.Victims.{holds_all, first_is_unmet, victim_live}
use Rattle.sg_serial.proofs.Ordered.{OnPlan, planned}
use Rattle.sg_measure.proofs.Falls.{parts_of, item_below, end_falls, begin_falls, ask_falls, answer_falls, grant_falls, wait_falls}

same_mode_is : (a b : Mode) → same_mode a b ≡ true → a ≡ b
same_mode_is S S e = refl
same_mode_is U U e = refl
same_mode_is X X e = refl
same_mode_is RangeSS RangeSS e = refl
same_mode_is RangeSU RangeSU e = refl
same_mode_is RangeIN RangeIN e = refl
same_mode_is RangeXX RangeXX e = refl
same_mode_is S U e = cc
same_mode_is S X e = cc
same_mode_is S RangeSS e = cc
same_mode_is S RangeSU e = cc
same_mode_is S RangeIN e = cc
same_mode_is S RangeXX e = cc
same_mode_is U S e = cc
same_mode_is U X e = cc
same_mode_is U RangeSS e = cc
same_mode_is U RangeSU e = cc
same_mode_is U RangeIN e = cc
same_mode_is U RangeXX e = cc
same_mode_is X S e = cc
same_mode_is X U e = cc
same_mode_is X RangeSS e = cc
same_mode_is X RangeSU e = cc
same_mode_is X RangeIN e = cc
same_mode_is X RangeXX e = cc
same_mode_is RangeSS S e = cc
same_mode_is RangeSS U e = cc
same_mode_is RangeSS X e = cc
same_mode_is RangeSS RangeSU e = cc
same_mode_is RangeSS RangeIN e = cc
same_mode_is RangeSS RangeXX e = cc
same_mode_is RangeSU S e = cc
same_mode_is RangeSU U e = cc
same_mode_is RangeSU X e = cc
same_mode_is RangeSU RangeSS e = cc
same_mode_is RangeSU RangeIN e = cc
same_mode_is RangeSU RangeXX e = cc
same_mode_is RangeIN S e = cc
same_mode_is RangeIN U e = cc
same_mode_is RangeIN X e = cc
same_mode_is RangeIN RangeSS e = cc
same_mode_is RangeIN RangeSU e = cc
same_mode_is RangeIN RangeXX e = cc
same_mode_is RangeXX S e = cc
same_mode_is RangeXX U e = cc
same_mode_is RangeXX X e = cc
same_mode_is RangeXX RangeSS e = cc
same_mode_is RangeXX RangeSU e = cc
same_mode_is RangeXX RangeIN e = cc

same_mode_refl : (m : Mode) → same_mode m m ≡ true
same_mode_refl S = refl
same_mode_refl U = refl
same_mode_refl X = refl
same_mode_refl RangeSS = refl
same_mode_refl RangeSU = refl
same_mode_refl RangeIN = refl
same_mode_refl RangeXX = refl

exactly_has : (hs : List Held) (g : Held) → holds_exactly hs g ≡ true → Has hs g
exactly_has [] g e = cc
exactly_has (h ∷ hs) g e =
    elim (or_cases (same_key h.0 g.0 && same_mode h.1 g.1) (holds_exactly hs g) e) [
      | inl q ↦ let p = and_parts (same_key h.0 g.0) (same_mode h.1 g.1) q in inl (pair (same_key_is h.0 g.0 p.0) (same_mode_is h.1 g.1 p.1))
      | inr q ↦ inr (exactly_has hs g q)
    ]
  where
    pair : h.0 ≡ g.0 → h.1 ≡ g.1 → h ≡ g
    pair p q = λ i. (p i, q i)

not_true : (b : Bool) → (b ≡ true → ⊥) → b ≡ false
not_true true h = absurd (h refl)
not_true false h = refl

listed : (w : Stage) (z : State) (s : ℕ) → Good w z → (z.of s).live ≡ true → Has all_sessions s
listed w z s ok e = session_listed s (live_member w z s ok e)

fresh_take : (x : Local) (k : Key) (m : Mode) → is_met x.held (Lock k m) ≡ false → meets m m ≡ true → holds_exactly x.held (k, m) ≡ false
fresh_take x k m e t = not_true (holds_exactly x.held (k, m)) (λ h. let q = holds_all (meets m) x.held k m (exactly_has x.held (k, m) h) t in cc)

begun_below : (p : Script) (x : Local) (s : ℕ) → OnPlan p x s → x.begun ≤ length (transactions_of p s)
begun_below p x s o = let b = item_below (transactions_of p s) (pred x.begun) o.transaction o.is in let z = o.begun in go x.begun z b
  where
    go : (n : ℕ) → 0 < n → pred n < length (transactions_of p s) → n ≤ length (transactions_of p s)
    go zero z b = omega arith
    go (suc n) z b = b

-- the pair that the event adds is one of those counted, in a mode that meets itself
abbrev pub IsCounted : List Held → Event → Type 0
IsCounted pairs (Take s k m) = Has pairs (k, m) × (meets m m ≡ true)
IsCounted pairs (Put s k m) = Has pairs (k, m)
IsCounted pairs (Begin s t) = Unit {0}
IsCounted pairs (Ask s n st) = Unit {0}
IsCounted pairs (Wait s k m b) = Unit {0}
IsCounted pairs (Victim s c) = Unit {0}
IsCounted pairs (Answered s a) = Unit {0}
IsCounted pairs (Commit s p) = Unit {0}
IsCounted pairs (Rollback s c) = Unit {0}

pub falls : (p : Script) (pairs : List Held) (w : Stage) → IsStage w → (ls : List Event) (l : Event) → IsLegal w (l ∷ ls) → Follows p w (l ∷ ls) → IsCounted pairs l → IsLower (parts p pairs w (l ∷ ls)) (parts p pairs w ls)
falls p pairs w r ls (Begin u t) l f c =
    begin_falls p pairs all_sessions (state w ls).of (waits ls) (waits ls) u t (session_listed u l.1.0) l.1.1 (item_below (transactions_of p u) ((state w ls).of u).begun f.1.0 f.1.1)
falls p pairs w r ls (Ask u n st) l f c =
    ask_falls p pairs all_sessions (state w ls).of (waits ls) (waits ls) u n st (listed w (state w ls) u (legal_good w r ls l.0) l.1.0.live) l.1.0.live l.1.0.none_open f.1
falls p pairs w r ls (Take u k m) l f c =
    let z = state w ls in
    let x = z.of u in
    let o = l.1.1 in
    let st = l.1.0 in
    let a = l.1.2 in
    let n = takes_for w z u st k m (first_unmet x.held (needs_of w z u st a.selected)) a.follows in
    let e = first_is_unmet x (needs_of w z u st a.selected) (Lock k m) n in
    grant_falls p pairs all_sessions z.of (waits ls) (waits ls) u (after (Take u k m) x) (k, m) (listed w z u (legal_good w r ls l.0) o.live) o.live refl refl refl refl refl
    c.0 (and_from (same_key k k) (same_mode m m) (same_key_refl k) (same_mode_refl m)) (fresh_take x k m e c.1)
falls p pairs w r ls (Put u k m) l f c =
    let z = state w ls in
    let x = z.of u in
    let o = l.1.1 in
    let st = l.1.0 in
    let ok = legal_good w r ls l.0 in
    let a = l.1.2.1 in
    let n = puts_for w z u st k l.1.2.0 m (first_unmet x.held (needs_of w z u st a.selected)) a.follows in
    let fresh : NeedOk (IsPresent w.settings z) (New k) = unmet_has (NeedOk (IsPresent w.settings z)) x (needs_of w z u st a.selected) (New k) (needs_good w z u st a.selected ok a.selects) n.0 in
    grant_falls p pairs all_sessions z.of (waits ls) (waits ls) u (after (Put u k m) x) (k, m) (listed w z u ok o.live) o.live refl refl refl refl refl
    c (and_from (same_key k k) (same_mode m m) (same_key_refl k) (same_mode_refl m))
    (not_true (holds_exactly x.held (k, m)) (λ h. fresh.0 (ok.sound.rooted u k m (exactly_has x.held (k, m) h))))
falls p pairs w r ls (Wait u k m b) l f c =
    wait_falls p pairs all_sessions (state w ls).of (waits ls) u b (listed w (state w ls) u (legal_good w r ls l.0) l.1.1.live) l.1.1.no_wait l.1.4
falls p pairs w r ls (Victim u d) l f c =
    let live = victim_live w ls l.0 u d l.1 in
    end_falls p pairs all_sessions (state w ls).of (waits ls) (waits (Victim u d ∷ ls)) u (listed w (state w ls) u (legal_good w r ls l.0) live) live (begun_below p ((state w ls).of u) u (planned p w ls l.0 f.0 u live))
falls p pairs w r ls (Answered u a) l f c =
    let x = (state w ls).of u in
    let o = l.1.1 in
    let n = planned p w ls l.0 f.0 u o.live in
    let due : upcoming p x u ≡ Some l.1.0 = ap (λ t. slice_get (statements_in t) (length x.done)) n.is ∙ n.open_is l.1.0 o.open_one in
    subst (λ y. IsLower (parts_of p pairs all_sessions (with_one (state w ls).of u y) (waits ls)) (parts_of p pairs all_sessions (state w ls).of (waits ls))) (sym (ap (λ q. answered x q a) o.open_one))
    (answer_falls p pairs all_sessions (state w ls).of (waits ls) (waits ls) u a l.1.0 (listed w (state w ls) u (legal_good w r ls l.0) o.live) o.live o.open_one due)
falls p pairs w r ls (Commit u n) l f c =
    let live = l.1.0.live in
    end_falls p pairs all_sessions (state w ls).of (waits ls) (waits (Commit u n ∷ ls)) u (listed w (state w ls) u (legal_good w r ls l.0) live) live (begun_below p ((state w ls).of u) u (planned p w ls l.0 f.0 u live))
falls p pairs w r ls (Rollback u d) l f c = go d l.1
  where
    go : (d : Cause) → Fits w ls (Rollback u d) → IsLower (parts p pairs w (Rollback u d ∷ ls)) (parts p pairs w ls)
    go Asked b = let live = b.live in end_falls p pairs all_sessions (state w ls).of (waits ls) (waits (Rollback u d ∷ ls)) u (listed w (state w ls) u (legal_good w r ls l.0) live) live (begun_below p ((state w ls).of u) u (planned p w ls l.0 f.0 u live))
    go NoMemory live = end_falls p pairs all_sessions (state w ls).of (waits ls) (waits (Rollback u d ∷ ls)) u (listed w (state w ls) u (legal_good w r ls l.0) live) live (begun_below p ((state w ls).of u) u (planned p w ls l.0 f.0 u live))
