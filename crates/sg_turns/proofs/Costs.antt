-- No key is held twice to be written, so the cost of a session is the number of such keys; and the first unmet need of
-- two lists, one after the other.
use Rattle.std.proofs.Common.{◌≡◌, ℕ, suc, Bool, true, false, cond, List, [], ◌∷◌, ◌++◌, length, map, filter, Option, Some, None, refl, sym, ap, ◌∙◌, subst, inl, inr}
use Rattle.sg_cells.specs.declared.keys.Key.{Key}
use Rattle.sg_cells.specs.Laws.{Has}
use Rattle.sg_modes.specs.declared.modes.Mode.{Mode}
use Rattle.sg_modes.specs.declared.modes.Mode.TheVariants.{S, U, X, RangeSS, RangeSU, RangeIN, RangeXX}
use Rattle.sg_plain.specs.declared.statements.Statement.{Statement}
use Rattle.sg_trace.specs.Keys.{before, same_key, add_key, rising_keys, is_write, meets}
use Rattle.sg_trace.specs.Needs.{Held, Need, Lock, New, is_met, first_unmet}
use Rattle.sg_trace.specs.Traces.{Stage, Event, Begin, Ask, Take, Put, Wait, Victim, Answered, Commit, Rollback, state, after, answered, idle, IsPresent}
use Rattle.sg_trace.specs.Legal.{IsStage, IsLegal, needs_of, cost}
use Rattle.sg_laws.proofs.Clash.{each_with}
use Rattle.sg_laws.proofs.Present.{same_key_is, rising_keys_back}
use Rattle.sg_laws.proofs.Needs.{NeedOk}
use Rattle.sg_laws.proofs.Kept.{legal_good, takes_for, puts_for, unmet_has, needs_good}
use Rattle.sg_turns.proofs.Victims.{holds_all, first_is_unmet}

-- ---- first unmet
pub unmet_left : (held : List Held) (xs ys : List Need) (n : Need) → first_unmet held xs ≡ Some n → first_unmet held (xs ++ ys) ≡ Some n
unmet_left held [] ys n e = absurd (cc)
unmet_left held (x ∷ xs) ys n e = go (is_met held x) (unmet_left held xs ys n) e
  where
    go : (b : Bool) → (first_unmet held xs ≡ Some n → first_unmet held (xs ++ ys) ≡ Some n) → cond b (first_unmet held xs) (Some x) ≡ Some n → cond b (first_unmet held (xs ++ ys)) (Some x) ≡ Some n
    go true ih e = ih e
    go false ih e = e

pub unmet_right : (held : List Held) (xs ys : List Need) → first_unmet held xs ≡ None → first_unmet held (xs ++ ys) ≡ first_unmet held ys
unmet_right held [] ys e = refl
unmet_right held (x ∷ xs) ys e = go (is_met held x) (unmet_right held xs ys) e
  where
    go : (b : Bool) → (first_unmet held xs ≡ None → first_unmet held (xs ++ ys) ≡ first_unmet held ys) → cond b (first_unmet held xs) (Some x) ≡ None → cond b (first_unmet held (xs ++ ys)) (Some x) ≡ first_unmet held ys
    go true ih e = ih e
    go false ih e = absurd (cc)

-- ---- written keys
abbrev written : List Held → List Key
written held = map (λ h. h.0) (filter (λ h. is_write h.1) held)

-- no key stands twice
abbrev Once : List Key → Type 0
Once [] = Unit {0}
Once (k ∷ ks) = (Has ks k → ⊥) × Once ks

add_longer : (k : Key) (ks : List Key) → (Has ks k → ⊥) → length (add_key k ks) ≡ suc (length ks)
add_longer k [] h = refl
add_longer k (x ∷ xs) h = go (before k x) (same_key k x) refl (add_longer k xs (λ m. h (inr m)))
  where
    go : (b s : Bool) → same_key k x ≡ s → length (add_key k xs) ≡ suc (length xs) → length (cond b (k ∷ x ∷ xs) (cond s (x ∷ xs) (x ∷ add_key k xs))) ≡ suc (suc (length xs))
    go true s e ih = refl
    go false true e ih = absurd (h (inl (sym (same_key_is k x e))))
    go false false e ih = ap suc ih

once_length : (ks : List Key) → Once ks → length (rising_keys ks) ≡ length ks
once_length [] h = refl
once_length (k ∷ ks) h = add_longer k (rising_keys ks) (λ m. h.0 (rising_keys_back ks k m)) ∙ ap suc (once_length ks h.1)

written_length : (held : List Held) → length (written held) ≡ cost held
written_length [] = refl
written_length (h ∷ hs) = go (is_write h.1) (written_length hs)
  where
    go : (b : Bool) → length (written hs) ≡ cost hs → length (map (λ (g : Held). g.0) (cond b (h ∷ filter (λ g. is_write g.1) hs) (filter (λ g. is_write g.1) hs))) ≡ length (cond b (h ∷ filter (λ g. is_write g.1) hs) (filter (λ g. is_write g.1) hs))
    go true ih = ap suc ih
    go false ih = ih

-- a written key is held in a write mode
written_held : (held : List Held) (k : Key) → Has (written held) k → (m : Mode) × (is_write m ≡ true) × Has held (k, m)
written_held [] k h = absurd h
written_held (g ∷ gs) k h = go (is_write g.1) refl (written_held gs k) h
  where
    more : ((m : Mode) × (is_write m ≡ true) × Has gs (k, m)) → (m : Mode) × (is_write m ≡ true) × Has (g ∷ gs) (k, m)
    more i = (i.0, i.1, inr i.2)

    go : (b : Bool) → is_write g.1 ≡ b → (Has (written gs) k → (m : Mode) × (is_write m ≡ true) × Has gs (k, m)) → Has (map (λ (g : Held). g.0) (cond b (g ∷ filter (λ g. is_write g.1) gs) (filter (λ g. is_write g.1) gs))) k → (m : Mode) × (is_write m ≡ true) × Has (g ∷ gs) (k, m)
    go true q ih (inl e) = (g.1, q, inl (ap (λ j. (j, g.1)) e))
    go true q ih (inr m) = more (ih m)
    go false q ih m = more (ih m)

-- one more grant, of a key that isn't held to be written, or not in a write mode
grant_once : (k : Key) (m : Mode) (held : List Held) → (is_write m ≡ true → Has (written held) k → ⊥) → Once (written held) → Once (written ((k, m) ∷ held))
grant_once k m held fresh h = go (is_write m) refl
  where
    go : (b : Bool) → is_write m ≡ b → Once (map (λ (g : Held). g.0) (cond b ((k, m) ∷ filter (λ g. is_write g.1) held) (filter (λ g. is_write g.1) held)))
    go true e = (fresh e, h)
    go false e = h

-- a lock that is needed and not met, in a write mode: the key isn't held to be written
write_meets : (m n : Mode) → is_write m ≡ true → is_write n ≡ true → meets m m ≡ true → meets m n ≡ true
write_meets X X a b c = refl
write_meets X RangeXX a b c = refl
write_meets X S a b c = absurd (cc)
write_meets X U a b c = absurd (cc)
write_meets X RangeSS a b c = absurd (cc)
write_meets X RangeSU a b c = absurd (cc)
write_meets X RangeIN a b c = absurd (cc)
write_meets RangeXX n a b c = absurd (cc)
write_meets S n a b c = absurd (cc)
write_meets U n a b c = absurd (cc)
write_meets RangeSS n a b c = absurd (cc)
write_meets RangeSU n a b c = absurd (cc)
write_meets RangeIN n a b c = absurd (cc)

pub once : (w : Stage) → IsStage w → (ls : List Event) → IsLegal w ls → (s : ℕ) → Once (written ((state w ls).of s).held)
once w r [] l s = tt
once w r (Begin u t ∷ ls) l s = let z = state w ls in each_with (λ s x. Once (written x.held)) z.of u (after (Begin u t) (z.of u)) (λ s ne. once w r ls l.0 s) tt s
once w r (Ask u n st ∷ ls) l s = let z = state w ls in each_with (λ s x. Once (written x.held)) z.of u (after (Ask u n st) (z.of u)) (λ s ne. once w r ls l.0 s) (once w r ls l.0 u) s
once w r (Wait u k m b ∷ ls) l s = let z = state w ls in each_with (λ s x. Once (written x.held)) z.of u (z.of u) (λ s ne. once w r ls l.0 s) (once w r ls l.0 u) s
once w r (Victim u c ∷ ls) l s = let z = state w ls in each_with (λ s x. Once (written x.held)) z.of u (idle (z.of u).begun) (λ s ne. once w r ls l.0 s) tt s
once w r (Commit u p ∷ ls) l s = let z = state w ls in each_with (λ s x. Once (written x.held)) z.of u (idle (z.of u).begun) (λ s ne. once w r ls l.0 s) tt s
once w r (Rollback u c ∷ ls) l s = let z = state w ls in each_with (λ s x. Once (written x.held)) z.of u (idle (z.of u).begun) (λ s ne. once w r ls l.0 s) tt s
once w r (Answered u a ∷ ls) l s =
    let z = state w ls in
    each_with (λ s x. Once (written x.held)) z.of u (after (Answered u a) (z.of u)) (λ s ne. once w r ls l.0 s)
    (subst (λ (o : Option Statement). Once (written (answered (z.of u) o a).held)) (sym l.1.1.open_one) (once w r ls l.0 u)) s
once w r (Take u k m ∷ ls) l s =
    let z = state w ls in
    let st = l.1.0 in
    let a = l.1.2 in
    let ok = legal_good w r ls l.0 in
    let ns = needs_of w z u st a.selected in
    let n = takes_for w z u st k m (first_unmet (z.of u).held ns) a.follows in
    let o : NeedOk (IsPresent w.settings z) (Lock k m) = unmet_has (NeedOk (IsPresent w.settings z)) (z.of u) ns (Lock k m) (needs_good w z u st a.selected ok a.selects) n in
    let f : is_met (z.of u).held (Lock k m) ≡ false = first_is_unmet (z.of u) ns (Lock k m) n in
    each_with (λ s x. Once (written x.held)) z.of u (after (Take u k m) (z.of u)) (λ s ne. once w r ls l.0 s)
    (grant_once k m (z.of u).held (λ q h. let i = written_held (z.of u).held k h in let t = holds_all (meets m) (z.of u).held k i.0 i.2 (write_meets m i.0 q i.1 o.1) in cc) (once w r ls l.0 u)) s
once w r (Put u k m ∷ ls) l s =
    let z = state w ls in
    let st = l.1.0 in
    let a = l.1.2.1 in
    let ok = legal_good w r ls l.0 in
    let ns = needs_of w z u st a.selected in
    let n = puts_for w z u st k l.1.2.0 m (first_unmet (z.of u).held ns) a.follows in
    let o : NeedOk (IsPresent w.settings z) (New k) = unmet_has (NeedOk (IsPresent w.settings z)) (z.of u) ns (New k) (needs_good w z u st a.selected ok a.selects) n.0 in
    each_with (λ s x. Once (written x.held)) z.of u (after (Put u k m) (z.of u)) (λ s ne. once w r ls l.0 s)
    (grant_once k m (z.of u).held (λ q h. let i = written_held (z.of u).held k h in o.0 (ok.sound.rooted u k i.0 i.2)) (once w r ls l.0 u)) s

pub cost_is : (w : Stage) → IsStage w → (ls : List Event) → IsLegal w ls → (s : ℕ) → cost ((state w ls).of s).held ≡ length (rising_keys (map (λ h. h.0) (filter (λ h. is_write h.1) ((state w ls).of s).held)))
cost_is w r ls l s = sym (written_length ((state w ls).of s).held) ∙ sym (once_length (written ((state w ls).of s).held) (once w r ls l s))
