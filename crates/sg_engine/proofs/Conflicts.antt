-- Who is in the way of a lock: the sessions that the lock table gives are those of the trace.
use Rattle.std.specs.Prelude.{not, ◌&&◌}
use Rattle.std.proofs.Common.{◌≡◌, ℕ, Bool, true, false, List, [], ◌∷◌, eqb, refl, sym, ap, ◌∙◌, inl, inr, arith}
use Rattle.std.proofs.lemmas.Bool.{eq-eqb, or_left, or_right, or_cases}
use Rattle.std.specs.Ordering.{is_eq}
use Rattle.sg_cells.specs.declared.keys.Key.{Key}
use Rattle.sg_modes.specs.declared.modes.Mode.{Mode}
use Rattle.sg_modes.specs.declared.modes.Mode.TheVariants.{S, U, X, RangeSS, RangeSU, RangeIN, RangeXX}
use Rattle.sg_modes.specs.Modes.{is_compatible}
use Rattle.sg_modes.specs.Sessions.{IsSession, AreSessions, has_session}
use Rattle.sg_modes.proofs.SessionLaws.{same_sessions}
use Rattle.sg_locks.specs.Grants.{Grant, mode_place, is_same_mode, has_grant, IsUnblocked}
use Rattle.sg_locks.specs.Grants as locks
use Rattle.sg_rows.specs.Table.{TableRow}
use Rattle.sg_cellrows.specs.CellTable.{CellRow}
use Rattle.sg_trace.specs.Keys.{same_key}
use Rattle.sg_trace.specs.Needs.{Held, holds_by}
use Rattle.sg_trace.specs.Traces.{Stage, Event, state}
use Rattle.sg_trace.specs.Legal.{IsStage, IsLegal, conflict}
use Rattle.sg_trace.specs.Legal as legal
use Rattle.sg_turns.proofs.Cycles.{conflict_has, conflict_set}
use Rattle.sg_stores.specs.Held.{key_cmp, holds_where}
use Rattle.sg_engine.specs.Ties.{IsCoded, Ties}

-- ---- tests
parts : (a b : Bool) → (a && b) ≡ true → (a ≡ true) × (b ≡ true)
parts true b h = (refl, h)
parts false b h = absurd (cc)

joined : (a b : Bool) → a ≡ true → b ≡ true → (a && b) ≡ true
joined true b h k = k
joined false b h k = absurd (cc)

same_test : (a b : Bool) → (a ≡ true → b ≡ true) → (b ≡ true → a ≡ true) → a ≡ b
same_test true true f g = refl
same_test true false f g = sym (f refl)
same_test false true f g = g refl
same_test false false f g = refl

-- ---- modes
pub same_is : (m n : Mode) → is_same_mode m n ≡ true → m ≡ n
same_is S S h = refl
same_is S U h = absurd (cc)
same_is S X h = absurd (cc)
same_is S RangeSS h = absurd (cc)
same_is S RangeSU h = absurd (cc)
same_is S RangeIN h = absurd (cc)
same_is S RangeXX h = absurd (cc)
same_is U S h = absurd (cc)
same_is U U h = refl
same_is U X h = absurd (cc)
same_is U RangeSS h = absurd (cc)
same_is U RangeSU h = absurd (cc)
same_is U RangeIN h = absurd (cc)
same_is U RangeXX h = absurd (cc)
same_is X S h = absurd (cc)
same_is X U h = absurd (cc)
same_is X X h = refl
same_is X RangeSS h = absurd (cc)
same_is X RangeSU h = absurd (cc)
same_is X RangeIN h = absurd (cc)
same_is X RangeXX h = absurd (cc)
same_is RangeSS S h = absurd (cc)
same_is RangeSS U h = absurd (cc)
same_is RangeSS X h = absurd (cc)
same_is RangeSS RangeSS h = refl
same_is RangeSS RangeSU h = absurd (cc)
same_is RangeSS RangeIN h = absurd (cc)
same_is RangeSS RangeXX h = absurd (cc)
same_is RangeSU S h = absurd (cc)
same_is RangeSU U h = absurd (cc)
same_is RangeSU X h = absurd (cc)
same_is RangeSU RangeSS h = absurd (cc)
same_is RangeSU RangeSU h = refl
same_is RangeSU RangeIN h = absurd (cc)
same_is RangeSU RangeXX h = absurd (cc)
same_is RangeIN S h = absurd (cc)
same_is RangeIN U h = absurd (cc)
same_is RangeIN X h = absurd (cc)
same_is RangeIN RangeSS h = absurd (cc)
same_is RangeIN RangeSU h = absurd (cc)
same_is RangeIN RangeIN h = refl
same_is RangeIN RangeXX h = absurd (cc)
same_is RangeXX S h = absurd (cc)
same_is RangeXX U h = absurd (cc)
same_is RangeXX X h = absurd (cc)
same_is RangeXX RangeSS h = absurd (cc)
same_is RangeXX RangeSU h = absurd (cc)
same_is RangeXX RangeIN h = absurd (cc)
same_is RangeXX RangeXX h = refl

mode_itself : (m : Mode) → is_same_mode m m ≡ true
mode_itself m = eq-eqb (mode_place m) (mode_place m) refl

-- ---- held in some mode that passes a test
-- what is held in a mode that passes
abbrev Passing : (Mode → Bool) → (Mode → Bool) → Type 0
Passing p holds = (m : Mode) × (p m ≡ true) × (holds m ≡ true)

module _ (p : Mode → Bool) (k : Key) where
  pub held_some : (hs : List Held) → holds_by p hs k ≡ true → Passing p (λ m. holds_by (is_same_mode m) hs k)
  held_some [] h = absurd (cc)
  held_some (g ∷ gs) h =
      elim (or_cases (same_key g.0 k && p g.1) (holds_by p gs k) h) [
        | inl a ↦
            let q = parts (same_key g.0 k) (p g.1) a in
            (g.1, q.1, or_left (same_key g.0 k && is_same_mode g.1 g.1) (holds_by (is_same_mode g.1) gs k) (joined (same_key g.0 k) (is_same_mode g.1 g.1) q.0 (mode_itself g.1)))
        | inr b ↦ let i = held_some gs b in (i.0, i.1, or_right (same_key g.0 k && is_same_mode i.0 g.1) (holds_by (is_same_mode i.0) gs k) i.2)
      ]

  pub held_back : (hs : List Held) (m : Mode) → p m ≡ true → holds_by (is_same_mode m) hs k ≡ true → holds_by p hs k ≡ true
  held_back [] m e h = absurd (cc)
  held_back (g ∷ gs) m e h =
      elim (or_cases (same_key g.0 k && is_same_mode m g.1) (holds_by (is_same_mode m) gs k) h) [
        | inl a ↦ let q = parts (same_key g.0 k) (is_same_mode m g.1) a in or_left (same_key g.0 k && p g.1) (holds_by p gs k) (joined (same_key g.0 k) (p g.1) q.0 (ap p (sym (same_is m g.1 q.1)) ∙ e))
        | inr b ↦ or_right (same_key g.0 k && p g.1) (holds_by p gs k) (held_back gs m e b)
      ]

  module _ (n : ℕ) where
    -- a grant of the session on the key, in a mode that passes
    abbrev on : (Mode → Bool) → Grant Key → Bool
    on test g = eqb n g.session && (is_eq (key_cmp k g.key) && test g.mode)

    on_as : (q : Mode → Bool) (g : Grant Key) → on p g ≡ true → q g.mode ≡ true → on q g ≡ true
    on_as q g h e =
        let a = parts (eqb n g.session) (is_eq (key_cmp k g.key) && p g.mode) h in
        let b = parts (is_eq (key_cmp k g.key)) (p g.mode) a.1 in
        joined (eqb n g.session) (is_eq (key_cmp k g.key) && q g.mode) a.0 (joined (is_eq (key_cmp k g.key)) (q g.mode) b.0 e)

    on_mode : (q : Mode → Bool) (g : Grant Key) → on q g ≡ true → q g.mode ≡ true
    on_mode q g h =
        let a = parts (eqb n g.session) (is_eq (key_cmp k g.key) && q g.mode) h in
        (parts (is_eq (key_cmp k g.key)) (q g.mode) a.1).1

    pub grant_some : (gs : List (Grant Key)) → holds_where p gs n k ≡ true → Passing p (has_grant key_cmp gs n k)
    grant_some [] h = absurd (cc)
    grant_some (g ∷ gs) h =
        elim (or_cases (on p g) (holds_where p gs n k) h) [
          | inl a ↦ (g.mode, on_mode p g a, or_left (on (is_same_mode g.mode) g) (has_grant key_cmp gs n k g.mode) (on_as (is_same_mode g.mode) g a (mode_itself g.mode)))
          | inr b ↦ let i = grant_some gs b in (i.0, i.1, or_right (on (is_same_mode i.0) g) (has_grant key_cmp gs n k i.0) i.2)
        ]

module _ (p : Mode → Bool) (k : Key) (n : ℕ) where
  pub grant_back : (gs : List (Grant Key)) (m : Mode) → p m ≡ true → has_grant key_cmp gs n k m ≡ true → holds_where p gs n k ≡ true
  grant_back [] m e h = absurd (cc)
  grant_back (g ∷ gs) m e h =
      elim (or_cases (on (is_same_mode m) k n (is_same_mode m) g) (has_grant key_cmp gs n k m) h) [
        | inl a ↦
            let same = same_is m g.mode (on_mode (is_same_mode m) k n (is_same_mode m) g a) in
            or_left (on p k n p g) (holds_where p gs n k) (on_as (is_same_mode m) k n p g a (ap p (sym same) ∙ e))
        | inr b ↦ or_right (on p k n p g) (holds_where p gs n k) (grant_back gs m e b)
      ]

  -- the grants of a session on a key pass a test exactly where what it holds does
  pub same_where : (gs : List (Grant Key)) (hs : List Held) → ((m : Mode) → has_grant key_cmp gs n k m ≡ holds_by (is_same_mode m) hs k) → holds_where p gs n k ≡ holds_by p hs k
  same_where gs hs tied =
      same_test (holds_where p gs n k) (holds_by p hs k) (λ h. let i = grant_some p k n gs h in held_back p k hs i.0 i.1 (sym (tied i.0) ∙ i.2))
      (λ h. let i = held_some p k hs h in grant_back gs i.0 i.1 (tied i.0 ∙ i.2))

-- ---- who is in the way
module _ (w : Stage) (r : IsStage w) (es : List Event) (l : IsLegal w es) (table : List TableRow) (index : List CellRow) (grants : List (Grant Key)) (t : Ties w.settings (state w es) table index grants)
    (s : ℕ) (k : Key) (code : IsCoded k) (m : Mode) where
  pub blocks_same : (n : ℕ) → IsSession n → locks.blocks key_cmp grants s k m n ≡ legal.blocks (state w es).of s k m n
  blocks_same n is = ap (λ b. not (eqb n s) && b) (same_where (λ held. not (is_compatible held m)) k n grants ((state w es).of n).held (t.held n is k code))

  -- the sessions that the lock table gives are the conflict
  pub conflict_is : (found : List ℕ) → AreSessions found → ((n : ℕ) → has_session found n ≡ locks.blocks key_cmp grants s k m n) → found ≡ conflict (state w es).of s k m
  conflict_is found are has =
      same_sessions found (conflict (state w es).of s k m) 0 are (conflict_set (state w es).of s k m)
      (λ n low high. has n ∙ (blocks_same n (omega arith, high) ∙ sym (conflict_has w r es l s k m n)))

  -- none of them, and no session blocks; and none in the conflict
  pub unblocked : (found : List ℕ) → ((n : ℕ) → has_session found n ≡ locks.blocks key_cmp grants s k m n) → found ≡ [] → IsUnblocked key_cmp grants s k m
  unblocked found has none n = sym (has n) ∙ ap (λ ns. has_session ns n) none

  -- one does not block itself
  pub not_itself : (found : List ℕ) → ((n : ℕ) → has_session found n ≡ locks.blocks key_cmp grants s k m n) → has_session found s ≡ false
  not_itself found has = has s ∙ ap (λ b. not b && holds_where (λ held. not (is_compatible held m)) grants s k) (eq-eqb s s refl)
