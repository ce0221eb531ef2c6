-- The first need that isn't met by the stores, as an act of the trace.
use Rattle.std.specs.Prelude.{◌||◌, ◌&&◌, not, filter}
use Rattle.std.proofs.Common.{◌≡◌, ℕ, Bool, true, false, cond, eqb, List, [], ◌∷◌, Option, Some, None, refl, sym, ap, ◌∙◌, subst}
use Rattle.sg_cells.specs.declared.keys.Key.{Key}
use Rattle.sg_locks.specs.Grants.{Grant, has_grant, has_range, is_same_mode}
use Rattle.sg_modes.specs.declared.modes.Mode.{Mode}
use Rattle.sg_modes.specs.declared.modes.Mode.TheVariants.{S, U, X, RangeSS, RangeSU, RangeIN, RangeXX}
use Rattle.sg_modes.specs.Modes.{is_compatible}
use Rattle.sg_modes.specs.Sessions.{IsSession}
use Rattle.sg_plain.specs.declared.statements.Statement.{Statement}
use Rattle.sg_rows.specs.Table.{TableRow}
use Rattle.sg_cellrows.specs.CellTable.{CellRow}
use Rattle.sg_trace.specs.Keys.{is_range, is_write, next_key}
use Rattle.sg_trace.specs.Needs.{Need, Lock, New, Selects, Held, holds_by, read_needs, write_needs, first_unmet, put_mode}
use Rattle.sg_trace.specs.Traces.{Stage, State, IsPresent, all_sessions, view, present_keys}
use Rattle.sg_trace.specs.Legal.{IsAct, IsActFor, Takes, Puts, needs_of, blocks, conflict}
use Rattle.sg_stores.specs.Agreement.{seen_rows}
use Rattle.sg_stores.specs.Held.{key_cmp, first_unheld}
use Rattle.sg_stores.specs.Keys.{store_keys}
use Rattle.sg_stores.proofs.Helds.{holds_or, holds_alike}
use Rattle.sg_laws.proofs.AllMet.{held_by}
use Rattle.sg_turns.proofs.Costs.{unmet_left, unmet_right}
use Rattle.sg_laws.proofs.Kept.{Good, lists_of, needs_good, unmet_has}
use Rattle.sg_laws.proofs.Needs.{NeedOk}
use Rattle.sg_laws.proofs.Present.{next_is}
use Rattle.sg_writes.specs.declared.needs.Act.TheVariants as act
use Rattle.sg_writes.specs.Changes.{IsFirst}
use Rattle.sg_engine.specs.Ties.{IsCoded, Ties}
use Rattle.sg_engine.proofs.Conflicts.{same_where}
use Rattle.sg_engine.proofs.Replied.{coded_key, read_first, write_first}

-- ---- ranges
range_is : (m : Mode) → (is_same_mode RangeSS m || (is_same_mode RangeSU m || is_same_mode RangeXX m)) ≡ is_range m
range_is S = refl
range_is U = refl
range_is X = refl
range_is RangeSS = refl
range_is RangeSU = refl
range_is RangeIN = refl
range_is RangeXX = refl

-- what the lock table tells of a gap is what the session holds
range_same : (grants : List (Grant Key)) (s : ℕ) (held : List Held) (k : Key) → ((m : Mode) → has_grant key_cmp grants s k m ≡ holds_by (is_same_mode m) held k) → has_range key_cmp grants s k ≡ holds_by is_range held k
range_same grants s held k tied =
    ap (λ b. has_grant key_cmp grants s k RangeSS || b) (sym (holds_or (is_same_mode RangeSU) (is_same_mode RangeXX) grants s k))
    ∙ (sym (holds_or (is_same_mode RangeSS) (λ m. is_same_mode RangeSU m || is_same_mode RangeXX m) grants s k)
    ∙ (holds_alike (λ m. is_same_mode RangeSS m || (is_same_mode RangeSU m || is_same_mode RangeXX m)) is_range grants s k range_is
    ∙ same_where is_range k s grants held tied))

and_none : (a : Bool) → (a && false) ≡ false
and_none true = refl
and_none false = refl

none_pass : (p : ℕ → Bool) (xs : List ℕ) → ((x : ℕ) → p x ≡ false) → filter p xs ≡ []
none_pass p [] none = refl
none_pass p (x ∷ xs) none = ap (λ b. cond b (x ∷ filter p xs) (filter p xs)) (none x) ∙ none_pass p xs none

-- a key is put in a mode in which it is written
pub put_writes : (b : Bool) → is_write (cond b RangeXX X) ≡ true
put_writes true = refl
put_writes false = refl

-- nobody holds a key that isn't present, so nobody is in the way of it
module _ (w : Stage) (z : State) (ok : Good w z) (k : Key) (absent : IsPresent w.settings z k → ⊥) where
  pub absent_unheld : (test : Mode → Bool) (u : ℕ) → holds_by test (z.of u).held k ≡ false
  absent_unheld test u = by_test (holds_by test (z.of u).held k) refl
    where
      by_test : (b : Bool) → holds_by test (z.of u).held k ≡ b → b ≡ false
      by_test true e = let h = held_by test (z.of u).held k e in absurd (absent (ok.sound.rooted u k h.0 h.2))
      by_test false e = refl

  pub absent_free : (s : ℕ) (m : Mode) → conflict z.of s k m ≡ []
  absent_free s m = none_pass (blocks z.of s k m) all_sessions (λ u. ap (λ b. not (eqb u s) && b) (absent_unheld (λ held. not (is_compatible held m)) u) ∙ and_none (not (eqb u s)))

module _ (w : Stage) (z : State) (ok : Good w z) (s : ℕ) (session : IsSession s) (table : List TableRow) (index : List CellRow) (grants : List (Grant Key)) (t : Ties w.settings z table index grants)
    (st : Statement) (js : List ℕ) (selects : Selects (view z s) st js) (keys_are : store_keys table index ≡ present_keys w z) (seen_are : seen_rows s table ≡ view z s) where
  abbrev reads : List Need
  reads = read_needs w.settings (present_keys w z) (view z s) st

  abbrev writes : List Need
  writes = write_needs w.settings (present_keys w z) (view z s) js st

  -- what is asked for first to read
  pub reading_act : (k : Key) (m : Mode) → first_unheld grants s (read_needs w.settings (store_keys table index) (seen_rows s table) st) ≡ Some (Lock k m) → IsAct w z s st (Takes k m)
  reading_act k m first = record {
    selected = js;
    selects = selects;
    follows = subst (λ (o : Option Need). IsActFor w z s st o (Takes k m)) (sym (unmet_left (z.of s).held reads writes (Lock k m) (sym (read_first w z ok s session table index grants t st js selects keys_are seen_are) ∙ first))) refl;
  }

  -- where all that is read is held, what is asked for first to write
  module _ (read : first_unheld grants s (read_needs w.settings (store_keys table index) (seen_rows s table) st) ≡ None) where
    unmet_is : (n : Need) → Some n ≡ first_unheld grants s (write_needs w.settings (store_keys table index) (seen_rows s table) js st) → first_unmet (z.of s).held (needs_of w z s st js) ≡ Some n
    unmet_is n first =
        unmet_right (z.of s).held reads writes (sym (read_first w z ok s session table index grants t st js selects keys_are seen_are) ∙ read)
        ∙ (sym (write_first w z ok s session table index grants t st js selects keys_are seen_are) ∙ sym first)

    pub locking_act : (k : Key) (m : Mode) → IsFirst grants s (store_keys table index) (write_needs w.settings (store_keys table index) (seen_rows s table) js st) (Some (act.Lock k m)) → IsAct w z s st (Takes k m)
    locking_act k m first = record {
      selected = js;
      selects = selects;
      follows = subst (λ (o : Option Need). IsActFor w z s st o (Takes k m)) (sym (unmet_is (Lock k m) first.need)) refl;
    }

    module _ (k next : Key) (m : Mode) (first : IsFirst grants s (store_keys table index) (write_needs w.settings (store_keys table index) (seen_rows s table) js st) (Some (act.New k next m))) where
      new_ok : NeedOk (IsPresent w.settings z) (New k)
      new_ok = unmet_has (NeedOk (IsPresent w.settings z)) (z.of s) (needs_of w z s st js) (New k) (needs_good w z s st js ok selects) (unmet_is (New k) first.need)

      -- the key isn't present and has a code, and so has the next one
      pub new_absent : IsPresent w.settings z k → ⊥
      new_absent = new_ok.0

      pub new_coded : IsCoded k
      new_coded = coded_key k new_ok.2

      pub next_is_next : next ≡ next_key (present_keys w z) k
      next_is_next = first.put.0 ∙ ap (λ ks. next_key ks k) keys_are

      pub next_coded : IsCoded next
      next_coded =
          let l = lists_of w z ok in
          subst IsCoded (sym next_is_next) (coded_key (next_key (present_keys w z) k) (l.coded (next_key (present_keys w z) k) (next_is (IsPresent w.settings z) (present_keys w z) k l new_ok.1).there))

      mode_is : m ≡ put_mode (z.of s).held (next_key (present_keys w z) k)
      mode_is =
          first.put.1
          ∙ (ap (λ b. cond b RangeXX X) (range_same grants s (z.of s).held next (t.held s session next next_coded)) ∙ ap (λ j. put_mode (z.of s).held j) next_is_next)

      pub putting_act : IsAct w z s st (Puts k next m)
      putting_act = record {
        selected = js;
        selects = selects;
        follows = subst (λ (o : Option Need). IsActFor w z s st o (Puts k next m)) (sym (unmet_is (New k) first.need)) (ap (λ j. Puts k j m) next_is_next ∙ ap (Puts k (next_key (present_keys w z) k)) mode_is);
      }
