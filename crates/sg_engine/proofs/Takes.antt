-- A grant keeps the stores tied to the state.
use Rattle.std.proofs.Common.{◌≡◌, ℕ, Bool, true, false, ◌&&◌, ◌||◌, cond, List, ◌∷◌, eqb, eqb-true, refl, sym, ap, ◌∙◌, subst, arith, inl, inr}
use mathlib.Core.Bool.{true≢false}
use Rattle.std.proofs.lemmas.Bool.{eq-eqb, ne_eqb, or_right}
use Rattle.std.proofs.lemmas.Bool.Decides.{nat_tests}
use Rattle.std.specs.declared.cmp.Ordering.{Ordering}
use Rattle.std.specs.declared.cmp.Ordering.TheVariants.{Less, Equal, Greater}
use Rattle.std.specs.Ordering.{is_eq, nat_cmp, ordering_then}
use Rattle.sg_cells.specs.declared.keys.Key.{Key}
use Rattle.sg_cells.specs.declared.keys.Key.TheVariants.{Row, RowEnd, Cell, CellEnd}
use Rattle.sg_cells.specs.declared.settings.Settings.{Settings}
use Rattle.sg_cells.specs.Laws.{Has}
use Rattle.sg_cellrows.specs.CellTable.{CellRow, cell_cmp}
use Rattle.sg_rows.specs.Table.{TableRow}
use Rattle.sg_locks.specs.Grants.{Grant, has_grant, is_same_mode, AddsGrant}
use Rattle.sg_modes.specs.declared.modes.Mode.{Mode}
use Rattle.sg_modes.specs.Sessions.{IsSession}
use Rattle.sg_plain.specs.Rows.{Rows}
use Rattle.sg_trace.specs.Keys.{same_cell, same_key, is_write}
use Rattle.sg_trace.specs.Needs.{holds_by}
use Rattle.sg_trace.specs.Traces.{Stage, Event, Take, Local, State, state, with_one, IsPresent, is_stored}
use Rattle.sg_stores.specs.Held.{key_cmp}
use Rattle.sg_stores.proofs.Keys.{same_by_id}
use Rattle.sg_locks.proofs.GrantLaws.{is_eq-nat_cmp}
use Rattle.sg_engine.specs.Ties.{IsCoded, Ties}

pub number_back : (a b : ℕ) → is_eq (nat_cmp a b) ≡ eqb b a
number_back a b = is_eq-nat_cmp a b ∙ grind (arith, nat_tests)

both : (o : Ordering) (p : Bool) (a b : ℕ) → is_eq o ≡ p → is_eq (ordering_then o (nat_cmp a b)) ≡ (p && eqb b a)
both Less p a b e = ap (λ q. q && eqb b a) e
both Equal p a b e = number_back a b ∙ ap (λ q. q && eqb b a) e
both Greater p a b e = ap (λ q. q && eqb b a) e

-- keys with codes are tied where they are one
pub same_key_is : (k j : Key) → IsCoded k → IsCoded j → is_eq (key_cmp k j) ≡ same_key j k
same_key_is (Row a) (Row b) h h' = number_back a b
same_key_is (Row a) RowEnd h h' = refl
same_key_is (Row a) (Cell d b) h h' = refl
same_key_is (Row a) CellEnd h h' = refl
same_key_is RowEnd (Row b) h h' = refl
same_key_is RowEnd RowEnd h h' = refl
same_key_is RowEnd (Cell d b) h h' = refl
same_key_is RowEnd CellEnd h h' = refl
same_key_is (Cell c a) (Row b) h h' = refl
same_key_is (Cell c a) RowEnd h h' = refl
same_key_is (Cell c a) (Cell d b) h h' = both (cell_cmp c d) (same_cell d c) a b (sym (same_by_id c d h h'))
same_key_is (Cell c a) CellEnd h h' = refl
same_key_is CellEnd (Row b) h h' = refl
same_key_is CellEnd RowEnd h h' = refl
same_key_is CellEnd (Cell d b) h h' = refl
same_key_is CellEnd CellEnd h h' = refl

module _ (c : Settings) (w : Stage) (es : List Event) (s : ℕ) (k : Key) (code : IsCoded k) (m : Mode) (table : List TableRow) (index : List CellRow) (grants new : List (Grant Key))
    (adds : AddsGrant key_cmp grants new (record { session = s; key = k; mode = m })) (t : Ties c (state w es) table index grants) where
  abbrev z : State
  z = state w es

  abbrev later : State
  later = state w (Take s k m ∷ es)

  abbrev x : Local
  x = record (z.of s) { held = (k, m) ∷ (z.of s).held }

  -- one grant more
  more : (test : Mode → Bool) (u : ℕ) (j : Key) → holds_by test (z.of u).held j ≡ true → holds_by test (later.of u).held j ≡ true
  more test u j h = by_test (eqb s u) refl
    where
      by_test : (b : Bool) → eqb s u ≡ b → holds_by test (cond b x (z.of u)).held j ≡ true
      by_test true e = or_right (same_key k j && test m) (holds_by test (z.of s).held j) (subst (λ v. holds_by test (z.of v).held j ≡ true) (sym (eqb-true s u e)) h)
      by_test false e = h

  -- the grants of each session are its held keys
  held_by : (u : ℕ) → IsSession u → (j : Key) → IsCoded j → (n : Mode) → (b : Bool) → eqb u s ≡ b → has_grant key_cmp new u j n ≡ holds_by (is_same_mode n) (with_one z.of s x u).held j
  held_by u session j coded n true e =
      let same : u ≡ s = eqb-true u s e in
      let at : eqb s u ≡ true = eq-eqb s u (sym same) in
      adds u j n
      ∙ (ap (λ b. b && (is_eq (key_cmp j k) && is_same_mode n m) || has_grant key_cmp grants u j n) e
      ∙ (ap (λ b. (b && is_same_mode n m) || has_grant key_cmp grants u j n) (same_key_is j k coded code)
      ∙ (ap (λ b. (same_key k j && is_same_mode n m) || b) (t.held u session j coded n)
      ∙ (ap (λ v. (same_key k j && is_same_mode n m) || holds_by (is_same_mode n) (z.of v).held j) same
      ∙ ap (λ b. holds_by (is_same_mode n) (cond b x (z.of u)).held j) (sym at)))))
  held_by u session j coded n false e =
      let at : eqb s u ≡ false = ne_eqb s u (λ q. true≢false (sym (eq-eqb u s (sym q)) ∙ e)) in
      adds u j n
      ∙ (ap (λ b. b && (is_eq (key_cmp j k) && is_same_mode n m) || has_grant key_cmp grants u j n) e
      ∙ (t.held u session j coded n ∙ ap (λ b. holds_by (is_same_mode n) (cond b x (z.of u)).held j) (sym at)))

  done_same : (u : ℕ) → (later.of u).done ≡ (z.of u).done
  done_same u = by_test (eqb s u) refl
    where
      by_test : (b : Bool) → eqb s u ≡ b → (cond b x (z.of u)).done ≡ (z.of u).done
      by_test true e = ap (λ v. (z.of v).done) (eqb-true s u e)
      by_test false e = refl

  puts_same : (u : ℕ) → (later.of u).puts ≡ (z.of u).puts
  puts_same u = by_test (eqb s u) refl
    where
      by_test : (b : Bool) → eqb s u ≡ b → (cond b x (z.of u)).puts ≡ (z.of u).puts
      by_test true e = ap (λ v. (z.of v).puts) (eqb-true s u e)
      by_test false e = refl

  present_on : (j : Key) → IsPresent c z j → IsPresent c later j
  present_on j (inl e) = inl e
  present_on j (inr (u, h)) = inr (u, subst (λ ps. Has ps j) (sym (puts_same u)) h)

  present_back : (j : Key) → IsPresent c later j → IsPresent c z j
  present_back j (inl e) = inl e
  present_back j (inr (u, h)) = inr (u, subst (λ ps. Has ps j) (puts_same u) h)

  pub take_ties : Ties c later table index new
  take_ties = record {
    committed = t.committed;
    seen = λ u session j. t.seen u session j ∙ ap (λ ds. Rattle.sg_plain.specs.Rows.shape_at (Rattle.sg_trace.specs.Traces.effects ds z.rows) j) (sym (done_same u));
    cells_committed = t.cells_committed;
    cells_seen = t.cells_seen;
    writers = λ u j e. more is_write u (Row j) (t.writers u j e);
    cell_writers = λ u cell code j e. more is_write u (Cell cell j) (t.cell_writers u cell code j e);
    keys = λ j. ((λ h. present_on j ((t.keys j).0 h)), (λ p. (t.keys j).1 (present_back j p)));
    held = λ u session j coded n. held_by u session j coded n (eqb u s) refl;
    rows_kept = t.rows_kept;
    cells_kept = t.cells_kept;
    rising = t.rising;
    sorted = t.sorted;
    codes = t.codes;
  }
