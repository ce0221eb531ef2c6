-- Both orders of the cell rows change alike, each pair in its part.
use Rattle.std.proofs.Common.{◌≡◌, ℕ, Bool, true, false, ◌&&◌, not, cond, List, Option, Some, None, refl, sym, ap, ◌∙◌}
use Rattle.std.specs.declared.cmp.Ordering.{Ordering}
use Rattle.std.specs.declared.cmp.Ordering.TheVariants.{Less, Equal, Greater}
use Rattle.std.specs.Ordering.{nat_cmp, bool_cmp, is_eq, ordering_then}
use mathlib.Core.Bool.{true≢false, beq}
use Rattle.std.specs.Option.{IsSome, option_map}
use Rattle.std.proofs.lemmas.Cmp.{tied_itself}
use Rattle.sg_cells.specs.Cells.{Cell}
use Rattle.sg_cells.specs.declared.marks.Mark.{Mark}
use Rattle.sg_versions.specs.declared.version.Version.{Version}
use Rattle.sg_versions.specs.declared.version.WritesEnd.{WritesEnd}
use Rattle.sg_versions.specs.declared.version.WritesEnd.TheVariants.{Keep, Undo}
use Rattle.sg_versions.specs.Versions.{is_writer, visible, fresh, written, settled_version}
use Rattle.sg_versions.proofs.Orders.{lookup_alike}
use Rattle.sg_cellrows.specs.CellTable.{CellRow, CellKey, cell_cmp, cell_key_cmp, version_at}
use Rattle.sg_cellrows.specs.Nexts.{RowCell, RowKey, PartKey, row_key_cmp, part_key_cmp, part_at, is_bare, is_bare_at, in_part, IsMirrored}
use Rattle.sg_cellrows.proofs.NextCells.{cell_key_total, part_key_total}

is_eq-then : (r t : Ordering) → is_eq (ordering_then r t) ≡ (is_eq r && is_eq t)
is_eq-then Less t = refl
is_eq-then Equal t = refl
is_eq-then Greater t = refl

and_swap : (a b : Bool) → (a && b) ≡ (b && a)
and_swap true true = refl
and_swap true false = refl
and_swap false true = refl
and_swap false false = refl

and_false : (a : Bool) → (a && false) ≡ false
and_false true = refl
and_false false = refl

and_true : (a : Bool) → (a && true) ≡ a
and_true true = refl
and_true false = refl

-- a key is another in both orders or in none
pub same_key : (c d : Cell) (r q : ℕ) → is_eq (cell_key_cmp (c, r) (d, q)) ≡ is_eq (row_key_cmp (r, c) (q, d))
same_key c d r q = is_eq-then (cell_cmp c d) (nat_cmp r q) ∙ and_swap (is_eq (cell_cmp c d)) (is_eq (nat_cmp r q)) ∙ sym (is_eq-then (nat_cmp r q) (cell_cmp c d))

-- a key of a part is one of the same part
part_is : (a b : Bool) (k q : RowKey) → is_eq (part_key_cmp (a, k) (b, q)) ≡ (is_eq (bool_cmp a b) && is_eq (row_key_cmp k q))
part_is a b k q = is_eq-then (bool_cmp a b) (row_key_cmp k q)

in_cond : (b e : Bool) (o p : Option (Version Mark)) → in_part b (cond e o p) ≡ cond e (in_part b o) (in_part b p)
in_cond b true o p = refl
in_cond b false o p = refl

-- what stands in a part where there is a version of which it's known whether it is bare
in_bare : (b t : Bool) (v : Version Mark) → is_bare v ≡ t → in_part b (Some v) ≡ cond (is_eq (bool_cmp b t)) (Some v) None
in_bare b t v is = ap (λ x. cond (is_eq (bool_cmp b x)) (Some v) None) is

-- ---- the end of a session's writes
ended_in : (e : WritesEnd) (s : ℕ) (b : Bool) (c l : Option Mark) (w : Option ℕ) → is_writer s w ≡ true
    → in_part b (settled_version e s (Some (record { committed = c; writer = w; live = l }))) ≡ settled_version e s (in_part b (Some (record { committed = c; writer = w; live = l })))
ended_in Keep s true None None w own = rw own refl
ended_in Keep s false None None w own = rw own refl
ended_in Keep s true None (Some y) w own = rw own refl
ended_in Keep s false None (Some y) w own = rw own refl
ended_in Keep s true (Some x) None w own = rw own refl
ended_in Keep s false (Some x) None w own = rw own refl
ended_in Keep s true (Some x) (Some y) w own = rw own refl
ended_in Keep s false (Some x) (Some y) w own = rw own refl
ended_in Undo s true None None w own = rw own refl
ended_in Undo s false None None w own = rw own refl
ended_in Undo s true None (Some y) w own = rw own refl
ended_in Undo s false None (Some y) w own = rw own refl
ended_in Undo s true (Some x) None w own = rw own refl
ended_in Undo s false (Some x) None w own = rw own refl
ended_in Undo s true (Some x) (Some y) w own = rw own refl
ended_in Undo s false (Some x) (Some y) w own = rw own refl

other_in : (e : WritesEnd) (s : ℕ) (b : Bool) (v : Version Mark) (t : Bool) → is_writer s v.writer ≡ false → is_eq (bool_cmp b (is_bare v)) ≡ t → in_part b (settled_version e s (Some v)) ≡ settled_version e s (in_part b (Some v))
other_in e s b v true other h = rw (other, h) (rw other refl)
other_in e s b v false other h = rw (other, h) refl

version_in : (e : WritesEnd) (s : ℕ) (b : Bool) (v : Version Mark) (t : Bool) → is_writer s v.writer ≡ t → in_part b (settled_version e s (Some v)) ≡ settled_version e s (in_part b (Some v))
version_in e s b v true own = ended_in e s b v.committed v.live v.writer own
version_in e s b v false other = other_in e s b v _ other refl

-- it ends what stands in a part
pub settled_in : (e : WritesEnd) (s : ℕ) (b : Bool) (o : Option (Version Mark)) → in_part b (settled_version e s o) ≡ settled_version e s (in_part b o)
settled_in e s b None = refl
settled_in e s b (Some v) = version_in e s b v _ refl

-- ---- what is seen
bare_sees : (s : ℕ) (c l : Option Mark) (w : Option ℕ) (t : Bool) → is_writer s w ≡ t
    → visible s (in_part false (Some (record { committed = c; writer = w; live = l }))) ≡ visible s (Some (record { committed = c; writer = w; live = l }))
bare_sees s None None w true h = rw h refl
bare_sees s None None w false h = rw h refl
bare_sees s None (Some y) w t h = refl
bare_sees s (Some x) None w t h = refl
bare_sees s (Some x) (Some y) w t h = refl

-- no session sees a mark at a bare pair
pub seen_in_part : (s : ℕ) (o : Option (Version Mark)) → visible s (in_part false o) ≡ visible s o
seen_in_part s None = refl
seen_in_part s (Some v) = bare_sees s v.committed v.live v.writer _ refl

-- ---- a write
-- where a write makes a bare pair of one with a mark, or the other way round, nothing was committed
uncommitted : (s : ℕ) (m c l : Option Mark) (w : Option ℕ) (t : Bool) → is_bare (record { committed = c; writer = w; live = l }) ≡ not t → is_bare (written s m (record { committed = c; writer = w; live = l })) ≡ t → written s m (fresh s) ≡ written s m (record { committed = c; writer = w; live = l })
uncommitted s m None l w t was is = refl
uncommitted s m (Some x) l w true was is = absurd (cc)
uncommitted s m (Some x) l w false was is = absurd (cc)

pub alike : (a b : Bool) → beq a b ≡ true → a ≡ b
alike true true same = refl
alike true false same = absurd (true≢false (sym same))
alike false true same = absurd (true≢false (sym same))
alike false false same = refl

pub differ : (a b : Bool) → beq a b ≡ false → not a ≡ b
differ true true other = absurd (true≢false other)
differ true false other = refl
differ false true other = refl
differ false false other = absurd (true≢false other)

pub itself : (k : PartKey) → is_eq (part_key_cmp k k) ≡ true
itself k = ap is_eq (tied_itself part_key_total k)

-- in its own part a pair has what it has
pub in_own : (b : Bool) (o : Option (Version Mark)) → b ≡ is_bare_at o → in_part b o ≡ o
in_own b None is = refl
in_own true (Some v) is = in_bare true true v (sym is)
in_own false (Some v) is = in_bare false false v (sym is)

-- a key that isn't there is still not there once another is written and taken out
pub still_absent : (t : Bool) (f : Version Mark → Version Mark) (o p q : Option (Version Mark)) → o ≡ None → p ≡ cond t (option_map f o) o → q ≡ cond t None p → q ≡ None
still_absent true f o p q none written out = out
still_absent false f o p q none written out = out ∙ written ∙ none

-- a pair that has just come
pub come : (k : PartKey) (v : Version Mark) (o p : Option (Version Mark)) → p ≡ cond (is_eq (part_key_cmp k k)) (Some v) o → p ≡ Some v
come k v o p new = new ∙ ap (λ t. cond t (Some v) o) (itself k)

module _ (by_cell : List CellRow) (by_row : List RowCell) (new_cell : List CellRow) (new_row : List RowCell) (mirrored : IsMirrored by_cell by_row) where
  -- all of a session's writes have ended
  pub mirrored_settled : (e : WritesEnd) (s : ℕ) → ((k : CellKey) → version_at new_cell k ≡ settled_version e s (version_at by_cell k))
      → ((b : Bool) (k : RowKey) → part_at new_row b k ≡ settled_version e s (part_at by_row b k)) → IsMirrored new_cell new_row
  mirrored_settled e s cells rows b d q =
      ap (in_part b) (cells (d, q)) ∙ settled_in e s b (version_at by_cell (d, q)) ∙ ap (settled_version e s) (mirrored b d q) ∙ sym (rows b (q, d))

  module _ (c : Cell) (r : ℕ) where
    -- what is alike stands where the key does
    here : (b : Bool) (d : Cell) (q : ℕ) → is_eq (cell_key_cmp (c, r) (d, q)) ≡ true → part_at by_row b (q, d) ≡ in_part b (version_at by_cell (c, r))
    here b d q e = sym (mirrored b d q) ∙ ap (in_part b) (lookup_alike cell_key_cmp cell_key_total (c, r) (d, q) by_cell e)

    changed_by : (f : Option (Version Mark) → Option (Version Mark)) (g : Bool → Bool → Option (Version Mark) → Option (Version Mark))
        → ((b : Bool) (x : Option (Version Mark)) → g b false x ≡ x) → ((b : Bool) → g b true (in_part b (version_at by_cell (c, r))) ≡ in_part b (f (version_at by_cell (c, r))))
        → (b : Bool) (d : Cell) (q : ℕ) (e : Bool) → is_eq (cell_key_cmp (c, r) (d, q)) ≡ e
        → in_part b (cond e (f (version_at by_cell (d, q))) (version_at by_cell (d, q))) ≡ g b e (part_at by_row b (q, d))
    changed_by f g others own b d q true h =
        ap (λ o. in_part b (f o)) (lookup_alike cell_key_cmp cell_key_total (c, r) (d, q) by_cell h) ∙ sym (own b) ∙ ap (g b true) (sym (here b d q h))
    changed_by f g others own b d q false h = mirrored b d q ∙ sym (others b (part_at by_row b (q, d)))

    -- one key has changed: f of what it had in the order by cells, and g of what it had in each part
    mirrored_at : (f : Option (Version Mark) → Option (Version Mark)) (g : Bool → Bool → Option (Version Mark) → Option (Version Mark))
        → ((b : Bool) (x : Option (Version Mark)) → g b false x ≡ x) → ((b : Bool) → g b true (in_part b (version_at by_cell (c, r))) ≡ in_part b (f (version_at by_cell (c, r))))
        → ((k : CellKey) → version_at new_cell k ≡ cond (is_eq (cell_key_cmp (c, r) k)) (f (version_at by_cell k)) (version_at by_cell k))
        → ((b : Bool) (k : RowKey) → part_at new_row b k ≡ g b (is_eq (row_key_cmp (r, c) k)) (part_at by_row b k)) → IsMirrored new_cell new_row
    mirrored_at f g others own cells rows b d q =
        ap (in_part b) (cells (d, q)) ∙ changed_by f g others own b d q _ refl ∙ ap (λ e. g b e (part_at by_row b (q, d))) (same_key c d r q) ∙ sym (rows b (q, d))

    -- a pair has come
    put_other : (t : Bool) (v : Version Mark) (b : Bool) (x : Option (Version Mark)) → cond (is_eq (bool_cmp t b) && false) (Some v) x ≡ x
    put_other t v b x = ap (λ e. cond e (Some v) x) (and_false (is_eq (bool_cmp t b)))

    put_own : (t : Bool) (v : Version Mark) → is_bare v ≡ t → (b : Bool) → cond (is_eq (bool_cmp t b) && true) (Some v) None ≡ in_part b (Some v)
    put_own true v is true = sym (in_bare true true v is)
    put_own true v is false = sym (in_bare false true v is)
    put_own false v is true = sym (in_bare true false v is)
    put_own false v is false = sym (in_bare false false v is)

    pub mirrored_put : (t : Bool) (v : Version Mark) → is_bare v ≡ t → version_at by_cell (c, r) ≡ None
        → ((k : CellKey) → version_at new_cell k ≡ cond (is_eq (cell_key_cmp (c, r) k)) (Some v) (version_at by_cell k))
        → ((b : Bool) (k : RowKey) → part_at new_row b k ≡ cond (is_eq (part_key_cmp (t, (r, c)) (b, k))) (Some v) (part_at by_row b k)) → IsMirrored new_cell new_row
    mirrored_put t v is absent cells rows =
        mirrored_at (λ _. Some v) (λ b e x. cond (is_eq (bool_cmp t b) && e) (Some v) x) (put_other t v)
        (λ b. ap (λ (o : Option (Version Mark)). cond (is_eq (bool_cmp t b) && true) (Some v) (in_part b o)) absent ∙ put_own t v is b) cells
        (λ b k. rows b k ∙ ap (λ e. cond e (Some v) (part_at by_row b k)) (part_is t b (r, c) k))

    module _ (s : ℕ) (m : Option Mark) (v : Version Mark) (there : version_at by_cell (c, r) ≡ Some v) where
      write_other : (t b : Bool) (x : Option (Version Mark)) → cond (is_eq (bool_cmp t b) && false) (option_map (written s m) x) x ≡ x
      write_other t b x = ap (λ e. cond e (option_map (written s m) x) x) (and_false (is_eq (bool_cmp t b)))

      write_own : (t : Bool) → is_bare v ≡ t → is_bare (written s m v) ≡ t → (b : Bool) → cond (is_eq (bool_cmp t b) && true) (option_map (written s m) (in_part b (Some v))) (in_part b (Some v)) ≡ in_part b (Some (written s m v))
      write_own true was is true = rw (was, is) refl
      write_own true was is false = rw (was, is) refl
      write_own false was is true = rw (was, is) refl
      write_own false was is false = rw (was, is) refl

      -- a pair is written, and stays in its part
      mirrored_written : (t : Bool) → is_bare v ≡ t → is_bare (written s m v) ≡ t
          → ((k : CellKey) → version_at new_cell k ≡ cond (is_eq (cell_key_cmp (c, r) k)) (option_map (written s m) (version_at by_cell k)) (version_at by_cell k))
          → ((b : Bool) (k : RowKey) → part_at new_row b k ≡ cond (is_eq (part_key_cmp (t, (r, c)) (b, k))) (option_map (written s m) (part_at by_row b k)) (part_at by_row b k)) → IsMirrored new_cell new_row
      mirrored_written t was is cells rows =
          mirrored_at (option_map (written s m)) (λ b e x. cond (is_eq (bool_cmp t b) && e) (option_map (written s m) x) x) (write_other t)
          (λ b. ap (λ (o : Option (Version Mark)). cond (is_eq (bool_cmp t b) && true) (option_map (written s m) (in_part b o)) (in_part b o)) there ∙ write_own t was is b ∙ ap (λ o. in_part b (option_map (written s m) o)) (sym there)) cells
          (λ b k. rows b k ∙ ap (λ e. cond e (option_map (written s m) (part_at by_row b k)) (part_at by_row b k)) (part_is t b (r, c) k))

      move_other : (t : Bool) (w : Version Mark) (b : Bool) (x : Option (Version Mark)) → cond (is_eq (bool_cmp t b) && false) (Some w) (cond (is_eq (bool_cmp (not t) b) && false) None x) ≡ x
      move_other true w true x = refl
      move_other true w false x = refl
      move_other false w true x = refl
      move_other false w false x = refl

      move_own : (t : Bool) (w : Version Mark) → is_bare w ≡ t → (b : Bool) (x : Option (Version Mark)) → cond (is_eq (bool_cmp t b) && true) (Some w) (cond (is_eq (bool_cmp (not t) b) && true) None x) ≡ in_part b (Some w)
      move_own true w is true x = sym (in_bare true true w is)
      move_own true w is false x = sym (in_bare false true w is)
      move_own false w is true x = sym (in_bare true false w is)
      move_own false w is false x = sym (in_bare false false w is)

      -- a pair is written, and comes into the other part
      mirrored_moved : (t : Bool) (w : Version Mark) → is_bare (written s m v) ≡ t → w ≡ written s m v
          → ((k : CellKey) → version_at new_cell k ≡ cond (is_eq (cell_key_cmp (c, r) k)) (option_map (written s m) (version_at by_cell k)) (version_at by_cell k))
          → ((b : Bool) (k : RowKey) → part_at new_row b k ≡ cond (is_eq (part_key_cmp (t, (r, c)) (b, k))) (Some w) (cond (is_eq (part_key_cmp (not t, (r, c)) (b, k))) None (part_at by_row b k))) → IsMirrored new_cell new_row
      mirrored_moved t w is same cells rows =
          mirrored_at (option_map (written s m)) (λ b e x. cond (is_eq (bool_cmp t b) && e) (Some w) (cond (is_eq (bool_cmp (not t) b) && e) None x)) (move_other t w)
          (λ b. move_own t w (ap is_bare same ∙ is) b (in_part b (version_at by_cell (c, r))) ∙ ap (λ (x : Version Mark). in_part b (Some x)) same ∙ ap (λ o. in_part b (option_map (written s m) o)) (sym there)) cells
          (λ b k. rows b k
          ∙ ap (λ e. cond e (Some w) (cond (is_eq (part_key_cmp (not t, (r, c)) (b, k))) None (part_at by_row b k))) (part_is t b (r, c) k)
          ∙ ap (λ e. cond (is_eq (bool_cmp t b) && is_eq (row_key_cmp (r, c) k)) (Some w) (cond e None (part_at by_row b k))) (part_is (not t) b (r, c) k))

    module _ (s : ℕ) (m : Option Mark)
        (cells : (k : CellKey) → version_at new_cell k ≡ cond (is_eq (cell_key_cmp (c, r) k)) (option_map (written s m) (version_at by_cell k)) (version_at by_cell k)) (was is : Bool)
        (was_is : was ≡ is_bare_at (version_at by_cell (c, r))) (is_is : is ≡ is_bare_at (version_at new_cell (c, r))) where
      -- what the pair has then
      after : (v : Version Mark) → version_at by_cell (c, r) ≡ Some v → version_at new_cell (c, r) ≡ Some (written s m v)
      after v there =
          cells (c, r) ∙ ap (λ t. cond t (option_map (written s m) (version_at by_cell (c, r))) (version_at by_cell (c, r))) (ap is_eq (tied_itself cell_key_total (c, r)))
          ∙ ap (option_map (written s m)) there

      write_by : (o : Option (Version Mark)) → version_at by_cell (c, r) ≡ o → IsSome o → beq is was ≡ true
          → ((b : Bool) (k : RowKey) → part_at new_row b k ≡ cond (is_eq (part_key_cmp (is, (r, c)) (b, k))) (option_map (written s m) (part_at by_row b k)) (part_at by_row b k)) → IsMirrored new_cell new_row
      write_by None there some same rows = absurd (true≢false (sym some))
      write_by (Some v) there some same rows = mirrored_written s m v there is (sym (alike is was same ∙ was_is ∙ ap is_bare_at there)) (sym (is_is ∙ ap is_bare_at (after v there))) cells rows

      -- the pair stays in its part
      pub mirrored_write : IsSome (version_at by_cell (c, r)) → beq is was ≡ true
          → ((b : Bool) (k : RowKey) → part_at new_row b k ≡ cond (is_eq (part_key_cmp (is, (r, c)) (b, k))) (option_map (written s m) (part_at by_row b k)) (part_at by_row b k)) → IsMirrored new_cell new_row
      mirrored_write some same rows = write_by _ refl some same rows

      move_by : (o : Option (Version Mark)) → version_at by_cell (c, r) ≡ o → IsSome o → beq is was ≡ false
          → ((b : Bool) (k : RowKey) → part_at new_row b k ≡ cond (is_eq (part_key_cmp (is, (r, c)) (b, k))) (Some (written s m (fresh s))) (cond (is_eq (part_key_cmp (not is, (r, c)) (b, k))) None (part_at by_row b k))) → IsMirrored new_cell new_row
      move_by None there some other rows = absurd (true≢false (sym some))
      move_by (Some v) there some other rows =
          let then : is_bare (written s m v) ≡ is = sym (is_is ∙ ap is_bare_at (after v there)) in
          let before : is_bare v ≡ not is = sym (differ is was other ∙ was_is ∙ ap is_bare_at there) in
          mirrored_moved s m v there is (written s m (fresh s)) then (uncommitted s m v.committed v.live v.writer is before then) cells rows

      -- the pair comes into the other part
      pub mirrored_move : IsSome (version_at by_cell (c, r)) → beq is was ≡ false
          → ((b : Bool) (k : RowKey) → part_at new_row b k ≡ cond (is_eq (part_key_cmp (is, (r, c)) (b, k))) (Some (written s m (fresh s))) (cond (is_eq (part_key_cmp (not is, (r, c)) (b, k))) None (part_at by_row b k))) → IsMirrored new_cell new_row
      mirrored_move some other rows = move_by _ refl some other rows
