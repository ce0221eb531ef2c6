-- The least cell of a row at which a session sees a mark.
use Rattle.std.specs.Prelude.{IfSome, IfNone, IsSome}
use Rattle.std.proofs.Common.{◌≡◌, ℕ, Bool, true, false, cond, List, [], ◌∷◌, Option, Some, None, refl, sym, ap, ◌∙◌, subst}
use mathlib.Core.Bool.{true≢false}
use Rattle.std.specs.declared.cmp.Ordering.{Ordering}
use Rattle.std.specs.declared.cmp.Ordering.TheVariants.{Less, Equal, Greater}
use Rattle.std.specs.Ordering.{is_eq, is_lt, is_le, ordering_reverse}
use Rattle.std.specs.Cmp.{nat_cmp_total}
use Rattle.std.specs.Map.{lookup}
use Rattle.std.specs.BTreeMap.{is_at}
use Rattle.std.specs.Option.{is_some}
use Rattle.std.proofs.lemmas.Cmp.{tied_itself}
use Rattle.sg_cells.specs.Cells.{Cell}
use Rattle.sg_cells.specs.declared.marks.Mark.{Mark}
use Rattle.sg_versions.specs.declared.version.Version.{Version}
use Rattle.sg_versions.specs.Versions.{visible, seen}
use Rattle.sg_cellrows.specs.CellTable.{CellRow, cell_cmp, version_at, is_past, IsLeast}
use Rattle.sg_cellrows.specs.Nexts.{PartKey, RowCell, part_key_cmp, version_in, seen_in, IsNextCell, IsMirrored}
use Rattle.sg_cellrows.proofs.Mirrors.{seen_in_part}
use Rattle.sg_cellrows.proofs.NextCells.{cell_total, part_key_total}

lookup_by : (p q : PartKey → Bool) (rows : List RowCell) → ((k : PartKey) → p k ≡ q k) → lookup p rows ≡ lookup q rows
lookup_by p q [] same = refl
lookup_by p q (x ∷ rows) same = let here = same x.0 in rw here (ap (λ t. cond (q x.0) (Some x.1) t) (lookup_by p q rows same))

same_cell : (r : ℕ) (c d : Cell) → cell_cmp c d ≡ Equal → part_key_cmp (false, (r, c)) (false, (r, d)) ≡ Equal
same_cell r c d e = let same = tied_itself nat_cmp_total r in rw (same, e) refl

version_alike : (rows : List RowCell) (r : ℕ) (c d : Cell) → cell_cmp c d ≡ Equal → version_in rows (r, c) ≡ version_in rows (r, d)
version_alike rows r c d e = lookup_by (is_at (part_key_cmp (false, (r, c)))) (is_at (part_key_cmp (false, (r, d)))) rows (λ k. ap is_eq (part_key_total.congr (false, (r, c)) (false, (r, d)) k (same_cell r c d e)))

further_by : (last : Option Cell) (c d : Cell) → is_past last c ≡ true → is_past (Some c) d ≡ true → is_past last d ≡ true
further_by None c d h k = refl
further_by (Some a) c d h k = by_cells _ _ refl refl h k
  where
    by_cells : (o p : Ordering) → cell_cmp a c ≡ o → cell_cmp c d ≡ p → is_lt o ≡ true → is_lt p ≡ true → is_lt (cell_cmp a d) ≡ true
    by_cells Less Less e f g i = ap is_lt (cell_total.trans a c d e f)
    by_cells Less Equal e f g i = absurd (true≢false (sym i))
    by_cells Less Greater e f g i = absurd (true≢false (sym i))
    by_cells Equal p e f g i = absurd (true≢false (sym g))
    by_cells Greater p e f g i = absurd (true≢false (sym g))

module _ (rows : List RowCell) (s r : ℕ) (above : Option Cell) where
  -- up to the last cell nothing is seen
  pub record IsSeenTo (last : Option Cell) : Type 0 where
    pub none_seen : (c : Cell) → is_past above c ≡ true → is_past last c ≡ false → seen_in rows s r c ≡ None
    pub further : (c : Cell) → is_past last c ≡ true → is_past above c ≡ true

  pub seen_first : IsSeenTo above
  seen_first = record { none_seen = λ c h f. absurd (true≢false (sym h ∙ f)); further = λ c h. h }

  module _ (last : Option Cell) (to : IsSeenTo last) where
    -- no cell is left
    pub seen_none : ((c : Cell) → is_past last c ≡ true → version_in rows (r, c) ≡ None) → (c : Cell) → is_past above c ≡ true → seen_in rows s r c ≡ None
    seen_none none c h = by_last (is_past last c) refl
      where
        by_last : (b : Bool) → is_past last c ≡ b → seen_in rows s r c ≡ None
        by_last true e = ap (visible s) (none c e)
        by_last false e = to.none_seen c h e

    module _ (cell : Cell) (v : Version Mark) (next : IsNextCell rows r last (cell, v)) where
      -- its mark is seen
      pub seen_least : (m : Mark) → seen s v ≡ Some m → IsLeast (seen_in rows s r) above (cell, m)
      seen_least m is = record {
        beyond = to.further cell next.beyond;
        seen_is = ap (visible s) next.version_is ∙ is;
        least = λ c h some. by_last c h some (is_past last c) refl;
      }
        where
          by_order : (c : Cell) → is_past last c ≡ true → IsSome (seen_in rows s r c) → (o : Ordering) → cell_cmp c cell ≡ o → is_le (cell_cmp cell c) ≡ true
          by_order c k some Less e = absurd (true≢false (sym some ∙ ap (λ o. is_some (visible s o)) (next.none_between c k (ap is_lt e))))
          by_order c k some Equal e = ap is_le (cell_total.antisymm cell c ∙ ap ordering_reverse e)
          by_order c k some Greater e = ap is_le (cell_total.antisymm cell c ∙ ap ordering_reverse e)

          by_last : (c : Cell) → is_past above c ≡ true → IsSome (seen_in rows s r c) → (b : Bool) → is_past last c ≡ b → is_le (cell_cmp cell c) ≡ true
          by_last c h some true e = by_order c e some _ refl
          by_last c h some false e = absurd (true≢false (sym some ∙ ap is_some (to.none_seen c h e)))

      -- no mark is seen there
      pub seen_past : seen s v ≡ None → IsSeenTo (Some cell)
      seen_past is = record {
        none_seen = λ c h past. by_last c h past (is_past last c) refl;
        further = λ c h. to.further c (further_by last cell c next.beyond h);
      }
        where
          by_order : (c : Cell) → is_past last c ≡ true → is_past (Some cell) c ≡ false → (o : Ordering) → cell_cmp c cell ≡ o → seen_in rows s r c ≡ None
          by_order c k past Less e = ap (visible s) (next.none_between c k (ap is_lt e))
          by_order c k past Equal e = ap (visible s) (version_alike rows r c cell e ∙ next.version_is) ∙ is
          by_order c k past Greater e = absurd (true≢false (sym (ap is_lt (cell_total.antisymm cell c ∙ ap ordering_reverse e)) ∙ past))

          by_last : (c : Cell) → is_past above c ≡ true → is_past (Some cell) c ≡ false → (b : Bool) → is_past last c ≡ b → seen_in rows s r c ≡ None
          by_last c h past true e = by_order c e past _ refl
          by_last c h past false e = to.none_seen c h e

-- ---- the same by the other order
module _ (by_cell : List CellRow) (by_row : List RowCell) (mirrored : IsMirrored by_cell by_row) (s r : ℕ) (above : Option Cell) where
  seen_is : (c : Cell) → visible s (version_at by_cell (c, r)) ≡ seen_in by_row s r c
  seen_is c = sym (seen_in_part s (version_at by_cell (c, r))) ∙ ap (visible s) (mirrored false c r)

  pub least_seen : (found : Option (Cell × Mark)) → IfSome found (IsLeast (seen_in by_row s r) above) → IfSome found (IsLeast (λ c. visible s (version_at by_cell (c, r))) above)
  least_seen None h = tt
  least_seen (Some x) h = record {
    beyond = h.beyond;
    seen_is = seen_is x.0 ∙ h.seen_is;
    least = λ c k some. h.least c k (subst IsSome (seen_is c) some);
  }

  pub none_seen : (found : Option (Cell × Mark)) → IfNone found ((c : Cell) → is_past above c ≡ true → seen_in by_row s r c ≡ None) → IfNone found ((c : Cell) → is_past above c ≡ true → visible s (version_at by_cell (c, r)) ≡ None)
  none_seen None h = λ c k. seen_is c ∙ h c k
  none_seen (Some x) h = tt
