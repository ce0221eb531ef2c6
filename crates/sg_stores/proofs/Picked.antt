-- The shapes that are picked from the rows of a table, as rows: look-ups, order and soundness.
use Rattle.std.specs.Prelude.{filter_map, nat_lt, IfSome, All}
use Rattle.std.proofs.Common.{◌≡◌, ◌≢◌, ℕ, ◌+◌, ◌≤◌, ◌<◌, Bool, true, false, cond, List, [], ◌∷◌, Option, Some, None, refl, sym, ap, ap₂, ◌∙◌, subst, arith, eqb, inl, inr}
use Rattle.std.specs.declared.cmp.Ordering.TheVariants.{Less, Equal, Greater}
use Rattle.std.specs.Ordering.{nat_cmp, is_eq}
use Rattle.std.specs.Option.{option_map}
use Rattle.std.specs.List.{AllByRecursion}
use Rattle.std.specs.List.Sorted.{IsStrictlySortedBy}
use Rattle.std.specs.Map.{keys_of}
use Rattle.std.proofs.lemmas.Bool.{cases_eq, cases_order, eq-eqb, ne_eqb}
use Rattle.std.proofs.lemmas.List.Elements.{All-cons, All-nil}
use Rattle.std.proofs.lemmas.Map.Keys.{sorted_tail}
use Rattle.sg_shape.specs.declared.shapes.Shape.{Shape}
use Rattle.sg_shape.specs.Sound.{IsSound}
use Rattle.sg_plain.specs.Keys.{RisesFrom, IsRising}
use Rattle.sg_plain.specs.Rows as plain
use Rattle.sg_plain.proofs.Lookups.{shape_at-same, shape_at-other, absent_below}
use Rattle.sg_versions.specs.declared.version.Version.{Version}
use Rattle.sg_versions.specs.Versions.{is_writer, seen, visible}
use Rattle.sg_rows.specs.Table.{TableRow, IsSoundRow, AreSoundRows, version_at, committed_rows}
use Rattle.sg_locks.proofs.GrantLaws.{is_eq-nat_cmp}
use Rattle.sg_stores.proofs.Numbers.{above_all, from_zero}
use Rattle.sg_stores.specs.Agreement.{committed_in, seen_rows}

-- ---- the version at a key
pub version_at-same : (r : TableRow) (rows : List TableRow) (k : ℕ) → r.0 ≡ k → version_at (r ∷ rows) k ≡ Some r.1
version_at-same r rows k same = let same_is : is_eq (nat_cmp k r.0) ≡ true = is_eq-nat_cmp k r.0 ∙ eq-eqb k r.0 (sym same) in rw same_is refl

pub version_at-other : (r : TableRow) (rows : List TableRow) (k : ℕ) → r.0 ≢ k → version_at (r ∷ rows) k ≡ version_at rows k
version_at-other r rows k apart = let apart_is : is_eq (nat_cmp k r.0) ≡ false = is_eq-nat_cmp k r.0 ∙ ne_eqb k r.0 (λ e. apart (sym e)) in rw apart_is refl

-- ---- one shape of each row
module _ (pick : Version Shape → Option Shape) where
  abbrev picked_row : TableRow → Option (ℕ × Shape)
  picked_row r = option_map (λ shape. (r.0, shape)) (pick r.1)

  abbrev pub picked : List TableRow → plain.Rows
  picked rows = filter_map picked_row rows

  rises_by : (low : ℕ) (r : TableRow) (rows : List TableRow) (o : Option Shape) → pick r.1 ≡ o → low ≤ r.0 → RisesFrom (r.0 + 1) (plain.keys_of (picked rows)) → RisesFrom low (plain.keys_of (picked rows)) → RisesFrom low (plain.keys_of (picked (r ∷ rows)))
  rises_by low r rows None e le high here = rw e here
  rises_by low r rows (Some shape) e le high here = rw e (le, high)

  pub picked_rises : (low : ℕ) (rows : List TableRow) → IsStrictlySortedBy nat_cmp (keys_of rows) → AllByRecursion (λ k. low ≤ k) (keys_of rows) → RisesFrom low (plain.keys_of (picked rows))
  unfolding IsStrictlySortedBy
  picked_rises low [] rising all = tt
  picked_rises low (r ∷ rows) rising all =
      rises_by low r rows _ refl all.0 (picked_rises (r.0 + 1) rows rising.1 (above_all r.0 (keys_of rows) rising.0)) (picked_rises low rows rising.1 all.1)

  picked_above : (r : TableRow) (rows : List TableRow) → IsStrictlySortedBy nat_cmp (keys_of (r ∷ rows)) → RisesFrom (r.0 + 1) (plain.keys_of (picked rows))
  unfolding IsStrictlySortedBy
  picked_above r rows rising = picked_rises (r.0 + 1) rows rising.1 (above_all r.0 (keys_of rows) rising.0)

  module _ (at : Option (Version Shape) → Option Shape) (at_none : at None ≡ None) (at_some : (v : Version Shape) → at (Some v) ≡ pick v) where
    here_by : (r : TableRow) (rows : List TableRow) (o : Option Shape) → pick r.1 ≡ o → RisesFrom (r.0 + 1) (plain.keys_of (picked rows)) → plain.shape_at (picked (r ∷ rows)) r.0 ≡ o
    here_by r rows None e above = rw e (absent_below (r.0 + 1) (picked rows) r.0 above (omega arith))
    here_by r rows (Some shape) e above = rw e (shape_at-same (r.0, shape) (picked rows) r.0 refl)

    there_by : (r : TableRow) (rows : List TableRow) (k : ℕ) (o : Option Shape) → pick r.1 ≡ o → r.0 ≢ k → plain.shape_at (picked (r ∷ rows)) k ≡ plain.shape_at (picked rows) k
    there_by r rows k None e apart = rw e refl
    there_by r rows k (Some shape) e apart = rw e (shape_at-other (r.0, shape) (picked rows) k apart)

    -- the shape at a key is what is picked there
    pub shape_at-picked : (rows : List TableRow) (k : ℕ) → IsStrictlySortedBy nat_cmp (keys_of rows) → plain.shape_at (picked rows) k ≡ at (version_at rows k)
    shape_at-picked [] k rising = sym at_none
    shape_at-picked (r ∷ rows) k rising =
        elim (cases_eq r.0 k) [
          | inl same ↦
              ap (plain.shape_at (picked (r ∷ rows))) (sym same) ∙ here_by r rows _ refl (picked_above r rows rising)
              ∙ sym (at_some r.1) ∙ ap at (sym (version_at-same r rows k same))
          | inr apart ↦
              there_by r rows k _ refl apart ∙ shape_at-picked rows k (sorted_tail nat_cmp r.0 (keys_of rows) rising)
              ∙ ap at (sym (version_at-other r rows k apart))
        ]

  module _ (sound : (r : TableRow) → IsSoundRow r → IfSome (pick r.1) IsSound) where
    sound_by : (r : TableRow) (rows : List TableRow) (o : Option Shape) → pick r.1 ≡ o → IfSome o IsSound → All (λ row. IsSound row.1) (picked rows) → All (λ row. IsSound row.1) (picked (r ∷ rows))
    sound_by r rows None e here rest = rw e rest
    sound_by r rows (Some shape) e here rest = rw e (All-cons (λ (row : ℕ × Shape). IsSound row.1) (r.0, shape) (picked rows) here rest)

    picked_sound : (rows : List TableRow) → AreSoundRows rows → All (λ row. IsSound row.1) (picked rows)
    picked_sound [] all = All-nil (λ (row : ℕ × Shape). IsSound row.1)
    picked_sound (r ∷ rows) all = sound_by r rows _ refl (sound r all.0) (picked_sound rows all.1)

    pub picked_are_rows : (rows : List TableRow) → IsStrictlySortedBy nat_cmp (keys_of rows) → AreSoundRows rows → plain.AreRows (picked rows)
    picked_are_rows rows rising all = record { rising = picked_rises 0 rows rising (from_zero (keys_of rows)); sound = picked_sound rows all }

-- ---- the committed shapes, and those that a session sees
pub shape_at-committed : (rows : List TableRow) (k : ℕ) → IsStrictlySortedBy nat_cmp (keys_of rows) → plain.shape_at (committed_rows rows) k ≡ committed_in (version_at rows k)
shape_at-committed rows k rising = shape_at-picked (λ v. v.committed) committed_in refl (λ v. refl) rows k rising

pub committed_are_rows : (rows : List TableRow) → IsStrictlySortedBy nat_cmp (keys_of rows) → AreSoundRows rows → plain.AreRows (committed_rows rows)
committed_are_rows rows rising all = picked_are_rows (λ v. v.committed) (λ r sound. sound.committed) rows rising all

module _ (s : ℕ) where
  seen_sound : (r : TableRow) → IsSoundRow r → IfSome (seen s r.1) IsSound
  seen_sound r sound = by_writer (is_writer s r.1.writer)
    where
      by_writer : (b : Bool) → IfSome (cond b r.1.live r.1.committed) IsSound
      by_writer true = sound.live
      by_writer false = sound.committed

  pub shape_at-seen : (rows : List TableRow) (k : ℕ) → IsStrictlySortedBy nat_cmp (keys_of rows) → plain.shape_at (seen_rows s rows) k ≡ visible s (version_at rows k)
  shape_at-seen rows k rising = shape_at-picked (seen s) (visible s) refl (λ v. refl) rows k rising

  pub seen_rise : (rows : List TableRow) → IsStrictlySortedBy nat_cmp (keys_of rows) → IsRising (plain.keys_of (seen_rows s rows))
  seen_rise rows rising = picked_rises (seen s) 0 rows rising (from_zero (keys_of rows))

  pub seen_are_rows : (rows : List TableRow) → IsStrictlySortedBy nat_cmp (keys_of rows) → AreSoundRows rows → plain.AreRows (seen_rows s rows)
  seen_are_rows rows rising all = picked_are_rows (seen s) seen_sound rows rising all

-- ---- rows with the same look-ups are the same
no_shape : (shape : Shape) → Some shape ≡ None → ⊥
no_shape shape e = cc

held_first : (low : ℕ) (x : ℕ × Shape) (xs ys : plain.Rows) → RisesFrom (x.0 + 1) (plain.keys_of ys) → plain.shape_at (x ∷ xs) x.0 ≡ plain.shape_at ys x.0 → ⊥
held_first low x xs ys above e = no_shape x.1 (sym (shape_at-same x xs x.0 refl) ∙ e ∙ absent_below (x.0 + 1) ys x.0 above (omega arith))

same_rest : (x y : ℕ × Shape) (xs ys : plain.Rows) → x.0 ≡ y.0 → RisesFrom (x.0 + 1) (plain.keys_of xs) → RisesFrom (y.0 + 1) (plain.keys_of ys) → ((k : ℕ) → plain.shape_at (x ∷ xs) k ≡ plain.shape_at (y ∷ ys) k) → (k : ℕ) → plain.shape_at xs k ≡ plain.shape_at ys k
same_rest x y xs ys first above beyond same k =
    elim (cases_eq x.0 k) [
      | inl e ↦ absent_below (x.0 + 1) xs k above (omega arith) ∙ sym (absent_below (y.0 + 1) ys k beyond (omega (arith, first)))
      | inr apart ↦ sym (shape_at-other x xs k apart) ∙ same k ∙ shape_at-other y ys k (λ e. apart (first ∙ e))
    ]

same_row : (x y : ℕ × Shape) → x.0 ≡ y.0 → x.1 ≡ y.1 → x ≡ y
same_row x y e f = ap₂ (λ (k : ℕ) (shape : Shape). (k, shape)) e f

pub same_from : (low : ℕ) (xs ys : plain.Rows) → RisesFrom low (plain.keys_of xs) → RisesFrom low (plain.keys_of ys) → ((k : ℕ) → plain.shape_at xs k ≡ plain.shape_at ys k) → xs ≡ ys
same_from low [] [] rising others same = refl
same_from low [] (y ∷ ys) rising others same = absurd (no_shape y.1 (sym (shape_at-same y ys y.0 refl) ∙ sym (same y.0)))
same_from low (x ∷ xs) [] rising others same = absurd (no_shape x.1 (sym (shape_at-same x xs x.0 refl) ∙ same x.0))
same_from low (x ∷ xs) (y ∷ ys) rising others same =
    elim (cases_order x.0 y.0) [
      | inl first ↦
          let value : Some x.1 ≡ Some y.1 = sym (shape_at-same x xs x.0 refl) ∙ same x.0 ∙ shape_at-same y ys x.0 (sym first) in
          let rest = same_from (x.0 + 1) xs ys rising.1 (subst (λ (k : ℕ). RisesFrom (k + 1) (plain.keys_of ys)) (sym first) others.1) (same_rest x y xs ys first rising.1 others.1 same) in
          let head : x ≡ y = same_row x y first (cc) in
          cc
      | inr (inl lesser) ↦ absurd (held_first low x xs (y ∷ ys) (omega arith, others.1) (same x.0))
      | inr (inr greater) ↦ absurd (held_first low y ys (x ∷ xs) (omega arith, rising.1) (sym (same y.0)))
    ]

pub same_rows : (xs ys : plain.Rows) → plain.AreRows xs → plain.AreRows ys → ((k : ℕ) → plain.shape_at xs k ≡ plain.shape_at ys k) → xs ≡ ys
same_rows xs ys are others same = same_from 0 xs ys are.rising others.rising same
