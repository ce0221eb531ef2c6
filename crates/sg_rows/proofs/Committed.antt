-- The committed rows, one after another.
use Rattle.std.specs.Prelude.{slice_get, nat_lt, IfSome}
use Rattle.std.proofs.Common.{◌≡◌, ℕ, ◌+◌, ◌≤◌, ◌<◌, Bool, true, false, cond, List, [], ◌∷◌, ◌++◌, length, Option, Some, None, refl, sym, ap, ◌∙◌, subst, arith, eqb}
use Rattle.std.specs.declared.cmp.Ordering.TheVariants.{Less, Equal, Greater}
use Rattle.std.specs.Ordering.{nat_cmp}
use Rattle.std.specs.List.{AllByRecursion}
use Rattle.std.specs.List.Sorted.{IsStrictlySortedBy}
use Rattle.std.specs.Map.{keys_of}
use Rattle.sg_shape.specs.declared.shapes.Shape.{Shape}
use Rattle.sg_shape.specs.Sound.{IsSound}
use Rattle.sg_plain.specs.Keys.{RisesFrom, IsRising}
use Rattle.sg_plain.specs.Rows as plain
use Rattle.sg_rows.specs.Table.{TableRow, IsSoundRow, AreSoundRows, IsNextRow, committed_rows, rows_past}
use Rattle.sg_rows.proofs.SoundRows.{sound_past}
use Rattle.sg_rows.proofs.PastRows.{next_is}

lt_from_less : (a b : ℕ) → nat_cmp a b ≡ Less → a < b
lt_from_less a b h = by_tests (nat_lt a b) refl h
  where
    not_less : (t : Bool) → cond t Equal Greater ≡ Less → a < b
    not_less true e = absurd (cc)
    not_less false e = absurd (cc)

    by_tests : (t : Bool) → nat_lt a b ≡ t → cond t Less (cond (eqb a b) Equal Greater) ≡ Less → a < b
    by_tests true e f = grind arith
    by_tests false e f = not_less _ f

above_all : (k : ℕ) (ks : List ℕ) → AllByRecursion (λ x. nat_cmp k x ≡ Less) ks → AllByRecursion (λ x. k + 1 ≤ x) ks
above_all k [] all = tt
above_all k (x ∷ ks) all = (let lt = lt_from_less k x all.0 in omega (arith, lt), above_all k ks all.1)

split_by : (r : TableRow) (rows : List TableRow) (o : Option Shape) → r.1.committed ≡ o → committed_rows (r ∷ rows) ≡ committed_rows (r ∷ []) ++ committed_rows rows
split_by r rows None e = rw e refl
split_by r rows (Some shape) e = rw e refl

pub split : (r : TableRow) (rows : List TableRow) → committed_rows (r ∷ rows) ≡ committed_rows (r ∷ []) ++ committed_rows rows
split r rows = split_by r rows _ refl

rises_by : (low : ℕ) (r : TableRow) (rows : List TableRow) (o : Option Shape) → r.1.committed ≡ o → low ≤ r.0 → RisesFrom (r.0 + 1) (plain.keys_of (committed_rows rows)) → RisesFrom low (plain.keys_of (committed_rows rows)) → RisesFrom low (plain.keys_of (committed_rows (r ∷ rows)))
rises_by low r rows None e le high here = rw e here
rises_by low r rows (Some shape) e le high here = rw e (le, high)

rises : (low : ℕ) (rows : List TableRow) → IsStrictlySortedBy nat_cmp (keys_of rows) → AllByRecursion (λ k. low ≤ k) (keys_of rows) → RisesFrom low (plain.keys_of (committed_rows rows))
unfolding IsStrictlySortedBy
rises low [] rising all = tt
rises low (r ∷ rows) rising all = rises_by low r rows _ refl all.0 (rises (r.0 + 1) rows rising.1 (above_all r.0 (keys_of rows) rising.0)) (rises low rows rising.1 all.1)

zero_all : (ks : List ℕ) → AllByRecursion (λ k. 0 ≤ k) ks
zero_all [] = tt
zero_all (k ∷ ks) = (omega arith, zero_all ks)

-- the keys of the committed rows rise
pub committed_rise : (rows : List TableRow) → IsStrictlySortedBy nat_cmp (keys_of rows) → IsRising (plain.keys_of (committed_rows rows))
committed_rise rows rising = rises 0 rows rising (zero_all (keys_of rows))

prefix : (low : ℕ) (front : List (ℕ × Shape)) (row : ℕ × Shape) (rest : List (ℕ × Shape)) → RisesFrom low (plain.keys_of (front ++ row ∷ rest)) → RisesFrom low (plain.keys_of front ++ row.0 ∷ [])
prefix low [] row rest rising = (rising.0, tt)
prefix low (x ∷ front) row rest rising = (rising.0, prefix (x.0 + 1) front row rest rising.1)

append_assoc : (xs ys zs : List (ℕ × Shape)) → (xs ++ ys) ++ zs ≡ xs ++ (ys ++ zs)
append_assoc [] ys zs = refl
append_assoc (x ∷ xs) ys zs = ap (λ t. x ∷ t) (append_assoc xs ys zs)

append_none : (xs : List (ℕ × Shape)) → xs ++ [] ≡ xs
append_none [] = refl
append_none (x ∷ xs) = ap (λ t. x ∷ t) (append_none xs)

module _ (before : List (ℕ × Shape)) (last : Option ℕ) (rows : List TableRow) (joined : before ++ committed_rows (rows_past last rows) ≡ committed_rows rows) where
  -- no row is left
  pub done : None ≡ slice_get (rows_past last rows) 0 → before ≡ committed_rows rows
  done e = by_rest (rows_past last rows) e joined
    where
      by_rest : (rest : List TableRow) → None ≡ slice_get rest 0 → before ++ committed_rows rest ≡ committed_rows rows → before ≡ committed_rows rows
      by_rest [] e j = sym (append_none before) ∙ j
      by_rest (r ∷ rest) e j = absurd (cc)

  module _ (r : TableRow) (rising : IsStrictlySortedBy nat_cmp (keys_of rows)) (first : Some r ≡ slice_get (rows_past last rows) 0) where
    behind : rows_past last rows ≡ r ∷ rows_past (Some r.0) rows
    behind = next_is last rows r rising (sym first)

    next_by : (o : Option Shape) → r.1.committed ≡ o → IfSome r.1.committed IsSound → before ++ committed_rows (r ∷ rows_past (Some r.0) rows) ≡ committed_rows rows → IfSome o (IsNextRow before r.0)
    next_by None e sound j = tt
    next_by (Some shape) e sound j =
        let all = rw e at j in
        record {
          above = prefix 0 before (r.0, shape) (committed_rows (rows_past (Some r.0) rows)) (subst (λ (t : List (ℕ × Shape)). IsRising (plain.keys_of t)) (sym all) (committed_rise rows rising));
          sound = rw e at sound;
        }

    head_sound : (rest : List TableRow) → Some r ≡ slice_get rest 0 → AreSoundRows rest → IsSoundRow r
    head_sound [] e all = absurd (cc)
    head_sound (x ∷ rest) e all = let same : x ≡ r = cc in subst IsSoundRow same all.0

    -- its committed shape may come next
    pub next_committed : AreSoundRows rows → IfSome r.1.committed (IsNextRow before r.0)
    next_committed sound =
        next_by r.1.committed refl ((head_sound (rows_past last rows) first (sound_past last rows sound)).committed) (ap (λ (t : List TableRow). before ++ committed_rows t) (sym behind) ∙ joined)

    -- and those behind it follow
    pub joined_next : (after : List (ℕ × Shape)) → after ≡ before ++ committed_rows (r ∷ []) → after ++ committed_rows (rows_past (Some r.0) rows) ≡ committed_rows rows
    joined_next after e =
        let later = committed_rows (rows_past (Some r.0) rows) in
        let own = committed_rows (r ∷ []) in
        let first_step : after ++ later ≡ (before ++ own) ++ later = ap (λ (t : List (ℕ × Shape)). t ++ later) e in
        let whole : before ++ (own ++ later) ≡ before ++ committed_rows (r ∷ rows_past (Some r.0) rows) = ap (λ (t : List (ℕ × Shape)). before ++ t) (sym (split r (rows_past (Some r.0) rows))) in
        let back : before ++ committed_rows (r ∷ rows_past (Some r.0) rows) ≡ before ++ committed_rows (rows_past last rows) = ap (λ (t : List TableRow). before ++ committed_rows t) (sym behind) in
        first_step ∙ append_assoc before own later ∙ whole ∙ back ∙ joined

    pub fewer : length (rows_past (Some r.0) rows) < length (rows_past last rows)
    fewer = let e = ap (λ (t : List TableRow). length t) behind in omega (arith, e)
