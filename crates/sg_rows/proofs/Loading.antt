-- Rows by rising key, put in one after another.
use Rattle.std.specs.Prelude.{map, nat_lt, take}
use Rattle.std.proofs.Common.{◌≡◌, ℕ, zero, suc, ◌+◌, ◌≤◌, ◌<◌, Bool, true, false, cond, List, [], ◌∷◌, length, get_or, None, refl, ap, arith, eqb}
use Rattle.std.specs.declared.cmp.Ordering.TheVariants.{Less, Equal, Greater}
use Rattle.std.specs.Ordering.{nat_cmp}
use Rattle.std.specs.Map.{lookup}
use Rattle.std.specs.BTreeMap.{insert_entry, is_at}
use Rattle.sg_shape.specs.declared.shapes.Shape.{Shape}
use Rattle.sg_plain.specs.Keys.{RisesFrom, IsRising}
use Rattle.sg_plain.specs.Rows as plain
use Rattle.sg_versions.specs.Versions.{kept_value}
use Rattle.sg_rows.specs.Table.{loaded_row}

abbrev Row : Type 0
Row = ℕ × Shape

pub above_is : (a b : ℕ) → a < b → nat_cmp b a ≡ Greater
above_is a b lt = by_tests (nat_lt b a) refl
  where
    by_equal : (t : Bool) → eqb b a ≡ t → cond t Equal Greater ≡ Greater
    by_equal true e = absurd (grind arith)
    by_equal false e = refl

    by_tests : (t : Bool) → nat_lt b a ≡ t → cond t Less (cond (eqb b a) Equal Greater) ≡ Greater
    by_tests true e = absurd (grind arith)
    by_tests false e = by_equal _ refl

at_least : (low : ℕ) (rows : List Row) (i : ℕ) (row : Row) → RisesFrom low (plain.keys_of rows) → i < length rows → row ≡ get_or rows i row → low ≤ row.0
at_least low [] i row rises within e = absurd (omega arith)
at_least low (x ∷ rows) zero row rises within e = let same = ap (λ (r : Row). r.0) e in omega (arith, same, rises.0)
at_least low (x ∷ rows) (suc i) row rises within e = let more = at_least (x.0 + 1) rows i row rises.1 (omega arith) e in omega (arith, more, rises.0)

absent_from : (low : ℕ) (rows : List Row) (i : ℕ) (row : Row) → RisesFrom low (plain.keys_of rows) → i < length rows → row ≡ get_or rows i row → lookup (is_at (nat_cmp row.0)) (map loaded_row (take i rows)) ≡ None
absent_from low [] i row rises within e = absurd (omega arith)
absent_from low (x ∷ rows) zero row rises within e = refl
absent_from low (x ∷ rows) (suc i) row rises within e =
    let more = at_least (x.0 + 1) rows i row rises.1 (omega arith) e in
    let above = above_is x.0 row.0 (omega (arith, more)) in
    rw above (absent_from (x.0 + 1) rows i row rises.1 (omega arith) e)

inserted_from : (low : ℕ) (rows : List Row) (i : ℕ) (row : Row) → RisesFrom low (plain.keys_of rows) → i < length rows → row ≡ get_or rows i row → insert_entry nat_cmp (map loaded_row (take i rows)) row.0 (kept_value row.1) ≡ map loaded_row (take (suc i) rows)
inserted_from low [] i row rises within e = absurd (omega arith)
inserted_from low (x ∷ rows) zero row rises within e = ap (λ (r : Row). loaded_row r ∷ []) e
inserted_from low (x ∷ rows) (suc i) row rises within e =
    let more = at_least (x.0 + 1) rows i row rises.1 (omega arith) e in
    let above = above_is x.0 row.0 (omega (arith, more)) in
    rw above (ap (λ t. loaded_row x ∷ t) (inserted_from (x.0 + 1) rows i row rises.1 (omega arith) e))

-- the next row's key isn't among those before it
pub absent_next : (rows : List Row) (i : ℕ) (row : Row) → IsRising (plain.keys_of rows) → i < length rows → row ≡ get_or rows i row → lookup (is_at (nat_cmp row.0)) (map loaded_row (take i rows)) ≡ None
absent_next rows i row rises within e = absent_from 0 rows i row rises within e

-- and it comes behind them
pub inserted_next : (rows : List Row) (i : ℕ) (row : Row) → IsRising (plain.keys_of rows) → i < length rows → row ≡ get_or rows i row → insert_entry nat_cmp (map loaded_row (take i rows)) row.0 (kept_value row.1) ≡ map loaded_row (take (suc i) rows)
inserted_next rows i row rises within e = inserted_from 0 rows i row rises within e
