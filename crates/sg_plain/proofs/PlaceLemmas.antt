-- What a search finds among rows, and what an edit at that place does.
use Rattle.std.proofs.Common.{◌≡◌, ◌≢◌, ℕ, ◌+◌, ◌≤◌, ◌<◌, nat_lt, List, [], ◌∷◌, ◌++◌, length, get_or, set, take, drop, zero, suc, Some, None, Result, Ok, Err, IfOk, IfErr, arith, refl, sym, ap, ap₂, ◌∙◌, subst}
use Rattle.std.specs.List.{insert, remove}
use Rattle.std.specs.Prelude.{IsSome, OnOk, OnErr}
use Rattle.std.specs.List.Sorted.{IsSearchInRange, IsBinarySearchResult, IsNonDecreasingBy}
use Rattle.std.specs.Ordering.{nat_cmp, ordering_index}
use Rattle.std.proofs.lemmas.Bool.{cond-false, le-ltb}
use Rattle.std.proofs.lemmas.Bool.Decides.{nat_tests}
use Rattle.std.proofs.lemmas.Cmp.{ranked}
use Rattle.std.proofs.lemmas.List.{get_or_default, get_or-map, length-map, set_split, take-map}
use Rattle.std.proofs.lemmas.List.Sorted.{IsNonDecreasingBy-from_default}
use Rattle.sg_shape.specs.declared.shapes.Kind.TheVariants as kind
use Rattle.sg_shape.specs.declared.shapes.Shape.{Shape}
use Rattle.sg_shape.specs.declared.shapes.Shape.TheVariants as shape
use Rattle.sg_plain.specs.Keys.{RisesFrom, IsRising}
use Rattle.sg_plain.specs.Rows.{Rows, keys_of, shape_at, below, above, put, without_key}
use Rattle.sg_plain.specs.Places.{key_at, IsAt, IsGapFor}
use Rattle.sg_plain.proofs.KeyLemmas.{at_least, greater_later, rising_next}
use Rattle.sg_plain.proofs.Lookups.{shape_at-same, shape_at-other, absent_below, below_none, above_all, below_first, above_first}

-- the key of a row that was read
key_read : (rows : Rows) (i : ℕ) (d : ℕ × Shape) → i < length rows → key_at rows i ≡ (get_or rows i d).0
key_read rows i d within = get_or-map (λ (row : ℕ × Shape). row.0) rows i d 0 within

-- a row to read where none is
abbrev pub no_row : ℕ × Shape
no_row = (0, shape.Empty kind.Point)

-- ---- a binary search
-- what it answers
pub record Searched (rows : Rows) (k : ℕ) (r : Result ℕ ℕ) : Type 0 where
  pub found : IfOk r (IsAt rows k)
  pub gap : IfErr r (IsGapFor rows k)

module _ (rows : Rows) (rising : IsRising (keys_of rows)) (k : ℕ) where
  not_lesser : (i j : ℕ) → i ≤ j → j < length rows → key_at rows i ≤ key_at rows j
  not_lesser i j le within =
      let many = length-map rows (λ (row : ℕ × Shape). row.0) in
      grind (arith, greater_later 0 (keys_of rows) i j rising, λ (same : i ≡ j). ap (key_at rows) same)

  -- the comparisons with k rise along the rows
  comparisons_rise : IsNonDecreasingBy (λ (row : ℕ × Shape). ordering_index (nat_cmp row.0 k)) rows
  comparisons_rise = IsNonDecreasingBy-from_default (λ (row : ℕ × Shape). ordering_index (nat_cmp row.0 k)) rows no_row (λ i j le within.
      let a = key_read rows i no_row (omega arith) in
      let b = key_read rows j no_row within in
      let keys_rise : key_at rows i ≤ key_at rows j = not_lesser i j le within in
      grind (arith, nat_tests))

  -- it ends at the key, or at the gap for it
  pub searched : (r : Result ℕ ℕ) → IsSearchInRange r (length rows) → IsBinarySearchResult (λ (row : ℕ × Shape). nat_cmp row.0 k) rows r → Searched rows k r
  searched (Ok i) within equal = record {
    found = record { within = within; key = key_read rows i no_row within ∙ ranked _ k _ (sym (equal no_row)) };
    gap = tt;
  }
  searched (Err i) within parted = record {
    found = tt;
    gap = record {
      within = within;
      lesser = λ j lt. let e = key_read rows j no_row (omega arith) in
          let less : (get_or rows j no_row).0 < k = ranked _ k _ (sym ((parted comparisons_rise).0 j no_row (omega arith) lt)) in omega arith;
      greater = λ j le lt. let e = key_read rows j no_row lt in
          let more : k < (get_or rows j no_row).0 = ranked _ k _ (sym ((parted comparisons_rise).1 j no_row le lt)) in omega arith;
    };
  }

-- ---- the rows with lesser keys end at one place, and those with greater ones begin at another
pub record Parted (rows : Rows) (k i j : ℕ) : Type 0 where
  pub lesser : below k rows ≡ take i rows
  pub greater : above k rows ≡ drop j rows

-- at a gap
gap_parts : (low : ℕ) (rows : Rows) (k i : ℕ) → RisesFrom low (keys_of rows) → i ≤ length rows →
    ((j : ℕ) → j < i → key_at rows j < k) → ((j : ℕ) → i ≤ j → j < length rows → k < key_at rows j) → Parted rows k i i
gap_parts low [] k zero h within lesser greater = record { lesser = refl; greater = refl }
gap_parts low [] k (suc i) h within lesser greater = absurd (omega arith)
gap_parts low (row ∷ rows) k zero h within lesser greater =
    let first : k < row.0 = greater 0 (omega arith) (omega arith) in
    record { lesser = below_none row.0 (row ∷ rows) k (omega arith, h.1) (omega arith); greater = above_all row.0 (row ∷ rows) k (omega arith, h.1) first }
gap_parts low (row ∷ rows) k (suc i) h within lesser greater =
    let first : row.0 < k = lesser 0 (omega arith) in
    let rest = gap_parts (row.0 + 1) rows k i h.1 (omega arith) (λ j lt. lesser (suc j) (omega arith)) (λ j le lt. greater (suc j) (omega arith) (omega arith)) in
    record {
      lesser = below_first row rows k first ∙ ap (λ (ys : Rows). row ∷ ys) rest.lesser;
      greater = above_first row rows k (omega arith) ∙ rest.greater;
    }

gap_absent : (low : ℕ) (rows : Rows) (k i : ℕ) → RisesFrom low (keys_of rows) → i ≤ length rows →
    ((j : ℕ) → j < i → key_at rows j < k) → ((j : ℕ) → i ≤ j → j < length rows → k < key_at rows j) → shape_at rows k ≡ None
gap_absent low [] k i h within lesser greater = refl
gap_absent low (row ∷ rows) k zero h within lesser greater =
    let first : k < row.0 = greater 0 (omega arith) (omega arith) in absent_below row.0 (row ∷ rows) k (omega arith, h.1) first
gap_absent low (row ∷ rows) k (suc i) h within lesser greater =
    let first : row.0 < k = lesser 0 (omega arith) in
    let other : row.0 ≢ k = λ e. omega arith in
    shape_at-other row rows k other
    ∙ gap_absent (row.0 + 1) rows k i h.1 (omega arith) (λ j lt. lesser (suc j) (omega arith)) (λ j le lt. greater (suc j) (omega arith) (omega arith))

-- at a key
at_parts : (low : ℕ) (rows : Rows) (k i : ℕ) → RisesFrom low (keys_of rows) → i < length rows → key_at rows i ≡ k → Parted rows k i (suc i)
at_parts low [] k i h within e = absurd (omega arith)
at_parts low (row ∷ rows) k zero h within e = record {
  lesser = cond-false (nat_lt row.0 k) _ _ (le-ltb row.0 k (omega arith)) ∙ below_none (row.0 + 1) rows k h.1 (omega arith);
  greater = cond-false (nat_lt k row.0) _ _ (le-ltb k row.0 (omega arith)) ∙ above_all (row.0 + 1) rows k h.1 (omega arith);
}
at_parts low (row ∷ rows) k (suc i) h within e =
    let many = length-map rows (λ (r : ℕ × Shape). r.0) in
    let first : row.0 + 1 ≤ key_at rows i = at_least (row.0 + 1) (keys_of rows) i h.1 (omega arith) in
    let rest = at_parts (row.0 + 1) rows k i h.1 (omega arith) e in
    record {
      lesser = below_first row rows k (omega arith) ∙ ap (λ (ys : Rows). row ∷ ys) rest.lesser;
      greater = above_first row rows k (omega arith) ∙ rest.greater;
    }

at_shape : (low : ℕ) (rows : Rows) (k i : ℕ) (d : ℕ × Shape) → RisesFrom low (keys_of rows) → i < length rows → key_at rows i ≡ k → shape_at rows k ≡ Some (get_or rows i d).1
at_shape low [] k i d h within e = absurd (omega arith)
at_shape low (row ∷ rows) k zero d h within e = shape_at-same row rows k e
at_shape low (row ∷ rows) k (suc i) d h within e =
    let many = length-map rows (λ (r : ℕ × Shape). r.0) in
    let first : row.0 + 1 ≤ key_at rows i = at_least (row.0 + 1) (keys_of rows) i h.1 (omega arith) in
    let other : row.0 ≢ k = λ same. omega arith in
    shape_at-other row rows k other ∙ at_shape (row.0 + 1) rows k i d h.1 (omega arith) e

-- ---- look-ups and edits at the place that was found
pub absent_in_gap : (rows : Rows) (k i : ℕ) → IsRising (keys_of rows) → IsGapFor rows k i → shape_at rows k ≡ None
absent_in_gap rows k i rising gap = gap_absent 0 rows k i rising gap.within gap.lesser gap.greater

pub found_at : (rows : Rows) (k i : ℕ) (d : ℕ × Shape) → IsRising (keys_of rows) → IsAt rows k i → shape_at rows k ≡ Some (get_or rows i d).1
found_at rows k i d rising at = at_shape 0 rows k i d rising at.within at.key

pub put-gap : (rows : Rows) (k i : ℕ) (s : Shape) → IsRising (keys_of rows) → IsGapFor rows k i → put k s rows ≡ insert rows i (k, s)
put-gap rows k i s rising gap =
    let parts = gap_parts 0 rows k i rising gap.within gap.lesser gap.greater in
    ap₂ (λ (xs ys : Rows). xs ++ (k, s) ∷ ys) parts.lesser parts.greater

pub held_at : (rows : Rows) (k i : ℕ) → IsRising (keys_of rows) → IsAt rows k i → IsSome (shape_at rows k)
held_at rows k i rising at = rw (found_at rows k i no_row rising at) refl

-- the next of the rows may be pushed to those before it
pub rising_row : (rows : Rows) (i : ℕ) (row : ℕ × Shape) → IsRising (keys_of rows) → i < length rows → row ≡ get_or rows i row → IsRising (keys_of (take i rows) ++ row.0 ∷ [])
rising_row rows i row rising within e =
    let many = length-map rows (λ (r : ℕ × Shape). r.0) in
    subst (λ (ks : List ℕ). IsRising (ks ++ row.0 ∷ [])) (take-map (λ (r : ℕ × Shape). r.0) i rows)
    (rising_next (keys_of rows) i row.0 rising (omega arith) (ap (λ (r : ℕ × Shape). r.0) e ∙ sym (key_read rows i row within)))

pub Searched-held : (rows : Rows) (k : ℕ) (r : Result ℕ ℕ) → IsRising (keys_of rows) → Searched rows k r → OnOk r (IsSome (shape_at rows k))
Searched-held rows k (Ok i) rising s = held_at rows k i rising s.found
Searched-held rows k (Err i) rising s = tt

pub Searched-absent : (rows : Rows) (k : ℕ) (r : Result ℕ ℕ) → IsRising (keys_of rows) → Searched rows k r → OnErr r (shape_at rows k ≡ None)
Searched-absent rows k (Ok i) rising s = tt
Searched-absent rows k (Err i) rising s = absent_in_gap rows k i rising s.gap

-- a row that was read at another default
pub row_is : (rows : Rows) (i : ℕ) (row d : ℕ × Shape) → i < length rows → row ≡ get_or rows i d → row ≡ get_or rows i row
row_is rows i row d within e = e ∙ get_or_default rows i d row within

-- ---- edits of the row at a place
pub put-at : (rows : Rows) (i : ℕ) (s : Shape) → IsRising (keys_of rows) → i < length rows → put (key_at rows i) s rows ≡ set rows i (key_at rows i, s)
put-at rows i s rising within =
    let parts = at_parts 0 rows (key_at rows i) i rising within refl in
    ap₂ (λ (xs ys : Rows). xs ++ (key_at rows i, s) ∷ ys) parts.lesser parts.greater ∙ sym (set_split rows i (key_at rows i, s) within)

-- the new row has the key of the one that was read
pub set-at : (rows : Rows) (i : ℕ) (row : ℕ × Shape) (s : Shape) → IsRising (keys_of rows) → i < length rows → row ≡ get_or rows i row →
    set rows i (row.0, s) ≡ put (key_at rows i) s rows
set-at rows i row s rising within e =
    ap (λ (k : ℕ). set rows i (k, s)) (ap (λ (r : ℕ × Shape). r.0) e ∙ sym (key_read rows i row within)) ∙ sym (put-at rows i s rising within)

pub without_key-at : (rows : Rows) (i : ℕ) → IsRising (keys_of rows) → i < length rows → without_key (key_at rows i) rows ≡ remove rows i
without_key-at rows i rising within =
    let parts = at_parts 0 rows (key_at rows i) i rising within refl in
    ap₂ (λ (xs ys : Rows). xs ++ ys) parts.lesser parts.greater
