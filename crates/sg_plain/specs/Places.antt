-- Where a key stands among rows, and where it would.
use Rattle.std.specs.Prelude.{◌≡◌, ℕ, ◌<◌, ◌≤◌, length, slice_index}
use Rattle.sg_plain.specs.Rows.{Rows, keys_of}

abbrev pub key_at : Rows → ℕ → ℕ
key_at rows i = slice_index (keys_of rows) i

-- the row at place i has the key
pub record IsAt (rows : Rows) (k i : ℕ) : Type 0 where
  pub within : i < length rows
  pub key : key_at rows i ≡ k

-- lesser keys stand before place i, and greater ones from it on
pub record IsGapFor (rows : Rows) (k i : ℕ) : Type 0 where
  pub within : i ≤ length rows
  pub lesser : (j : ℕ) → j < i → key_at rows j < k
  pub greater : (j : ℕ) → i ≤ j → j < length rows → k < key_at rows j
