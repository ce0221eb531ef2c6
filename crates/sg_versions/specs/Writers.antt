-- Who has written at which keys, as a store finds it from the session alone.
use Rattle.std.specs.Prelude.{◌≡◌, ℕ, ◌≤◌, ◌-◌, min, Bool, false, cond, List, sum_by, Option, Some, None}
use Rattle.std.specs.declared.cmp.Ordering.{Ordering}
use Rattle.std.specs.Option.{is_none}
use Rattle.std.specs.Map.{lookup, remove_entry, set_value, values_of}
use Rattle.std.specs.BTreeMap.{is_at}
use Rattle.sg_modes.specs.contracts.numbers.SessionOrd.TheImpl as sessions
use Rattle.sg_pages.specs.Stored.{Stored, HasRisingKeys}
use Rattle.sg_groups.specs.Groups.{Grouped, has_pair}
use Rattle.sg_versions.specs.declared.version.Version.{Version}
use Rattle.sg_versions.specs.declared.version.WritesEnd.{WritesEnd}
use Rattle.sg_versions.specs.Versions.{Versioned, is_writer, outcome, ended}

abbrev pub session_cmp : ℕ → ℕ → Ordering
session_cmp = sessions.ghosts.cmp

abbrev pub writer_of : {V : Type 0} → Option (Version V) → Option ℕ
writer_of None = None
writer_of (Some v) = v.writer

-- 1 where there is no writer
abbrev pub free : {V : Type 0} → Version V → ℕ
free v = cond (is_none v.writer) 1 0

-- 1 where there is one
abbrev pub taken : {V : Type 0} → Version V → ℕ
taken v = cond (is_none v.writer) 0 1

-- how many keys have a writer
abbrev pub count_written : {K V : Type 0} → List (K × Version V) → ℕ
count_written rows = sum_by taken (values_of rows)

-- how many keys have no writer
abbrev pub unwritten : {K V : Type 0} → List (K × Version V) → ℕ
unwritten rows = sum_by free (values_of rows)

module _ {K : Type 0} (cmp : K → K → Ordering) where
  -- the writer at a key, none where there is none or no such key
  abbrev pub writer_at : {V : Type 0} → K → List (K × Version V) → Option ℕ
  writer_at k rows = writer_of (lookup (is_at (cmp k)) rows)

  -- exactly the keys with a writer are listed under it
  abbrev pub IsListed : {V : Type 0} → List (K × Version V) → List (ℕ × K) → Type 0
  IsListed {V} rows listed = (s : ℕ) (k : K) → has_pair session_cmp cmp listed s k ≡ is_writer s (writer_at k rows)

  -- and each key without a writer has room to be listed
  pub record IsIndexed {V : Type 0} (rows : List (K × Version V)) (listed : List (ℕ × K)) (room : ℕ) : Type 0 where
    pub rising : HasRisingKeys cmp rows
    pub listed_are : IsListed rows listed
    pub room_is : unwritten rows ≤ room

-- room for new keys, which have to be listed too
abbrev pub seen_as : {K V : Type 0} → Stored K (Version V) → Grouped ℕ K → Versioned K V
seen_as rows listed = record { rows = rows.pairs; spare = min rows.spare (listed.spare - unwritten rows.pairs) }

-- the end of the writes leaves nothing there
abbrev pub is_emptied_by : {V : Type 0} → WritesEnd → Option (Version V) → Bool
is_emptied_by e None = false
is_emptied_by e (Some v) = is_none (outcome e v)

-- the writes at the first key that passes, whose version is this, have ended, and it is gone where nothing is left
abbrev pub settle_by : {K V : Type 0} → (K → Bool) → WritesEnd → List (K × Version V) → Option (Version V) → List (K × Version V)
settle_by test e rows None = rows
settle_by test e rows (Some v) = cond (is_none (outcome e v)) (remove_entry test rows) (set_value test rows (ended e v))

-- the same by the key alone
abbrev pub settle_at : {K V : Type 0} → (K → Bool) → WritesEnd → List (K × Version V) → List (K × Version V)
settle_at test e rows = settle_by test e rows (lookup test rows)
