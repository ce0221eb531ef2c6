-- How many keys have no writer, after a change.
use Rattle.std.specs.Prelude.{unwrap_or}
use Rattle.std.proofs.Common.{◌≡◌, ℕ, ◌+◌, ◌≤◌, Bool, true, false, cond, List, [], ◌∷◌, length, Option, Some, None, refl, sym, ap, arith}
use mathlib.Core.Bool.{true≢false}
use Rattle.std.specs.declared.cmp.Ordering.{Ordering}
use Rattle.std.specs.Option.{is_none, IsSome, option_map}
use Rattle.std.specs.Cmp.{IsTotalOrder}
use Rattle.std.specs.List.Sorted.{IsStrictlySortedBy}
use Rattle.std.specs.Map.{keys_of, values_of, lookup, remove_entry, set_value}
use Rattle.std.specs.BTreeMap.{is_at, insert_entry}
use Rattle.std.proofs.lemmas.List.Sums.{sum_by-cons}
use Rattle.std.proofs.lemmas.Map.Entries.{sum_by-remove_entry, sum_by-set_value, sum_by-insert_entry}
use Rattle.sg_versions.specs.declared.version.Version.{Version}
use Rattle.sg_versions.specs.declared.version.WritesEnd.{WritesEnd}
use Rattle.sg_versions.specs.Versions.{is_writer, written, ended, outcome, change_by, change_at}
use Rattle.sg_versions.specs.Writers.{writer_of, free, unwritten, taken, count_written, settle_by, settle_at}

pub free_most : {V : Type 0} (v : Version V) → free v ≤ 1
free_most v = by_writer (is_none v.writer)
  where
    by_writer : (b : Bool) → cond b 1 0 ≤ 1
    by_writer true = omega arith
    by_writer false = omega arith

module _ {K V : Type 0} where
  -- at most all
  pub unwritten_most : (rows : List (K × Version V)) → unwritten rows ≤ length rows
  unwritten_most [] = omega arith
  unwritten_most (r ∷ rows) =
      let sum : unwritten (r ∷ rows) ≡ free r.1 + unwritten rows = sum_by-cons free r.1 (values_of rows) in
      omega (arith, sum, free_most r.1, unwritten_most rows)

  pub unwritten_set : (test : K → Bool) (rows : List (K × Version V)) (v w : Version V) → lookup test rows ≡ Some v → unwritten (set_value test rows w) + free v ≡ unwritten rows + free w
  unwritten_set test rows v w found = sum_by-set_value free test rows v w found

  pub unwritten_removed : (test : K → Bool) (rows : List (K × Version V)) → unwritten (remove_entry test rows) ≤ unwritten rows
  unwritten_removed test rows = let sum = sum_by-remove_entry free test rows in omega (arith, sum)

  pub unwritten_inserted : {cmp : K → K → Ordering} → IsTotalOrder cmp → (rows : List (K × Version V)) (k : K) (v : Version V) → IsStrictlySortedBy cmp (keys_of rows) → unwritten (insert_entry cmp rows k v) ≤ unwritten rows + free v
  unwritten_inserted total rows k v rising = let sum = sum_by-insert_entry free total rows k v rising in omega (arith, sum)

  settled_left : (test : K → Bool) (e : WritesEnd) (rows : List (K × Version V)) (v : Version V) (b : Bool) → lookup test rows ≡ Some v → unwritten (cond b (remove_entry test rows) (set_value test rows (ended e v))) ≤ unwritten rows + 1
  settled_left test e rows v true found = omega (arith, unwritten_removed test rows)
  settled_left test e rows v false found = omega (arith, unwritten_set test rows v (ended e v) found)

  settled_by : (test : K → Bool) (e : WritesEnd) (rows : List (K × Version V)) (o : Option (Version V)) → lookup test rows ≡ o → unwritten (settle_by test e rows o) ≤ unwritten rows + 1
  settled_by test e rows None found = omega arith
  settled_by test e rows (Some v) found = settled_left test e rows v (is_none (outcome e v)) found

  -- the end of the writes at one key leaves at most one key more without a writer
  pub unwritten_settled : (test : K → Bool) (e : WritesEnd) (rows : List (K × Version V)) → unwritten (settle_at test e rows) ≤ unwritten rows + 1
  unwritten_settled test e rows = settled_by test e rows _ refl

-- a key has a writer or none
taken_or_free : {V : Type 0} (v : Version V) → taken v + free v ≡ 1
taken_or_free v = by_writer (is_none v.writer)
  where
    by_writer : (b : Bool) → cond b 0 1 + cond b 1 0 ≡ 1
    by_writer true = refl
    by_writer false = refl

owned : (s : ℕ) (o : Option ℕ) → is_writer s o ≡ true → is_none o ≡ false
owned s None e = absurd (true≢false (sym e))
owned s (Some w) e = refl

module _ {K V : Type 0} where
  pub written_and_not : (rows : List (K × Version V)) → count_written rows + unwritten rows ≡ length rows
  written_and_not [] = refl
  written_and_not (r ∷ rows) =
      let taken_sum : count_written (r ∷ rows) ≡ taken r.1 + count_written rows = sum_by-cons taken r.1 (values_of rows) in
      let free_sum : unwritten (r ∷ rows) ≡ free r.1 + unwritten rows = sum_by-cons free r.1 (values_of rows) in
      omega (arith, taken_sum, free_sum, taken_or_free r.1, written_and_not rows)

  pub counted_inserted : {cmp : K → K → Ordering} → IsTotalOrder cmp → (rows : List (K × Version V)) (k : K) (v : Version V) → IsStrictlySortedBy cmp (keys_of rows) → lookup (is_at (cmp k)) rows ≡ None
      → count_written (insert_entry cmp rows k v) ≡ count_written rows + taken v
  counted_inserted {cmp} total rows k v rising absent =
      let sum = sum_by-insert_entry taken total rows k v rising in
      let none : unwrap_or (option_map taken (lookup (is_at (cmp k)) rows)) 0 ≡ 0 = ap (λ o. unwrap_or (option_map taken o) 0) absent in
      omega (arith, sum, none)

  module _ (test : K → Bool) (rows : List (K × Version V)) where
    counted_by : (s : ℕ) (value : Option V) (o : Option (Version V)) → lookup test rows ≡ o → IsSome o → count_written (change_by test (written s value) rows o) ≡ count_written rows + cond (is_none (writer_of o)) 1 0
    counted_by s value None found some = absurd (true≢false (sym some))
    counted_by s value (Some v) found some = let sum = sum_by-set_value taken test rows v (written s value v) found in let one = taken_or_free v in omega (arith, sum, one)

    -- a key more has a writer, if it had none
    pub counted_written : (s : ℕ) (value : Option V) → IsSome (lookup test rows) → count_written (change_at test (written s value) rows) ≡ count_written rows + cond (is_none (writer_of (lookup test rows))) 1 0
    counted_written s value some = counted_by s value _ refl some

    counted_left : (e : WritesEnd) (v : Version V) (b : Bool) → lookup test rows ≡ Some v → taken v ≡ 1 → count_written (cond b (remove_entry test rows) (set_value test rows (ended e v))) + 1 ≡ count_written rows
    counted_left e v true found one =
        let sum = sum_by-remove_entry taken test rows in
        let gone : unwrap_or (option_map taken (lookup test rows)) 0 ≡ taken v = ap (λ o. unwrap_or (option_map taken o) 0) found in
        omega (arith, sum, gone, one)
    counted_left e v false found one = let sum = sum_by-set_value taken test rows v (ended e v) found in omega (arith, sum, one)

    removed_count : (s : ℕ) (o : Option (Version V)) → lookup test rows ≡ o → writer_of o ≡ Some s → count_written (remove_entry test rows) + 1 ≡ count_written rows
    removed_count s None found own = absurd (true≢false (ap is_none own))
    removed_count s (Some v) found own =
        let sum = sum_by-remove_entry taken test rows in
        let gone : unwrap_or (option_map taken (lookup test rows)) 0 ≡ taken v = ap (λ o. unwrap_or (option_map taken o) 0) found in
        let one : taken v ≡ 1 = ap {B = ℕ} (λ o. cond (is_none o) 0 1) own in
        omega (arith, sum, gone, one)

    -- a key less has a writer, once it is out
    pub counted_removed : (s : ℕ) → writer_of (lookup test rows) ≡ Some s → count_written (remove_entry test rows) + 1 ≡ count_written rows
    counted_removed s own = removed_count s _ refl own

    settled_count : (e : WritesEnd) (s : ℕ) (o : Option (Version V)) → lookup test rows ≡ o → is_writer s (writer_of o) ≡ true → count_written (settle_by test e rows o) + 1 ≡ count_written rows
    settled_count e s None found own = absurd (true≢false (sym own))
    settled_count e s (Some v) found own = counted_left e v (is_none (outcome e v)) found (ap {B = ℕ} (λ b. cond b 0 1) (owned s v.writer own))

    -- a key less has a writer, once its writes have ended
    pub counted_settled : (e : WritesEnd) (s : ℕ) → is_writer s (writer_of (lookup test rows)) ≡ true → count_written (settle_at test e rows) + 1 ≡ count_written rows
    counted_settled e s own = settled_count e s _ refl own
