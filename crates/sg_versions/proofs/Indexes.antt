-- A store's index by writers stays right as rows come, are written and end.
use Rattle.std.specs.Prelude.{not, OnOk}
use Rattle.std.proofs.lemmas.Bool.{eq-eqb}
use Rattle.std.proofs.Common.{◌≡◌, ℕ, ◌+◌, ◌-◌, ◌≤◌, ◌⊎◌, inl, inr, Bool, true, false, cond, ◌||◌, ◌&&◌, List, [], ◌∷◌, Option, Some, None, refl, sym, ap, ◌∙◌, eqb-true, subst, arith}
use mathlib.Core.Bool.{true≢false}
use Rattle.std.specs.declared.cmp.Ordering.{Ordering}
use Rattle.std.specs.declared.result.Result.{Result}
use Rattle.std.specs.declared.result.Result.TheVariants.{Ok, Err}
use Rattle.std.specs.Ordering.{is_eq}
use Rattle.std.specs.Option.{is_none, is_some, IsSome, option_map}
use Rattle.std.specs.Cmp.{IsTotalOrder}
use Rattle.std.specs.List.Sorted.{IsStrictlySortedBy}
use Rattle.std.specs.Map.{keys_of, lookup, remove_entry, set_value}
use Rattle.std.specs.BTreeMap.{insert_entry, is_at}
use Rattle.sg_pages.specs.Stored.{HasRisingKeys}
use Rattle.sg_groups.specs.Groups.{pair_cmp, has_pair}
use Rattle.sg_versions.specs.declared.version.Version.{Version}
use Rattle.sg_versions.specs.declared.version.WritesEnd.{WritesEnd}
use Rattle.sg_versions.specs.Versions.{is_writer, kept_value, fresh, written, ended, outcome, change_by, change_at}
use Rattle.sg_versions.specs.Writers.{session_cmp, writer_of, writer_at, unwritten, settle_by, settle_at, is_emptied_by, IsIndexed}
use Rattle.sg_versions.proofs.Orders.{lookup_alike, lookup_set, lookup_removed, lookup_inserted}
use Rattle.sg_versions.proofs.Listings.{listed_more, listed_same, listed_less}
use Rattle.sg_versions.proofs.Rooms.{unwritten_set, unwritten_inserted, unwritten_settled, unwritten_removed}

pub implied_ok : {A E : Type 0} {P Q : Type 0} (r : Result A E) → (P → Q) → OnOk r P → OnOk r Q
implied_ok (Ok x) f h = f h
implied_ok (Err e) f h = tt

pub none_from : {X : Type 0} (o : Option X) → is_none o ≡ true → o ≡ None
none_from None e = refl
none_from (Some x) e = absurd (true≢false (sym e))

pub writer_is : (s : ℕ) (o : Option ℕ) → is_writer s o ≡ true → o ≡ Some s
writer_is s None e = absurd (true≢false (sym e))
writer_is s (Some w) e = ap Some (sym (eqb-true s w e))

pub is_own : (s : ℕ) (o : Option ℕ) → o ≡ Some s → is_writer s o ≡ true
is_own s o own = ap (is_writer s) own ∙ eq-eqb s s refl

-- a key with a writer is there
pub some_written : {V : Type 0} (s : ℕ) (o : Option (Version V)) → writer_of o ≡ Some s → is_some o ≡ true
some_written s None own = absurd (true≢false (ap is_none own))
some_written s (Some v) own = refl

-- a key that isn't free to be written by others has this writer
pub own_from : (s : ℕ) (o : Option ℕ) → (o ≡ None) ⊎ (o ≡ Some s) → is_none o ≡ false → o ≡ Some s
own_from s o (inl e) f = absurd (true≢false (sym (ap is_none e) ∙ f))
own_from s o (inr e) f = e

writer_cond : {V : Type 0} (t : Bool) (v : Version V) (o : Option (Version V)) → writer_of (cond t (Some v) o) ≡ cond t v.writer (writer_of o)
writer_cond true v o = refl
writer_cond false v o = refl

writer_cond_none : {V : Type 0} (t : Bool) (o : Option (Version V)) → writer_of (cond t None o) ≡ cond t None (writer_of o)
writer_cond_none true o = refl
writer_cond_none false o = refl

module _ {V : Type 0} where
  written_by : {K : Type 0} (test : K → Bool) (s : ℕ) (value : Option V) (rows : List (K × Version V)) (o : Option (Version V)) → lookup test rows ≡ o → IsSome o → unwritten (change_by test (written s value) rows o) + (cond (is_none (writer_of o)) 1 0) ≡ unwritten rows
  written_by test s value rows None found some = absurd (true≢false (sym some))
  written_by test s value rows (Some v) found some = let sum = unwritten_set test rows v (written s value v) found in omega (arith, sum)

  -- one key less has no writer, if it had none
  pub unwritten_written : {K : Type 0} (test : K → Bool) (s : ℕ) (value : Option V) (rows : List (K × Version V)) → IsSome (lookup test rows) → unwritten (change_at test (written s value) rows) + (cond (is_none (writer_of (lookup test rows))) 1 0) ≡ unwritten rows
  unwritten_written test s value rows some = written_by test s value rows _ refl some

  remove_set_by : {K : Type 0} (test : K → Bool) (r : K × Version V) (rows : List (K × Version V)) (w : Version V) (b : Bool) → test r.0 ≡ b → remove_entry test (set_value test rows w) ≡ remove_entry test rows → remove_entry test (set_value test (r ∷ rows) w) ≡ remove_entry test (r ∷ rows)
  remove_set_by test r rows w true e rest = rw e (rw e refl)
  remove_set_by test r rows w false e rest = rw e (rw e (ap (λ t. r ∷ t) rest))

  remove_set : {K : Type 0} (test : K → Bool) (rows : List (K × Version V)) (w : Version V) → remove_entry test (set_value test rows w) ≡ remove_entry test rows
  remove_set test [] w = refl
  remove_set test (r ∷ rows) w = remove_set_by test r rows w _ refl (remove_set test rows w)

  then_by : {K : Type 0} (test : K → Bool) (e : WritesEnd) (rows : List (K × Version V)) (o : Option (Version V)) → is_emptied_by e o ≡ true → remove_entry test (change_by test (ended e) rows o) ≡ settle_by test e rows o
  then_by test e rows None h = absurd (true≢false (sym h))
  then_by test e rows (Some v) h = rw h (remove_set test rows (ended e v))

  -- where nothing is left the key goes
  pub settled_then : {K : Type 0} (test : K → Bool) (e : WritesEnd) (rows : List (K × Version V)) → is_emptied_by e (lookup test rows) ≡ true → remove_entry test (change_at test (ended e) rows) ≡ settle_at test e rows
  settled_then test e rows h = then_by test e rows _ h

module _ {K V : Type 0} (cmp : K → K → Ordering) (total : IsTotalOrder cmp) (rows : List (K × Version V)) (k : K) where
  alike : (b : K) → is_eq (cmp k b) ≡ true → writer_at cmp b rows ≡ writer_at cmp k rows
  alike b e = ap writer_of (lookup_alike cmp total k b rows e)

  inserted : (v : Version V) (b : K) → writer_at cmp b (insert_entry cmp rows k v) ≡ cond (is_eq (cmp k b)) v.writer (writer_at cmp b rows)
  inserted v b = ap writer_of (lookup_inserted cmp total k b v rows) ∙ writer_cond (is_eq (cmp k b)) v (lookup (is_at (cmp b)) rows)

  changed_by : (s : ℕ) (value : Option V) (b : K) (o : Option (Version V)) → lookup (is_at (cmp k)) rows ≡ o → IsSome o → writer_at cmp b (change_by (is_at (cmp k)) (written s value) rows o) ≡ cond (is_eq (cmp k b)) (Some s) (writer_at cmp b rows)
  changed_by s value b None found some = absurd (true≢false (sym some))
  changed_by s value b (Some v) found some =
      ap writer_of (lookup_set cmp total k b (written s value v) rows (subst IsSome (sym found) some)) ∙ writer_cond (is_eq (cmp k b)) (written s value v) (lookup (is_at (cmp b)) rows)

  changed : (s : ℕ) (value : Option V) (b : K) → IsSome (lookup (is_at (cmp k)) rows) → writer_at cmp b (change_at (is_at (cmp k)) (written s value) rows) ≡ cond (is_eq (cmp k b)) (Some s) (writer_at cmp b rows)
  changed s value b some = changed_by s value b _ refl some

  ended_left : (e : WritesEnd) (b : K) (v : Version V) (t : Bool) → lookup (is_at (cmp k)) rows ≡ Some v → IsStrictlySortedBy cmp (keys_of rows)
      → writer_at cmp b (cond t (remove_entry (is_at (cmp k)) rows) (set_value (is_at (cmp k)) rows (ended e v))) ≡ cond (is_eq (cmp k b)) None (writer_at cmp b rows)
  ended_left e b v true found rising = ap writer_of (lookup_removed cmp total k b rows rising) ∙ writer_cond_none (is_eq (cmp k b)) (lookup (is_at (cmp b)) rows)
  ended_left e b v false found rising =
      ap writer_of (lookup_set cmp total k b (ended e v) rows (subst IsSome (sym found) refl)) ∙ writer_cond (is_eq (cmp k b)) (ended e v) (lookup (is_at (cmp b)) rows)

  ended_by : (e : WritesEnd) (b : K) (s : ℕ) (o : Option (Version V)) → lookup (is_at (cmp k)) rows ≡ o → is_writer s (writer_of o) ≡ true → IsStrictlySortedBy cmp (keys_of rows)
      → writer_at cmp b (settle_by (is_at (cmp k)) e rows o) ≡ cond (is_eq (cmp k b)) None (writer_at cmp b rows)
  ended_by e b s None found own rising = absurd (true≢false (sym own))
  ended_by e b s (Some v) found own rising = ended_left e b v (is_none (outcome e v)) found rising

  each_by : (s : ℕ) (value : Option V) (b : K) (o : Option (Version V)) (t : Bool) → lookup (is_at (cmp k)) rows ≡ o → IsSome o → is_eq (cmp k b) ≡ t
      → lookup (is_at (cmp b)) (change_by (is_at (cmp k)) (written s value) rows o) ≡ cond t (option_map (written s value) (lookup (is_at (cmp b)) rows)) (lookup (is_at (cmp b)) rows)
  each_by s value b None t found some e = absurd (true≢false (sym some))
  each_by s value b (Some v) true found some e =
      let same : lookup (is_at (cmp b)) rows ≡ Some v = lookup_alike cmp total k b rows e ∙ found in
      lookup_set cmp total k b (written s value v) rows (subst IsSome (sym found) some) ∙ ap (λ t. cond t (Some (written s value v)) (lookup (is_at (cmp b)) rows)) e ∙ ap (option_map (written s value)) (sym same)
  each_by s value b (Some v) false found some e = lookup_set cmp total k b (written s value v) rows (subst IsSome (sym found) some) ∙ ap (λ t. cond t (Some (written s value v)) (lookup (is_at (cmp b)) rows)) e

  -- what each key has after a write
  pub lookup_written : (s : ℕ) (value : Option V) (b : K) → IsSome (lookup (is_at (cmp k)) rows) → lookup (is_at (cmp b)) (change_at (is_at (cmp k)) (written s value) rows) ≡ cond (is_eq (cmp k b)) (option_map (written s value) (lookup (is_at (cmp b)) rows)) (lookup (is_at (cmp b)) rows)
  lookup_written s value b some = each_by s value b _ _ refl some refl

  module _ (listed : List (ℕ × K)) (room : ℕ) (indexed : IsIndexed cmp rows listed room) where
    -- a committed value comes
    pub indexed_kept : (x : V) (new : List (K × Version V)) → lookup (is_at (cmp k)) rows ≡ None → 1 ≤ room - unwritten rows → new ≡ insert_entry cmp rows k (kept_value x) → HasRisingKeys cmp new → IsIndexed cmp new listed room
    indexed_kept x new absent more is rising = record {
      rising = rising;
      listed_are = listed_same cmp total 0 k listed listed (λ b. writer_at cmp b rows) (λ b. writer_at cmp b new) indexed.listed_are alike
          (λ b. ap (writer_at cmp b) is ∙ inserted (kept_value x) b ∙ ap (λ w. cond (is_eq (cmp k b)) w (writer_at cmp b rows)) (sym (ap writer_of absent)));
      room_is = let less = unwritten_inserted total rows k (kept_value x) indexed.rising in let same = ap unwritten is in omega (arith, less, same, more, indexed.room_is);
    }

    -- a key comes for a session
    pub indexed_put : (s : ℕ) (new : List (K × Version V)) (more : List (ℕ × K)) (left : ℕ) → lookup (is_at (cmp k)) rows ≡ None → new ≡ insert_entry cmp rows k (fresh s) → HasRisingKeys cmp new
        → ((a : ℕ) (b : K) → has_pair session_cmp cmp more a b ≡ (is_eq (pair_cmp session_cmp cmp (a, b) (s, k)) || has_pair session_cmp cmp listed a b)) → 1 ≤ room - unwritten rows → room ≤ left + 1 → IsIndexed cmp new more left
    indexed_put s new more left absent is rising adds some spare = record {
      rising = rising;
      listed_are = listed_more cmp total s k listed more (λ b. writer_at cmp b rows) (λ b. writer_at cmp b new) indexed.listed_are alike (ap writer_of absent) (λ b. ap (writer_at cmp b) is ∙ inserted (fresh s) b) adds;
      room_is = let less = unwritten_inserted total rows k (fresh s) indexed.rising in let same = ap unwritten is in omega (arith, less, same, some, spare);
    }

    -- a key without a writer is written
    pub indexed_first : (s : ℕ) (value : Option V) (new : List (K × Version V)) (more : List (ℕ × K)) (left : ℕ) → IsSome (lookup (is_at (cmp k)) rows) → writer_at cmp k rows ≡ None → new ≡ change_at (is_at (cmp k)) (written s value) rows → HasRisingKeys cmp new
        → ((a : ℕ) (b : K) → has_pair session_cmp cmp more a b ≡ (is_eq (pair_cmp session_cmp cmp (a, b) (s, k)) || has_pair session_cmp cmp listed a b)) → room ≤ left + 1 → IsIndexed cmp new more left
    indexed_first s value new more left some none is rising adds spare = record {
      rising = rising;
      listed_are = listed_more cmp total s k listed more (λ b. writer_at cmp b rows) (λ b. writer_at cmp b new) indexed.listed_are alike none (λ b. ap (writer_at cmp b) is ∙ changed s value b some) adds;
      room_is = let less : unwritten new + 1 ≡ unwritten rows = ap (λ t. unwritten t + 1) is ∙ ap (λ w. unwritten (change_at (is_at (cmp k)) (written s value) rows) + (cond (is_none w) 1 0)) (sym none) ∙ unwritten_written (is_at (cmp k)) s value rows some in omega (arith, less, spare, indexed.room_is);
    }

    -- a key of the session's own is written
    pub indexed_again : (s : ℕ) (value : Option V) (new : List (K × Version V)) → IsSome (lookup (is_at (cmp k)) rows) → writer_at cmp k rows ≡ Some s → new ≡ change_at (is_at (cmp k)) (written s value) rows → HasRisingKeys cmp new → IsIndexed cmp new listed room
    indexed_again s value new some own is rising = record {
      rising = rising;
      listed_are = listed_same cmp total s k listed listed (λ b. writer_at cmp b rows) (λ b. writer_at cmp b new) indexed.listed_are alike
          (λ b. ap (writer_at cmp b) is ∙ changed s value b some ∙ ap (λ w. cond (is_eq (cmp k b)) w (writer_at cmp b rows)) (sym own));
      room_is = let less : unwritten new + 0 ≡ unwritten rows = ap (λ t. unwritten t + 0) is ∙ ap (λ w. unwritten (change_at (is_at (cmp k)) (written s value) rows) + (cond (is_none w) 1 0)) (sym own) ∙ unwritten_written (is_at (cmp k)) s value rows some in omega (arith, less, indexed.room_is);
    }

    -- the writes at a key of the session's own end
    pub indexed_settled : (s : ℕ) (e : WritesEnd) (new : List (K × Version V)) (less : List (ℕ × K)) (left : ℕ) → is_writer s (writer_at cmp k rows) ≡ true → new ≡ settle_at (is_at (cmp k)) e rows → HasRisingKeys cmp new
        → ((a : ℕ) (b : K) → has_pair session_cmp cmp less a b ≡ (not (is_eq (pair_cmp session_cmp cmp (a, b) (s, k))) && has_pair session_cmp cmp listed a b)) → room + 1 ≤ left → IsIndexed cmp new less left
    indexed_settled s e new less left own is rising drops spare = record {
      rising = rising;
      listed_are = listed_less cmp total s k listed less (λ b. writer_at cmp b rows) (λ b. writer_at cmp b new) indexed.listed_are alike (writer_is s _ own) (λ b. ap (writer_at cmp b) is ∙ ended_by e b s _ refl own indexed.rising) drops;
      room_is = let most = unwritten_settled (is_at (cmp k)) e rows in let same = ap unwritten is in omega (arith, most, same, spare, indexed.room_is);
    }

    -- a key of the session's own is taken out
    pub indexed_removed : (s : ℕ) (new : List (K × Version V)) (less : List (ℕ × K)) (left : ℕ) → writer_at cmp k rows ≡ Some s → new ≡ remove_entry (is_at (cmp k)) rows → HasRisingKeys cmp new
        → ((a : ℕ) (b : K) → has_pair session_cmp cmp less a b ≡ (not (is_eq (pair_cmp session_cmp cmp (a, b) (s, k))) && has_pair session_cmp cmp listed a b)) → room + 1 ≤ left → IsIndexed cmp new less left
    indexed_removed s new less left own is rising drops spare = record {
      rising = rising;
      listed_are = listed_less cmp total s k listed less (λ b. writer_at cmp b rows) (λ b. writer_at cmp b new) indexed.listed_are alike own
          (λ b. ap (writer_at cmp b) is ∙ ap writer_of (lookup_removed cmp total k b rows indexed.rising) ∙ writer_cond_none (is_eq (cmp k b)) (lookup (is_at (cmp b)) rows)) drops;
      room_is = let most = unwritten_removed (is_at (cmp k)) rows in let same = ap unwritten is in omega (arith, most, same, spare, indexed.room_is);
    }
