-- The end of a session's writes at one key, and at all.
use Rattle.std.specs.Prelude.{not, filter}
use Rattle.std.proofs.Common.{◌≡◌, ℕ, Bool, true, false, cond, List, [], ◌∷◌, Option, Some, None, refl, sym, ap, ◌∙◌}
use mathlib.Core.Bool.{true≢false}
use Rattle.std.specs.declared.cmp.Ordering.{Ordering}
use Rattle.std.specs.Ordering.{is_eq}
use Rattle.std.specs.Option.{is_none, option_map}
use Rattle.std.specs.Cmp.{IsTotalOrder}
use Rattle.std.specs.List.Sorted.{IsStrictlySortedBy}
use Rattle.std.specs.Map.{keys_of, lookup, remove_entry, set_value}
use Rattle.std.specs.BTreeMap.{is_at}
use Rattle.std.proofs.lemmas.Cmp.{tied_itself, eq_by_cmp_equiv}
use Rattle.std.proofs.lemmas.Map.{lookup-none}
use Rattle.std.proofs.lemmas.Map.Entries.{none_past_head, option_filter, lookup-filter-values}
use Rattle.std.proofs.lemmas.Map.Made.{lookup-map_values}
use Rattle.std.proofs.lemmas.Map.Keys.{sorted_tail, IsDistinct-from_sorted}
use Rattle.sg_versions.specs.declared.version.Version.{Version}
use Rattle.sg_versions.specs.declared.version.WritesEnd.{WritesEnd}
use Rattle.sg_versions.specs.Versions.{is_writer, outcome, ended, is_emptied, ended_of, settled, settled_version}
use Rattle.sg_versions.specs.Writers.{writer_of, writer_at, settle_by, settle_at}

module _ {K V : Type 0} (e : WritesEnd) (s : ℕ) where
  settled_by : (r : K × Version V) (rows : List (K × Version V)) (b : Bool) → is_emptied e s r.1 ≡ b → settled e s (r ∷ rows) ≡ cond b (settled e s rows) ((r.0, ended_of e s r.1) ∷ settled e s rows)
  settled_by r rows true h = rw h refl
  settled_by r rows false h = rw h refl

  pub settled_cons : (r : K × Version V) (rows : List (K × Version V)) → settled e s (r ∷ rows) ≡ cond (is_emptied e s r.1) (settled e s rows) ((r.0, ended_of e s r.1) ∷ settled e s rows)
  settled_cons r rows = settled_by r rows _ refl

  pub settled_same : (r : K × Version V) (rows others : List (K × Version V)) → settled e s rows ≡ settled e s others → settled e s (r ∷ rows) ≡ settled e s (r ∷ others)
  settled_same r rows others h = settled_cons r rows ∙ ap (λ t. cond (is_emptied e s r.1) t ((r.0, ended_of e s r.1) ∷ t)) h ∙ sym (settled_cons r others)

  settled_gone : (r : K × Version V) (rows : List (K × Version V)) → is_writer s r.1.writer ≡ true → is_none (outcome e r.1) ≡ true → settled e s rows ≡ settled e s (r ∷ rows)
  settled_gone r rows own none = let empty : is_emptied e s r.1 ≡ true = rw (own, none) refl in sym (settled_by r rows true empty)

  settled_left : (r : K × Version V) (rows : List (K × Version V)) → is_writer s r.1.writer ≡ true → is_none (outcome e r.1) ≡ false → settled e s ((r.0, ended e r.1) ∷ rows) ≡ settled e s (r ∷ rows)
  settled_left r rows own some =
      let left : is_emptied e s r.1 ≡ false = rw (own, some) refl in
      let made : ended_of e s r.1 ≡ ended e r.1 = rw own refl in
      sym (settled_by r rows false left ∙ ap (λ (v : Version V). (r.0, v) ∷ settled e s rows) made)

  module _ (test : K → Bool) where
    removed_by : (r : K × Version V) (rows : List (K × Version V)) (v : Version V) (b : Bool) → test r.0 ≡ b → is_writer s v.writer ≡ true → is_none (outcome e v) ≡ true
        → (lookup test rows ≡ Some v → settled e s (remove_entry test rows) ≡ settled e s rows)
        → lookup test (r ∷ rows) ≡ Some v → settled e s (remove_entry test (r ∷ rows)) ≡ settled e s (r ∷ rows)
    removed_by r rows v true h own none rest found =
        let f = rw h at found in let same : r.1 ≡ v = cc in
        rw h (settled_gone r rows (ap (λ (x : Version V). is_writer s x.writer) same ∙ own) (ap (λ (x : Version V). is_none (outcome e x)) same ∙ none))
    removed_by r rows v false h own none rest found = rw h (settled_same r (remove_entry test rows) rows (rest (rw h at found)))

    settled_removed : (rows : List (K × Version V)) (v : Version V) → is_writer s v.writer ≡ true → is_none (outcome e v) ≡ true → lookup test rows ≡ Some v → settled e s (remove_entry test rows) ≡ settled e s rows
    settled_removed [] v own none found = refl
    settled_removed (r ∷ rows) v own none found = removed_by r rows v _ refl own none (settled_removed rows v own none) found

    set_by : (r : K × Version V) (rows : List (K × Version V)) (v : Version V) (b : Bool) → test r.0 ≡ b → is_writer s v.writer ≡ true → is_none (outcome e v) ≡ false
        → (lookup test rows ≡ Some v → settled e s (set_value test rows (ended e v)) ≡ settled e s rows)
        → lookup test (r ∷ rows) ≡ Some v → settled e s (set_value test (r ∷ rows) (ended e v)) ≡ settled e s (r ∷ rows)
    set_by r rows v true h own some rest found =
        let f = rw h at found in let same : r.1 ≡ v = cc in
        rw h (ap (λ (x : Version V). settled e s ((r.0, ended e x) ∷ rows)) (sym same) ∙ settled_left r rows (ap (λ (x : Version V). is_writer s x.writer) same ∙ own) (ap (λ (x : Version V). is_none (outcome e x)) same ∙ some))
    set_by r rows v false h own some rest found = rw h (settled_same r (set_value test rows (ended e v)) rows (rest (rw h at found)))

    settled_set : (rows : List (K × Version V)) (v : Version V) → is_writer s v.writer ≡ true → is_none (outcome e v) ≡ false → lookup test rows ≡ Some v → settled e s (set_value test rows (ended e v)) ≡ settled e s rows
    settled_set [] v own some found = refl
    settled_set (r ∷ rows) v own some found = set_by r rows v _ refl own some (settled_set rows v own some) found

    step_left : (rows : List (K × Version V)) (v : Version V) (b : Bool) → is_none (outcome e v) ≡ b → lookup test rows ≡ Some v → is_writer s v.writer ≡ true → settled e s (cond b (remove_entry test rows) (set_value test rows (ended e v))) ≡ settled e s rows
    step_left rows v true h found own = settled_removed rows v own h found
    step_left rows v false h found own = settled_set rows v own h found

    step_by : (rows : List (K × Version V)) (o : Option (Version V)) → lookup test rows ≡ o → is_writer s (writer_of o) ≡ true → settled e s (settle_by test e rows o) ≡ settled e s rows
    step_by rows None found own = absurd (true≢false (sym own))
    step_by rows (Some v) found own = step_left rows v _ refl found own

    -- the end at one key of the session leaves the end at all as it is
    pub settled_step : (rows : List (K × Version V)) → is_writer s (writer_of (lookup test rows)) ≡ true → settled e s (settle_at test e rows) ≡ settled e s rows
    settled_step rows own = step_by rows _ refl own

  module _ (cmp : K → K → Ordering) (total : IsTotalOrder cmp) where
    later_by : (q : K) (r : K × Version V) (rows : List (K × Version V)) (b : Bool) → is_eq (cmp q r.0) ≡ b → IsStrictlySortedBy cmp (keys_of (r ∷ rows)) → is_writer s (writer_at cmp q (r ∷ rows)) ≡ false → is_writer s (writer_at cmp q rows) ≡ false
    later_by q r rows true h rising none = ap (λ o. is_writer s (writer_of o)) (lookup-none (is_at (cmp q)) rows (none_past_head (eq_by_cmp_equiv total) q r rows (IsDistinct-from_sorted cmp (keys_of (r ∷ rows)) rising) h))
    later_by q r rows false h rising none = rw h at none

    first_of : (r : K × Version V) (rows : List (K × Version V)) → is_writer s (writer_at cmp r.0 (r ∷ rows)) ≡ false → is_writer s r.1.writer ≡ false
    first_of r rows none = let itself : is_eq (cmp r.0 r.0) ≡ true = ap is_eq (tied_itself total r.0) in rw itself at none

    -- a session that is the writer nowhere ends nothing
    pub settled_none : (rows : List (K × Version V)) → IsStrictlySortedBy cmp (keys_of rows) → ((q : K) → is_writer s (writer_at cmp q rows) ≡ false) → settled e s rows ≡ rows
    settled_none [] rising none = refl
    settled_none (r ∷ rows) rising none =
        let mine : is_writer s r.1.writer ≡ false = first_of r rows (none r.0) in
        let left : is_emptied e s r.1 ≡ false = rw mine refl in
        let made : ended_of e s r.1 ≡ r.1 = rw mine refl in
        settled_by r rows false left ∙ ap (λ (v : Version V). (r.0, v) ∷ settled e s rows) made
        ∙ ap (λ t. r ∷ t) (settled_none rows (sorted_tail cmp r.0 (keys_of rows) rising) (λ q. later_by q r rows _ refl rising (none q)))

    -- what each key has after the end
    left_by : (o : Option (Version V)) → option_map (ended_of e s) (option_filter (λ v. not (is_emptied e s v)) o) ≡ settled_version e s o
    left_by None = refl
    left_by (Some v) = by_emptied (is_emptied e s v)
      where
        by_emptied : (b : Bool) → option_map (ended_of e s) (cond (not b) (Some v) None) ≡ cond b None (Some (ended_of e s v))
        by_emptied true = refl
        by_emptied false = refl

    pub lookup_settled : (q : K) (rows : List (K × Version V)) → IsStrictlySortedBy cmp (keys_of rows) → lookup (is_at (cmp q)) (settled e s rows) ≡ settled_version e s (lookup (is_at (cmp q)) rows)
    lookup_settled q rows rising =
        lookup-map_values (ended_of e s) (is_at (cmp q)) (filter (λ r. not (is_emptied e s r.1)) rows)
        ∙ ap (option_map (ended_of e s)) (lookup-filter-values (eq_by_cmp_equiv total) (λ v. not (is_emptied e s v)) q rows (IsDistinct-from_sorted cmp (keys_of rows) rising))
        ∙ left_by (lookup (is_at (cmp q)) rows)
