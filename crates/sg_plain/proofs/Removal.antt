-- Rows whose keys stand in a list are removed in one pass over both.
use Rattle.std.proofs.Common.{◌≡◌, ℕ, ◌+◌, ◌==◌, ◌≤◌, ◌<◌, Bool, true, false, not, List, [], ◌∷◌, length, take, drop, get_or, zero, suc, add-one, Option, Some, arith, refl, sym, ap, ◌∙◌, subst, inl, inr, drop-cons}
use Rattle.std.specs.List.{list_any, SwappedAt}
use Rattle.std.specs.Prelude.{All, IsSome, slice_get}
use Rattle.std.proofs.lemmas.Bool.{cases_eq}
use Rattle.std.proofs.lemmas.List.{drop-map}
use Rattle.std.proofs.lemmas.List.Elements.{All-contains}
use Rattle.std.proofs.lemmas.List.Filters.{FiltersInPlace, FiltersInPlace-all, FiltersInPlace-more_no, FiltersInPlace-more_swap}
use Rattle.std.proofs.lemmas.Option.{get_or_from_slice_get, slice_get_within}
use Rattle.sg_shape.specs.declared.shapes.Shape.{Shape}
use Rattle.sg_plain.specs.Keys.{RisesFrom, IsRising}
use Rattle.sg_plain.specs.Rows.{Rows, keys_of, shape_at, without_keys}
use Rattle.sg_plain.proofs.KeyLemmas.{RisesFrom-lower, rising_drop, Has, Has-rest, Has_at_least, Contains-from_Has, any_has, any_none}
use Rattle.sg_plain.proofs.Lookups.{shape_at-other}

-- the rows that stay
abbrev pub stays : List ℕ → ℕ × Shape → Bool
stays keys row = not (list_any (λ k. k == row.0) keys)

-- of all keys, those ahead are the ones that the rows ahead have
pub record Ahead (keys ks : List ℕ) (rows : Rows) : Type 0 where
  pub same : (k : ℕ) → Has (keys_of rows) k → Has keys k → Has ks k
  pub held : (k : ℕ) → Has ks k → Has (keys_of rows) k
  pub part : (k : ℕ) → Has ks k → Has keys k
  pub rising : IsRising ks

-- the first row's key is the first ahead
Ahead-gone : (keys ks : List ℕ) (row : ℕ × Shape) (rows : Rows) → RisesFrom (row.0 + 1) (keys_of rows) → Ahead keys (row.0 ∷ ks) (row ∷ rows) → Ahead keys ks rows
Ahead-gone keys ks row rows rising a = record {
  same = λ k h has. let le = Has_at_least (row.0 + 1) (keys_of rows) k rising h in Has-rest row.0 ks k le (a.same k (inr h) has);
  held = λ k h. let le = Has_at_least (row.0 + 1) ks k a.rising.1 h in Has-rest row.0 (keys_of rows) k le (a.held k (inr h));
  part = λ k h. a.part k (inr h);
  rising = RisesFrom-lower 0 (row.0 + 1) ks (omega arith) a.rising.1;
}

-- it isn't, so the row stays
Ahead-kept : (keys ks : List ℕ) (row : ℕ × Shape) (rows : Rows) → RisesFrom (row.0 + 1) (keys_of rows) →
    ((rest : List ℕ) → ks ≡ row.0 ∷ rest → ⊥) → Ahead keys ks (row ∷ rows) → (Has keys row.0 → ⊥) × Ahead keys ks rows
Ahead-kept keys [] row rows rising other a =
    (λ has. a.same row.0 (inl refl) has, record { same = λ k h has. a.same k (inr h) has; held = λ k h. absurd h; part = a.part; rising = tt })
Ahead-kept keys (x ∷ ks) row rows rising other a =
    let least : row.0 ≤ x = Has_at_least row.0 (keys_of (row ∷ rows)) x (omega arith, rising) (a.held x (inl refl)) in
    let differs : x ≡ row.0 → ⊥ = λ e. other ks (ap (λ (y : ℕ). y ∷ ks) e) in
    let above : row.0 + 1 ≤ x = omega arith in
    let all_above : RisesFrom (row.0 + 1) (x ∷ ks) = (above, a.rising.1) in (
      λ has. let le = Has_at_least (row.0 + 1) (x ∷ ks) row.0 all_above (a.same row.0 (inl refl) has) in omega arith,
      record {
        same = λ k h has. a.same k (inr h) has;
        held = λ k h. let le = Has_at_least (row.0 + 1) (x ∷ ks) k all_above h in Has-rest row.0 (keys_of rows) k le (a.held k h);
        part = a.part;
        rising = a.rising;
      },
    )

held_has : (rows : Rows) (k : ℕ) → IsSome (shape_at rows k) → Has (keys_of rows) k
held_has [] k h = cc
held_has (row ∷ rows) k h =
    elim (cases_eq row.0 k) [
      | inl same ↦ inl same
      | inr other ↦ inr (held_has rows k (subst (λ (o : Option Shape). IsSome o) (shape_at-other row rows k other) h))
    ]

-- ---- the loop over the rows
-- the first `next` keys were met among the first i rows, of which `kept` stayed
pub record Removing (keys : List ℕ) (all now : Rows) (next kept i : ℕ) : Type 0 where
  pub filtered : FiltersInPlace (stays keys) all now kept i
  pub ahead : Ahead keys (drop next keys) (drop i all)
  pub few : next ≤ i

pub Removing-start : (keys : List ℕ) (all : Rows) → IsRising keys → All (λ k. IsSome (shape_at all k)) keys → Removing keys all all 0 0 0
Removing-start keys all rising held = record {
  filtered = record { front = refl; rest = refl; behind = omega arith; within = omega arith; long = refl };
  ahead = record {
    same = λ k h has. has;
    held = λ k h. held_has all k (All-contains (λ j. IsSome (shape_at all j)) keys k held (Contains-from_Has keys k h));
    part = λ k h. h;
    rising = rising;
  };
  few = omega arith;
}

-- the rows ahead
rows_ahead : (rows : Rows) (i : ℕ) (row : ℕ × Shape) → i < length rows → row ≡ get_or rows i row → drop i rows ≡ row ∷ drop (i + 1) rows
rows_ahead rows i row h e = rw add-one (drop-cons rows i row h ∙ ap (λ (r : ℕ × Shape). r ∷ drop (suc i) rows) (sym e))

rising_ahead : (rows : Rows) (i : ℕ) (row : ℕ × Shape) → IsRising (keys_of rows) → i < length rows → row ≡ get_or rows i row → RisesFrom (row.0 + 1) (keys_of (drop (i + 1) rows))
rising_ahead rows i row rising h e =
    let whole : RisesFrom 0 (keys_of (drop i rows)) = subst (RisesFrom 0) (drop-map (λ (r : ℕ × Shape). r.0) i rows) (rising_drop 0 (keys_of rows) i rising) in
    let front : RisesFrom 0 (keys_of (row ∷ drop (i + 1) rows)) = subst (λ (rs : Rows). RisesFrom 0 (keys_of rs)) (rows_ahead rows i row h e) whole in
    front.1

-- the keys ahead
keys_ahead : (keys : List ℕ) (next k : ℕ) → slice_get keys next ≡ Some k → drop next keys ≡ k ∷ drop (next + 1) keys
keys_ahead keys next k e =
    rw add-one (drop-cons keys next k (slice_get_within keys next k e)
    ∙ ap (λ (x : ℕ). x ∷ drop (suc next) keys) (get_or_from_slice_get keys next k k e))

first_ahead : (keys : List ℕ) (next k : ℕ) (rest : List ℕ) → drop next keys ≡ k ∷ rest → slice_get keys next ≡ Some k
first_ahead keys zero k rest e = rw e refl
first_ahead [] (suc next) k rest e = cc
first_ahead (x ∷ keys) (suc next) k rest e = first_ahead keys next k rest e

module _ (keys : List ℕ) (all now : Rows) (next kept i : ℕ) (row : ℕ × Shape) (rising : IsRising (keys_of all)) (h : i < length now) (e : row ≡ get_or now i row) (r : Removing keys all now next kept i) where
  within : i < length all
  within = omega (arith, r.filtered.long)

  -- the row is still where it stood
  unmoved : row ≡ get_or all i row
  unmoved = e ∙ same_at now all i row r.filtered.rest
    where
      same_at : (xs ys : Rows) (n : ℕ) (d : ℕ × Shape) → drop n xs ≡ drop n ys → get_or xs n d ≡ get_or ys n d
      same_at xs ys n d s = ap (λ (zs : Rows). get_or zs n d) refl ∙ (at_drop xs n d ∙ (ap (λ (zs : Rows). get_or zs 0 d) s ∙ sym (at_drop ys n d)))
        where
          at_drop : (xs : Rows) (n : ℕ) (d : ℕ × Shape) → get_or xs n d ≡ get_or (drop n xs) 0 d
          at_drop xs zero d = refl
          at_drop [] (suc n) d = refl
          at_drop (x ∷ xs) (suc n) d = at_drop xs n d

  here : Ahead keys (drop next keys) (row ∷ drop (i + 1) all)
  here = subst (λ (rs : Rows). Ahead keys (drop next keys) rs) (rows_ahead all i row within unmoved) r.ahead

  pub Removing-gone : slice_get keys next ≡ Some row.0 → Removing keys all now (next + 1) kept (i + 1)
  Removing-gone met =
      let first : Ahead keys (row.0 ∷ drop (next + 1) keys) (row ∷ drop (i + 1) all) =
      subst (λ (ks : List ℕ). Ahead keys ks (row ∷ drop (i + 1) all)) (keys_ahead keys next row.0 met) here in
      let gone : stays keys row ≡ false = ap not (any_has keys row.0 (first.part row.0 (inl refl))) in
      record {
        filtered = FiltersInPlace-more_no r.filtered h gone e;
        ahead = Ahead-gone keys (drop (next + 1) keys) row (drop (i + 1) all) (rising_ahead all i row rising within unmoved) first;
        few = omega (arith, r.few);
      }

  pub Removing-kept : (moved : Rows) → (slice_get keys next ≡ Some row.0 → ⊥) → SwappedAt now moved kept i → Removing keys all moved next (kept + 1) (i + 1)
  Removing-kept moved other swapped =
      let rest = Ahead-kept keys (drop next keys) row (drop (i + 1) all) (rising_ahead all i row rising within unmoved)
      (λ ks first. other (first_ahead keys next row.0 ks first)) here in
      let stay : stays keys row ≡ true = ap not (any_none keys row.0 rest.0) in
      record { filtered = FiltersInPlace-more_swap r.filtered h stay e swapped; ahead = rest.1; few = omega (arith, r.few) }

pub Removing-end : (keys : List ℕ) (all now : Rows) (next kept i : ℕ) → length all ≤ i → Removing keys all now next kept i → take kept now ≡ without_keys keys all
Removing-end keys all now next kept i over r = FiltersInPlace-all r.filtered over
