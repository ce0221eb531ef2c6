-- The keys of the rows whose shape has P, collected row by row.
use Rattle.std.proofs.Common.{◌≡◌, ◌⊎◌, ℕ, ◌+◌, ◌≤◌, ◌<◌, List, [], ◌∷◌, ◌++◌, length, drop, get_or, suc, add-one, Option, Some, None, arith, refl, sym, ap, ◌∙◌, subst, inl, inr, append_assoc, append-nil, drop-cons}
use Rattle.std.specs.Prelude.{All, IsSome, IsSomeAnd}
use Rattle.std.proofs.lemmas.List.{get_or_default}
use Rattle.std.proofs.lemmas.Bool.{cases_eq}
use Rattle.sg_shape.specs.declared.shapes.Shape.{Shape}
use Rattle.sg_plain.specs.Keys.{RisesFrom, IsRising}
use Rattle.sg_plain.specs.Rows.{Rows, keys_of, shape_at, IsKeysWith, CoversKeysWith}
use Rattle.sg_plain.specs.Takes.{Takes}
use Rattle.sg_plain.proofs.KeyLemmas.{RisesFrom-lower, rising_without, rising_front, Has, Has-from_Contains, Contains-from_Has, Has_at_least, same_rising}
use Rattle.sg_plain.proofs.Lookups.{shape_at-same, shape_at-other, held_at_least}

-- a row is taken only where its shape has P, and passed over only where it hasn't
abbrev pub Collects : (Shape → Type 0) → Rows → List ℕ → Type 0
Collects P [] ks = ks ≡ []
Collects P (row ∷ rows) ks =
    (P row.1 × ((rest : List ℕ) × (ks ≡ row.0 ∷ rest) × Collects P rows rest))
    ⊎ ((¬ P row.1) × Collects P rows ks)

module _ (P : Shape → Type 0) where
  Collects-rising : (low : ℕ) (rows : Rows) (ks : List ℕ) → RisesFrom low (keys_of rows) → Collects P rows ks → RisesFrom low ks
  Collects-rising low [] ks h c = subst (RisesFrom low) (sym c) tt
  Collects-rising low (row ∷ rows) ks h (inl c) =
      subst (RisesFrom low) (sym c.1.1) (h.0, Collects-rising (row.0 + 1) rows c.1.0 h.1 c.1.2)
  Collects-rising low (row ∷ rows) ks h (inr c) =
      Collects-rising low rows ks (RisesFrom-lower low (row.0 + 1) (keys_of rows) (omega (arith, h.0)) h.1) c.1

  -- the shape at a key, by the first row
  here : (row : ℕ × Shape) (rows : Rows) (k : ℕ) → row.0 ≡ k → P row.1 → IsSomeAnd (shape_at (row ∷ rows) k) P
  here row rows k same p = subst (λ (o : Option Shape). IsSomeAnd o P) (sym (shape_at-same row rows k same)) p

  here_has : (row : ℕ × Shape) (rows : Rows) (k : ℕ) → row.0 ≡ k → IsSomeAnd (shape_at (row ∷ rows) k) P → P row.1
  here_has row rows k same h = subst (λ (o : Option Shape). IsSomeAnd o P) (shape_at-same row rows k same) h

  later : (row : ℕ × Shape) (rows : Rows) (k : ℕ) → (row.0 ≡ k → ⊥) → IsSomeAnd (shape_at rows k) P → IsSomeAnd (shape_at (row ∷ rows) k) P
  later row rows k other h = subst (λ (o : Option Shape). IsSomeAnd o P) (sym (shape_at-other row rows k other)) h

  later_has : (row : ℕ × Shape) (rows : Rows) (k : ℕ) → (row.0 ≡ k → ⊥) → IsSomeAnd (shape_at (row ∷ rows) k) P → IsSomeAnd (shape_at rows k) P
  later_has row rows k other h = subst (λ (o : Option Shape). IsSomeAnd o P) (shape_at-other row rows k other) h

  -- a key that has P is at least low
  with_at_least : (low : ℕ) (rows : Rows) (k : ℕ) → RisesFrom low (keys_of rows) → IsSomeAnd (shape_at rows k) P → low ≤ k
  with_at_least low rows k h = at (shape_at rows k) refl
    where
      at : (o : Option Shape) → shape_at rows k ≡ o → IsSomeAnd o P → low ≤ k
      at None e i = absurd i
      at (Some s) e i = held_at_least low rows k s h e

  -- each key that was collected has P
  Collects-sound : (low : ℕ) (rows : Rows) (ks : List ℕ) (k : ℕ) → RisesFrom low (keys_of rows) → Collects P rows ks → Has ks k → IsSomeAnd (shape_at rows k) P
  Collects-sound low [] ks k h c has = absurd (subst (λ (xs : List ℕ). Has xs k) c has)
  Collects-sound low (row ∷ rows) ks k h (inl c) has =
      elim (subst (λ (xs : List ℕ). Has xs k) c.1.1 has) [
        | inl same ↦ here row rows k same c.0
        | inr rest ↦
            let le : row.0 + 1 ≤ k = Has_at_least (row.0 + 1) c.1.0 k (Collects-rising (row.0 + 1) rows c.1.0 h.1 c.1.2) rest in
            later row rows k (λ same. omega arith) (Collects-sound (row.0 + 1) rows c.1.0 k h.1 c.1.2 rest)
      ]
  Collects-sound low (row ∷ rows) ks k h (inr c) has =
      let le : row.0 + 1 ≤ k = Has_at_least (row.0 + 1) ks k (Collects-rising (row.0 + 1) rows ks h.1 c.1) has in
      later row rows k (λ same. omega arith) (Collects-sound (row.0 + 1) rows ks k h.1 c.1 has)

  -- each key that has P was collected
  Collects-complete : (rows : Rows) (ks : List ℕ) (k : ℕ) → Collects P rows ks → IsSomeAnd (shape_at rows k) P → Has ks k
  Collects-complete [] ks k c i = absurd i
  Collects-complete (row ∷ rows) ks k (inl c) i =
      subst (λ (xs : List ℕ). Has xs k) (sym c.1.1)
      (elim (cases_eq row.0 k) [
        | inl same ↦ inl same
        | inr other ↦ inr (Collects-complete rows c.1.0 k c.1.2 (later_has row rows k other i))
      ])
  Collects-complete (row ∷ rows) ks k (inr c) i =
      elim (cases_eq row.0 k) [
        | inl same ↦ absurd (c.0 (here_has row rows k same i))
        | inr other ↦ Collects-complete rows ks k c.1 (later_has row rows k other i)
      ]

  pub IsKeysWith-from_Collects : (rows : Rows) (ks : List ℕ) → IsRising (keys_of rows) → Collects P rows ks → IsKeysWith P rows ks
  IsKeysWith-from_Collects rows ks rising c = record {
    rising = Collects-rising 0 rows ks rising c;
    each = λ k. (λ h. Collects-sound 0 rows ks k rising c (Has-from_Contains ks k h), λ i. Contains-from_Has ks k (Collects-complete rows ks k c i));
  }

  -- there is one such list at most
  pub IsKeysWith-unique : (rows : Rows) (ks ls : List ℕ) → IsKeysWith P rows ks → IsKeysWith P rows ls → ks ≡ ls
  IsKeysWith-unique rows ks ls h k =
      same_rising 0 0 ks ls h.rising k.rising
      (λ key has. Has-from_Contains ls key ((k.each key).1 ((h.each key).0 (Contains-from_Has ks key has))))
      (λ key has. Has-from_Contains ks key ((h.each key).1 ((k.each key).0 (Contains-from_Has ls key has))))

  -- ---- a loop over rows: whatever keys the rest has complete those so far, and all of the rest may still come
  pub record SoFar (all rest : Rows) (keys : List ℕ) : Type 0 where
    pub complete : (tail : List ℕ) → Collects P rest tail → Collects P all (keys ++ tail)
    pub rising : IsRising (keys ++ keys_of rest)

  complete_step : (all rest : Rows) (row : ℕ × Shape) (old new : List ℕ) → Takes P row old new →
      ((tail : List ℕ) → Collects P (row ∷ rest) tail → Collects P all (old ++ tail)) →
      (tail : List ℕ) → Collects P rest tail → Collects P all (new ++ tail)
  complete_step all rest row old new (inl taken) so_far tail h =
      rw (taken.1, append_assoc) (so_far (row.0 ∷ tail) (inl (taken.0, (tail, refl, h))))
  complete_step all rest row old new (inr passed) so_far tail h = rw passed.1 (so_far tail (inr (passed.0, h)))

  rising_step : (rest : Rows) (row : ℕ × Shape) (old new : List ℕ) → Takes P row old new → IsRising (old ++ keys_of (row ∷ rest)) → IsRising (new ++ keys_of rest)
  rising_step rest row old new (inl taken) h = rw (taken.1, append_assoc) h
  rising_step rest row old new (inr passed) h = rw passed.1 (rising_without 0 old row.0 (keys_of rest) h)

  ahead : (rows : Rows) (i : ℕ) (row : ℕ × Shape) → i < length rows → row ≡ get_or rows i row → drop i rows ≡ row ∷ drop (i + 1) rows
  ahead rows i row h e = rw add-one (drop-cons rows i row h ∙ ap (λ (r : ℕ × Shape). r ∷ drop (suc i) rows) (sym e))

  pub SoFar-start : (all : Rows) → IsRising (keys_of all) → SoFar all all []
  SoFar-start all rising = record { complete = λ tail h. h; rising = rising }

  pub SoFar-step : (all : Rows) (i : ℕ) (row : ℕ × Shape) (old new : List ℕ) → i < length all → row ≡ get_or all i row →
      Takes P row old new → SoFar all (drop i all) old → SoFar all (drop (i + 1) all) new
  SoFar-step all i row old new h e takes so_far =
      let now : SoFar all (row ∷ drop (i + 1) all) old = subst (λ (rest : Rows). SoFar all rest old) (ahead all i row h e) so_far in
      record {
        complete = complete_step all (drop (i + 1) all) row old new takes now.complete;
        rising = rising_step (drop (i + 1) all) row old new takes now.rising;
      }

  -- the next row's key may come
  pub SoFar-above : (all : Rows) (i : ℕ) (row : ℕ × Shape) (keys : List ℕ) → i < length all → row ≡ get_or all i row →
      SoFar all (drop i all) keys → IsRising (keys ++ row.0 ∷ [])
  SoFar-above all i row keys h e so_far =
      rising_front 0 keys row.0 (keys_of (drop (i + 1) all))
      (subst (λ (rest : Rows). IsRising (keys ++ keys_of rest)) (ahead all i row h e) so_far.rising)

  pub SoFar-end : (all rest : Rows) (keys : List ℕ) → rest ≡ [] → IsRising (keys_of all) → SoFar all rest keys → IsKeysWith P all keys
  SoFar-end all rest keys e rising h =
      let none : Collects P rest [] = rw e refl in
      IsKeysWith-from_Collects all keys rising (rw append-nil at (h.complete [] none))

  -- an exact list covers
  pub CoversKeysWith-from_exact : (rows : Rows) (ks : List ℕ) → IsKeysWith P rows ks → CoversKeysWith P rows ks
  CoversKeysWith-from_exact rows ks h = record {
    rising = h.rising;
    held = λ k has. held_by (shape_at rows k) ((h.each k).0 has);
    covers = λ k. (h.each k).1;
  }
    where
      held_by : (o : Option Shape) → IsSomeAnd o P → IsSome o
      held_by None i = absurd i
      held_by (Some s) i = refl

  -- each key of the list is held
  pub IsKeysWith-held : (rows : Rows) (ks : List ℕ) → IsKeysWith P rows ks → All (λ k. IsSome (shape_at rows k)) ks
  IsKeysWith-held rows ks h i d within =
      let c = CoversKeysWith-from_exact rows ks h in
      c.held (get_or ks i d) (i, within, get_or_default ks i (get_or ks i d) d within)
