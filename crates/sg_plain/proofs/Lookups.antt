-- Look-ups in rows, and what an edit of rows leaves of them.
use Rattle.std.proofs.Common.{◌≡◌, ◌≢◌, ℕ, ◌+◌, ◌≤◌, ◌<◌, ◌==◌, nat_lt, Bool, true, false, List, [], ◌∷◌, ◌++◌, Option, Some, None, arith, refl, sym, ap, ◌∙◌, ap₂, subst, inl, inr}
use Rattle.std.specs.List.{list_any}
use Rattle.std.specs.Prelude.{filter, not}
use Rattle.std.proofs.lemmas.Bool.{cases_eq, cases_lt, cases_order, cond_both, cond-true, cond-false, eq-eqb, ne_eqb, lt-ltb, le-ltb}
use Rattle.std.proofs.lemmas.List.{map-append}
use Rattle.std.proofs.lemmas.List.Elements.{All-append, All-cons, All-filter, All-nil}
use Rattle.sg_shape.specs.declared.shapes.Kind.TheVariants as kind
use Rattle.sg_shape.specs.declared.shapes.Shape.{Shape}
use Rattle.sg_shape.specs.declared.shapes.Shape.TheVariants as shape
use Rattle.sg_shape.specs.Sound.{IsSound}
use Rattle.sg_plain.specs.Keys.{RisesFrom, IsRising}
use Rattle.sg_plain.specs.Rows.{Rows, keys_of, AreRows, shape_at, below, above, put, without_key, without_keys}
use Rattle.sg_plain.proofs.KeyLemmas.{RisesFrom-lower, rising_without}

-- ---- the first row
pub shape_at-same : (row : ℕ × Shape) (rows : Rows) (k : ℕ) → row.0 ≡ k → shape_at (row ∷ rows) k ≡ Some row.1
shape_at-same row rows k e = cond-true (row.0 == k) _ _ (eq-eqb row.0 k e)

pub shape_at-other : (row : ℕ × Shape) (rows : Rows) (k : ℕ) → row.0 ≢ k → shape_at (row ∷ rows) k ≡ shape_at rows k
shape_at-other row rows k e = cond-false (row.0 == k) _ _ (ne_eqb row.0 k e)

-- ---- rows joined, and filtered by their keys
pub shape_at-append_present : (xs ys : Rows) (k : ℕ) (s : Shape) → shape_at xs k ≡ Some s → shape_at (xs ++ ys) k ≡ Some s
shape_at-append_present [] ys k s e = absurd (cc)
shape_at-append_present (x ∷ xs) ys k s e =
    elim (cases_eq x.0 k) [
      | inl same ↦ shape_at-same x (xs ++ ys) k same ∙ (sym (shape_at-same x xs k same) ∙ e)
      | inr other ↦ shape_at-other x (xs ++ ys) k other ∙ shape_at-append_present xs ys k s (sym (shape_at-other x xs k other) ∙ e)
    ]

some≢none : (s : Shape) → Some s ≡ None → ⊥
some≢none s e = cc

pub shape_at-append_absent : (xs ys : Rows) (k : ℕ) → shape_at xs k ≡ None → shape_at (xs ++ ys) k ≡ shape_at ys k
shape_at-append_absent [] ys k e = refl
shape_at-append_absent (x ∷ xs) ys k e =
    elim (cases_eq x.0 k) [
      | inl same ↦ absurd (some≢none x.1 (sym (shape_at-same x xs k same) ∙ e))
      | inr other ↦ shape_at-other x (xs ++ ys) k other ∙ shape_at-append_absent xs ys k (sym (shape_at-other x xs k other) ∙ e)
    ]

pub shape_at-kept : (q : ℕ → Bool) (rows : Rows) (k : ℕ) → q k ≡ true → shape_at (filter (λ row. q row.0) rows) k ≡ shape_at rows k
shape_at-kept q [] k e = refl
shape_at-kept q (row ∷ rows) k e =
    let rest = filter (λ (r : ℕ × Shape). q r.0) rows in
    elim (cases_eq row.0 k) [
      | inl same ↦
          ap (λ (ys : Rows). shape_at ys k) (cond-true (q row.0) (row ∷ rest) rest (ap q same ∙ e))
          ∙ (shape_at-same row rest k same ∙ sym (shape_at-same row rows k same))
      | inr other ↦
          cond_both (q row.0) (row ∷ rest) rest (λ ys. shape_at ys k ≡ shape_at (row ∷ rows) k)
          (λ _. shape_at-other row rest k other ∙ (shape_at-kept q rows k e ∙ sym (shape_at-other row rows k other)))
          (λ _. shape_at-kept q rows k e ∙ sym (shape_at-other row rows k other))
    ]

pub shape_at-dropped : (q : ℕ → Bool) (rows : Rows) (k : ℕ) → q k ≡ false → shape_at (filter (λ row. q row.0) rows) k ≡ None
shape_at-dropped q [] k e = refl
shape_at-dropped q (row ∷ rows) k e =
    let rest = filter (λ (r : ℕ × Shape). q r.0) rows in
    elim (cases_eq row.0 k) [
      | inl same ↦
          ap (λ (ys : Rows). shape_at ys k) (cond-false (q row.0) (row ∷ rest) rest (ap q same ∙ e)) ∙ shape_at-dropped q rows k e
      | inr other ↦
          cond_both (q row.0) (row ∷ rest) rest (λ ys. shape_at ys k ≡ None)
          (λ _. shape_at-other row rest k other ∙ shape_at-dropped q rows k e)
          (λ _. shape_at-dropped q rows k e)
    ]

-- ---- rows whose keys rise
pub absent_below : (low : ℕ) (rows : Rows) (k : ℕ) → RisesFrom low (keys_of rows) → k < low → shape_at rows k ≡ None
absent_below low [] k h lt = refl
absent_below low (row ∷ rows) k h lt =
    let other : row.0 ≢ k = λ e. omega (arith, h.0) in
    shape_at-other row rows k other ∙ absent_below (row.0 + 1) rows k h.1 (omega (arith, h.0))

pub held_at_least : (low : ℕ) (rows : Rows) (k : ℕ) (s : Shape) → RisesFrom low (keys_of rows) → shape_at rows k ≡ Some s → low ≤ k
held_at_least low [] k s h e = absurd (cc)
held_at_least low (row ∷ rows) k s h e =
    elim (cases_eq row.0 k) [
      | inl same ↦ omega (arith, h.0)
      | inr other ↦
          let le : row.0 + 1 ≤ k = held_at_least (row.0 + 1) rows k s h.1 (sym (shape_at-other row rows k other) ∙ e) in
          omega (arith, h.0)
    ]

pub below_none : (low : ℕ) (rows : Rows) (k : ℕ) → RisesFrom low (keys_of rows) → k ≤ low → below k rows ≡ []
below_none low [] k h le = refl
below_none low (row ∷ rows) k h le =
    cond-false (nat_lt row.0 k) _ _ (le-ltb row.0 k (omega (arith, h.0))) ∙ below_none (row.0 + 1) rows k h.1 (omega (arith, h.0))

pub above_all : (low : ℕ) (rows : Rows) (k : ℕ) → RisesFrom low (keys_of rows) → k < low → above k rows ≡ rows
above_all low [] k h lt = refl
above_all low (row ∷ rows) k h lt =
    cond-true (nat_lt k row.0) _ _ (lt-ltb k row.0 (omega (arith, h.0)))
    ∙ ap (λ (ys : Rows). row ∷ ys) (above_all (row.0 + 1) rows k h.1 (omega (arith, h.0)))

-- the first row has a lesser key
pub below_first : (row : ℕ × Shape) (rows : Rows) (k : ℕ) → row.0 < k → below k (row ∷ rows) ≡ row ∷ below k rows
below_first row rows k lt = cond-true (nat_lt row.0 k) _ _ (lt-ltb row.0 k lt)

pub above_first : (row : ℕ × Shape) (rows : Rows) (k : ℕ) → row.0 ≤ k → above k (row ∷ rows) ≡ above k rows
above_first row rows k le = cond-false (nat_lt k row.0) _ _ (le-ltb k row.0 le)

-- ---- a row put among others
lt_irrefl : (k : ℕ) → nat_lt k k ≡ false
lt_irrefl k = le-ltb k k (omega arith)

pub shape_at-put_same : (rows : Rows) (k : ℕ) (s : Shape) → shape_at (put k s rows) k ≡ Some s
shape_at-put_same rows k s =
    shape_at-append_absent (below k rows) ((k, s) ∷ above k rows) k (shape_at-dropped (λ key. nat_lt key k) rows k (lt_irrefl k))
    ∙ shape_at-same (k, s) (above k rows) k refl

pub shape_at-put_other : (rows : Rows) (k : ℕ) (s : Shape) (j : ℕ) → k ≢ j → shape_at (put k s rows) j ≡ shape_at rows j
shape_at-put_other rows k s j other =
    elim (cases_lt j k) [
      | inl lesser ↦ in_front lesser (shape_at rows j) refl
      | inr le ↦
          let greater : k < j = omega arith in
          shape_at-append_absent (below k rows) ((k, s) ∷ above k rows) j (shape_at-dropped (λ key. nat_lt key k) rows j (le-ltb j k le))
          ∙ (shape_at-other (k, s) (above k rows) j other ∙ shape_at-kept (λ key. nat_lt k key) rows j (lt-ltb k j greater))
    ]
  where
    in_front : j < k → (o : Option Shape) → shape_at rows j ≡ o → shape_at (put k s rows) j ≡ shape_at rows j
    in_front lesser None e =
        shape_at-append_absent (below k rows) ((k, s) ∷ above k rows) j (shape_at-kept (λ key. nat_lt key k) rows j (lt-ltb j k lesser) ∙ e)
        ∙ (shape_at-other (k, s) (above k rows) j other
        ∙ (shape_at-dropped (λ key. nat_lt k key) rows j (le-ltb k j (omega arith)) ∙ sym e))
    in_front lesser (Some t) e =
        shape_at-append_present (below k rows) ((k, s) ∷ above k rows) j t (shape_at-kept (λ key. nat_lt key k) rows j (lt-ltb j k lesser) ∙ e)
        ∙ sym e

RisesFrom-put : (low : ℕ) (rows : Rows) (k : ℕ) (s : Shape) → RisesFrom low (keys_of rows) → low ≤ k → RisesFrom low (keys_of (put k s rows))
RisesFrom-put low [] k s h le = (le, tt)
RisesFrom-put low (row ∷ rows) k s h le =
    elim (cases_order row.0 k) [
      | inl same ↦
          subst (λ (ys : Rows). RisesFrom low (keys_of ys))
          (sym (both (cond-false (nat_lt row.0 k) _ _ (le-ltb row.0 k (omega arith)) ∙ below_none (row.0 + 1) rows k h.1 (omega arith))
          (cond-false (nat_lt k row.0) _ _ (le-ltb k row.0 (omega arith)) ∙ above_all (row.0 + 1) rows k h.1 (omega arith))))
          (le, RisesFrom-lower (k + 1) (row.0 + 1) (keys_of rows) (omega arith) h.1)
      | inr (inl lesser) ↦
          subst (λ (ys : Rows). RisesFrom low (keys_of ys))
          (sym (both (below_first row rows k lesser) (above_first row rows k (omega arith))))
          (h.0, RisesFrom-put (row.0 + 1) rows k s h.1 (omega arith))
      | inr (inr greater) ↦
          subst (λ (ys : Rows). RisesFrom low (keys_of ys))
          (sym (both (below_none row.0 (row ∷ rows) k (omega arith, h.1) (omega arith)) (above_all row.0 (row ∷ rows) k (omega arith, h.1) greater)))
          (le, (omega arith, h.1))
    ]
  where
    both : {front front' back back' : Rows} → front ≡ front' → back ≡ back' → front ++ (k, s) ∷ back ≡ front' ++ (k, s) ∷ back'
    both e f = ap₂ (λ (xs ys : Rows). xs ++ (k, s) ∷ ys) e f

pub AreRows-put : (rows : Rows) (k : ℕ) (s : Shape) → AreRows rows → IsSound s → AreRows (put k s rows)
AreRows-put rows k s h sound =
    let P : ℕ × Shape → Type 0 = λ row. IsSound row.1 in
    record {
      rising = RisesFrom-put 0 rows k s h.rising (omega arith);
      sound = All-append P (below k rows) ((k, s) ∷ above k rows) (All-filter _ P rows h.sound)
          (All-cons P (k, s) (above k rows) sound (All-filter _ P rows h.sound));
    }

-- ---- a row put last, and a row removed
keys_of-append : (xs ys : Rows) → keys_of (xs ++ ys) ≡ keys_of xs ++ keys_of ys
keys_of-append xs ys = map-append (λ (row : ℕ × Shape). row.0) xs ys

pub AreRows-push : (rows : Rows) (k : ℕ) (s : Shape) → AreRows rows → IsRising (keys_of rows ++ k ∷ []) → IsSound s → AreRows (rows ++ (k, s) ∷ [])
AreRows-push rows k s h above sound =
    let P : ℕ × Shape → Type 0 = λ row. IsSound row.1 in
    record {
      rising = subst IsRising (sym (keys_of-append rows ((k, s) ∷ []))) above;
      sound = All-append P rows ((k, s) ∷ []) h.sound (All-cons P (k, s) [] sound (All-nil P));
    }

pub AreRows-without_key : (rows : Rows) (k : ℕ) → AreRows rows → AreRows (without_key k rows)
AreRows-without_key rows k h =
    let P : ℕ × Shape → Type 0 = λ row. IsSound row.1 in
    let s : Shape = shape.Empty kind.Point in
    let rising : RisesFrom 0 (keys_of (put k s rows)) = RisesFrom-put 0 rows k s h.rising (omega arith) in
    let split : RisesFrom 0 (keys_of (below k rows) ++ k ∷ keys_of (above k rows)) =
    subst (RisesFrom 0) (keys_of-append (below k rows) ((k, s) ∷ above k rows)) rising in
    record {
      rising = subst (RisesFrom 0) (sym (keys_of-append (below k rows) (above k rows))) (rising_without 0 (keys_of (below k rows)) k (keys_of (above k rows)) split);
      sound = All-append P (below k rows) (above k rows) (All-filter _ P rows h.sound) (All-filter _ P rows h.sound);
    }

pub shape_at-without_key_same : (rows : Rows) (k : ℕ) → shape_at (without_key k rows) k ≡ None
shape_at-without_key_same rows k =
    shape_at-append_absent (below k rows) (above k rows) k (shape_at-dropped (λ key. nat_lt key k) rows k (lt_irrefl k))
    ∙ shape_at-dropped (λ key. nat_lt k key) rows k (lt_irrefl k)

pub shape_at-without_key_other : (rows : Rows) (k j : ℕ) → k ≢ j → shape_at (without_key k rows) j ≡ shape_at rows j
shape_at-without_key_other rows k j other =
    elim (cases_lt j k) [
      | inl lesser ↦ in_front lesser (shape_at rows j) refl
      | inr le ↦
          let greater : k < j = omega arith in
          shape_at-append_absent (below k rows) (above k rows) j (shape_at-dropped (λ key. nat_lt key k) rows j (le-ltb j k le))
          ∙ shape_at-kept (λ key. nat_lt k key) rows j (lt-ltb k j greater)
    ]
  where
    in_front : j < k → (o : Option Shape) → shape_at rows j ≡ o → shape_at (without_key k rows) j ≡ shape_at rows j
    in_front lesser None e =
        shape_at-append_absent (below k rows) (above k rows) j (shape_at-kept (λ key. nat_lt key k) rows j (lt-ltb j k lesser) ∙ e)
        ∙ (shape_at-dropped (λ key. nat_lt k key) rows j (le-ltb k j (omega arith)) ∙ sym e)
    in_front lesser (Some t) e =
        shape_at-append_present (below k rows) (above k rows) j t (shape_at-kept (λ key. nat_lt key k) rows j (lt-ltb j k lesser) ∙ e)
        ∙ sym e

-- ---- rows removed
RisesFrom-filter : (p : ℕ × Shape → Bool) (low : ℕ) (rows : Rows) → RisesFrom low (keys_of rows) → RisesFrom low (keys_of (filter p rows))
RisesFrom-filter p low [] h = tt
RisesFrom-filter p low (row ∷ rows) h =
    cond_both (p row) (row ∷ filter p rows) (filter p rows) (λ ys. RisesFrom low (keys_of ys))
    (λ _. (h.0, RisesFrom-filter p (row.0 + 1) rows h.1))
    (λ _. RisesFrom-lower low (row.0 + 1) (keys_of (filter p rows)) (omega (arith, h.0)) (RisesFrom-filter p (row.0 + 1) rows h.1))

pub AreRows-without_keys : (rows : Rows) (ks : List ℕ) → AreRows rows → AreRows (without_keys ks rows)
AreRows-without_keys rows ks h = record {
  rising = RisesFrom-filter _ 0 rows h.rising;
  sound = All-filter _ (λ row. IsSound row.1) rows h.sound;
}

pub shape_at-without_keys_kept : (rows : Rows) (ks : List ℕ) (k : ℕ) → list_any (λ j. j == k) ks ≡ false → shape_at (without_keys ks rows) k ≡ shape_at rows k
shape_at-without_keys_kept rows ks k e = shape_at-kept (λ key. not (list_any (λ j. j == key) ks)) rows k (ap not e)

pub shape_at-without_keys_gone : (rows : Rows) (ks : List ℕ) (k : ℕ) → list_any (λ j. j == k) ks ≡ true → shape_at (without_keys ks rows) k ≡ None
shape_at-without_keys_gone rows ks k e = shape_at-dropped (λ key. not (list_any (λ j. j == key) ks)) rows k (ap not e)
