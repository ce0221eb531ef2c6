-- Places and spots of the curve undo each other, on every side.
use Rattle.std.proofs.Common.{ℕ, zero, suc, ◌≡◌, ◌+◌, ◌-◌, ◌*◌, ◌/◌, ◌%◌, ◌<◌, ◌≤◌, arith, refl, sym, ap, subst, ◌∙◌, inl, inr}
use Rattle.std.proofs.lemmas.Bool.{lt-ltb, le-ltb, cases_lt}
use Rattle.std.proofs.lemmas.Nat.{div-mul-add, mod-mul-add, div-add-mod', mod_below, div_below, mul-le}
use Rattle.sg_hilbert.specs.Curve.{four_to, two_to, in_quarter, spot_at, place_at}

pub two_pos : (k : ℕ) → 0 < two_to k
two_pos zero = omega arith
two_pos (suc k) = let h = two_pos k in omega arith

pub four_pos : (k : ℕ) → 0 < four_to k
four_pos zero = omega arith
four_pos (suc k) = let h = four_pos k in omega arith

-- a spot of a side
abbrev pub IsSpot : ℕ → ℕ × ℕ → Type 0
IsSpot n s = (s.0 < n) × (s.1 < n)

quarter_fits : (q n : ℕ) (s : ℕ × ℕ) → IsSpot n s → IsSpot (2 * n) (in_quarter q n s)
quarter_fits zero n s h = (omega arith, omega arith)
quarter_fits (suc zero) n s h = (omega arith, omega arith)
quarter_fits (suc (suc zero)) n s h = (omega arith, omega arith)
quarter_fits (suc (suc (suc q))) n s h = (omega arith, omega arith)

pub spot_fits : (k d : ℕ) → IsSpot (two_to k) (spot_at k d)
spot_fits zero d = (omega arith, omega arith)
spot_fits (suc k) d = quarter_fits (d / four_to k) (two_to k) (spot_at k (d % four_to k)) (spot_fits k (d % four_to k))

-- the place of a spot in the quarter q
pub place_in : (k q : ℕ) (s : ℕ × ℕ) → q < 4 → IsSpot (two_to k) s → place_at (suc k) (in_quarter q (two_to k) s).0 (in_quarter q (two_to k) s).1 ≡ q * four_to k + place_at k s.0 s.1
place_in k zero s l h = rw (lt-ltb s.1 (two_to k) h.1, lt-ltb s.0 (two_to k) h.0) (omega arith)
place_in k (suc zero) s l h =
    let e : s.1 + two_to k - two_to k ≡ s.1 = omega arith in
    rw (lt-ltb s.0 (two_to k) h.0, le-ltb (s.1 + two_to k) (two_to k) (omega arith), e) (omega arith)
place_in k (suc (suc zero)) s l h =
    let e : s.0 + two_to k - two_to k ≡ s.0 = omega arith in
    let f : s.1 + two_to k - two_to k ≡ s.1 = omega arith in
    rw (le-ltb (s.0 + two_to k) (two_to k) (omega arith), le-ltb (s.1 + two_to k) (two_to k) (omega arith), e, f) (omega arith)
place_in k (suc (suc (suc q))) s l h =
    let n = two_to k in
    let e : n - 1 - (n - 1 - s.0) ≡ s.0 = omega arith in
    let f : 2 * n - 1 - (2 * n - 1 - s.1) ≡ s.1 = omega arith in
    let z : q ≡ 0 = omega arith in
    rw (z, le-ltb (2 * n - 1 - s.1) n (omega arith), lt-ltb (n - 1 - s.0) n (omega arith), e, f) (omega arith)

pub place_spot : (k d : ℕ) → d < four_to k → place_at k (spot_at k d).0 (spot_at k d).1 ≡ d
place_spot zero d h = omega arith
place_spot (suc k) d h =
    let f = four_pos k in
    let r = mod_below d (four_to k) f in
    let q = div_below d (four_to k) 4 f h in
    let e = place_in k (d / four_to k) (spot_at k (d % four_to k)) q (spot_fits k (d % four_to k)) in
    let ih = place_spot k (d % four_to k) r in
    e ∙ (ap (λ v. d / four_to k * four_to k + v) ih ∙ div-add-mod' d (four_to k))

pub spot_injective : (k d e : ℕ) → d < four_to k → e < four_to k → (spot_at k d).0 ≡ (spot_at k e).0 → (spot_at k d).1 ≡ (spot_at k e).1 → d ≡ e
spot_injective k d e hd he p q = sym (place_spot k d hd) ∙ (ap (λ x. place_at k x (spot_at k d).1) p ∙ (ap (λ y. place_at k (spot_at k e).0 y) q ∙ place_spot k e he))

-- the spot x, y has a place
pub record Placed (k x y : ℕ) : Type 0 where
  pub is_below : place_at k x y < four_to k
  pub column : (spot_at k (place_at k x y)).0 ≡ x
  pub row : (spot_at k (place_at k x y)).1 ≡ y

pub spot_in : (k q v : ℕ) → v < four_to k → spot_at (suc k) (q * four_to k + v) ≡ in_quarter q (two_to k) (spot_at k v)
spot_in k q v h = rw (div-mul-add q (four_to k) v h, mod-mul-add q (four_to k) v h) refl

record Lies (k d x y : ℕ) : Type 0 where
  pub is_below : d < four_to (suc k)
  pub column : (spot_at (suc k) d).0 ≡ x
  pub row : (spot_at (suc k) d).1 ≡ y

lies_of : (k d x y q v : ℕ) → d ≡ q * four_to k + v → q < 4 → v < four_to k → (in_quarter q (two_to k) (spot_at k v)).0 ≡ x → (in_quarter q (two_to k) (spot_at k v)).1 ≡ y → Lies k d x y
lies_of k d x y q v e l h c r =
    let s : spot_at (suc k) d ≡ in_quarter q (two_to k) (spot_at k v) = rw e (spot_in k q v h) in
    let m : suc q * four_to k ≤ 4 * four_to k = mul-le (suc q) (four_to k) 4 (four_to k) l (omega arith) in
    record { is_below = omega arith; column = ap (λ t. t.0) s ∙ c; row = ap (λ t. t.1) s ∙ r }

pub spot_place : (k x y : ℕ) → x < two_to k → y < two_to k → Placed k x y
spot_place zero x y hx hy = record { is_below = omega arith; column = omega arith; row = omega arith }
spot_place (suc k) x y hx hy =
    elim (cases_lt x n) [
      | inl a ↦ elim (cases_lt y n) [
        | inl b ↦
            let w = spot_place k y x b a in
            let e : place_at (suc k) x y ≡ place_at k y x = rw (lt-ltb x n a, lt-ltb y n b) refl in
            placed (lies_of k (place_at (suc k) x y) x y 0 (place_at k y x) (omega arith) (omega arith) w.is_below w.row w.column)
        | inr b ↦
            let w = spot_place k x (y - n) a (omega arith) in
            let e : place_at (suc k) x y ≡ four_to k + place_at k x (y - n) = rw (lt-ltb x n a, le-ltb y n b) refl in
            let wc = w.column in
            let wr = w.row in
            placed (lies_of k (place_at (suc k) x y) x y 1 (place_at k x (y - n)) (omega arith) (omega arith) w.is_below (omega arith) (omega arith))
      ]
      | inr a ↦ elim (cases_lt y n) [
        | inl b ↦
            let w = spot_place k (n - 1 - y) (2 * n - 1 - x) (omega arith) (omega arith) in
            let e : place_at (suc k) x y ≡ 3 * four_to k + place_at k (n - 1 - y) (2 * n - 1 - x) = rw (le-ltb x n a, lt-ltb y n b) refl in
            let wc = w.column in
            let wr = w.row in
            placed (lies_of k (place_at (suc k) x y) x y 3 (place_at k (n - 1 - y) (2 * n - 1 - x)) (omega arith) (omega arith) w.is_below (omega arith) (omega arith))
        | inr b ↦
            let w = spot_place k (x - n) (y - n) (omega arith) (omega arith) in
            let e : place_at (suc k) x y ≡ 2 * four_to k + place_at k (x - n) (y - n) = rw (le-ltb x n a, le-ltb y n b) refl in
            let wc = w.column in
            let wr = w.row in
            placed (lies_of k (place_at (suc k) x y) x y 2 (place_at k (x - n) (y - n)) (omega arith) (omega arith) w.is_below (omega arith) (omega arith))
      ]
    ]
  where
    n : ℕ
    n = two_to k

    placed : Lies k (place_at (suc k) x y) x y → Placed (suc k) x y
    placed l = record { is_below = l.is_below; column = l.column; row = l.row }

-- a spot is known by its column and its row
pub same_spot : (s : ℕ × ℕ) (x y : ℕ) → s.0 ≡ x → s.1 ≡ y → s ≡ (x, y)
same_spot s x y p q = grind arith

-- the place of a spot, from the quarter q that it lies in and its spot s there
of_quarter : (j k x y q : ℕ) (s : ℕ × ℕ) → k ≡ suc j → q < 4 → IsSpot (two_to j) s → (in_quarter q (two_to j) s).0 ≡ x → (in_quarter q (two_to j) s).1 ≡ y → q * four_to j + place_at j s.0 s.1 ≡ place_at k x y
of_quarter j k x y q s e l h c r =
    sym (place_in j q s l h)
    ∙ (ap (λ x. place_at (suc j) x (in_quarter q (two_to j) s).1) c
    ∙ (ap (λ y. place_at (suc j) x y) r ∙ ap (λ k. place_at k x y) (sym e)))

-- the same over the numbers that the code has: n the half side, p its places, v the place there
pub place_of_quarter : (j k x y q n p v : ℕ) (s : ℕ × ℕ) → n ≡ two_to j → p ≡ four_to j → v ≡ place_at j s.0 s.1 → k ≡ suc j → q < 4 → IsSpot n s → (in_quarter q n s).0 ≡ x → (in_quarter q n s).1 ≡ y → q * p + v ≡ place_at k x y
place_of_quarter j k x y q n p v s en ep ev e l h c r =
    ap (λ p. q * p + v) ep
    ∙ (ap (λ v. q * four_to j + v) ev
    ∙ subst (λ n. IsSpot n s → (in_quarter q n s).0 ≡ x → (in_quarter q n s).1 ≡ y → q * four_to j + place_at j s.0 s.1 ≡ place_at k x y) (sym en) (of_quarter j k x y q s e l) h c r)
