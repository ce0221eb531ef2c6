-- One direction: a column's span is split by the columns of the next level in it.
use Rattle.std.proofs.Common.{ℕ, zero, suc, ◌≡◌, ◌+◌, ◌*◌, ◌/◌, ◌<◌, ◌≤◌, arith, refl, sym, ap, ◌∙◌, subst, Bool, true, false, cond, eqb, inl, inr}
use mathlib.Core.Bool.{◌&&◌, ◌||◌}
use lib.IntN.{ℤ, pos, ◌+ℤ◌, ◌*ℤ◌}
use lib.Signed.{◌<ℤ◌, ◌≤ℤ◌, lt_z, le_z}
use native.Mathlib.Nat.{mul-div-mul_right, mul-div_cancel, le-div_iff_mul-le, div-mul-le_self}
use Rattle.std.proofs.lemmas.Nat.{mul-le}
use Rattle.std.proofs.lemmas.Bool.{eq-eqb, ne_eqb, cases_eq, cases_order}
use Rattle.sg_algebra.proofs.Ring.{sums, nonneg_diff-mul}
use Rattle.sg_algebra.specs.Orders.{cmp, less, same, more}
use Rattle.sg_algebra.proofs.Comparisons.{le-from_true, true-from_le, lt-from_true, true-from_lt, left_true, right_true, both, either_true, or_left, or_right}
use Rattle.sg_cells.specs.Cells.{edge}
use Rattle.sg_shape.specs.Boxes.{within}

-- x / n lies from low on to below high, or to high itself where that is closed
abbrev pub spans : Bool → ℤ → ℤ → ℤ → ℕ → Bool
spans closed low high x n = within low high closed x n

-- ---- between rising marks
pub record Within (t : ℕ → ℤ) (j : ℕ) (x : ℤ) : Type 0 where
  pub low : t j ≤ℤ x
  pub high : x <ℤ t (suc j)

pub record Found (t : ℕ → ℤ) (a s : ℕ) (x : ℤ) : Type 0 where
  pub place : ℕ
  pub is_below : place < s
  pub lies : Within t (a + place) x

-- x lies between two neighbouring marks
pub find : (t : ℕ → ℤ) (a s : ℕ) (x : ℤ) → t a ≤ℤ x → x <ℤ t (a + s) → Found t a s x
find t a zero x l h = absurd (let e : t (a + 0) ≡ t a = ap t (omega arith) in let h' : x <ℤ t a = rw e at h in omega (arith, sums))
find t a (suc s) x l h =
    elim (cmp x (t (a + s))) [
      | less q ↦ let f = find t a s x l q in record { place = f.place; is_below = let b = f.is_below in omega arith; lies = f.lies }
      | same q ↦ record { place = s; is_below = omega arith; lies = record { low = omega (arith, sums); high = subst (λ n. x <ℤ t n) (omega arith) h } }
      | more q ↦ record { place = s; is_below = omega arith; lies = record { low = omega (arith, sums); high = subst (λ n. x <ℤ t n) (omega arith) h } }
    ]

-- the marks up to n rise
abbrev pub Rises : (ℕ → ℤ) → ℕ → Type 0
Rises t n = (j k : ℕ) → j ≤ k → k ≤ n → t j ≤ℤ t k

pub one_place : (t : ℕ → ℤ) (n j k : ℕ) (x : ℤ) → Rises t n → j < n → k < n → Within t j x → Within t k x → j ≡ k
one_place t n j k x r jn kn u v =
    elim (cases_order j k) [
      | inl e ↦ e
      | inr (inl l) ↦ absurd (let q = r (suc j) k l (omega arith) in let a = u.high in let b = v.low in omega (arith, sums))
      | inr (inr l) ↦ absurd (let q = r (suc k) j l (omega arith) in let a = v.high in let b = u.low in omega (arith, sums))
    ]

-- ---- the edges of a level as marks, where the last is moved up by one
abbrev pub tick : ℤ → ℕ → ℕ → ℕ → ℕ → ℤ
tick low size n d j = edge low size n j *ℤ pos d +ℤ pos (cond (eqb j n) 1 0)

pub edge_split : (low : ℤ) (size n s c : ℕ) → 0 < s → edge low size (n * s) (c * s) ≡ edge low size n c
edge_split low size n s c h =
    let e : c * s * size ≡ c * size * s = grind arith in
    let q : c * size * s / (n * s) ≡ c * size / n = mul-div-mul_right (c * size) n h in
    ap (λ k. low +ℤ pos k) (ap (λ k. k / (n * s)) e ∙ q)

div_rises : (a b n : ℕ) → 0 < n → a ≤ b → a / n ≤ b / n
div_rises a b n h l = let q = div-mul-le_self a n in (le-div_iff_mul-le h).1 (omega arith)

mul_rises : (a b s : ℕ) → a ≤ b → a * s ≤ b * s
mul_rises a b s l = mul-le a s b s l (omega arith)

pub edge_rises : (low : ℤ) (size n j k : ℕ) → 0 < n → j ≤ k → edge low size n j ≤ℤ edge low size n k
edge_rises low size n j k h l =
    let q = div_rises (j * size) (k * size) n h (mul_rises j k size l) in
    omega (arith, sums)

ind_le : (b : Bool) → cond b 1 0 ≤ 1
ind_le true = omega arith
ind_le false = omega arith

-- the mark of the last edge alone is moved
ind_rises : (j k n : ℕ) → j ≤ k → k ≤ n → cond (eqb j n) 1 0 ≤ cond (eqb k n) 1 0
ind_rises j k n l m =
    elim (cases_eq j n) [
      | inl e ↦ rw (eq-eqb j n e, eq-eqb k n (omega arith)) (omega arith)
      | inr e ↦ rw (ne_eqb j n e) (omega arith)
    ]

pub tick_rises : (low : ℤ) (size n d : ℕ) → 0 < n → Rises (tick low size n d) n
tick_rises low size n d h j k l m =
    let e = edge_rises low size n j k h l in
    let q = nonneg_diff-mul (edge low size n j) (edge low size n k) (pos d) (omega (arith, sums)) e in
    let i = ind_rises j k n l m in
    omega (arith, sums)

pub tick_split : (low : ℤ) (size n s d c : ℕ) → 0 < s → tick low size (n * s) d (c * s) ≡ tick low size n d c
tick_split low size n s d c h =
    let e = edge_split low size n s c h in
    let f : eqb (c * s) (n * s) ≡ eqb c n =
    elim (cases_eq c n) [
      | inl q ↦ eq-eqb (c * s) (n * s) (ap (λ k. k * s) q) ∙ sym (eq-eqb c n q)
      | inr q ↦ ne_eqb (c * s) (n * s) (λ z. q (cancel c n s h z)) ∙ sym (ne_eqb c n q)
    ] in
    rw (e, f) refl
  where
    cancel : (a b s : ℕ) → 0 < s → a * s ≡ b * s → a ≡ b
    cancel a b s h e = sym (mul-div_cancel a h) ∙ (ap (λ k. k / s) e ∙ mul-div_cancel b h)

-- ---- the columns of a level
abbrev pub in_column : ℤ → ℕ → ℕ → ℕ → ℤ → ℕ → Bool
in_column low size n c x d = spans (eqb (suc c) n) (edge low size n c) (edge low size n (suc c)) x d

within_of : (low : ℤ) (size n c d : ℕ) (x : ℤ) (b : Bool) → c < n → eqb (suc c) n ≡ b → spans b (edge low size n c) (edge low size n (suc c)) x d ≡ true → Within (tick low size n d) c x
within_of low size n c d x b h q e =
    let lo = edge low size n c *ℤ pos d in
    let hi = edge low size n (suc c) *ℤ pos d in
    let l : lo ≤ℤ x = le-from_true lo x (left_true _ _ e) in
    let r = right_true _ _ e in
    let i : eqb c n ≡ false = ne_eqb c n (omega arith) in
    record { low = rw i (omega (arith, sums)); high = rw q (top b lo hi r) }
  where
    top : (b : Bool) (lo hi : ℤ) → (lt_z x hi || (b && le_z x hi)) ≡ true → x <ℤ (hi +ℤ pos (cond b 1 0))
    top b lo hi r =
        elim (either_true (lt_z x hi) (b && le_z x hi) r) [
          | inl k ↦ let a = lt-from_true x hi k in let i = ind_le b in omega (arith, sums)
          | inr k ↦ closed b hi (left_true b (le_z x hi) k) (le-from_true x hi (right_true b (le_z x hi) k))
        ]
      where
        closed : (b : Bool) (hi : ℤ) → b ≡ true → x ≤ℤ hi → x <ℤ (hi +ℤ pos (cond b 1 0))
        closed b hi e l = rw e (omega (arith, sums))

of_within : (low : ℤ) (size n c d : ℕ) (x : ℤ) (b : Bool) → c < n → eqb (suc c) n ≡ b → Within (tick low size n d) c x → spans b (edge low size n c) (edge low size n (suc c)) x d ≡ true
of_within low size n c d x b h q w =
    let lo = edge low size n c *ℤ pos d in
    let hi = edge low size n (suc c) *ℤ pos d in
    let i : eqb c n ≡ false = ne_eqb c n (omega arith) in
    let l : (lo +ℤ pos 0) ≤ℤ x = rw i at w.low in
    let u : x <ℤ (hi +ℤ pos (cond b 1 0)) = rw q at w.high in
    both (le_z lo x) (lt_z x hi || (b && le_z x hi)) (true-from_le lo x (omega (arith, sums))) (top b hi u)
  where
    top : (b : Bool) (hi : ℤ) → x <ℤ (hi +ℤ pos (cond b 1 0)) → (lt_z x hi || (b && le_z x hi)) ≡ true
    top true hi u = or_right (lt_z x hi) (le_z x hi) (true-from_le x hi (omega (arith, sums)))
    top false hi u = or_left (lt_z x hi) false (true-from_lt x hi (omega (arith, sums)))

pub column_within : (low : ℤ) (size n c d : ℕ) (x : ℤ) → c < n → in_column low size n c x d ≡ true → Within (tick low size n d) c x
column_within low size n c d x h e = within_of low size n c d x (eqb (suc c) n) h refl e

pub within_column : (low : ℤ) (size n c d : ℕ) (x : ℤ) → c < n → Within (tick low size n d) c x → in_column low size n c x d ≡ true
within_column low size n c d x h w = of_within low size n c d x (eqb (suc c) n) h refl w

-- a point lies in at most one column of a level
pub one_column : (low : ℤ) (size n c e d : ℕ) (x : ℤ) → c < n → e < n → in_column low size n c x d ≡ true → in_column low size n e x d ≡ true → c ≡ e
one_column low size n c e d x hc he p q =
    one_place (tick low size n d) n c e x (tick_rises low size n d (omega arith)) hc he (column_within low size n c d x hc p) (column_within low size n e d x he q)

pub record Inner (low : ℤ) (size n s c d : ℕ) (x : ℤ) : Type 0 where
  pub place : ℕ
  pub is_below : place < s
  pub has : in_column low size (n * s) (c * s + place) x d ≡ true

place_below : (n s c j : ℕ) → c < n → j < s → c * s + j < n * s
place_below n s c j h l = let q = mul_rises (suc c) n s h in omega arith

-- a column's point lies in one of the columns in it
pub inner_column : (low : ℤ) (size n s c d : ℕ) (x : ℤ) → 0 < s → c < n → in_column low size n c x d ≡ true → Inner low size n s c d x
inner_column low size n s c d x hs hc e =
    let w = column_within low size n c d x hc e in
    let t : ℕ → ℤ = tick low size (n * s) d in
    let a : t (c * s) ≤ℤ x = subst (λ z. z ≤ℤ x) (sym (tick_split low size n s d c hs)) w.low in
    let b : x <ℤ t (c * s + s) = subst (λ z. x <ℤ z) (sym (ap t (omega arith) ∙ tick_split low size n s d (suc c) hs)) w.high in
    let f = find t (c * s) s x a b in
    record { place = f.place; is_below = f.is_below; has = within_column low size (n * s) (c * s + f.place) d x (place_below n s c f.place hc f.is_below) f.lies }

-- and the columns in it have no others
pub outer_column : (low : ℤ) (size n s c d j : ℕ) (x : ℤ) → c < n → j < s → in_column low size (n * s) (c * s + j) x d ≡ true → in_column low size n c x d ≡ true
outer_column low size n s c d j x hc hj e =
    let w = column_within low size (n * s) (c * s + j) d x (place_below n s c j hc hj) e in
    let t : ℕ → ℤ = tick low size (n * s) d in
    let k = mul_rises (suc c) n s hc in
    let r = tick_rises low size (n * s) d (omega arith) in
    let a : t (c * s) ≤ℤ t (c * s + j) = r (c * s) (c * s + j) (omega arith) (omega arith) in
    let b : t (suc (c * s + j)) ≤ℤ t (suc c * s) = r (suc (c * s + j)) (suc c * s) (omega arith) (omega arith) in
    let p : tick low size n d c ≤ℤ x = subst (λ z. z ≤ℤ x) (tick_split low size n s d c (omega arith)) (let l = w.low in omega (arith, sums)) in
    let q : x <ℤ tick low size n d (suc c) = subst (λ z. x <ℤ z) (tick_split low size n s d (suc c) (omega arith)) (let l = w.high in omega (arith, sums)) in
    within_column low size n c d x hc (record { low = p; high = q })
