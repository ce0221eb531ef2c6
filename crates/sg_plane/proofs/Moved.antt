-- Each point moves along its height to one of finitely many lines, past no form's zero.
use Rattle.std.proofs.Common.{◌≡◌, arith, refl, sym, subst, List, [], ◌∷◌, map}
use Rattle.std.specs.List.{flat_map}
use mathlib.Core.Logic.{◌⊎◌, inl, inr}
use lib.IntN.{ℤ, pos, ◌+ℤ◌, ◌-ℤ◌, ◌*ℤ◌, neg_ℤ, zero-*ℤ, *ℤ-zero}
use lib.Signed.{◌<ℤ◌, ◌≤ℤ◌}
use Rattle.sg_algebra.proofs.Ring.{sums, products, neg-mul, mul-pos}
use Rattle.sg_algebra.specs.Orders.{Cmp, less, same, more, cmp}
use Rattle.sg_algebra.proofs.Comparisons.{true-from_lt, false-from_le}
use Rattle.sg_plane.specs.Samples.{Form, Line, value, upward, axis, left_of, right_of, middle, lines_by, lines}
use Rattle.sg_plane.proofs.Lists.{Has, Each, each_more, each_both, each_from-flat, each_to-flat, has-left, has-right, has-map, has-flat}
use Rattle.sg_plane.proofs.Alike.{Alike, over, under, alike-neg, alike-scaled, mean_sign, chain}

abbrev pub Up : Form → Type 0
Up f = pos 0 <ℤ f.a

-- ---- the lowest of the forms that aren't below 0, each over its first number
pub record Least (v : Form → ℤ) (rs : List Form) : Type 0 where
  pub form : Form
  pub has : Has rs form
  pub up : Up form
  pub reached : pos 0 ≤ℤ v form
  pub least : Each (λ k. pos 0 ≤ℤ v k → (v form *ℤ k.a) ≤ℤ (v k *ℤ form.a)) rs

module _ (v : Form → ℤ) where
  abbrev Below : List Form → Type 0
  Below rs = Each (λ k. v k <ℤ pos 0) rs

  none_yet : (r : Form) (rs : List Form) → Up r → Below rs → Cmp (v r) (pos 0) → Below (r ∷ rs) ⊎ Least v (r ∷ rs)
  none_yet r rs u b (less h) = inl (h, b)
  none_yet r rs u b (same e) = inr (record { form = r; has = inl refl; up = u; reached = omega (arith, sums, e); least = (λ h. omega (arith, sums), each_more (λ k l h. absurd (omega (arith, sums, l, h))) rs b) })
  none_yet r rs u b (more h) = inr (record { form = r; has = inl refl; up = u; reached = omega (arith, sums, h); least = (λ h. omega (arith, sums), each_more (λ k l h. absurd (omega (arith, sums, l, h))) rs b) })

  kept : (r : Form) (rs : List Form) (l : Least v rs) → (pos 0 ≤ℤ v r → (v l.form *ℤ r.a) ≤ℤ (v r *ℤ l.form.a)) → Least v (r ∷ rs)
  kept r rs l h = record { form = l.form; has = inr l.has; up = l.up; reached = l.reached; least = (h, l.least) }

  passed : (r : Form) (rs : List Form) → Up r → Each Up rs → (l : Least v rs) → pos 0 ≤ℤ v r → (v r *ℤ l.form.a) ≤ℤ (v l.form *ℤ r.a) → Least v (r ∷ rs)
  passed r rs u us l h o = record {
    form = r;
    has = inl refl;
    up = u;
    reached = h;
    least = (λ g. omega (arith, sums), each_both (λ k up f g. chain (v r) (v l.form) (v k) r.a l.form.a k.a u l.up up o (f g)) rs us l.least);
  }

  lower : (r : Form) (rs : List Form) → Up r → Each Up rs → (l : Least v rs) → Cmp (v r) (pos 0) → Cmp (v l.form *ℤ r.a) (v r *ℤ l.form.a) → Least v (r ∷ rs)
  lower r rs u us l (less h) c = kept r rs l (λ g. absurd (omega (arith, sums, h, g)))
  lower r rs u us l (same e) (less o) = kept r rs l (λ g. omega (arith, sums, o))
  lower r rs u us l (same e) (same o) = kept r rs l (λ g. omega (arith, sums, o))
  lower r rs u us l (same e) (more o) = passed r rs u us l (omega (arith, sums, e)) (omega (arith, sums, o))
  lower r rs u us l (more h) (less o) = kept r rs l (λ g. omega (arith, sums, o))
  lower r rs u us l (more h) (same o) = kept r rs l (λ g. omega (arith, sums, o))
  lower r rs u us l (more h) (more o) = passed r rs u us l (omega (arith, sums, h)) (omega (arith, sums, o))

  pub least_of : (rs : List Form) → Each Up rs → Below rs ⊎ Least v rs
  least_of [] us = inl tt
  least_of (r ∷ rs) us = by_rest (least_of rs us.1)
    where
      by_rest : Below rs ⊎ Least v rs → Below (r ∷ rs) ⊎ Least v (r ∷ rs)
      by_rest (inl b) = none_yet r rs us.0 b (cmp (v r) (pos 0))
      by_rest (inr l) = inr (lower r rs us.0 us.1 l (cmp (v r) (pos 0)) (cmp (v l.form *ℤ r.a) (v r *ℤ l.form.a)))

-- ---- values on a line
abbrev pub on_line : Form → Line → ℤ → ℤ → ℤ
on_line f l y n = value f (l.u *ℤ y +ℤ l.v *ℤ n) (l.w *ℤ y) (l.w *ℤ n)

value-left : (a b c d e f x y n : ℤ) →
    a *ℤ (neg_ℤ e *ℤ y +ℤ (neg_ℤ f -ℤ d) *ℤ n) +ℤ (b *ℤ (d *ℤ y) +ℤ c *ℤ (d *ℤ n))
    ≡ ((a *ℤ x +ℤ (b *ℤ y +ℤ c *ℤ n)) *ℤ d -ℤ (d *ℤ x +ℤ (e *ℤ y +ℤ f *ℤ n)) *ℤ a) -ℤ (a *ℤ d) *ℤ n
value-left a b c d e f x y n = simp products (omega (arith, sums))

value-right : (a b c d e f x y n : ℤ) →
    a *ℤ (neg_ℤ e *ℤ y +ℤ (d -ℤ f) *ℤ n) +ℤ (b *ℤ (d *ℤ y) +ℤ c *ℤ (d *ℤ n))
    ≡ ((a *ℤ x +ℤ (b *ℤ y +ℤ c *ℤ n)) *ℤ d -ℤ (d *ℤ x +ℤ (e *ℤ y +ℤ f *ℤ n)) *ℤ a) +ℤ (a *ℤ d) *ℤ n
value-right a b c d e f x y n = simp products (omega (arith, sums))

value-middle : (a b c d e f g h i x y n : ℤ) →
    a *ℤ (neg_ℤ (e *ℤ g +ℤ h *ℤ d) *ℤ y +ℤ neg_ℤ (f *ℤ g +ℤ i *ℤ d) *ℤ n) +ℤ (b *ℤ ((d *ℤ g +ℤ g *ℤ d) *ℤ y) +ℤ c *ℤ ((d *ℤ g +ℤ g *ℤ d) *ℤ n))
    ≡ ((a *ℤ x +ℤ (b *ℤ y +ℤ c *ℤ n)) *ℤ d -ℤ (d *ℤ x +ℤ (e *ℤ y +ℤ f *ℤ n)) *ℤ a) *ℤ g
    +ℤ ((a *ℤ x +ℤ (b *ℤ y +ℤ c *ℤ n)) *ℤ g -ℤ (g *ℤ x +ℤ (h *ℤ y +ℤ i *ℤ n)) *ℤ a) *ℤ d
value-middle a b c d e f g h i x y n = simp products (omega (arith, sums))

flip : (v q a c : ℤ) → (pos 0 ≤ℤ neg_ℤ v → (neg_ℤ q *ℤ a) ≤ℤ (neg_ℤ v *ℤ c)) → v ≤ℤ pos 0 → (v *ℤ c) ≤ℤ (q *ℤ a)
flip v q a c f h =
    let k : (neg_ℤ q *ℤ a) ≤ℤ (neg_ℤ v *ℤ c) = f (omega (arith, sums, h)) in
    let e : neg_ℤ q *ℤ a ≡ neg_ℤ (q *ℤ a) = neg-mul q a in
    let g : neg_ℤ v *ℤ c ≡ neg_ℤ (v *ℤ c) = neg-mul v c in
    omega (arith, sums, k, e, g)

left_sign : (v q a c n : ℤ) → pos 0 <ℤ a → pos 0 <ℤ c → pos 0 <ℤ n → v <ℤ pos 0 → (v *ℤ c) ≤ℤ (q *ℤ a) → Alike v ((v *ℤ c -ℤ q *ℤ a) -ℤ (a *ℤ c) *ℤ n)
left_sign v q a c n pa pc pn h k =
    let m : pos 0 <ℤ ((a *ℤ c) *ℤ n) = mul-pos (a *ℤ c) n (mul-pos a c pa pc) pn in
    under h (omega (arith, sums, k, m))

right_sign : (v p a c n : ℤ) → pos 0 <ℤ a → pos 0 <ℤ c → pos 0 <ℤ n → pos 0 <ℤ v → (p *ℤ a) ≤ℤ (v *ℤ c) → Alike v ((v *ℤ c -ℤ p *ℤ a) +ℤ (a *ℤ c) *ℤ n)
right_sign v p a c n pa pc pn h k =
    let m : pos 0 <ℤ ((a *ℤ c) *ℤ n) = mul-pos (a *ℤ c) n (mul-pos a c pa pc) pn in
    over h (omega (arith, sums, k, m))

value-neg : (a b c x y n : ℤ) → neg_ℤ a *ℤ x +ℤ (neg_ℤ b *ℤ y +ℤ neg_ℤ c *ℤ n) ≡ neg_ℤ (a *ℤ x +ℤ (b *ℤ y +ℤ c *ℤ n))
value-neg a b c x y n = simp products (omega (arith, sums))

value-flat : (b c x y n w z : ℤ) → pos 0 *ℤ z +ℤ (b *ℤ (w *ℤ y) +ℤ c *ℤ (w *ℤ n)) ≡ (pos 0 *ℤ x +ℤ (b *ℤ y +ℤ c *ℤ n)) *ℤ w
value-flat b c x y n w z = rw (zero-*ℤ z, zero-*ℤ x) (simp products (let o : w *ℤ pos 0 ≡ pos 0 = *ℤ-zero w in omega (arith, sums, o)))

abbrev turned : Form → Form
turned f = record { a = neg_ℤ f.a; b = neg_ℤ f.b; c = neg_ℤ f.c }

-- what a form with its first number above 0 stands for
data Upward (f : Form) : Type 0 where
  itself : Up f → upward f ≡ f ∷ [] → Upward f
  turn : Up (turned f) → upward f ≡ turned f ∷ [] → Upward f
  level : f.a ≡ pos 0 → upward f ≡ [] → Upward f

upward_is : (f : Form) → Upward f
upward_is f = by_cmp (cmp f.a (pos 0))
  where
    by_cmp : Cmp f.a (pos 0) → Upward f
    by_cmp (less h) = turn (omega (arith, sums, h)) (rw (false-from_le (pos 0) f.a (omega (arith, sums, h)), true-from_lt f.a (pos 0) h) refl)
    by_cmp (same h) = level h (rw (false-from_le (pos 0) f.a (omega (arith, sums, h)), false-from_le f.a (pos 0) (omega (arith, sums, h))) refl)
    by_cmp (more h) = itself h (rw (true-from_lt (pos 0) f.a h) refl)

upward_up : (f : Form) → Each Up (upward f)
upward_up f = by_case (upward_is f)
  where
    by_case : Upward f → Each Up (upward f)
    by_case (itself u e) = subst (Each Up) (sym e) (u, tt)
    by_case (turn u e) = subst (Each Up) (sym e) (u, tt)
    by_case (level u e) = subst (Each Up) (sym e) tt

-- ---- a line for a point and forms that all have their first number above 0
module _ (x y n : ℤ) (pn : pos 0 <ℤ n) where
  abbrev here : Form → ℤ
  here f = value f x y n

  abbrev back : Form → ℤ
  back f = neg_ℤ (value f x y n)

  abbrev SameOn : Line → Form → Type 0
  SameOn l f = Alike (value f x y n) (on_line f l y n)

  pub record Chosen (rs : List Form) : Type 0 where
    pub line : Line
    pub has : Has (lines_by rs) line
    pub over_w : pos 0 <ℤ line.w
    pub alike : Each (SameOn line) rs

  at_left : (j k : Form) → Up j → Up k → here k <ℤ pos 0 → (pos 0 ≤ℤ back k → (back j *ℤ k.a) ≤ℤ (back k *ℤ j.a)) → SameOn (left_of j) k
  at_left j k uj uk h f =
      subst (Alike (here k)) (sym (value-left k.a k.b k.c j.a j.b j.c x y n))
      (left_sign (here k) (here j) k.a j.a n uk uj pn h (flip (here k) (here j) k.a j.a f (omega (arith, sums, h))))

  at_right : (i k : Form) → Up i → Up k → back k <ℤ pos 0 → (pos 0 ≤ℤ here k → (here i *ℤ k.a) ≤ℤ (here k *ℤ i.a)) → SameOn (right_of i) k
  at_right i k ui uk h f =
      let l : pos 0 <ℤ here k = omega (arith, sums, h) in
      subst (Alike (here k)) (sym (value-right k.a k.b k.c i.a i.b i.c x y n))
      (right_sign (here k) (here i) k.a i.a n uk ui pn l (f (omega (arith, sums, l))))

  at_middle : (i j k : Form) → Up i → Up j → Up k → pos 0 ≤ℤ here i → pos 0 ≤ℤ back j →
      (pos 0 ≤ℤ here k → (here i *ℤ k.a) ≤ℤ (here k *ℤ i.a)) → (pos 0 ≤ℤ back k → (back j *ℤ k.a) ≤ℤ (back k *ℤ j.a)) → SameOn (middle i j) k
  at_middle i j k ui uj uk hi hj f g =
      subst (Alike (here k)) (sym (value-middle k.a k.b k.c i.a i.b i.c j.a j.b j.c x y n))
      (mean_sign (here k) (here i) (here j) k.a i.a j.a uk ui uj hi (omega (arith, sums, hj)) f (flip (here k) (here j) k.a j.a g))

  abbrev Min : (Form → ℤ) → Form → Form → Type 0
  Min v i k = (pos 0 ≤ℤ v k → (v i *ℤ k.a) ≤ℤ (v k *ℤ i.a)) × Up k

  min_up : (v : Form → ℤ) (rs : List Form) → Each Up rs → (l : Least v rs) → Each (Min v l.form) rs
  min_up v rs us l = each_both (λ k f u. (f, u)) rs l.least us

  chosen_by : (rs : List Form) → Each Up rs → Each (λ k. here k <ℤ pos 0) rs ⊎ Least here rs → Each (λ k. back k <ℤ pos 0) rs ⊎ Least back rs → Chosen rs
  chosen_by rs us (inl b) (inl c) = record {
    line = axis;
    has = inl refl;
    over_w = omega (arith, sums);
    alike = each_both (λ k h l. absurd (omega (arith, sums, h, l))) rs b c;
  }
  chosen_by rs us (inl b) (inr j) = record {
    line = left_of j.form;
    has = inr (has-left (map left_of rs) _ (left_of j.form) (has-map left_of rs j.form j.has));
    over_w = j.up;
    alike = each_both {Q = Min back j.form} (λ k h f. at_left j.form k j.up f.1 h f.0) rs b (min_up back rs us j);
  }
  chosen_by rs us (inr i) (inl c) = record {
    line = right_of i.form;
    has = inr (has-right (map left_of rs) _ (right_of i.form) (has-left (map right_of rs) _ (right_of i.form) (has-map right_of rs i.form i.has)));
    over_w = i.up;
    alike = each_both {Q = Min here i.form} (λ k h f. at_right i.form k i.up f.1 h f.0) rs c (min_up here rs us i);
  }
  chosen_by rs us (inr i) (inr j) = record {
    line = middle i.form j.form;
    has = inr (has-right (map left_of rs) _ (middle i.form j.form) (has-right (map right_of rs) _ (middle i.form j.form)
        (has-flat (λ f. map (middle f) rs) rs i.form (middle i.form j.form) i.has (has-map (middle i.form) rs j.form j.has))));
    over_w = (let h : pos 0 <ℤ (i.form.a *ℤ j.form.a) = mul-pos i.form.a j.form.a i.up j.up in
        let k : pos 0 <ℤ (j.form.a *ℤ i.form.a) = mul-pos j.form.a i.form.a j.up i.up in omega (arith, sums, h, k));
    alike = each_both {Q = Min back j.form} (λ k f g. at_middle i.form j.form k i.up j.up g.1 i.reached j.reached f g.0) rs i.least (min_up back rs us j);
  }

  chosen : (rs : List Form) → Each Up rs → Chosen rs
  chosen rs us = chosen_by rs us (least_of here rs us) (least_of back rs us)

  -- ---- and for all forms
  pub record Moved (fs : List Form) : Type 0 where
    pub line : Line
    pub has : Has (lines fs) line
    pub over_w : pos 0 <ℤ line.w
    pub alike : Each (SameOn line) fs

  same_by : (l : Line) (f : Form) → pos 0 <ℤ l.w → Upward f → Each (SameOn l) (upward f) → SameOn l f
  same_by l f pw (itself u e) h = let k : Each (SameOn l) (f ∷ []) = subst (Each (SameOn l)) e h in k.0
  same_by l f pw (turn u e) h =
      let k : Each (SameOn l) (turned f ∷ []) = subst (Each (SameOn l)) e h in
      alike-neg (here f) (on_line f l y n) (here (turned f)) (on_line (turned f) l y n) (value-neg f.a f.b f.c x y n) (value-neg f.a f.b f.c (l.u *ℤ y +ℤ l.v *ℤ n) (l.w *ℤ y) (l.w *ℤ n)) k.0
  same_by l f pw (level u e) h =
      subst (λ (z : ℤ). Alike (z *ℤ x +ℤ (f.b *ℤ y +ℤ f.c *ℤ n)) (z *ℤ (l.u *ℤ y +ℤ l.v *ℤ n) +ℤ (f.b *ℤ (l.w *ℤ y) +ℤ f.c *ℤ (l.w *ℤ n)))) (sym u)
      (subst (Alike (pos 0 *ℤ x +ℤ (f.b *ℤ y +ℤ f.c *ℤ n))) (sym (value-flat f.b f.c x y n l.w (l.u *ℤ y +ℤ l.v *ℤ n)))
      (alike-scaled (pos 0 *ℤ x +ℤ (f.b *ℤ y +ℤ f.c *ℤ n)) l.w pw))

  pub moved : (fs : List Form) → Moved fs
  moved fs =
      let c : Chosen (flat_map upward fs) = chosen (flat_map upward fs) (each_to-flat Up upward upward_up fs) in
      record {
        line = c.line;
        has = c.has;
        over_w = c.over_w;
        alike = each_more (λ f h. same_by c.line f c.over_w (upward_is f) h) fs (each_from-flat (SameOn c.line) upward fs c.alike);
      }
