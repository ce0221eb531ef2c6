-- Each point has a sample at which every form has the same sign; so a test that the signs decide passes somewhere exactly where it passes at a sample.
use Rattle.std.proofs.Common.{zero, suc, ◌≡◌, arith, refl, sym, ◌∙◌, subst, Bool, true, List, map}
use Rattle.std.specs.Prelude.{◌↔◌}
use lib.IntN.{ℤ, pos, negsuc, ◌+ℤ◌, ◌*ℤ◌, zero-*ℤ, *ℤ-zero, +ℤ_idl}
use lib.Signed.{◌<ℤ◌}
use Rattle.sg_algebra.proofs.Ring.{sums, products, mul-pos}
use Rattle.sg_shape.specs.Plane.{Point}
use Rattle.sg_plane.specs.Samples.{Form, Line, value, at, lines, along, point_at, point_on, samples, some_point}
use Rattle.sg_plane.proofs.Lists.{Has, Each, each_both, each_from-map, has-map, has-flat, any-has, has-any}
use Rattle.sg_plane.proofs.Alike.{Alike, alike-trans, alike-sym, alike-scaled}
use Rattle.sg_plane.proofs.Moved.{Moved, moved, on_line}

-- the form along a line is its value on the line
along-value : (a b c u v w y n : ℤ) → (a *ℤ u +ℤ b *ℤ w) *ℤ y +ℤ (pos 0 *ℤ pos 0 +ℤ (a *ℤ v +ℤ c *ℤ w) *ℤ n) ≡ a *ℤ (u *ℤ y +ℤ v *ℤ n) +ℤ (b *ℤ (w *ℤ y) +ℤ c *ℤ (w *ℤ n))
along-value a b c u v w y n = rw (zero-*ℤ (pos 0)) (simp products (omega (arith, sums)))

-- and at the height v / w of a second line it is that at the point, but for a factor
along-point : (a b c u v w s t r n : ℤ) →
    (a *ℤ u +ℤ b *ℤ w) *ℤ (s *ℤ pos 0 +ℤ t *ℤ n) +ℤ (pos 0 *ℤ (r *ℤ pos 0) +ℤ (a *ℤ v +ℤ c *ℤ w) *ℤ (r *ℤ n))
    ≡ (a *ℤ (u *ℤ t +ℤ v *ℤ r) +ℤ (b *ℤ (w *ℤ t) +ℤ c *ℤ (w *ℤ r))) *ℤ n
along-point a b c u v w s t r n = rw (*ℤ-zero s, zero-*ℤ (r *ℤ pos 0), +ℤ_idl (t *ℤ n)) (simp products (omega (arith, sums)))

at-point : (f : Form) (x y w : ℤ) → pos 0 <ℤ w → at f (point_at x y w) ≡ value f x y w
at-point f x y (pos zero) h = absurd h.lt
at-point f x y (pos (suc m)) h = refl
at-point f x y (negsuc m) h = absurd h.lt

-- the signs of the forms are the same at both points
abbrev pub SameSigns : List Form → Point → Point → Type 0
SameSigns fs p q = Each (λ f. Alike (at f p) (at f q)) fs

-- a line's sign at a height and at the sample
on_sample : (f : Form) (l m : Line) (p : Point) → pos 0 <ℤ pos p.n → pos 0 <ℤ (l.w *ℤ m.w) → Alike (at f p) (on_line f l p.y (pos p.n)) →
    Alike (value (along l f) p.y (pos 0) (pos p.n)) (on_line (along l f) m (pos 0) (pos p.n)) → Alike (at f p) (at f (point_on l m))
on_sample f l m p pn pw h k =
    let e : value (along l f) p.y (pos 0) (pos p.n) ≡ on_line f l p.y (pos p.n) = along-value f.a f.b f.c l.u l.v l.w p.y (pos p.n) in
    let g : on_line (along l f) m (pos 0) (pos p.n) ≡ value f (l.u *ℤ m.v +ℤ l.v *ℤ m.w) (l.w *ℤ m.v) (l.w *ℤ m.w) *ℤ pos p.n = along-point f.a f.b f.c l.u l.v l.w m.u m.v m.w (pos p.n) in
    let o : at f (point_on l m) ≡ value f (l.u *ℤ m.v +ℤ l.v *ℤ m.w) (l.w *ℤ m.v) (l.w *ℤ m.w) = at-point f (l.u *ℤ m.v +ℤ l.v *ℤ m.w) (l.w *ℤ m.v) (l.w *ℤ m.w) pw in
    three (at f p) (on_line f l p.y (pos p.n)) (value (along l f) p.y (pos 0) (pos p.n)) (on_line (along l f) m (pos 0) (pos p.n)) (value f (l.u *ℤ m.v +ℤ l.v *ℤ m.w) (l.w *ℤ m.v) (l.w *ℤ m.w)) (at f (point_on l m)) (pos p.n) pn h k e g o
  where
    three : (a b c d v o n : ℤ) → pos 0 <ℤ n → Alike a b → Alike c d → c ≡ b → d ≡ v *ℤ n → o ≡ v → Alike a o
    three a b c d v o n pn h k e g q =
        let h' : Alike a c = subst (Alike a) (sym e) h in
        let k' : Alike c (v *ℤ n) = subst (Alike c) g k in
        let r : Alike v (v *ℤ n) = alike-scaled v n pn in
        subst (Alike a) (sym q) (alike-trans a c v h' (alike-trans c (v *ℤ n) v k' (alike-sym v (v *ℤ n) r)))

pub record Sample (fs : List Form) (p : Point) : Type 0 where
  pub point : Point
  pub has : Has (samples fs) point
  pub same : SameSigns fs p point

sample_by : (fs : List Form) (p : Point) (pn : pos 0 <ℤ pos p.n) (l : Moved p.x p.y (pos p.n) pn fs) → Moved p.y (pos 0) (pos p.n) pn (map (along l.line) fs) → Sample fs p
sample_by fs p pn l m = record {
  point = point_on l.line m.line;
  has = has-flat (λ k. map (point_on k) (lines (map (along k) fs))) (lines fs) l.line (point_on l.line m.line) l.has (has-map (point_on l.line) (lines (map (along l.line) fs)) m.line m.has);
  same = each_both (λ f h k. on_sample f l.line m.line p pn (mul-pos l.line.w m.line.w l.over_w m.over_w) h k) fs l.alike
      (each_from-map (λ g. Alike (value g p.y (pos 0) (pos p.n)) (on_line g m.line (pos 0) (pos p.n))) (along l.line) fs m.alike);
}

pub sample : (fs : List Form) (p : Point) → Sample fs p
sample fs p =
    let pn : pos 0 <ℤ pos p.n = omega (arith, sums, p.is_over) in
    sample_by fs p pn (moved p.x p.y (pos p.n) pn fs) (moved p.y (pos 0) (pos p.n) pn (map (along (moved p.x p.y (pos p.n) pn fs).line) fs))

-- the signs decide the test
abbrev pub Decides : List Form → (Point → Bool) → Type 0
Decides fs t = (p q : Point) → SameSigns fs p q → t p ≡ t q

pub some_point_iff : (t : Point → Bool) (fs : List Form) → Decides fs t → (some_point t fs ≡ true) ↔ (p : Point) × (t p ≡ true)
some_point_iff t fs d = (
  has-any t (samples fs),
  λ h.
      let s : Sample fs h.0 = sample fs h.0 in
      any-has t (samples fs) s.point s.has (sym (d h.0 s.point s.same) ∙ h.1),
)
