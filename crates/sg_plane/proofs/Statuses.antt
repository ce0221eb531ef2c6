-- A point's status in a shape, and its place in a box, are decided by the signs of the forms.
use Rattle.std.proofs.Common.{ℕ, ◌≡◌, ◌+◌, arith, refl, sym, ap, ◌∙◌, subst, Bool, false, cond, List, [], ◌∷◌, ◌++◌}
use Rattle.std.specs.List.{flat_map, list_any, count_by}
use Rattle.std.proofs.lemmas.List.Sums.{sum_by-cons}
use lib.IntN.{ℤ, pos, ◌+ℤ◌, ◌-ℤ◌, ◌*ℤ◌, neg_ℤ, *ℤ_comm, zero-*ℤ, *ℤ-one, one}
use lib.Signed.{◌<ℤ◌, ◌≤ℤ◌, lt_z, le_z}
use Rattle.sg_algebra.proofs.Ring.{sums, products, neg-mul}
use Rattle.sg_algebra.proofs.Comparisons.{true-from_lt, true-from_le, false-from_le, is_false, le-from_true}
use Rattle.sg_shape.specs.declared.spots.Spot.{Spot}
use Rattle.sg_shape.specs.declared.spots.Edge.{Edge}
use Rattle.sg_shape.specs.Plane.{Point, Parts, status, eq_z, is_at, between, on_edge, is_above, passes_right, crosses_ray, edges_of, last_of, ends_at, lines_status, area_status, is_in, is_bd}
use Rattle.sg_plane.specs.Samples.{Form, at}
use Rattle.sg_shape.specs.declared.cells.CellBox.{CellBox}
use Rattle.sg_shape.specs.Boxes.{within, in_box}
use Rattle.sg_plane.specs.Forms.{across, above, side, spot_forms, edge_forms, ends_forms, rings_forms, forms, box_forms}
use Rattle.sg_plane.proofs.Lists.{Each, each_more, each_left, each_right, each_from-flat}
use Rattle.sg_plane.proofs.Alike.{Alike, over, zeros, under, alike-neg}
use Rattle.sg_plane.proofs.Samples.{SameSigns}

-- ---- tests by the sign of a difference
lt-alike : (a b c d : ℤ) → Alike (a -ℤ b) (c -ℤ d) → lt_z a b ≡ lt_z c d
lt-alike a b c d (over h k) = rw (false-from_le a b (omega (arith, sums, h)), false-from_le c d (omega (arith, sums, k))) refl
lt-alike a b c d (zeros h k) = rw (false-from_le a b (omega (arith, sums, h)), false-from_le c d (omega (arith, sums, k))) refl
lt-alike a b c d (under h k) = rw (true-from_lt a b (omega (arith, sums, h)), true-from_lt c d (omega (arith, sums, k))) refl

not_le : (a b : ℤ) → b <ℤ a → le_z a b ≡ false
not_le a b h = is_false (le_z a b) (λ t. let k : a ≤ℤ b = le-from_true a b t in omega (arith, sums))

le-alike : (a b c d : ℤ) → Alike (a -ℤ b) (c -ℤ d) → le_z a b ≡ le_z c d
le-alike a b c d (over h k) = rw (not_le a b (omega (arith, sums, h)), not_le c d (omega (arith, sums, k))) refl
le-alike a b c d (zeros h k) = rw (true-from_le a b (omega (arith, sums, h)), true-from_le c d (omega (arith, sums, k))) refl
le-alike a b c d (under h k) = rw (true-from_le a b (omega (arith, sums, h)), true-from_le c d (omega (arith, sums, k))) refl

swap : (a b c d : ℤ) → Alike (a -ℤ b) (c -ℤ d) → Alike (b -ℤ a) (d -ℤ c)
swap a b c d h = alike-neg (b -ℤ a) (d -ℤ c) (a -ℤ b) (c -ℤ d) (omega (arith, sums)) (omega (arith, sums)) h

eq-alike : (a b c d : ℤ) → Alike (a -ℤ b) (c -ℤ d) → eq_z a b ≡ eq_z c d
eq-alike a b c d h = rw (le-alike a b c d h, le-alike b a d c (swap a b c d h)) refl

-- ---- what the forms stand for
one_times : (x : ℤ) → pos 1 *ℤ x ≡ x
unfolding one
one_times x = *ℤ_comm (pos 1) x ∙ *ℤ-one x

across-is : (s x y n : ℤ) → pos 1 *ℤ x +ℤ (pos 0 *ℤ y +ℤ neg_ℤ s *ℤ n) ≡ x -ℤ s *ℤ n
across-is s x y n = let a : pos 1 *ℤ x ≡ x = one_times x in let b : pos 0 *ℤ y ≡ pos 0 = zero-*ℤ y in let c : neg_ℤ s *ℤ n ≡ neg_ℤ (s *ℤ n) = neg-mul s n in omega (arith, sums, a, b, c)

above-is : (s x y n : ℤ) → pos 0 *ℤ x +ℤ (pos 1 *ℤ y +ℤ neg_ℤ s *ℤ n) ≡ y -ℤ s *ℤ n
above-is s x y n = let a : pos 1 *ℤ y ≡ y = one_times y in let b : pos 0 *ℤ x ≡ pos 0 = zero-*ℤ x in let c : neg_ℤ s *ℤ n ≡ neg_ℤ (s *ℤ n) = neg-mul s n in omega (arith, sums, a, b, c)

side-is : (ax ay bx by x y n : ℤ) →
    (by -ℤ ay) *ℤ x +ℤ (neg_ℤ (bx -ℤ ax) *ℤ y +ℤ ((bx -ℤ ax) *ℤ ay -ℤ ax *ℤ (by -ℤ ay)) *ℤ n)
    ≡ (x -ℤ ax *ℤ n) *ℤ (by -ℤ ay) -ℤ (y -ℤ ay *ℤ n) *ℤ (bx -ℤ ax)
side-is ax ay bx by x y n = simp products (omega (arith, sums))

turned : (ax ay bx by x y n : ℤ) →
    (x -ℤ bx *ℤ n) *ℤ (ay -ℤ by) -ℤ (y -ℤ by *ℤ n) *ℤ (ax -ℤ bx) ≡ (y -ℤ ay *ℤ n) *ℤ (bx -ℤ ax) -ℤ (x -ℤ ax *ℤ n) *ℤ (by -ℤ ay)
turned ax ay bx by x y n = simp products (omega (arith, sums))

both_are : (a b c d : ℤ) → a ≡ c → b ≡ d → Alike a b → Alike c d
both_are a b c d e f h = subst (λ (z : ℤ). Alike z d) e (subst (Alike a) f h)

module _ (p q : Point) where
  abbrev Agree : Form → Type 0
  Agree f = Alike (at f p) (at f q)

  in_x : (s : ℤ) → Agree (across s) → Alike (p.x -ℤ s *ℤ pos p.n) (q.x -ℤ s *ℤ pos q.n)
  in_x s h = both_are (at (across s) p) (at (across s) q) (p.x -ℤ s *ℤ pos p.n) (q.x -ℤ s *ℤ pos q.n) (across-is s p.x p.y (pos p.n)) (across-is s q.x q.y (pos q.n)) h

  in_y : (s : ℤ) → Agree (above s) → Alike (p.y -ℤ s *ℤ pos p.n) (q.y -ℤ s *ℤ pos q.n)
  in_y s h = both_are (at (above s) p) (at (above s) q) (p.y -ℤ s *ℤ pos p.n) (q.y -ℤ s *ℤ pos q.n) (above-is s p.x p.y (pos p.n)) (above-is s q.x q.y (pos q.n)) h

  -- a point's place between two numbers
  between-same : (a b v c d w : ℤ) → Alike (v -ℤ a) (w -ℤ c) → Alike (v -ℤ b) (w -ℤ d) → between a b v ≡ between c d w
  between-same a b v c d w h k =
      rw (le-alike a v c w (swap v a w c h), le-alike v b w d k, le-alike b v d w (swap v b w d k), le-alike v a w c h) refl

  at-same : (s : Spot) → Each Agree (spot_forms s) → is_at s p ≡ is_at s q
  at-same s h =
      rw (eq-alike p.x (s.x *ℤ pos p.n) q.x (s.x *ℤ pos q.n) (in_x s.x h.0), eq-alike p.y (s.y *ℤ pos p.n) q.y (s.y *ℤ pos q.n) (in_y s.y h.1.0)) refl

  abbrev gap : Edge → Point → ℤ
  gap e r = (r.x -ℤ e.from.x *ℤ pos r.n) *ℤ (e.to.y -ℤ e.from.y) -ℤ (r.y -ℤ e.from.y *ℤ pos r.n) *ℤ (e.to.x -ℤ e.from.x)

  in_side : (e : Edge) → Agree (side e) → Alike (gap e p) (gap e q)
  in_side e h =
      both_are (at (side e) p) (at (side e) q) (gap e p) (gap e q)
      (side-is e.from.x e.from.y e.to.x e.to.y p.x p.y (pos p.n)) (side-is e.from.x e.from.y e.to.x e.to.y q.x q.y (pos q.n)) h

  on-same : (e : Edge) → Each Agree (edge_forms e) → on_edge e p ≡ on_edge e q
  on-same e h =
      rw (
        eq-alike ((p.x -ℤ e.from.x *ℤ pos p.n) *ℤ (e.to.y -ℤ e.from.y)) ((p.y -ℤ e.from.y *ℤ pos p.n) *ℤ (e.to.x -ℤ e.from.x))
            ((q.x -ℤ e.from.x *ℤ pos q.n) *ℤ (e.to.y -ℤ e.from.y)) ((q.y -ℤ e.from.y *ℤ pos q.n) *ℤ (e.to.x -ℤ e.from.x)) (in_side e h.0),
        between-same (e.from.x *ℤ pos p.n) (e.to.x *ℤ pos p.n) p.x (e.from.x *ℤ pos q.n) (e.to.x *ℤ pos q.n) q.x (in_x e.from.x h.1.0) (in_x e.to.x h.1.1.1.0),
        between-same (e.from.y *ℤ pos p.n) (e.to.y *ℤ pos p.n) p.y (e.from.y *ℤ pos q.n) (e.to.y *ℤ pos q.n) q.y (in_y e.from.y h.1.1.0) (in_y e.to.y h.1.1.1.1.0),
      ) refl

  above-same : (s : Spot) → Agree (above s.y) → is_above s p ≡ is_above s q
  above-same s h = lt-alike p.y (s.y *ℤ pos p.n) q.y (s.y *ℤ pos q.n) (in_y s.y h)

  passes-same : (a b : Spot) → Agree (side (record { from = a; to = b })) → passes_right a b p ≡ passes_right a b q
  passes-same a b h =
      lt-alike ((p.x -ℤ a.x *ℤ pos p.n) *ℤ (b.y -ℤ a.y)) ((p.y -ℤ a.y *ℤ pos p.n) *ℤ (b.x -ℤ a.x))
      ((q.x -ℤ a.x *ℤ pos q.n) *ℤ (b.y -ℤ a.y)) ((q.y -ℤ a.y *ℤ pos q.n) *ℤ (b.x -ℤ a.x)) (in_side (record { from = a; to = b }) h)

  passes_back-same : (a b : Spot) → Agree (side (record { from = a; to = b })) → passes_right b a p ≡ passes_right b a q
  passes_back-same a b h =
      lt-alike ((p.x -ℤ b.x *ℤ pos p.n) *ℤ (a.y -ℤ b.y)) ((p.y -ℤ b.y *ℤ pos p.n) *ℤ (a.x -ℤ b.x))
      ((q.x -ℤ b.x *ℤ pos q.n) *ℤ (a.y -ℤ b.y)) ((q.y -ℤ b.y *ℤ pos q.n) *ℤ (a.x -ℤ b.x))
      (both_are ((p.y -ℤ a.y *ℤ pos p.n) *ℤ (b.x -ℤ a.x) -ℤ (p.x -ℤ a.x *ℤ pos p.n) *ℤ (b.y -ℤ a.y))
      ((q.y -ℤ a.y *ℤ pos q.n) *ℤ (b.x -ℤ a.x) -ℤ (q.x -ℤ a.x *ℤ pos q.n) *ℤ (b.y -ℤ a.y))
      ((p.x -ℤ b.x *ℤ pos p.n) *ℤ (a.y -ℤ b.y) -ℤ (p.y -ℤ b.y *ℤ pos p.n) *ℤ (a.x -ℤ b.x))
      ((q.x -ℤ b.x *ℤ pos q.n) *ℤ (a.y -ℤ b.y) -ℤ (q.y -ℤ b.y *ℤ pos q.n) *ℤ (a.x -ℤ b.x))
      (sym (turned a.x a.y b.x b.y p.x p.y (pos p.n))) (sym (turned a.x a.y b.x b.y q.x q.y (pos q.n)))
      (swap ((p.x -ℤ a.x *ℤ pos p.n) *ℤ (b.y -ℤ a.y)) ((p.y -ℤ a.y *ℤ pos p.n) *ℤ (b.x -ℤ a.x))
      ((q.x -ℤ a.x *ℤ pos q.n) *ℤ (b.y -ℤ a.y)) ((q.y -ℤ a.y *ℤ pos q.n) *ℤ (b.x -ℤ a.x)) (in_side (record { from = a; to = b }) h)))

  crosses-same : (e : Edge) → Each Agree (edge_forms e) → crosses_ray e p ≡ crosses_ray e q
  crosses-same e h =
      rw (above-same e.from h.1.1.0, above-same e.to h.1.1.1.1.0, passes-same e.from e.to h.0, passes_back-same e.from e.to h.0) refl

  -- ---- lists
  any-same : {A : Type 0} (t u : A → Bool) (xs : List A) → Each (λ x. t x ≡ u x) xs → list_any t xs ≡ list_any u xs
  any-same t u [] h = refl
  any-same t u (x ∷ xs) h = rw (h.0, any-same t u xs h.1) refl

  count-same : {A : Type 0} (t u : A → Bool) (xs : List A) → Each (λ x. t x ≡ u x) xs → count_by t xs ≡ count_by u xs
  count-same t u [] h = refl
  count-same t u (x ∷ xs) h =
      sum_by-cons (λ y. cond (t y) 1 0) x xs
      ∙ ap (λ (b : Bool). cond b 1 0 + count_by t xs) h.0
      ∙ ap (λ (n : ℕ). cond (u x) 1 0 + n) (count-same t u xs h.1)
      ∙ sym (sum_by-cons (λ y. cond (u y) 1 0) x xs)

  ends-same : (l : List Spot) → Each Agree (ends_forms l) → ends_at p l ≡ ends_at q l
  ends-same [] h = refl
  ends-same (s ∷ ss) h = rw (at-same s (h.0, (h.1.0, tt)), at-same (last_of s ss) h.1.1) refl

  lines-same : (ls : List (List Spot)) → Each Agree (flat_map ends_forms ls) → Each Agree (flat_map edge_forms (edges_of ls)) → lines_status ls p ≡ lines_status ls q
  lines-same ls h k =
      rw (
        count-same (ends_at p) (ends_at q) ls (each_more ends-same ls (each_from-flat Agree ends_forms ls h)),
        any-same (λ e. on_edge e p) (λ e. on_edge e q) (edges_of ls) (each_more on-same (edges_of ls) (each_from-flat Agree edge_forms (edges_of ls) k)),
      ) refl

  area-same : (a : List (List Spot)) → Each Agree (rings_forms a) → area_status a p ≡ area_status a q
  area-same a h =
      let k : Each (λ e. Each Agree (edge_forms e)) (edges_of a) = each_from-flat Agree edge_forms (edges_of a) h in
      rw (
        any-same (λ e. on_edge e p) (λ e. on_edge e q) (edges_of a) (each_more on-same (edges_of a) k),
        count-same (λ e. crosses_ray e p) (λ e. crosses_ray e q) (edges_of a) (each_more crosses-same (edges_of a) k),
      ) refl

  pub status-same : (k : Parts) → SameSigns (forms k) p q → status k p ≡ status k q
  status-same k h =
      let ps : List Form = flat_map spot_forms k.points in
      let es : List Form = flat_map ends_forms k.lines in
      let ls : List Form = flat_map edge_forms (edges_of k.lines) in
      let as' : List Form = flat_map rings_forms k.areas in
      let h1 : Each Agree ps = each_left Agree ps (es ++ (ls ++ as')) h in
      let r1 : Each Agree (es ++ (ls ++ as')) = each_right Agree ps (es ++ (ls ++ as')) h in
      let h2 : Each Agree es = each_left Agree es (ls ++ as') r1 in
      let r2 : Each Agree (ls ++ as') = each_right Agree es (ls ++ as') r1 in
      let h3 : Each Agree ls = each_left Agree ls as' r2 in
      let h4 : Each Agree as' = each_right Agree ls as' r2 in
      let a : Each (λ x. area_status x p ≡ area_status x q) k.areas = each_more area-same k.areas (each_from-flat Agree rings_forms k.areas h4) in
      rw (
        any-same (λ s. is_at s p) (λ s. is_at s q) k.points (each_more at-same k.points (each_from-flat Agree spot_forms k.points h1)),
        lines-same k.lines h2 h3,
        any-same (λ x. is_in (area_status x p)) (λ x. is_in (area_status x q)) k.areas (each_more (λ x e. ap is_in e) k.areas a),
        any-same (λ x. is_bd (area_status x p)) (λ x. is_bd (area_status x q)) k.areas (each_more (λ x e. ap is_bd e) k.areas a),
      ) refl

  -- ---- boxes
  within-same : (low high v w : ℤ) (n m : ℕ) (closed : Bool) → Alike (v -ℤ low *ℤ pos n) (w -ℤ low *ℤ pos m) → Alike (v -ℤ high *ℤ pos n) (w -ℤ high *ℤ pos m) →
      within low high closed v n ≡ within low high closed w m
  within-same low high v w n m closed h k =
      rw (
        le-alike (low *ℤ pos n) v (low *ℤ pos m) w (swap v (low *ℤ pos n) w (low *ℤ pos m) h),
        lt-alike v (high *ℤ pos n) w (high *ℤ pos m) k,
        le-alike v (high *ℤ pos n) w (high *ℤ pos m) k,
      ) refl

  pub box-same : (c : CellBox) → SameSigns (box_forms c) p q → in_box c p ≡ in_box c q
  box-same c h =
      rw (
        within-same c.xlow c.xhigh p.x q.x p.n q.n c.closed_x (in_x c.xlow h.0) (in_x c.xhigh h.1.0),
        within-same c.ylow c.yhigh p.y q.y p.n q.n c.closed_y (in_y c.ylow h.1.1.0) (in_y c.yhigh h.1.1.1.0),
      ) refl
