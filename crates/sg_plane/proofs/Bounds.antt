-- Each point of a shape lies within the bounds of its spots.
use Rattle.std.proofs.Common.{ℕ, ◌≡◌, ◌+◌, ◌*◌, arith, refl, sym, ap, ◌∙◌, Bool, true, false, cond, not, List, [], ◌∷◌, ◌++◌}
use Rattle.std.specs.Prelude.{◌%◌}
use Rattle.std.specs.List.{list_any, flat_map, count_by}
use Rattle.std.proofs.lemmas.List.Sums.{sum_by-cons}
use Rattle.std.proofs.lemmas.Bool.{eqb-true}
use mathlib.Core.Bool.{◌&&◌, ◌||◌}
use mathlib.Core.Logic.{◌⊎◌, inl, inr}
use lib.IntN.{ℤ, pos, ◌-ℤ◌, ◌*ℤ◌}
use lib.Signed.{◌<ℤ◌, ◌≤ℤ◌, le_z}
use Rattle.sg_algebra.proofs.Ring.{sums, nonneg_diff-mul}
use Rattle.sg_algebra.proofs.Comparisons.{le-from_true, le-from_false, lt-from_true, eq-from_true, left_true, right_true, either_true, or_left, or_right}
use Rattle.sg_plane.proofs.Totals.{total, ind}
use Rattle.sg_shape.specs.declared.spots.Spot.{Spot}
use Rattle.sg_shape.specs.declared.spots.Edge.{Edge}
use Rattle.sg_shape.specs.Plane.{Point, Parts, Status, In, Bd, Out, lines_status, area_status, is_in, is_bd, odd, eq_z, is_at, between, on_edge, is_above, passes_right, crosses_ray, edges_from, edges, edges_of, last_of, ends_at, same_spot}
use Rattle.sg_shape.specs.Boxes.{is_held, HasPoint}
use Rattle.sg_plane.specs.Reach.{is_closed, spots_of}
use Rattle.sg_plane.proofs.Lists.{Has, Each, each_has, any-member, each_left, each_right, each_append, each_from-flat}
use Rattle.sg_plane.proofs.Crossings.{cross_right, cross_left, straddles, rings_even, some_right, some_other}
use Rattle.sg_plane.proofs.Decided.{not_true}

pub count-total : {A : Type 0} (t : A → Bool) (xs : List A) → count_by t xs ≡ total (λ x. ind (t x)) xs
count-total t [] = refl
count-total t (x ∷ xs) = sum_by-cons (λ y. cond (t y) 1 0) x xs ∙ ap (λ (n : ℕ). ind (t x) + n) (count-total t xs)

module _ (x0 x1 y0 y1 : ℤ) (q : Point) where
  pub record Inside (s : Spot) : Type 0 where
    pub left : x0 ≤ℤ s.x
    pub right : s.x ≤ℤ x1
    pub low : y0 ≤ℤ s.y
    pub high : s.y ≤ℤ y1

  -- the point lies within the bounds
  pub record Within : Type 0 where
    pub left : (x0 *ℤ pos q.n) ≤ℤ q.x
    pub right : q.x ≤ℤ (x1 *ℤ pos q.n)
    pub low : (y0 *ℤ pos q.n) ≤ℤ q.y
    pub high : q.y ≤ℤ (y1 *ℤ pos q.n)

  over : pos 0 <ℤ pos q.n
  over = omega (arith, sums, q.is_over)

  scaled : (a b : ℤ) → a ≤ℤ b → (a *ℤ pos q.n) ≤ℤ (b *ℤ pos q.n)
  scaled a b h = nonneg_diff-mul a b (pos q.n) (omega (arith, sums, over)) h

  at_within : (s : Spot) → Inside s → is_at s q ≡ true → Within
  at_within s i h =
      let a : q.x ≡ s.x *ℤ pos q.n = eq-from_true q.x (s.x *ℤ pos q.n) (left_true (eq_z q.x (s.x *ℤ pos q.n)) (eq_z q.y (s.y *ℤ pos q.n)) h) in
      let b : q.y ≡ s.y *ℤ pos q.n = eq-from_true q.y (s.y *ℤ pos q.n) (right_true (eq_z q.x (s.x *ℤ pos q.n)) (eq_z q.y (s.y *ℤ pos q.n)) h) in
      record {
        left = omega (arith, sums, a, scaled x0 s.x i.left);
        right = omega (arith, sums, a, scaled s.x x1 i.right);
        low = omega (arith, sums, b, scaled y0 s.y i.low);
        high = omega (arith, sums, b, scaled s.y y1 i.high);
      }

  between_within : (lo hi a b v : ℤ) → lo ≤ℤ a → a ≤ℤ hi → lo ≤ℤ b → b ≤ℤ hi → between (a *ℤ pos q.n) (b *ℤ pos q.n) v ≡ true → ((lo *ℤ pos q.n) ≤ℤ v) × (v ≤ℤ (hi *ℤ pos q.n))
  between_within lo hi a b v h1 h2 h3 h4 t =
      by_side (either_true (le_z (a *ℤ pos q.n) v && le_z v (b *ℤ pos q.n)) (le_z (b *ℤ pos q.n) v && le_z v (a *ℤ pos q.n)) t)
    where
      by_side : ((le_z (a *ℤ pos q.n) v && le_z v (b *ℤ pos q.n)) ≡ true) ⊎ ((le_z (b *ℤ pos q.n) v && le_z v (a *ℤ pos q.n)) ≡ true) → ((lo *ℤ pos q.n) ≤ℤ v) × (v ≤ℤ (hi *ℤ pos q.n))
      by_side (inl k) =
          let c : (a *ℤ pos q.n) ≤ℤ v = le-from_true (a *ℤ pos q.n) v (left_true _ _ k) in
          let d : v ≤ℤ (b *ℤ pos q.n) = le-from_true v (b *ℤ pos q.n) (right_true (le_z (a *ℤ pos q.n) v) _ k) in
          (omega (arith, sums, c, scaled lo a h1), omega (arith, sums, d, scaled b hi h4))
      by_side (inr k) =
          let c : (b *ℤ pos q.n) ≤ℤ v = le-from_true (b *ℤ pos q.n) v (left_true _ _ k) in
          let d : v ≤ℤ (a *ℤ pos q.n) = le-from_true v (a *ℤ pos q.n) (right_true (le_z (b *ℤ pos q.n) v) _ k) in
          (omega (arith, sums, c, scaled lo b h3), omega (arith, sums, d, scaled a hi h2))

  abbrev Ends : Edge → Type 0
  Ends e = Inside e.from × Inside e.to

  on_within : (e : Edge) → Ends e → on_edge e q ≡ true → Within
  on_within e i h =
      let t : (between (e.from.x *ℤ pos q.n) (e.to.x *ℤ pos q.n) q.x && between (e.from.y *ℤ pos q.n) (e.to.y *ℤ pos q.n) q.y) ≡ true = right_true (eq_z ((q.x -ℤ e.from.x *ℤ pos q.n) *ℤ (e.to.y -ℤ e.from.y)) ((q.y -ℤ e.from.y *ℤ pos q.n) *ℤ (e.to.x -ℤ e.from.x))) _ h in
      let a = between_within x0 x1 e.from.x e.to.x q.x i.0.left i.0.right i.1.left i.1.right (left_true _ _ t) in
      let b = between_within y0 y1 e.from.y e.to.y q.y i.0.low i.0.high i.1.low i.1.high (right_true (between (e.from.x *ℤ pos q.n) (e.to.x *ℤ pos q.n) q.x) _ t) in
      record { left = a.0; right = a.1; low = b.0; high = b.1 }

  -- ---- edges of rings
  -- an edge that passes the height, written from its lower end
  pub record Passing (a b : Spot) : Type 0 where
    pub above : q.y <ℤ (b.y *ℤ pos q.n)
    pub below : (a.y *ℤ pos q.n) ≤ℤ q.y

  passing : (a b : Spot) → (is_above b q && not (is_above a q)) ≡ true → Passing a b
  passing a b h = record {
    above = lt-from_true q.y (b.y *ℤ pos q.n) (left_true (is_above b q) (not (is_above a q)) h);
    below = le-from_false q.y (a.y *ℤ pos q.n) (not_true (is_above a q) (right_true (is_above b q) (not (is_above a q)) h));
  }

  is_right : (a b : Spot) → Inside a → Inside b → Passing a b → passes_right a b q ≡ true → q.x ≤ℤ (x1 *ℤ pos q.n)
  is_right a b i j p h = cross_right a.x a.y b.x b.y q.x q.y (pos q.n) x1 over p.below p.above i.right j.right (lt-from_true _ _ h)

  is_left : (a b : Spot) → Inside a → Inside b → Passing a b → passes_right a b q ≡ false → (x0 *ℤ pos q.n) ≤ℤ q.x
  is_left a b i j p h = cross_left a.x a.y b.x b.y q.x q.y (pos q.n) x0 over p.below p.above i.left j.left (le-from_false _ _ h)

  heights : (a b : Spot) → Inside a → Inside b → Passing a b → ((y0 *ℤ pos q.n) ≤ℤ q.y) × (q.y ≤ℤ (y1 *ℤ pos q.n))
  heights a b i j p = (omega (arith, sums, p.below, scaled y0 a.y i.low), omega (arith, sums, p.above, scaled b.y y1 j.high))

  right_of : (e : Edge) → Ends e → crosses_ray e q ≡ true → (q.x ≤ℤ (x1 *ℤ pos q.n)) × (((y0 *ℤ pos q.n) ≤ℤ q.y) × (q.y ≤ℤ (y1 *ℤ pos q.n)))
  right_of e i h = by_side (either_true (is_above e.to q && not (is_above e.from q) && passes_right e.from e.to q) (is_above e.from q && not (is_above e.to q) && passes_right e.to e.from q) h)
    where
      by_side : ((is_above e.to q && not (is_above e.from q) && passes_right e.from e.to q) ≡ true) ⊎ ((is_above e.from q && not (is_above e.to q) && passes_right e.to e.from q) ≡ true) →
          (q.x ≤ℤ (x1 *ℤ pos q.n)) × (((y0 *ℤ pos q.n) ≤ℤ q.y) × (q.y ≤ℤ (y1 *ℤ pos q.n)))
      by_side (inl k) =
          let p : Passing e.from e.to = passing e.from e.to (left_true (is_above e.to q && not (is_above e.from q)) (passes_right e.from e.to q) k) in
          (is_right e.from e.to i.0 i.1 p (right_true (is_above e.to q && not (is_above e.from q)) (passes_right e.from e.to q) k), heights e.from e.to i.0 i.1 p)
      by_side (inr k) =
          let p : Passing e.to e.from = passing e.to e.from (left_true (is_above e.from q && not (is_above e.to q)) (passes_right e.to e.from q) k) in
          (is_right e.to e.from i.1 i.0 p (right_true (is_above e.from q && not (is_above e.to q)) (passes_right e.to e.from q) k), heights e.to e.from i.1 i.0 p)

  only_first : (s r t l : Bool) → ((s && r) || (t && l)) ≡ false → s ≡ true → r ≡ false
  only_first true true t l h e = absurd (cc)
  only_first true false t l h e = refl
  only_first false r t l h e = absurd (cc)

  only_second : (s r t l : Bool) → ((s && r) || (t && l)) ≡ false → t ≡ true → l ≡ false
  only_second true true t l h e = absurd (cc)
  only_second true false true true h e = absurd (cc)
  only_second true false true false h e = refl
  only_second true false false l h e = absurd (cc)
  only_second false r true true h e = absurd (cc)
  only_second false r true false h e = refl
  only_second false r false l h e = absurd (cc)

  left_of : (e : Edge) → Ends e → straddles q e ≡ true → crosses_ray e q ≡ false → (x0 *ℤ pos q.n) ≤ℤ q.x
  left_of e i h c = by_side (either_true (is_above e.to q && not (is_above e.from q)) (is_above e.from q && not (is_above e.to q)) h)
    where
      by_side : ((is_above e.to q && not (is_above e.from q)) ≡ true) ⊎ ((is_above e.from q && not (is_above e.to q)) ≡ true) → (x0 *ℤ pos q.n) ≤ℤ q.x
      by_side (inl k) =
          is_left e.from e.to i.0 i.1 (passing e.from e.to k)
          (only_first (is_above e.to q && not (is_above e.from q)) (passes_right e.from e.to q) (is_above e.from q && not (is_above e.to q)) (passes_right e.to e.from q) c k)
      by_side (inr k) =
          is_left e.to e.from i.1 i.0 (passing e.to e.from k)
          (only_second (is_above e.to q && not (is_above e.from q)) (passes_right e.from e.to q) (is_above e.from q && not (is_above e.to q)) (passes_right e.to e.from q) c k)

  straddles_too : (e : Edge) → crosses_ray e q ≡ true → straddles q e ≡ true
  straddles_too e h =
      elim (either_true (is_above e.to q && not (is_above e.from q) && passes_right e.from e.to q) (is_above e.from q && not (is_above e.to q) && passes_right e.to e.from q) h) [
        | inl k ↦ or_left (is_above e.to q && not (is_above e.from q)) (is_above e.from q && not (is_above e.to q)) (left_true (is_above e.to q && not (is_above e.from q)) (passes_right e.from e.to q) k)
        | inr k ↦ or_right (is_above e.to q && not (is_above e.from q)) (is_above e.from q && not (is_above e.to q)) (left_true (is_above e.from q && not (is_above e.to q)) (passes_right e.to e.from q) k)
      ]

  odd-even : (n k : ℕ) → odd n ≡ true → n ≡ 2 * k → ⊥
  odd-even n k h e = let f : n % 2 ≡ 1 = eqb-true (n % 2) 1 h in omega (arith, f, e)

  not_odd : odd 0 ≡ true → ⊥
  not_odd h = odd-even 0 0 h (omega arith)

  crossed : (es : List Edge) (k : ℕ) → total (λ e. ind (straddles q e)) es ≡ 2 * k → Each Ends es → odd (count_by (λ e. crosses_ray e q) es) ≡ true → Within
  crossed es k v i h =
      by_both (some_right (λ e. crosses_ray e q) es) (some_other (λ e. crosses_ray e q) (straddles q) straddles_too es)
    where
      c : count_by (λ e. crosses_ray e q) es ≡ total (λ e. ind (crosses_ray e q)) es
      c = count-total (λ e. crosses_ray e q) es

      by_both : ((a : Edge) × Has es a × (crosses_ray a q ≡ true)) ⊎ (total (λ e. ind (crosses_ray e q)) es ≡ 0) →
          ((a : Edge) × Has es a × (straddles q a ≡ true) × (crosses_ray a q ≡ false)) ⊎ (total (λ e. ind (crosses_ray e q)) es ≡ total (λ e. ind (straddles q e)) es) → Within
      by_both (inr z) l = absurd (odd-even (count_by (λ e. crosses_ray e q) es) 0 h (omega (arith, c, z)))
      by_both (inl r) (inr z) = absurd (odd-even (count_by (λ e. crosses_ray e q) es) k h (omega (arith, c, z, v)))
      by_both (inl r) (inl l) =
          let a = right_of r.0 (each_has Ends es r.0 i r.1) r.2 in
          record { left = left_of l.0 (each_has Ends es l.0 i l.1) l.2 l.3; right = a.0; low = a.1.0; high = a.1.1 }

  -- ---- whole shapes
  ends_from : (s : Spot) (ss : List Spot) → Inside s → Each Inside ss → Each Ends (edges_from s ss)
  ends_from s [] i h = tt
  ends_from s (t ∷ ts) i h = ((i, h.0), ends_from t ts h.0 h.1)

  ends_in : (ss : List Spot) → Each Inside ss → Each Ends (edges ss)
  ends_in [] h = tt
  ends_in (s ∷ ss) h = ends_from s ss h.0 h.1

  each_both_sides : (xs ys : List Edge) → Each Ends xs → Each Ends ys → Each Ends (xs ++ ys)
  each_both_sides xs ys h k = each_append Ends xs ys h k

  ends_of : (ls : List (List Spot)) → Each Inside (flat_map (λ l. l) ls) → Each Ends (edges_of ls)
  ends_of [] h = tt
  ends_of (l ∷ ls) h = each_both_sides (edges l) (edges_of ls) (ends_in l (each_left Inside l (flat_map (λ r. r) ls) h)) (ends_of ls (each_right Inside l (flat_map (λ r. r) ls) h))

  last_in : (s : Spot) (ss : List Spot) → Inside s → Each Inside ss → Inside (last_of s ss)
  last_in s [] i h = i
  last_in s (t ∷ ts) i h = last_in t ts h.0 h.1

  ends_within : (l : List Spot) → Each Inside l → ends_at q l ≡ true → Within
  ends_within [] i h = absurd (cc)
  ends_within (s ∷ ss) i h =
      elim (either_true (is_at s q) (is_at (last_of s ss) q) (right_true (not (same_spot s (last_of s ss))) (is_at s q || is_at (last_of s ss) q) h)) [
        | inl k ↦ at_within s i.0 k
        | inr k ↦ at_within (last_of s ss) (last_in s ss i.0 i.1) k
      ]

  any_on : (es : List Edge) → Each Ends es → list_any (λ e. on_edge e q) es ≡ true → Within
  any_on es i h =
      let r : (e : Edge) × Has es e × (on_edge e q ≡ true) = any-member (λ e. on_edge e q) es h in
      on_within r.0 (each_has Ends es r.0 i r.1) r.2

  lines_within : (ls : List (List Spot)) → Each Inside (flat_map (λ l. l) ls) → (lines_status ls q ≡ Out → ⊥) → Within
  lines_within ls i n = by_tests (odd (count_by (ends_at q) ls)) refl (list_any (λ e. on_edge e q) (edges_of ls)) refl
    where
      by_tests : (o : Bool) → odd (count_by (ends_at q) ls) ≡ o → (a : Bool) → list_any (λ e. on_edge e q) (edges_of ls) ≡ a → Within
      by_tests true e a f = by_end (some_right (ends_at q) ls)
        where
          by_end : ((l : List Spot) × Has ls l × (ends_at q l ≡ true)) ⊎ (total (λ l. ind (ends_at q l)) ls ≡ 0) → Within
          by_end (inl r) = ends_within r.0 (each_has (λ l. Each Inside l) ls r.0 (each_from-flat Inside (λ l. l) ls i) r.1) r.2
          by_end (inr z) = absurd (odd-even (count_by (ends_at q) ls) 0 e (omega (arith, count-total (ends_at q) ls, z)))
      by_tests false e true f = any_on (edges_of ls) (ends_of ls i) f
      by_tests false e false f = absurd (n (rw (e, f) refl))

  area_within : (a : List (List Spot)) → Each Inside (flat_map (λ r. r) a) → Each (λ r. is_closed r ≡ true) a → (area_status a q ≡ Out → ⊥) → Within
  area_within a i c n = by_tests (list_any (λ e. on_edge e q) (edges_of a)) refl (odd (count_by (λ e. crosses_ray e q) (edges_of a))) refl
    where
      by_tests : (o : Bool) → list_any (λ e. on_edge e q) (edges_of a) ≡ o → (t : Bool) → odd (count_by (λ e. crosses_ray e q) (edges_of a)) ≡ t → Within
      by_tests true e t f = any_on (edges_of a) (ends_of a i) e
      by_tests false e true f = let v = rings_even q a c in crossed (edges_of a) v.0 v.1 (ends_of a i) f
      by_tests false e false f = absurd (n (rw (e, f) refl))

  some_part : (s t : Bool) → is_held (cond s In (cond t Bd Out)) ≡ true → (s ≡ true) ⊎ (t ≡ true)
  some_part true t h = inl refl
  some_part false true h = inr refl
  some_part false false h = absurd (cc)

  in-not_out : (s : Status) → is_in s ≡ true → s ≡ Out → ⊥
  in-not_out s h e = absurd (let k : false ≡ true = ap is_in (sym e) ∙ h in cc)

  bd-not_out : (s : Status) → is_bd s ≡ true → s ≡ Out → ⊥
  bd-not_out s h e = absurd (let k : false ≡ true = ap is_bd (sym e) ∙ h in cc)

  module _ (k : Parts) (all : Each Inside (spots_of k)) (closed : Each (λ a. Each (λ r. is_closed r ≡ true) a) k.areas) where
    in_points : Each Inside k.points
    in_points = each_left Inside k.points (flat_map (λ l. l) k.lines ++ flat_map (λ a. flat_map (λ r. r) a) k.areas) all

    in_rest : Each Inside (flat_map (λ l. l) k.lines ++ flat_map (λ a. flat_map (λ r. r) a) k.areas)
    in_rest = each_right Inside k.points (flat_map (λ l. l) k.lines ++ flat_map (λ a. flat_map (λ r. r) a) k.areas) all

    in_lines : Each Inside (flat_map (λ l. l) k.lines)
    in_lines = each_left Inside (flat_map (λ l. l) k.lines) (flat_map (λ a. flat_map (λ r. r) a) k.areas) in_rest

    in_areas : Each (λ a. Each Inside (flat_map (λ r. r) a)) k.areas
    in_areas = each_from-flat Inside (λ a. flat_map (λ r. r) a) k.areas (each_right Inside (flat_map (λ l. l) k.lines) (flat_map (λ a. flat_map (λ r. r) a) k.areas) in_rest)

    any_point : list_any (λ s. is_at s q) k.points ≡ true → Within
    any_point h =
        let r : (s : Spot) × Has k.points s × (is_at s q ≡ true) = any-member (λ s. is_at s q) k.points h in
        at_within r.0 (each_has Inside k.points r.0 in_points r.1) r.2

    any_area : (t : Status → Bool) → ((s : Status) → t s ≡ true → s ≡ Out → ⊥) → list_any (λ a. t (area_status a q)) k.areas ≡ true → Within
    any_area t f h =
        let r : (a : List (List Spot)) × Has k.areas a × (t (area_status a q) ≡ true) = any-member (λ a. t (area_status a q)) k.areas h in
        area_within r.0 (each_has (λ a. Each Inside (flat_map (λ r. r) a)) k.areas r.0 in_areas r.1) (each_has (λ a. Each (λ r. is_closed r ≡ true) a) k.areas r.0 closed r.1) (f (area_status r.0 q) r.2)

    pub within : HasPoint k q → Within
    within h =
        by_part (some_part (list_any (λ s. is_at s q) k.points || is_in (lines_status k.lines q) || list_any (λ a. is_in (area_status a q)) k.areas) (is_bd (lines_status k.lines q) || list_any (λ a. is_bd (area_status a q)) k.areas) h)
      where
        by_part : ((list_any (λ s. is_at s q) k.points || is_in (lines_status k.lines q) || list_any (λ a. is_in (area_status a q)) k.areas) ≡ true) ⊎ ((is_bd (lines_status k.lines q) || list_any (λ a. is_bd (area_status a q)) k.areas) ≡ true) → Within
        by_part (inl e) =
            elim (either_true (list_any (λ s. is_at s q) k.points || is_in (lines_status k.lines q)) (list_any (λ a. is_in (area_status a q)) k.areas) e) [
              | inl f ↦ elim (either_true (list_any (λ s. is_at s q) k.points) (is_in (lines_status k.lines q)) f) [
                | inl g ↦ any_point g
                | inr g ↦ lines_within k.lines in_lines (in-not_out (lines_status k.lines q) g)
              ]
              | inr f ↦ any_area is_in in-not_out f
            ]
        by_part (inr e) =
            elim (either_true (is_bd (lines_status k.lines q)) (list_any (λ a. is_bd (area_status a q)) k.areas) e) [
              | inl f ↦ lines_within k.lines in_lines (bd-not_out (lines_status k.lines q) f)
              | inr f ↦ any_area is_bd bd-not_out f
            ]
