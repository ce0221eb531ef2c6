-- The test of two edges, as the code makes it, is the one that was proved.
use Rattle.std.proofs.Common.{◌≡◌, arith, refl, sym, ap, Bool, true, false, not, List, [], ◌∷◌}
use mathlib.Core.Bool.{◌&&◌, ◌||◌}
use mathlib.Core.Logic.{◌⊎◌, inl, inr}
use lib.IntN.{ℤ, pos, ◌-ℤ◌, ◌*ℤ◌, *ℤ_comm}
use lib.Signed.{◌<ℤ◌, lt_z}
use Rattle.std.specs.List.{list_any}
use Rattle.sg_algebra.proofs.Ring.{sums, times_one}
use Rattle.sg_algebra.proofs.Comparisons.{le-from_true, true-from_le, lt-from_true, true-from_lt, left_true, right_true, both, either_true, or_left, or_right}
use Rattle.sg_distance.proofs.Below.{below-at}
use Rattle.sg_distance.proofs.Foot.{NearEdge, near_from, near_to, near_foot, AtFoot, along_of, across_of, square}
use Rattle.sg_distance.proofs.Cross.{Crosses, EdgesNear, by_a, by_b, by_c, by_d, crossed, edges_near}
use Rattle.sg_distance.proofs.Found.{Both, edges_found}
use Rattle.sg_distance.proofs.Whole.{Shown, by_bones, by_first, by_second, encloses, near_shown, shown_near}
use Rattle.sg_shape.specs.Plane.{Point, Parts, on_edge}
use Rattle.sg_segment.specs.Sides.{point_at, cross}
use Rattle.sg_distance.specs.Figure.{on_any, bones, chains, Sound}
use Rattle.sg_distance.proofs.Nearness.{NearByEdges, Below, SquareWithin}
use Rattle.sg_shape.specs.declared.spots.Spot.{Spot}
use Rattle.sg_shape.specs.declared.spots.Edge.{Edge}
use Rattle.sg_distance.specs.Edges.{below, dot_at, gap_at, foot_test, spot_test, one_side, two_sides, cross_test, edges_test}

pub below_true : (s : Bool) (a b : ℤ) → below s a b ≡ true → Below s a b
below_true true a b h = lt-from_true a b h
below_true false a b h = le-from_true a b h

pub true_below : (s : Bool) (a b : ℤ) → Below s a b → below s a b ≡ true
true_below true a b h = true-from_lt a b h
true_below false a b h = true-from_le a b h

-- at a spot
across-spot : (a b c : Spot) → across_of a b (point_at c) ≡ cross a b c
across-spot a b c = rw (times_one a.x, times_one a.y, *ℤ_comm (c.y -ℤ a.y) (b.x -ℤ a.x), *ℤ_comm (c.x -ℤ a.x) (b.y -ℤ a.y)) refl

along-spot : (a b c : Spot) → along_of a b (point_at c) ≡ dot_at a b c
along-spot a b c = rw (times_one a.x, times_one a.y) refl

near-spot : (strict : Bool) (D : ℤ) (a c : Spot) → SquareWithin strict D (point_at c) (point_at a) → Below strict (gap_at a c) D
near-spot strict D a c h = rw (times_one c.x, times_one c.y, times_one a.x, times_one a.y, times_one D) at h

spot-near : (strict : Bool) (D : ℤ) (a c : Spot) → Below strict (gap_at a c) D → SquareWithin strict D (point_at c) (point_at a)
spot-near strict D a c h = rw (times_one c.x, times_one c.y, times_one a.x, times_one a.y, times_one D) h

foot-spot : (strict : Bool) (D : ℤ) (c : Spot) (e : Edge) → AtFoot strict D (point_at c) e.from e.to → foot_test strict D c e ≡ true
foot-spot strict D c e f =
    let h : pos 0 <ℤ along_of e.from e.to (point_at c) = f.after in
    let k : along_of e.from e.to (point_at c) <ℤ (square e.from e.to *ℤ pos 1) = f.before in
    let l : along_of e.from e.to (point_at c) ≡ dot_at e.from e.to c = along-spot e.from e.to c in
    let q : square e.from e.to *ℤ pos 1 ≡ gap_at e.from e.to = times_one (square e.from e.to) in
    both (lt_z (pos 0) (dot_at e.from e.to c)) _ (true-from_lt (pos 0) (dot_at e.from e.to c) (omega (arith, sums)))
    (both (lt_z (dot_at e.from e.to c) (gap_at e.from e.to)) _ (true-from_lt (dot_at e.from e.to c) (gap_at e.from e.to) (omega (arith, sums)))
    (true_below strict (cross e.from e.to c *ℤ cross e.from e.to c) (D *ℤ gap_at e.from e.to)
    (below-at strict _ _ _ _ (ap (λ (v : ℤ). v *ℤ v) (across-spot e.from e.to c)) (ap (λ (v : ℤ). v *ℤ gap_at e.from e.to) (times_one D)) f.line)))

spot-foot : (strict : Bool) (D : ℤ) (c : Spot) (e : Edge) → foot_test strict D c e ≡ true → AtFoot strict D (point_at c) e.from e.to
spot-foot strict D c e t =
    let h : pos 0 <ℤ dot_at e.from e.to c = lt-from_true (pos 0) (dot_at e.from e.to c) (left_true (lt_z (pos 0) (dot_at e.from e.to c)) (lt_z (dot_at e.from e.to c) (gap_at e.from e.to) && below strict (cross e.from e.to c *ℤ cross e.from e.to c) (D *ℤ gap_at e.from e.to)) t) in
    let r : (lt_z (dot_at e.from e.to c) (gap_at e.from e.to) && below strict (cross e.from e.to c *ℤ cross e.from e.to c) (D *ℤ gap_at e.from e.to)) ≡ true = right_true (lt_z (pos 0) (dot_at e.from e.to c)) (lt_z (dot_at e.from e.to c) (gap_at e.from e.to) && below strict (cross e.from e.to c *ℤ cross e.from e.to c) (D *ℤ gap_at e.from e.to)) t in
    let k : dot_at e.from e.to c <ℤ gap_at e.from e.to = lt-from_true (dot_at e.from e.to c) (gap_at e.from e.to) (left_true (lt_z (dot_at e.from e.to c) (gap_at e.from e.to)) (below strict (cross e.from e.to c *ℤ cross e.from e.to c) (D *ℤ gap_at e.from e.to)) r) in
    let l : along_of e.from e.to (point_at c) ≡ dot_at e.from e.to c = along-spot e.from e.to c in
    let q : square e.from e.to *ℤ pos 1 ≡ gap_at e.from e.to = times_one (square e.from e.to) in
    record {
      after = omega (arith, sums);
      before = omega (arith, sums);
      line = below-at strict _ _ _ _ (ap (λ (v : ℤ). v *ℤ v) (sym (across-spot e.from e.to c))) (ap (λ (v : ℤ). v *ℤ gap_at e.from e.to) (sym (times_one D)))
          (below_true strict (cross e.from e.to c *ℤ cross e.from e.to c) (D *ℤ gap_at e.from e.to) (right_true (lt_z (dot_at e.from e.to c) (gap_at e.from e.to)) (below strict (cross e.from e.to c *ℤ cross e.from e.to c) (D *ℤ gap_at e.from e.to)) r));
    }

spot_passes : (strict : Bool) (D : ℤ) (c : Spot) (e : Edge) → NearEdge strict D (point_at c) e.from e.to → spot_test strict D c e ≡ true
spot_passes strict D c e (near_from h) = or_left (below strict (gap_at e.from c) D) _ (true_below strict (gap_at e.from c) D (near-spot strict D e.from c h))
spot_passes strict D c e (near_to h) = or_right (below strict (gap_at e.from c) D) _ (or_left (below strict (gap_at e.to c) D) _ (true_below strict (gap_at e.to c) D (near-spot strict D e.to c h)))
spot_passes strict D c e (near_foot f) = or_right (below strict (gap_at e.from c) D) _ (or_right (below strict (gap_at e.to c) D) (foot_test strict D c e) (foot-spot strict D c e f))

spot_means : (strict : Bool) (D : ℤ) (c : Spot) (e : Edge) → spot_test strict D c e ≡ true → NearEdge strict D (point_at c) e.from e.to
spot_means strict D c e t = elim (either_true (below strict (gap_at e.from c) D) (below strict (gap_at e.to c) D || foot_test strict D c e) t) [
  | inl l ↦ near_from (spot-near strict D e.from c (below_true strict (gap_at e.from c) D l))
  | inr r ↦ elim (either_true (below strict (gap_at e.to c) D) (foot_test strict D c e) r) [
    | inl l ↦ near_to (spot-near strict D e.to c (below_true strict (gap_at e.to c) D l))
    | inr f ↦ near_foot (spot-foot strict D c e f)
  ]
]

-- signs
side_clear : (a b : ℤ) → (pos 0 <ℤ a → pos 0 <ℤ b → ⊥) → (a <ℤ pos 0 → b <ℤ pos 0 → ⊥) → not (one_side a b) ≡ true
side_clear a b f g = clear (one_side a b) (λ t. elim (either_true (lt_z (pos 0) a && lt_z (pos 0) b) (lt_z a (pos 0) && lt_z b (pos 0)) t) [
  | inl l ↦ f (lt-from_true (pos 0) a (left_true (lt_z (pos 0) a) (lt_z (pos 0) b) l)) (lt-from_true (pos 0) b (right_true (lt_z (pos 0) a) (lt_z (pos 0) b) l))
  | inr l ↦ g (lt-from_true a (pos 0) (left_true (lt_z a (pos 0)) (lt_z b (pos 0)) l)) (lt-from_true b (pos 0) (right_true (lt_z a (pos 0)) (lt_z b (pos 0)) l))
])
  where
    clear : (t : Bool) → (t ≡ true → ⊥) → not t ≡ true
    clear true f = absurd (f refl)
    clear false f = refl

clear_true : (t : Bool) → not t ≡ true → t ≡ true → ⊥
clear_true true e f = cc
clear_true false e f = cc

cross_passes : (e f : Edge) → Crosses e.from e.to f.from f.to → cross_test e f ≡ true
cross_passes e f x =
    both (two_sides (cross e.from e.to f.from) (cross e.from e.to f.to)) (not (one_side (cross f.from f.to e.from) (cross f.from f.to e.to)))
    (sides (across_of e.from e.to (point_at f.from)) (across_of e.from e.to (point_at f.to)) (cross e.from e.to f.from) (cross e.from e.to f.to) (across-spot e.from e.to f.from) (across-spot e.from e.to f.to) x.apart)
    (side_clear (cross f.from f.to e.from) (cross f.from f.to e.to)
    (λ l m. let u : across_of f.from f.to (point_at e.from) ≡ cross f.from f.to e.from = across-spot f.from f.to e.from in let v : across_of f.from f.to (point_at e.to) ≡ cross f.from f.to e.to = across-spot f.from f.to e.to in x.not_left (omega (arith, sums)) (omega (arith, sums)))
    (λ l m. let u : across_of f.from f.to (point_at e.from) ≡ cross f.from f.to e.from = across-spot f.from f.to e.from in let v : across_of f.from f.to (point_at e.to) ≡ cross f.from f.to e.to = across-spot f.from f.to e.to in x.not_right (omega (arith, sums)) (omega (arith, sums))))
  where
    sides : (c d x y : ℤ) → c ≡ x → d ≡ y → ((c <ℤ pos 0) × (pos 0 <ℤ d)) ⊎ ((d <ℤ pos 0) × (pos 0 <ℤ c)) → two_sides x y ≡ true
    sides c d x y ex ey (inl p) =
        let a : c <ℤ pos 0 = p.0 in let b : pos 0 <ℤ d = p.1 in
        or_left (lt_z x (pos 0) && lt_z (pos 0) y) (lt_z y (pos 0) && lt_z (pos 0) x) (both (lt_z x (pos 0)) (lt_z (pos 0) y) (true-from_lt x (pos 0) (omega (arith, sums))) (true-from_lt (pos 0) y (omega (arith, sums))))
    sides c d x y ex ey (inr p) =
        let a : d <ℤ pos 0 = p.0 in let b : pos 0 <ℤ c = p.1 in
        or_right (lt_z x (pos 0) && lt_z (pos 0) y) (lt_z y (pos 0) && lt_z (pos 0) x) (both (lt_z y (pos 0)) (lt_z (pos 0) x) (true-from_lt y (pos 0) (omega (arith, sums))) (true-from_lt (pos 0) x (omega (arith, sums))))

cross_means : (e f : Edge) → cross_test e f ≡ true → Crosses e.from e.to f.from f.to
cross_means e f t =
    let s : two_sides (cross e.from e.to f.from) (cross e.from e.to f.to) ≡ true = left_true (two_sides (cross e.from e.to f.from) (cross e.from e.to f.to)) (not (one_side (cross f.from f.to e.from) (cross f.from f.to e.to))) t in
    let n : not (one_side (cross f.from f.to e.from) (cross f.from f.to e.to)) ≡ true = right_true (two_sides (cross e.from e.to f.from) (cross e.from e.to f.to)) (not (one_side (cross f.from f.to e.from) (cross f.from f.to e.to))) t in
    let u : across_of f.from f.to (point_at e.from) ≡ cross f.from f.to e.from = across-spot f.from f.to e.from in
    let v : across_of f.from f.to (point_at e.to) ≡ cross f.from f.to e.to = across-spot f.from f.to e.to in
    record {
      apart = sides (across_of e.from e.to (point_at f.from)) (across_of e.from e.to (point_at f.to)) (cross e.from e.to f.from) (cross e.from e.to f.to) (across-spot e.from e.to f.from) (across-spot e.from e.to f.to) s;
      not_left = λ l m. clear_true _ n (or_left (lt_z (pos 0) (cross f.from f.to e.from) && lt_z (pos 0) (cross f.from f.to e.to)) (lt_z (cross f.from f.to e.from) (pos 0) && lt_z (cross f.from f.to e.to) (pos 0))
          (both (lt_z (pos 0) (cross f.from f.to e.from)) (lt_z (pos 0) (cross f.from f.to e.to)) (true-from_lt (pos 0) (cross f.from f.to e.from) (omega (arith, sums))) (true-from_lt (pos 0) (cross f.from f.to e.to) (omega (arith, sums)))));
      not_right = λ l m. clear_true _ n (or_right (lt_z (pos 0) (cross f.from f.to e.from) && lt_z (pos 0) (cross f.from f.to e.to)) (lt_z (cross f.from f.to e.from) (pos 0) && lt_z (cross f.from f.to e.to) (pos 0))
          (both (lt_z (cross f.from f.to e.from) (pos 0)) (lt_z (cross f.from f.to e.to) (pos 0)) (true-from_lt (cross f.from f.to e.from) (pos 0) (omega (arith, sums))) (true-from_lt (cross f.from f.to e.to) (pos 0) (omega (arith, sums)))));
    }
  where
    sides : (c d x y : ℤ) → c ≡ x → d ≡ y → two_sides x y ≡ true → ((c <ℤ pos 0) × (pos 0 <ℤ d)) ⊎ ((d <ℤ pos 0) × (pos 0 <ℤ c))
    sides c d x y ex ey t = elim (either_true (lt_z x (pos 0) && lt_z (pos 0) y) (lt_z y (pos 0) && lt_z (pos 0) x) t) [
      | inl l ↦
          let a : x <ℤ pos 0 = lt-from_true x (pos 0) (left_true (lt_z x (pos 0)) (lt_z (pos 0) y) l) in
          let b : pos 0 <ℤ y = lt-from_true (pos 0) y (right_true (lt_z x (pos 0)) (lt_z (pos 0) y) l) in inl (omega (arith, sums), omega (arith, sums))
      | inr l ↦
          let a : y <ℤ pos 0 = lt-from_true y (pos 0) (left_true (lt_z y (pos 0)) (lt_z (pos 0) x) l) in
          let b : pos 0 <ℤ x = lt-from_true (pos 0) x (right_true (lt_z y (pos 0)) (lt_z (pos 0) x) l) in inr (omega (arith, sums), omega (arith, sums))
    ]

pub edges_pass : (strict : Bool) (D : ℤ) (e f : Edge) → EdgesNear strict D e.from e.to f.from f.to → edges_test strict D e f ≡ true
edges_pass strict D e f (crossed x) = or_left (cross_test e f) _ (cross_passes e f x)
edges_pass strict D e f (by_c n) = or_right (cross_test e f) _ (or_left (spot_test strict D f.from e) _ (spot_passes strict D f.from e n))
edges_pass strict D e f (by_d n) = or_right (cross_test e f) _ (or_right (spot_test strict D f.from e) _ (or_left (spot_test strict D f.to e) _ (spot_passes strict D f.to e n)))
edges_pass strict D e f (by_a n) = or_right (cross_test e f) _ (or_right (spot_test strict D f.from e) _ (or_right (spot_test strict D f.to e) _ (or_left (spot_test strict D e.from f) (spot_test strict D e.to f) (spot_passes strict D e.from f n))))
edges_pass strict D e f (by_b n) = or_right (cross_test e f) _ (or_right (spot_test strict D f.from e) _ (or_right (spot_test strict D f.to e) _ (or_right (spot_test strict D e.from f) (spot_test strict D e.to f) (spot_passes strict D e.to f n))))

pub edges_mean : (strict : Bool) (D : ℤ) (e f : Edge) → edges_test strict D e f ≡ true → EdgesNear strict D e.from e.to f.from f.to
edges_mean strict D e f t = elim (either_true (cross_test e f) (spot_test strict D f.from e || (spot_test strict D f.to e || (spot_test strict D e.from f || spot_test strict D e.to f))) t) [
  | inl x ↦ crossed (cross_means e f x)
  | inr t1 ↦ elim (either_true (spot_test strict D f.from e) (spot_test strict D f.to e || (spot_test strict D e.from f || spot_test strict D e.to f)) t1) [
    | inl n ↦ by_c (spot_means strict D f.from e n)
    | inr t2 ↦ elim (either_true (spot_test strict D f.to e) (spot_test strict D e.from f || spot_test strict D e.to f) t2) [
      | inl n ↦ by_d (spot_means strict D f.to e n)
      | inr t3 ↦ elim (either_true (spot_test strict D e.from f) (spot_test strict D e.to f) t3) [
        | inl n ↦ by_a (spot_means strict D e.from f n)
        | inr n ↦ by_b (spot_means strict D e.to f n)
      ]
    ]
  ]
]

-- ---- lists of edges
abbrev pub bones_test : Bool → ℤ → List Edge → List Edge → Bool
bones_test strict D es fs = list_any (λ e. list_any (λ f. edges_test strict D e f) fs) es

any_second : (strict : Bool) (D : ℤ) (e : Edge) (fs : List Edge) (z w : Point) → on_edge e z ≡ true → on_any fs w ≡ true → SquareWithin strict D z w → list_any (λ f. edges_test strict D e f) fs ≡ true
any_second strict D e [] z w oz ow n = absurd (cc)
any_second strict D e (f ∷ fs) z w oz ow n = elim (either_true (on_edge f w) (on_any fs w) ow) [
  | inl l ↦ or_left (edges_test strict D e f) (list_any (λ g. edges_test strict D e g) fs) (edges_pass strict D e f (edges_near strict D e.from e.to f.from f.to z w oz l n))
  | inr l ↦ or_right (edges_test strict D e f) (list_any (λ g. edges_test strict D e g) fs) (any_second strict D e fs z w oz l n)
]

pub bones_pass : (strict : Bool) (D : ℤ) (es fs : List Edge) (z w : Point) → on_any es z ≡ true → on_any fs w ≡ true → SquareWithin strict D z w → bones_test strict D es fs ≡ true
bones_pass strict D [] fs z w oz ow n = absurd (cc)
bones_pass strict D (e ∷ es) fs z w oz ow n = elim (either_true (on_edge e z) (on_any es z) oz) [
  | inl l ↦ or_left (list_any (λ f. edges_test strict D e f) fs) (bones_test strict D es fs) (any_second strict D e fs z w l ow n)
  | inr l ↦ or_right (list_any (λ f. edges_test strict D e f) fs) (bones_test strict D es fs) (bones_pass strict D es fs z w l ow n)
]

pub record Pair (strict : Bool) (D : ℤ) (es fs : List Edge) : Type 0 where
  pub z : Point
  pub w : Point
  pub first : on_any es z ≡ true
  pub second : on_any fs w ≡ true
  pub near : SquareWithin strict D z w

second_mean : (strict : Bool) (D : ℤ) (e : Edge) (fs : List Edge) → Below strict (pos 0) D → list_any (λ f. edges_test strict D e f) fs ≡ true → Pair strict D (e ∷ []) fs
second_mean strict D e [] o t = absurd (cc)
second_mean strict D e (f ∷ fs) o t = elim (either_true (edges_test strict D e f) (list_any (λ g. edges_test strict D e g) fs) t) [
  | inl l ↦
      let b : Both strict D e f = edges_found strict D e.from e.to f.from f.to o (edges_mean strict D e f l) in
      record { z = b.z; w = b.w; first = or_left (on_edge e b.z) false b.on_first; second = or_left (on_edge f b.w) (on_any fs b.w) b.on_second; near = b.near }
  | inr l ↦
      let p : Pair strict D (e ∷ []) fs = second_mean strict D e fs o l in
      record { z = p.z; w = p.w; first = p.first; second = or_right (on_edge f p.w) (on_any fs p.w) p.second; near = p.near }
]

pub bones_mean : (strict : Bool) (D : ℤ) (es fs : List Edge) → Below strict (pos 0) D → bones_test strict D es fs ≡ true → Pair strict D es fs
bones_mean strict D [] fs o t = absurd (cc)
bones_mean strict D (e ∷ es) fs o t = elim (either_true (list_any (λ f. edges_test strict D e f) fs) (bones_test strict D es fs) t) [
  | inl l ↦
      let p : Pair strict D (e ∷ []) fs = second_mean strict D e fs o l in
      record { z = p.z; w = p.w; first = or_left (on_edge e p.z) (on_any es p.z) (one (on_edge e p.z) p.first); second = p.second; near = p.near }
  | inr l ↦
      let p : Pair strict D es fs = bones_mean strict D es fs o l in
      record { z = p.z; w = p.w; first = or_right (on_edge e p.z) (on_any es p.z) p.first; second = p.second; near = p.near }
]
  where
    one : (b : Bool) → (b || false) ≡ true → b ≡ true
    one true t = refl
    one false t = t

-- ---- the whole test
abbrev pub near_test : Bool → ℤ → Parts → Parts → Bool
near_test strict D a b = below strict (pos 0) D && (bones_test strict D (bones a) (bones b) || (encloses a.areas (chains b) || encloses b.areas (chains a)))

pub near_tested : (strict : Bool) (D : ℤ) (a b : Parts) → Sound a → Sound b → Below strict (pos 0) D → NearByEdges strict D a b → near_test strict D a b ≡ true
near_tested strict D a b sa sb o n = both (below strict (pos 0) D) _ (true_below strict (pos 0) D o) (by_shown (near_shown strict D a b sa sb n))
  where
    by_shown : Shown strict D a b → (bones_test strict D (bones a) (bones b) || (encloses a.areas (chains b) || encloses b.areas (chains a))) ≡ true
    by_shown (by_bones m) = or_left (bones_test strict D (bones a) (bones b)) _ (bones_pass strict D (bones a) (bones b) m.z m.w m.of_a m.of_b m.near)
    by_shown (by_first h) = or_right (bones_test strict D (bones a) (bones b)) _ (or_left (encloses a.areas (chains b)) (encloses b.areas (chains a)) h)
    by_shown (by_second h) = or_right (bones_test strict D (bones a) (bones b)) _ (or_right (encloses a.areas (chains b)) (encloses b.areas (chains a)) h)

pub tested_near : (strict : Bool) (D : ℤ) (a b : Parts) → Sound a → Sound b → near_test strict D a b ≡ true → NearByEdges strict D a b
tested_near strict D a b sa sb t =
    let o : Below strict (pos 0) D = below_true strict (pos 0) D (left_true (below strict (pos 0) D) (bones_test strict D (bones a) (bones b) || (encloses a.areas (chains b) || encloses b.areas (chains a))) t) in
    shown_near strict D a b sa sb o (shown o (right_true (below strict (pos 0) D) (bones_test strict D (bones a) (bones b) || (encloses a.areas (chains b) || encloses b.areas (chains a))) t))
  where
    shown : Below strict (pos 0) D → (bones_test strict D (bones a) (bones b) || (encloses a.areas (chains b) || encloses b.areas (chains a))) ≡ true → Shown strict D a b
    shown o t = elim (either_true (bones_test strict D (bones a) (bones b)) (encloses a.areas (chains b) || encloses b.areas (chains a)) t) [
      | inl l ↦ let p : Pair strict D (bones a) (bones b) = bones_mean strict D (bones a) (bones b) o l in by_bones (record { z = p.z; w = p.w; of_a = p.first; of_b = p.second; near = p.near })
      | inr l ↦ elim (either_true (encloses a.areas (chains b)) (encloses b.areas (chains a)) l) [ inl h ↦ by_first h | inr h ↦ by_second h ]
    ]
