-- A point of a chain in an area: the chain meets the area's edges, or its first spot lies in the area.
use Rattle.std.proofs.Common.{◌≡◌, refl, sym, ◌∙◌, Bool, true, false, List, [], ◌∷◌, ◌++◌}
use Rattle.std.specs.List.{list_any}
use mathlib.Core.Bool.{◌||◌}
use mathlib.Core.Logic.{◌⊎◌, inl, inr}
use Rattle.sg_algebra.proofs.Comparisons.{either_true, or_left, or_right}
use Rattle.sg_distance.proofs.Mix.{along-on, on-from, on-to}
use Rattle.sg_distance.proofs.Walk.{Even, walk_rings, any-left, any-right}
use Rattle.sg_shape.specs.Plane.{Point, on_edge, edges_from, edges_of}
use Rattle.sg_segment.specs.Sides.{point_at}
use Rattle.sg_segment.specs.Statuses.{xor, parity}
use Rattle.sg_distance.specs.Figure.{Closed, on_any}
use Rattle.sg_shape.specs.declared.spots.Spot.{Spot}
use Rattle.sg_shape.specs.declared.spots.Edge.{Edge}

-- the point is In or Bd in the area
abbrev pub holds : List (List Spot) → Point → Bool
holds rs p = on_any (edges_of rs) p || parity (edges_of rs) p

-- the two lists of edges have a common point
pub record Touch (es fs : List Edge) : Type 0 where
  pub z : Point
  pub first : on_any es z ≡ true
  pub second : on_any fs z ≡ true

pub same_parity : (a b : Bool) → xor a b ≡ false → a ≡ b
same_parity true true e = refl
same_parity true false e = e
same_parity false true e = sym e
same_parity false false e = refl

-- along an edge from a point in the area
step : (rs : List (List Spot)) → Closed rs → (e : Edge) (q r : Point) → on_edge e q ≡ true → on_edge e r ≡ true → holds rs q ≡ true →
    Touch (e ∷ []) (edges_of rs) ⊎ (holds rs r ≡ true)
step rs c e q r oq or' h = elim (either_true (on_any (edges_of rs) q) (parity (edges_of rs) q) h) [
  | inl l ↦ inl (record { z = q; first = or_left (on_edge e q) false oq; second = l })
  | inr l ↦ go (walk_rings q r rs c) l
]
  where
    go : Even q r (edges_of rs) → parity (edges_of rs) q ≡ true → Touch (e ∷ []) (edges_of rs) ⊎ (holds rs r ≡ true)
    go (inl m) l = inl (record { z = m.z; first = or_left (on_edge e m.z) false (along-on e q r m.z m.along oq or'); second = m.on })
    go (inr s) l = inr (or_right (on_any (edges_of rs) r) (parity (edges_of rs) r) (sym (same_parity (parity (edges_of rs) q) (parity (edges_of rs) r) s) ∙ l))

one_any : (e : Edge) (z : Point) → on_any (e ∷ []) z ≡ true → on_edge e z ≡ true
one_any e z h = elim (either_true (on_edge e z) false h) [ inl l ↦ l | inr r ↦ absurd (cc) ]

touch_first : (e : Edge) (es fs : List Edge) → Touch (e ∷ []) fs → Touch (e ∷ es) fs
touch_first e es fs t = record { z = t.z; first = or_left (on_edge e t.z) (on_any es t.z) (one_any e t.z t.first); second = t.second }

touch_rest : (e : Edge) (es fs : List Edge) → Touch es fs → Touch (e ∷ es) fs
touch_rest e es fs t = record { z = t.z; first = or_right (on_edge e t.z) (on_any es t.z) t.first; second = t.second }

abbrev edge : Spot → Spot → Edge
edge u v = record { from = u; to = v }

pub reach_chain : (rs : List (List Spot)) → Closed rs → (s : Spot) (ss : List Spot) (q : Point) → on_any (edges_from s ss) q ≡ true → holds rs q ≡ true →
    Touch (edges_from s ss) (edges_of rs) ⊎ (holds rs (point_at s) ≡ true)
reach_chain rs c s [] q o h = absurd (cc)
reach_chain rs c s (t ∷ ts) q o h = by_place (λ r. reach_chain rs c t ts q r h) (either_true (on_edge (edge s t) q) (on_any (edges_from t ts) q) o)
  where
    back : (r : Point) → on_edge (edge s t) r ≡ true → holds rs r ≡ true → Touch (edges_from s (t ∷ ts)) (edges_of rs) ⊎ (holds rs (point_at s) ≡ true)
    back r o h = elim (step rs c (edge s t) r (point_at s) o (on-from s t) h) [
      | inl m ↦ inl (touch_first (edge s t) (edges_from t ts) (edges_of rs) m)
      | inr k ↦ inr k
    ]

    by_place : (on_any (edges_from t ts) q ≡ true → Touch (edges_from t ts) (edges_of rs) ⊎ (holds rs (point_at t) ≡ true)) → (on_edge (edge s t) q ≡ true) ⊎ (on_any (edges_from t ts) q ≡ true) → Touch (edges_from s (t ∷ ts)) (edges_of rs) ⊎ (holds rs (point_at s) ≡ true)
    by_place f (inl l) = back q l h
    by_place f (inr r) = elim (f r) [
      | inl m ↦ inl (touch_rest (edge s t) (edges_from t ts) (edges_of rs) m)
      | inr k ↦ back (point_at t) (on-to s t) k
    ]

-- the first spot of some line or ring lies in the area
abbrev pub first_inside : List (List Spot) → List (List Spot) → Bool
first_inside rs [] = false
first_inside rs ([] ∷ ls) = first_inside rs ls
first_inside rs ((s ∷ ss) ∷ ls) = holds rs (point_at s) || first_inside rs ls

pub touch_left : (es fs gs : List Edge) → Touch es gs → Touch (es ++ fs) gs
touch_left es fs gs t = record { z = t.z; first = any-left (λ e. on_edge e t.z) es fs t.first; second = t.second }

touch_right : (es fs gs : List Edge) → Touch fs gs → Touch (es ++ fs) gs
touch_right es fs gs t = record { z = t.z; first = any-right (λ e. on_edge e t.z) es fs t.first; second = t.second }

pub any-split : (f : Edge → Bool) (es fs : List Edge) → list_any f (es ++ fs) ≡ true → (list_any f es ≡ true) ⊎ (list_any f fs ≡ true)
any-split f [] fs h = inr h
any-split f (e ∷ es) fs h = elim (either_true (f e) (list_any f (es ++ fs)) h) [
  | inl l ↦ inl (or_left (f e) (list_any f es) l)
  | inr r ↦ elim (any-split f es fs r) [ inl a ↦ inl (or_right (f e) (list_any f es) a) | inr b ↦ inr b ]
]

-- a point of the lines or rings that lies in the area
pub reach_lines : (rs : List (List Spot)) → Closed rs → (ls : List (List Spot)) (q : Point) → on_any (edges_of ls) q ≡ true → holds rs q ≡ true →
    Touch (edges_of ls) (edges_of rs) ⊎ (first_inside rs ls ≡ true)
reach_lines rs c [] q o h = absurd (cc)
reach_lines rs c ([] ∷ ls) q o h = reach_lines rs c ls q o h
reach_lines rs c ((s ∷ ss) ∷ ls) q o h = by_place (λ r. reach_lines rs c ls q r h) (any-split (λ e. on_edge e q) (edges_from s ss) (edges_of ls) o)
  where
    by_place : (on_any (edges_of ls) q ≡ true → Touch (edges_of ls) (edges_of rs) ⊎ (first_inside rs ls ≡ true)) → (on_any (edges_from s ss) q ≡ true) ⊎ (on_any (edges_of ls) q ≡ true) → Touch (edges_of ((s ∷ ss) ∷ ls)) (edges_of rs) ⊎ (first_inside rs ((s ∷ ss) ∷ ls) ≡ true)
    by_place f (inl l) = elim (reach_chain rs c s ss q l h) [
      | inl m ↦ inl (touch_left (edges_from s ss) (edges_of ls) (edges_of rs) m)
      | inr k ↦ inr (or_left (holds rs (point_at s)) (first_inside rs ls) k)
    ]
    by_place f (inr r) = elim (f r) [
      | inl m ↦ inl (touch_right (edges_from s ss) (edges_of ls) (edges_of rs) m)
      | inr k ↦ inr (or_right (holds rs (point_at s)) (first_inside rs ls) k)
    ]
