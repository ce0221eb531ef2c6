-- Each spot of a shape is one of its points, and each of its points lies in what holds its spots.
use Rattle.std.proofs.Common.{suc, ◌≡◌, arith, sym, ◌∙◌, subst, true, false, List, [], ◌∷◌, ◌++◌, flat_map}
use Rattle.std.specs.List.{All}
use Rattle.std.proofs.lemmas.List.Elements.{All-append, All-weaker}
use Rattle.sg_algebra.proofs.Comparisons.{or_left, or_right}
use Rattle.sg_segment.specs.Sides.{point_at}
use Rattle.sg_distance.specs.Figure.{on_any, bones, inside_any, Joined}
use Rattle.sg_distance.specs.Shapes.{lines_of}
use Rattle.sg_distance.proofs.Bounds.{EdgesIn, lines_in, figure_in}
use Rattle.sg_distance.proofs.Mix.{on-from, on-to}
use Rattle.sg_distance.proofs.Walk.{any-left, any-right}
use Rattle.sg_distance.proofs.Points.{has_status}
use Rattle.sg_distance.proofs.Soundness.{all_cons, all_none, lines_joined, chains_are, sound_of, on_lines}
use Rattle.sg_shape.specs.declared.bounds.Bounds.{Bounds}
use Rattle.sg_shape.specs.declared.spots.Spot.{Spot}
use Rattle.sg_shape.specs.declared.spots.Edge.{Edge}
use Rattle.sg_shape.specs.declared.shapes.Shape.{Shape}
use Rattle.sg_shape.specs.declared.shapes.Shape.TheVariants as shape
use Rattle.sg_shape.specs.Plane.{Point, on_edge, edges_from, edges_of}
use Rattle.sg_shape.specs.Shapes.{parts_of, spots}
use Rattle.sg_shape.specs.Sound.{IsSound}
use Rattle.sg_shape.specs.Bounds.{IsInside}
use Rattle.sg_shape.specs.Boxes.{HasPoint}
use Rattle.sg_shape.specs.Grown.{PointIn}

On : List Edge → Spot → Type 0
On es t = on_any es (point_at t) ≡ true

on_line : (s t : Spot) (ts : List Spot) → All (On (edges_from s (t ∷ ts))) (s ∷ t ∷ ts)
unfolding On
on_line s t [] =
    all_cons (On (edges_from s (t ∷ []))) s (t ∷ []) (or_left (on_edge (record { from = s; to = t }) (point_at s)) false (on-from s t))
    (all_cons (On (edges_from s (t ∷ []))) t [] (or_left (on_edge (record { from = s; to = t }) (point_at t)) false (on-to s t)) (all_none (On (edges_from s (t ∷ [])))))
on_line s t (u ∷ us) =
    all_cons (On (edges_from s (t ∷ u ∷ us))) s (t ∷ u ∷ us) (or_left (on_edge (record { from = s; to = t }) (point_at s)) (on_any (edges_from t (u ∷ us)) (point_at s)) (on-from s t))
    (All-weaker (On (edges_from t (u ∷ us))) (On (edges_from s (t ∷ u ∷ us))) (λ x h. or_right (on_edge (record { from = s; to = t }) (point_at x)) (on_any (edges_from t (u ∷ us)) (point_at x)) h) (t ∷ u ∷ us) (on_line t u us))

each_on : (ls : List (List Spot)) → Joined ls → All (All (On (edges_of ls))) ls
unfolding On
each_on [] j = all_none (All (On []))
each_on ([] ∷ ls) j = absurd j
each_on ((s ∷ []) ∷ ls) j = absurd j
each_on ((s ∷ t ∷ ts) ∷ ls) j =
    let es : List Edge = edges_from s (t ∷ ts) in
    all_cons (All (On (es ++ edges_of ls))) (s ∷ t ∷ ts) ls
    (All-weaker (On es) (On (es ++ edges_of ls)) (λ x h. any-left (λ e. on_edge e (point_at x)) es (edges_of ls) h) (s ∷ t ∷ ts) (on_line s t ts))
    (All-weaker (All (On (edges_of ls))) (All (On (es ++ edges_of ls)))
    (λ l h. All-weaker (On (edges_of ls)) (On (es ++ edges_of ls)) (λ x k. any-right (λ e. on_edge e (point_at x)) es (edges_of ls) k) l h) ls (each_on ls j))

all_flat : (P : Spot → Type 0) (rings : List (List Spot)) → All (All P) rings → All P (flat_map (λ ring. ring) rings)
all_flat P [] h = all_none P
all_flat P (r ∷ rs) h = All-append P r (flat_map (λ ring. ring) rs) (h 0 r (omega arith)) (all_flat P rs (λ n d l. h (suc n) d (omega arith)))

all_spots : (P : Spot → Type 0) (k : Shape) → All (All P) (lines_of k) → All P (spots k)
all_spots P (shape.Empty kind) h = all_none P
all_spots P (shape.Point s) h = all_cons P s [] (h 0 (s ∷ s ∷ []) (omega arith) 0 s (omega arith)) (all_none P)
all_spots P (shape.Line path) h = h 0 path (omega arith)
all_spots P (shape.Polygon rings) h = all_flat P rings h

pub spots_held : (k : Shape) → IsSound k → All (λ t. HasPoint (parts_of k) (point_at t)) (spots k)
unfolding On
spots_held k s =
    all_spots (λ t. HasPoint (parts_of k) (point_at t)) k
    (All-weaker (All (On (edges_of (lines_of k)))) (All (λ t. HasPoint (parts_of k) (point_at t)))
    (λ l h. All-weaker (On (edges_of (lines_of k))) (λ t. HasPoint (parts_of k) (point_at t)) held l h) (lines_of k) (each_on (lines_of k) (lines_joined k s)))
  where
    held : (t : Spot) → on_any (edges_of (lines_of k)) (point_at t) ≡ true → HasPoint (parts_of k) (point_at t)
    held t h =
        let b : on_any (bones (parts_of k)) (point_at t) ≡ true = subst (λ (ls : List (List Spot)). on_any (edges_of ls) (point_at t) ≡ true) (sym (chains_are k)) h in
        sym (has_status (parts_of k) (sound_of k s) (point_at t)) ∙ or_left (on_any (bones (parts_of k)) (point_at t)) (inside_any (parts_of k).areas (point_at t)) b

pub points_in : (k : Shape) (b : Bounds) → IsSound k → All (IsInside b) (spots k) → (p : Point) → HasPoint (parts_of k) p → PointIn b p
points_in k b s i p h =
    figure_in b (parts_of k) (sound_of k s)
    (subst (λ (ls : List (List Spot)). EdgesIn b (edges_of ls)) (sym (chains_are k)) (lines_in b (lines_of k) (on_lines (IsInside b) k i)))
    p (has_status (parts_of k) (sound_of k s) p ∙ h)
