-- A path without one of its spots, where the way over that spot and the short way are one to the points of a box.
use Rattle.std.proofs.Common.{◌≡◌, refl, sym, ap, ◌∙◌, Bool, true, false, List, [], ◌∷◌, ◌++◌}
use mathlib.Core.Bool.{◌&&◌, ◌||◌, not}
use Rattle.sg_segment.proofs.Parity.{xor_assoc}
use Rattle.sg_segment.specs.Statuses.{xor, parity}
use Rattle.sg_distance.specs.Figure.{on_any}
use Rattle.sg_shape.specs.declared.cells.CellBox.{CellBox}
use Rattle.sg_shape.specs.declared.spots.Spot.{Spot}
use Rattle.sg_shape.specs.Plane.{Point, on_edge, crosses_ray, edges, edges_from, last_of, same_spot, is_at, ends_at}
use Rattle.sg_shape.specs.Boxes.{in_box}
use Rattle.sg_shape.specs.Sound.{is_open}
use Rattle.sg_nearby.proofs.Beside.{Idle}

-- a path does for another in the box
pub record Alike (c : CellBox) (ss ts : List Spot) : Type 0 where
  pub on : (p : Point) → in_box c p ≡ true → on_any (edges ss) p ≡ on_any (edges ts) p
  pub odd : (p : Point) → in_box c p ≡ true → parity (edges ss) p ≡ parity (edges ts) p
  pub ends : is_open ss ≡ is_open ts
  pub tips : (p : Point) → ends_at p ss ≡ ends_at p ts

pub alike_first : (c : CellBox) (ss : List Spot) → Alike c ss ss
alike_first c ss = record { on = λ p h. refl; odd = λ p h. refl; ends = refl; tips = λ p. refl }

-- from a first spot on
on_from : (p : Point) (s t u : Spot) → Idle s t u p → (k : Spot) (ks rest : List Spot) → on_any (edges_from k (ks ++ s ∷ u ∷ rest)) p ≡ on_any (edges_from k (ks ++ s ∷ t ∷ u ∷ rest)) p
on_from p s t u i k [] rest = ap (λ (b : Bool). on_edge (record { from = k; to = s }) p || b) (sym (on_first p s t u i rest))
  where
    on_first : (p : Point) (s t u : Spot) → Idle s t u p → (rest : List Spot) → on_any (edges_from s (t ∷ u ∷ rest)) p ≡ on_any (edges_from s (u ∷ rest)) p
    on_first p s t u i rest = rw (i.first, i.second, i.short) refl
on_from p s t u i k (l ∷ ks) rest = ap (λ (b : Bool). on_edge (record { from = k; to = l }) p || b) (on_from p s t u i l ks rest)

odd_from : (p : Point) (s t u : Spot) → Idle s t u p → (k : Spot) (ks rest : List Spot) → parity (edges_from k (ks ++ s ∷ u ∷ rest)) p ≡ parity (edges_from k (ks ++ s ∷ t ∷ u ∷ rest)) p
odd_from p s t u i k [] rest = ap (λ (b : Bool). xor (crosses_ray (record { from = k; to = s }) p) b) (odd_first p s t u i rest)
  where
    odd_first : (p : Point) (s t u : Spot) → Idle s t u p → (rest : List Spot) → parity (edges_from s (u ∷ rest)) p ≡ parity (edges_from s (t ∷ u ∷ rest)) p
    odd_first p s t u i rest =
        ap (λ (b : Bool). xor b (parity (edges_from u rest) p)) (sym i.odd)
        ∙ sym (xor_assoc (crosses_ray (record { from = s; to = t }) p) (crosses_ray (record { from = t; to = u }) p) (parity (edges_from u rest) p))
odd_from p s t u i k (l ∷ ks) rest = ap (λ (b : Bool). xor (crosses_ray (record { from = k; to = l }) p) b) (odd_from p s t u i l ks rest)

on_path : (p : Point) (s t u : Spot) → Idle s t u p → (ks rest : List Spot) → on_any (edges (ks ++ s ∷ u ∷ rest)) p ≡ on_any (edges (ks ++ s ∷ t ∷ u ∷ rest)) p
on_path p s t u i [] rest = rw (i.first, i.second, i.short) refl
on_path p s t u i (k ∷ ks) rest = on_from p s t u i k ks rest

odd_path : (p : Point) (s t u : Spot) → Idle s t u p → (ks rest : List Spot) → parity (edges (ks ++ s ∷ u ∷ rest)) p ≡ parity (edges (ks ++ s ∷ t ∷ u ∷ rest)) p
odd_path p s t u i [] rest =
    ap (λ (b : Bool). xor b (parity (edges_from u rest) p)) (sym i.odd)
    ∙ sym (xor_assoc (crosses_ray (record { from = s; to = t }) p) (crosses_ray (record { from = t; to = u }) p) (parity (edges_from u rest) p))
odd_path p s t u i (k ∷ ks) rest = odd_from p s t u i k ks rest

last_same : (s t u k : Spot) (ks rest : List Spot) → last_of k (ks ++ s ∷ u ∷ rest) ≡ last_of k (ks ++ s ∷ t ∷ u ∷ rest)
last_same s t u k [] rest = refl
last_same s t u k (l ∷ ks) rest = last_same s t u l ks rest

ends_same : (s t u : Spot) (ks rest : List Spot) → is_open (ks ++ s ∷ u ∷ rest) ≡ is_open (ks ++ s ∷ t ∷ u ∷ rest)
ends_same s t u [] rest = refl
ends_same s t u (k ∷ ks) rest = ap (λ (l : Spot). not (same_spot k l)) (last_same s t u k ks rest)

tips_same : (p : Point) (s t u : Spot) (ks rest : List Spot) → ends_at p (ks ++ s ∷ u ∷ rest) ≡ ends_at p (ks ++ s ∷ t ∷ u ∷ rest)
tips_same p s t u [] rest = refl
tips_same p s t u (k ∷ ks) rest = ap (λ (l : Spot). not (same_spot k l) && (is_at k p || is_at l p)) (last_same s t u k ks rest)

pub shorter : (c : CellBox) (s t u : Spot) (ks rest path : List Spot) → ((p : Point) → in_box c p ≡ true → Idle s t u p) → Alike c (ks ++ s ∷ t ∷ u ∷ rest) path → Alike c (ks ++ s ∷ u ∷ rest) path
shorter c s t u ks rest path i a = record {
  on = λ p h. on_path p s t u (i p h) ks rest ∙ a.on p h;
  odd = λ p h. odd_path p s t u (i p h) ks rest ∙ a.odd p h;
  ends = ends_same s t u ks rest ∙ a.ends;
  tips = λ p. tips_same p s t u ks rest ∙ a.tips p;
}
