-- The status of a point in a line or an area, by the edges.
use Rattle.std.proofs.Common.{ℕ, zero, suc, ◌≡◌, ◌+◌, ◌<◌, ◌%◌, arith, refl, ap, ◌∙◌, Bool, true, false, not, cond, List, [], ◌∷◌, ◌++◌}
use Rattle.std.specs.List.{count_by}
use Rattle.std.proofs.lemmas.List.Sums.{sum_by-cons}
use mathlib.Core.Bool.{◌||◌}
use Rattle.sg_segment.specs.Statuses.{xor, parity}
use Rattle.sg_distance.specs.Figure.{on_any}
use Rattle.sg_shape.specs.declared.spots.Spot.{Spot}
use Rattle.sg_shape.specs.declared.spots.Edge.{Edge}
use Rattle.sg_shape.specs.declared.shapes.Shape.TheVariants as shape
use Rattle.sg_shape.specs.Plane.{Point, Status, In, Bd, Out, is_in, is_bd, odd, ends_at, crosses_ray, edges, edges_of}
use Rattle.sg_shape.specs.Shapes.{status_in}

-- ---- an odd number of edges
odd-suc : (n : ℕ) → odd (1 + n) ≡ not (odd n)
odd-suc n = by_rest (n % 2) (omega arith) refl
  where
    by_rest : (r : ℕ) → r < 2 → n % 2 ≡ r → odd (1 + n) ≡ not (odd n)
    by_rest zero h e = let f : (1 + n) % 2 ≡ 1 = omega arith in rw (e, f) refl
    by_rest (suc zero) h e = let f : (1 + n) % 2 ≡ 0 = omega arith in rw (e, f) refl
    by_rest (suc (suc r)) h e = absurd (omega arith)

odd-parity : (es : List Edge) (p : Point) → odd (count_by (λ e. crosses_ray e p) es) ≡ parity es p
odd-parity [] p = refl
odd-parity (e ∷ es) p =
    ap odd (sum_by-cons (λ f. cond (crosses_ray f p) 1 0) e es) ∙ by_test (crosses_ray e p) (count_by (λ f. crosses_ray f p) es) (parity es p) (odd-parity es p)
  where
    by_test : (b : Bool) (n : ℕ) (t : Bool) → odd n ≡ t → odd (cond b 1 0 + n) ≡ xor b t
    by_test true n t e = odd-suc n ∙ ap not e
    by_test false n t e = let f : 0 + n ≡ n = omega arith in rw f e

-- ---- the status in one part alone
alone : (s : Status) → cond (is_in s || false) In (cond (is_bd s || false) Bd Out) ≡ s
alone In = refl
alone Bd = refl
alone Out = refl

-- on the boundary along the rings, else inside where an odd number of their edges is on the right
pub area_is : (rings : List (List Spot)) (p : Point) → status_in (shape.Polygon rings) p ≡ cond (on_any (edges_of rings) p) Bd (cond (parity (edges_of rings) p) In Out)
area_is rings p =
    alone (cond (on_any (edges_of rings) p) Bd (cond (odd (count_by (λ e. crosses_ray e p) (edges_of rings))) In Out))
    ∙ ap (λ (b : Bool). cond (on_any (edges_of rings) p) Bd (cond b In Out)) (odd-parity (edges_of rings) p)

-- on the boundary at the ends, else inside along the edges
pub line_is : (path : List Spot) (p : Point) → status_in (shape.Line path) p ≡ cond (ends_at p path) Bd (cond (on_any (edges path) p) In Out)
line_is path p =
    alone (cond (odd (count_by (ends_at p) (path ∷ []))) Bd (cond (on_any (edges path ++ []) p) In Out))
    ∙ (λ i. cond (one_end i) Bd (cond (on_any (append_nil (edges path) i) p) In Out))
  where
    append_nil : (es : List Edge) → es ++ [] ≡ es
    append_nil [] = refl
    append_nil (e ∷ es) = ap (λ fs. e ∷ fs) (append_nil es)

    by_test : (b : Bool) → odd (cond b 1 0 + 0) ≡ b
    by_test true = refl
    by_test false = refl

    one_end : odd (count_by (ends_at p) (path ∷ [])) ≡ ends_at p path
    one_end = ap odd (sum_by-cons (λ l. cond (ends_at p l) 1 0) path []) ∙ by_test (ends_at p path)
