-- The loop of the sweep: what is kept and what the queue has, from one height to the next.
use Rattle.std.proofs.Common.{ℕ, suc, ◌≡◌, ◌+◌, ◌<◌, arith, refl, sym, subst, List, [], ◌∷◌, ◌++◌, take, drop, get_or, length, true, Option, Some, None}
use Rattle.std.specs.Prelude.{MatchOption, IfSome}
use mathlib.Core.Bool.{◌||◌}
use Rattle.sg_segment.specs.Ranges.{IsRatio}
use Rattle.std.specs.List.Sorted.{IsPermutation}
use lib.IntN.{ℤ, pos, ◌*ℤ◌}
use lib.Signed.{◌<ℤ◌, ◌≤ℤ◌, lt_z}
use Rattle.sg_segment.specs.Passes.{upward}
use Rattle.sg_segment.specs.declared.figures.Ratio.{Ratio}
use Rattle.sg_heights.specs.Fans.{Fan}
use Rattle.sg_heights.specs.Stops.{AllNext, SomeNext}
use Rattle.sg_shape.specs.Plane.{Parts}
use Rattle.sg_shape.specs.declared.matrices.Matrix.{Matrix}
use Rattle.sg_sweep.specs.declared.events.Event.{Event}
use Rattle.sg_sweep.specs.declared.pieces.Piece.{Piece}
use Rattle.sg_sweep.specs.declared.strand.Strand.{Strand}
use Rattle.sg_sweep.specs.Fronts.{low_of, high_of, IsRising}
use Rattle.sg_sweep.specs.Pieces.{Tag, tags}
use Rattle.sg_sweep.specs.Queues.{IsEndOf, IsCrossingOf, EndIn, CrossingIn, Grows, IsNextHeight}
use Rattle.sg_sweep.specs.Aims.{has_some, IsFound}
use Rattle.sg_sweep.specs.Rungs.{Each, Exists, ends, NoneAbove, IsSlab, Covers, IsWanted, has_all, rungs_left}
use Rattle.sg_sweep.specs.Steps.{IsTurn}
use Rattle.sg_sweep.specs.Strands.{strand_tags, wholes, leaving}
use Rattle.sg_sweep.proofs.Borders.{each-first, each-second, each-permutation}
use Rattle.sg_sweep.proofs.Coming.{In, lined, Coming, ends-come, crossing-comes, Awaits, next-fewer, next-slab}
use Rattle.sg_sweep.proofs.Front.{each-map, tags-split, waiting-split}
use Rattle.sg_sweep.proofs.Growing.{are-self, grown-each, ends-in}
use Rattle.sg_sweep.proofs.Parted.{step, next-awaits}
use Rattle.sg_sweep.proofs.Stretches.{leaving-each, leaving-passing, fan-passing}
use Rattle.sg_sweep.proofs.Turns.{Kept, turned, kept-above, kept-top, kept-done}

-- the edges of a sweep
abbrev pub edges_of : List Piece → List Piece → List Tag
edges_of begun later = tags begun ++ tags later

waiting-known : (fs ws : List Piece) (b : ℕ) → Each (In (edges_of fs ws)) (tags (drop b ws))
waiting-known fs ws b =
    each-second (In (edges_of fs ws)) (tags (take b ws)) (tags (drop b ws))
    (subst (Each (In (edges_of fs ws))) (tags-split b ws) (each-second (In (edges_of fs ws)) (tags fs) (tags ws) (are-self (edges_of fs ws))))

-- ---- the first height
pub awaits-start : (fs ws : List Piece) (order : List Strand) (q1 q2 : List Event) (t d : ℤ) → pos 0 <ℤ d → IsPermutation (leaving t d (tags fs)) (strand_tags order) → AllNext (λ s r. Fan s.pass r.pass t d) (wholes order) →
    Grows (λ e. Exists (λ g. IsEndOf g e) (leaving t d (tags fs))) [] q1 → Each (EndIn q1) (leaving t d (tags fs)) →
    Grows (λ e. SomeNext (λ s r. IsCrossingOf s.pass r.pass e) (wholes order)) q1 q2 → AllNext (λ s r. CrossingIn q2 s.pass r.pass) (wholes order) → Awaits (edges_of fs ws) q2 order t d
awaits-start fs ws order q1 q2 t d pd p fans g1 e1 g2 c2 = record {
  among = among;
  coming = grown-each (Coming (edges_of fs ws) t d) _ q1 q2 g2
      (grown-each (Coming (edges_of fs ws) t d) _ [] q1 g1 tt (ends-come (edges_of fs ws) t d (leaving t d (tags fs)) (leaving-each t d (In (edges_of fs ws)) (tags fs) known) (each-map (λ g. ((low_of g *ℤ d) ≤ℤ t) × (t <ℤ (high_of g *ℤ d))) (λ g. t <ℤ (high_of g *ℤ d)) (leaving t d (tags fs)) (λ g p. p.1) (leaving-passing t d (tags fs)))))
      (crossing-comes (edges_of fs ws) t d (wholes order) fans (lined (edges_of fs ws) t d order among (fan-passing t d (tags fs) order p)));
  edge_ends = each-permutation (EndIn q2) (leaving t d (tags fs)) (strand_tags order) p (ends-in q1 q2 (leaving t d (tags fs)) g2.kept e1);
  crossings = c2;
}
  where
    known : Each (In (edges_of fs ws)) (tags fs)
    known = each-first (In (edges_of fs ws)) (tags fs) (tags ws) (are-self (edges_of fs ws))

    among : Each (In (edges_of fs ws)) (strand_tags order)
    among = each-permutation (In (edges_of fs ws)) (leaving t d (tags fs)) (strand_tags order) p (leaving-each t d (In (edges_of fs ws)) (tags fs) known)

-- ---- one height further
module _ (ps fs ws waiting : List Piece) (from to : ℤ) (b : ℕ) (order : List Strand) (old : Matrix) (q : List Event) (t d : ℤ) (h : Ratio) (pd : pos 0 <ℤ d) (ph : pos 0 <ℤ h.bottom)
    (ew : waiting ≡ drop b ws) (kept : Kept ps from to ws b order old t d) (aw : Awaits (edges_of fs ws) q order t d) (nx : IsNextHeight q (tags waiting) h) where
  here : IsNextHeight q (tags (drop b ws)) h
  here = subst (λ (xs : List Piece). IsNextHeight q (tags xs) h) ew nx

  above : Each (λ z. t <ℤ (z *ℤ d)) (ends (tags (drop b ws)))
  above = kept-above ps ws (drop b ws) from to b order old t d refl kept

  pub slab-here : IsSlab (strand_tags order ++ tags (drop b ws)) (wholes order) t d h
  slab-here = next-slab (edges_of fs ws) (tags (drop b ws)) order q t d h pd ph aw kept.passing (waiting-known fs ws b) above here

  pub begins-here : Each (λ z. h.top ≤ℤ (z *ℤ h.bottom)) (ends (tags (drop b ws)))
  begins-here = here.begins

  pub fewer-here : rungs_left (edges_of fs ws) h.top h.bottom < rungs_left (edges_of fs ws) t d
  fewer-here = next-fewer (edges_of fs ws) (tags (drop b ws)) order q t d h pd ph aw kept.passing (waiting-known fs ws b) above here

  module _ (taken : List Piece) (n : ℕ) (next : List Strand) (new : Matrix) (q2 : List Event) (rising : IsRising (tags ws)) (et : taken ≡ take n waiting) (le : h.top ≤ℤ (to *ℤ h.bottom))
      (fl : (k : ℕ) (x : Piece) → k < n → ((upward (get_or waiting k x).edge).from.y *ℤ h.bottom) ≤ℤ h.top)
      (fa : (x : Piece) → n < length waiting → h.top <ℤ ((upward (get_or waiting n x).edge).from.y *ℤ h.bottom))
      (T : IsTurn order (tags taken) h old new next q q2) where
    known-taken : Each (In (edges_of fs ws)) (tags taken)
    known-taken = each-first (In (edges_of fs ws)) (tags taken) (tags (drop (b + n) ws)) (subst (Each (In (edges_of fs ws))) (waiting-split ws waiting taken b n ew et) (waiting-known fs ws b))

    pub kept-moved : Kept ps from to ws (b + n) next new h.top h.bottom
    kept-moved =
        turned ps ws waiting taken from to b n order next old new t d h pd ph rising kept ew et slab-here begins-here le fl fa
        (step (edges_of fs ws) (tags taken) order next q q2 t d h old new pd ph aw kept.passing kept.fans known-taken slab-here.rises slab-here.uncrossed T)

    pub awaits-moved : Awaits (edges_of fs ws) q2 next h.top h.bottom
    awaits-moved =
        next-awaits (edges_of fs ws) (tags taken) order next q q2 t d h old new pd ph aw kept.passing kept.fans known-taken slab-here.rises slab-here.uncrossed T kept-moved.passing kept-moved.fans

-- ---- the end
no-ends : (order : List Strand) → Each (EndIn []) (strand_tags order) → order ≡ []
no-ends [] e = refl
no-ends (s ∷ ss) e = absurd e.0

pub nothing-left : (gs : List Tag) (q : List Event) (order : List Strand) (ws : List Piece) (b : ℕ) (t d : ℤ) → q ≡ [] → drop b ws ≡ [] → Awaits gs q order t d → NoneAbove (strand_tags order ++ tags (drop b ws)) t d
nothing-left gs q order ws b t d e f aw =
    subst (λ (ss : List Strand). NoneAbove (strand_tags ss ++ tags (drop b ws)) t d) (sym (no-ends order (subst (λ (xs : List Event). Each (EndIn xs) (strand_tags order)) e aw.edge_ends)))
    (subst (λ (xs : List Piece). NoneAbove (tags xs) t d) (sym f) tt)

-- ---- from turn to turn
-- what is kept at a height, and what the queue has
pub record Reached (ps fs ws : List Piece) (from to : ℤ) (b : ℕ) (order : List Strand) (m : Matrix) (q : List Event) (h : Ratio) : Type 0 where
  pub range : IsRatio h
  pub kept : Kept ps from to ws b order m h.top h.bottom
  pub awaits : Awaits (edges_of fs ws) q order h.top h.bottom

-- at the last height
pub record Passed (ps fs ws : List Piece) (from to : ℤ) (b : ℕ) (order : List Strand) (m : Matrix) (q : List Event) : Type 0 where
  pub last : Ratio
  pub reached : Reached ps fs ws from to b order m q last

-- the height comes next, or none does
abbrev pub ComesNext : List Event → List Piece → Option Ratio → Type 0
ComesNext q waiting o = MatchOption o ((q ≡ []) × (waiting ≡ [])) (λ h. IsNextHeight q (tags waiting) h)

-- how many heights are left, the next one among them
abbrev pub heights_left : List Tag → Option Ratio → ℕ
heights_left gs None = 0
heights_left gs (Some h) = suc (rungs_left gs h.top h.bottom)

pub moved : (ps fs ws waiting taken : List Piece) (from to : ℤ) (b n : ℕ) (order next : List Strand) (old new : Matrix) (q q2 : List Event) (h : Ratio) → IsRatio h → waiting ≡ drop b ws → IsRising (tags ws) →
    taken ≡ take n waiting → h.top ≤ℤ (to *ℤ h.bottom) →
    ((k : ℕ) (x : Piece) → k < n → ((upward (get_or waiting k x).edge).from.y *ℤ h.bottom) ≤ℤ h.top) → ((x : Piece) → n < length waiting → h.top <ℤ ((upward (get_or waiting n x).edge).from.y *ℤ h.bottom)) →
    Passed ps fs ws from to b order old q → IsNextHeight q (tags (drop b ws)) h → IsTurn order (tags taken) h old new next q q2 → Reached ps fs ws from to (b + n) next new q2 h
moved ps fs ws waiting taken from to b n order next old new q q2 h r ew rising et le fl fa p nx T = record {
  range = r;
  kept = kept-moved ps fs ws waiting from to b order old q p.last.top p.last.bottom h p.reached.range.is_over r.is_over ew p.reached.kept p.reached.awaits there taken n next new q2 rising et le fl fa T;
  awaits = awaits-moved ps fs ws waiting from to b order old q p.last.top p.last.bottom h p.reached.range.is_over r.is_over ew p.reached.kept p.reached.awaits there taken n next new q2 rising et le fl fa T;
}
  where
    there : IsNextHeight q (tags waiting) h
    there = subst (λ (xs : List Piece). IsNextHeight q (tags xs) h) (sym ew) nx

-- fewer heights are left behind one that is reached
pub fewer-left : (ps fs ws : List Piece) (from to : ℤ) (b : ℕ) (order : List Strand) (m : Matrix) (q : List Event) (o p : Option Ratio) (h : Ratio) → p ≡ Some h → ComesNext q (drop b ws) o → IfSome o (λ k. IsRatio k) →
    Reached ps fs ws from to b order m q h → heights_left (edges_of fs ws) o < heights_left (edges_of fs ws) p
fewer-left ps fs ws from to b order m q o p h e nx r x = subst (λ (y : Option Ratio). heights_left (edges_of fs ws) o < heights_left (edges_of fs ws) y) (sym e) (by o nx r)
  where
    by : (o : Option Ratio) → ComesNext q (drop b ws) o → IfSome o (λ k. IsRatio k) → heights_left (edges_of fs ws) o < suc (rungs_left (edges_of fs ws) h.top h.bottom)
    by None nx r = omega arith
    by (Some k) nx r =
        let u = fewer-here ps fs ws (drop b ws) from to b order m q h.top h.bottom k x.range.is_over r.is_over refl x.kept x.awaits nx in
        omega (arith, u)

-- what is met before the next height, where that is all that is wanted, and where no height comes
pub found-done : (ps fs ws : List Piece) (from to : ℤ) (b : ℕ) (order : List Strand) (m w v : Matrix) (q : List Event) (h : Ratio) → IsRatio h → Passed ps fs ws from to b order m q → IsNextHeight q (tags (drop b ws)) h →
    (has_all m w || (has_some m v || lt_z (to *ℤ h.bottom) h.top)) ≡ true → (k l : Parts) → Covers k l (tags ps) → IsWanted w k l → IsFound from to v k l m
found-done ps fs ws from to b order m w v q h r p nx done k l c want =
    let x = p.reached in
    kept-done ps ws from to b order m w v p.last.top p.last.bottom h x.range.is_over r.is_over x.kept (slab-here ps fs ws (drop b ws) from to b order m q p.last.top p.last.bottom h x.range.is_over r.is_over refl x.kept x.awaits nx)
    nx.begins done k l c want

pub found-top : (ps fs ws : List Piece) (from to : ℤ) (b : ℕ) (order : List Strand) (m v : Matrix) (q : List Event) → Passed ps fs ws from to b order m q → (q ≡ []) × (drop b ws ≡ []) →
    (k l : Parts) → Covers k l (tags ps) → IsFound from to v k l m
found-top ps fs ws from to b order m v q p e k l c =
    let x = p.reached in
    kept-top ps ws from to b order m v p.last.top p.last.bottom x.range.is_over x.kept (nothing-left (edges_of fs ws) q order ws b p.last.top p.last.bottom e.0 e.1 x.awaits) k l c
