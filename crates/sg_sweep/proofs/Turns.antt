-- The sweep's turns: what is kept from height to height.
use Rattle.std.proofs.Common.{ℕ, zero, suc, append_assoc, ◌≡◌, ◌+◌, ◌<◌, arith, refl, sym, ap, ◌∙◌, subst, Bool, true, false, cond, List, [], ◌∷◌, ◌++◌, take, drop, get_or, length, IsTrue}
use Rattle.std.specs.Prelude.{◌↔◌}
use Rattle.std.proofs.lemmas.List.Sorted.{IsPermutation-refl}
use Rattle.std.specs.List.Sorted.{IsPermutation}
use mathlib.Core.Logic.{◌⊎◌, inl, inr}
use lib.IntN.{ℤ, pos, ◌*ℤ◌}
use lib.Signed.{◌<ℤ◌, ◌≤ℤ◌, lt_z}
use mathlib.Core.Bool.{◌||◌}
use Rattle.sg_algebra.proofs.Comparisons.{either_true, lt-from_true, le-from_false}
use Rattle.sg_algebra.proofs.Ring.{sums, products, nonneg_diff-mul, lt-mul_right}
use Rattle.sg_algebra.proofs.Cancelling.{lt-cancel_right}
use Rattle.sg_algebra.specs.Orders.{Cmp, less, same, more, cmp}
use Rattle.sg_segment.specs.Passes.{upward}
use Rattle.sg_segment.specs.declared.figures.Ratio.{Ratio}
use Rattle.sg_heights.proofs.Climb.{InSlab, UpTo}
use Rattle.sg_heights.proofs.Far.{far_same}
use Rattle.sg_heights.proofs.Walks.{groups-same}
use Rattle.sg_heights.specs.Counting.{status_at, WalkMeets, all_turns}
use Rattle.sg_heights.specs.Fans.{Fan}
use Rattle.sg_heights.specs.Stops.{Group, AllNext, groups_by, same_in, same_of}
use Rattle.sg_heights.specs.Tallies.{entry}
use Rattle.sg_heights.specs.declared.stops.Stop.{Stop}
use Rattle.sg_shape.specs.Plane.{Point, Parts, Status, Out, status}
use Rattle.sg_shape.specs.declared.matrices.Matrix.{Matrix}
use Rattle.sg_sweep.specs.declared.pieces.Piece.{Piece}
use Rattle.sg_sweep.specs.declared.strand.Strand.{Strand}
use Rattle.sg_sweep.specs.Fronts.{low_of, high_of, IsRising, Stands, Passing}
use Rattle.sg_sweep.specs.Pieces.{Tag, tags, above_of}
use Rattle.sg_sweep.specs.Aims.{only_outside, LiesUpTo, has_some, IsFound}
use Rattle.sg_sweep.specs.Rungs.{Each, Exists, ends, NoneAbove, IsSlab, Covers, PartsMeet, IsWanted, has_all}
use Rattle.sg_sweep.specs.Shares.{BeginsBetween, AreShares}
use Rattle.sg_sweep.specs.Steps.{IsFanned, IsStep}
use Rattle.sg_sweep.specs.Strands.{strand_tags, sited, wholes}
use Rattle.sg_sweep.proofs.Front.{each-map, each-both, each-left, each-right, low_end, low_high, rising-drop, behind-above, waiting-split, drop_drop}
use Rattle.sg_heights.proofs.SlotSums.{total-append}
use Rattle.sg_heights.proofs.Sorted.{total-permutation}
use Rattle.sg_sweep.proofs.Rising.{slab-met}
use Rattle.sg_sweep.proofs.Stretches.{passing-above, fan-passing, staying, stay-sums, stay-below}
use Rattle.sg_sweep.proofs.Turn.{next-stands, next-passing, next-fans, next-met}
use Rattle.sg_sweep.proofs.Whole.{BothOut, times_one, over, only-out, out-met, high_point, full-entry, some-entry}

-- what was met is that of the points up to the height, from the first one on, and of the slab above it
abbrev pub MetSoFar : Parts → Parts → ℤ → Matrix → List Strand → ℤ → ℤ → Type 0
MetSoFar a b f m order t d =
    (i j : Status) → IsTrue (entry i j m) ↔ (BothOut i j ⊎ (UpTo a b i j f t d ⊎ WalkMeets i j (all_turns (wholes order)) (groups_by (same_of true t d) (wholes order))))

pub record Kept (ps : List Piece) (from to : ℤ) (ws : List Piece) (b : ℕ) (order : List Strand) (m : Matrix) (t d : ℤ) : Type 0 where
  -- edges that lie above all heights that count
  pub hidden : List Tag
  pub stands : Stands (tags ps) (strand_tags order) (tags (drop b ws) ++ hidden) t d
  pub covered : Each (λ z. Exists (BeginsBetween to z) (tags (drop b ws))) (ends hidden)
  pub passing : Passing (strand_tags order) t d
  pub fans : AllNext (λ s r. Fan s.pass r.pass t d) (wholes order)
  pub risen : (from *ℤ d) ≤ℤ t
  pub counts : t ≤ℤ (to *ℤ d)
  pub met : (k l : Parts) → Covers k l (tags ps) → MetSoFar k l from m order t d

-- ---- where no strands are
no-strands : (i j : Status) (t d : ℤ) → WalkMeets i j (all_turns (wholes [])) (groups_by (same_of true t d) (wholes [])) → BothOut i j
unfolding status_at
no-strands i j t d (inl h) = (sym h.0, sym h.1)
no-strands i j t d (inr h) = absurd h

-- ---- the first height
begin-above : (from : ℤ) (gs : List Tag) → Each (λ g. from <ℤ low_of g) gs → Each (λ z. from <ℤ (z *ℤ pos 1)) (ends gs)
begin-above from [] h = tt
begin-above from (g ∷ gs) h = (at g.edge.from.y (low_high g).0.0, (at g.edge.to.y (low_high g).0.1, begin-above from gs h.1))
  where
    at : (z : ℤ) → low_of g ≤ℤ z → from <ℤ (z *ℤ pos 1)
    at z k = let e : z *ℤ pos 1 ≡ z = times_one z in let u = h.0 in omega (arith, sums, k)

-- what is hidden lies above
covered-above : (to t d : ℤ) (W H : List Tag) → pos 0 <ℤ d → t ≤ℤ (to *ℤ d) → Each (λ z. Exists (BeginsBetween to z) W) (ends H) → Each (λ z. t <ℤ (z *ℤ d)) (ends H)
covered-above to t d W H pd k c = each-map (λ z. Exists (BeginsBetween to z) W) (λ z. t <ℤ (z *ℤ d)) (ends H) (λ z. over-to z W) c
  where
    over-to : (z : ℤ) (gs : List Tag) → Exists (BeginsBetween to z) gs → t <ℤ (z *ℤ d)
    over-to z [] x = absurd x
    over-to z (g ∷ gs) (inl x) =
        let u : (to *ℤ d) <ℤ (z *ℤ d) = (let v : to <ℤ z = (let a = x.0 in let b = x.1 in omega (arith, sums, a, b)) in lt-mul_right to z d pd v) in
        omega (arith, sums, u, k)
    over-to z (g ∷ gs) (inr x) = over-to z gs x

pub kept-start : (ps begun ws : List Piece) (from to : ℤ) (fan : List Strand) (m : Matrix) (ahead : List ℕ) (t d : ℤ) → t ≡ from → d ≡ pos 1 → from <ℤ to → ahead ≡ all_turns [] → AreShares (tags ps) (tags begun) (tags ws) from to →
    IsFanned (tags begun) t d ahead only_outside m fan → Kept ps from to ws 0 fan m t d
kept-start ps begun ws from to fan m ahead t d et ed r ea sh f =
    let g : IsFanned (tags begun) from (pos 1) (all_turns []) only_outside m fan =
    subst (λ (xs : List ℕ). IsFanned (tags begun) from (pos 1) xs only_outside m fan) ea (subst (λ (x : ℤ). IsFanned (tags begun) from x ahead only_outside m fan) ed (subst (λ (x : ℤ). IsFanned (tags begun) x d ahead only_outside m fan) et f)) in
    subst (λ (x : ℤ). Kept ps from to ws 0 fan m x d) (sym et) (subst (λ (x : ℤ). Kept ps from to ws 0 fan m from x) (sym ed) (begin g))
  where
    begin : IsFanned (tags begun) from (pos 1) (all_turns []) only_outside m fan → Kept ps from to ws 0 fan m from (pos 1)
    begin g = record {
      hidden = sh.hidden;
      stands = record {
        gone = staying from (pos 1) (tags begun);
        same = λ f.
            let u = sh.same f in
            let v = stay-sums from (pos 1) f (tags begun) in
            let w = total-permutation f _ (strand_tags fan) g.permutation in
            let x = total-append f (tags ws) sh.hidden in
            omega (arith, u, v, w, x);
        below = stay-below from (pos 1) (omega (arith, sums)) (tags begun) (each-map (λ g. low_of g ≤ℤ from) (λ g. (low_of g *ℤ pos 1) ≤ℤ from) (tags begun) (λ g k. let e : low_of g *ℤ pos 1 ≡ low_of g = times_one (low_of g) in omega (arith, sums, k)) sh.begun_by);
        above = each-both (λ z. from <ℤ (z *ℤ pos 1)) (tags ws) sh.hidden (begin-above from (tags ws) sh.behind) (covered-above to from (pos 1) (tags ws) sh.hidden (omega (arith, sums)) at-most sh.covered);
      };
      covered = sh.covered;
      passing = fan-passing from (pos 1) (tags begun) fan g.permutation;
      fans = g.sorted;
      risen = (let e : from *ℤ pos 1 ≡ from = times_one from in omega (arith, sums));
      counts = at-most;
      met = λ k l c i j. (λ h. first k l i j (g.entered i j).0 h, λ h. (g.entered i j).1 (second k l i j h));
    }
      where
        at-most : from ≤ℤ (to *ℤ pos 1)
        at-most = let e : to *ℤ pos 1 ≡ to = times_one to in omega (arith, sums, r)

        first : (k l : Parts) (i j : Status) → (IsTrue (entry i j m) → IsTrue (entry i j only_outside) ⊎ WalkMeets i j (all_turns (wholes fan)) (groups_by (same_of true from (pos 1)) (wholes fan))) → IsTrue (entry i j m) → BothOut i j ⊎ (UpTo k l i j from from (pos 1) ⊎ WalkMeets i j (all_turns (wholes fan)) (groups_by (same_of true from (pos 1)) (wholes fan)))
        first k l i j h x = by (h x)
          where
            by : IsTrue (entry i j only_outside) ⊎ WalkMeets i j (all_turns (wholes fan)) (groups_by (same_of true from (pos 1)) (wholes fan)) → BothOut i j ⊎ (UpTo k l i j from from (pos 1) ⊎ WalkMeets i j (all_turns (wholes fan)) (groups_by (same_of true from (pos 1)) (wholes fan)))
            by (inl y) = inl ((only-out i j).0 y)
            by (inr y) = inr (inr y)

        second : (k l : Parts) (i j : Status) → BothOut i j ⊎ (UpTo k l i j from from (pos 1) ⊎ WalkMeets i j (all_turns (wholes fan)) (groups_by (same_of true from (pos 1)) (wholes fan))) → IsTrue (entry i j only_outside) ⊎ WalkMeets i j (all_turns (wholes fan)) (groups_by (same_of true from (pos 1)) (wholes fan))
        second k l i j (inl h) = inl ((only-out i j).1 h)
        second k l i j (inr (inl q)) = absurd (let e : q.0.y *ℤ pos 1 ≡ q.0.y = times_one q.0.y in let u = q.1 in let v = q.2 in omega (arith, sums, u, v, e))
        second k l i j (inr (inr w)) = inr w

high-end : (g : Tag) → (g.edge.from.y ≡ high_of g) ⊎ (g.edge.to.y ≡ high_of g)
high-end g = by-test (lt_z g.edge.from.y g.edge.to.y)
  where
    by-test : (b : Bool) → (g.edge.from.y ≡ (cond b g.edge (record { from = g.edge.to; to = g.edge.from })).to.y) ⊎ (g.edge.to.y ≡ (cond b g.edge (record { from = g.edge.to; to = g.edge.from })).to.y)
    by-test true = inr refl
    by-test false = inl refl

-- a strand has an end above
no-order : (order : List Strand) (wait : List Tag) (t d : ℤ) → Passing (strand_tags order) t d → NoneAbove (strand_tags order ++ wait) t d → order ≡ []
no-order [] wait t d p n = refl
no-order (s ∷ ss) wait t d p n = absurd (by (high-end (record { edge = s.piece.edge; layer = s.piece.layer })))
  where
    high : ℤ
    high = high_of (record { edge = s.piece.edge; layer = s.piece.layer })

    by : (s.piece.edge.from.y ≡ high_of (record { edge = s.piece.edge; layer = s.piece.layer })) ⊎ (s.piece.edge.to.y ≡ high_of (record { edge = s.piece.edge; layer = s.piece.layer })) → ⊥
    by (inl e) = let k : t <ℤ (s.piece.edge.from.y *ℤ d) = subst (λ (z : ℤ). t <ℤ (z *ℤ d)) (sym e) p.0.1 in omega (arith, sums, k, n.0)
    by (inr e) = let k : t <ℤ (s.piece.edge.to.y *ℤ d) = subst (λ (z : ℤ). t <ℤ (z *ℤ d)) (sym e) p.0.1 in omega (arith, sums, k, n.1.0)

-- ---- what is hidden makes no next height
-- what is hidden lies no lower than what waits
low-over : (to z : ℤ) (h : Ratio) → pos 0 <ℤ h.bottom → (W : List Tag) → Each (λ v. h.top ≤ℤ (v *ℤ h.bottom)) (ends W) → Exists (BeginsBetween to z) W → h.top ≤ℤ (z *ℤ h.bottom)
low-over to z h ph [] e x = absurd x
low-over to z h ph (g ∷ gs) e (inr x) = low-over to z h ph gs e.1.1 x
low-over to z h ph (g ∷ gs) e (inl x) = by (low_end g)
  where
    of : (v : ℤ) → v ≡ low_of g → h.top ≤ℤ (v *ℤ h.bottom) → h.top ≤ℤ (z *ℤ h.bottom)
    of v k l =
        let u : h.top ≤ℤ (low_of g *ℤ h.bottom) = subst (λ (w : ℤ). h.top ≤ℤ (w *ℤ h.bottom)) k l in
        let a : (low_of g *ℤ h.bottom) ≤ℤ (z *ℤ h.bottom) = nonneg_diff-mul (low_of g) z h.bottom (omega (arith, sums)) x.1 in
        omega (arith, sums, u, a)

    by : (g.edge.from.y ≡ low_of g) ⊎ (g.edge.to.y ≡ low_of g) → h.top ≤ℤ (z *ℤ h.bottom)
    by (inl k) = of g.edge.from.y k e.0
    by (inr k) = of g.edge.to.y k e.1.0

slab-hidden : (act W H : List Tag) (ss : List Stop) (to t d : ℤ) (h : Ratio) → pos 0 <ℤ h.bottom → Each (λ z. Exists (BeginsBetween to z) W) (ends H) → Each (λ v. h.top ≤ℤ (v *ℤ h.bottom)) (ends W) → IsSlab (act ++ W) ss t d h → IsSlab (act ++ (W ++ H)) ss t d h
slab-hidden act W H ss to t d h ph c b q =
    subst (λ (gs : List Tag). IsSlab gs ss t d h) (append_assoc act W H)
    (record {
      rises = q.rises;
      clear = each-both (λ z. ((z *ℤ d) ≤ℤ t) ⊎ (h.top ≤ℤ (z *ℤ h.bottom))) (act ++ W) H q.clear
          (each-map (λ z. Exists (BeginsBetween to z) W) (λ z. ((z *ℤ d) ≤ℤ t) ⊎ (h.top ≤ℤ (z *ℤ h.bottom))) (ends H) (λ z x. inr (low-over to z h ph W b x)) c);
      uncrossed = q.uncrossed;
    })

none-hidden : (act W H : List Tag) (to t d : ℤ) → pos 0 <ℤ d → t ≤ℤ (to *ℤ d) → Each (λ z. Exists (BeginsBetween to z) W) (ends H) → NoneAbove (act ++ W) t d → NoneAbove (act ++ (W ++ H)) t d
none-hidden act W H to t d pd k c n =
    subst (λ (gs : List Tag). NoneAbove gs t d) (append_assoc act W H)
    (each-both (λ z. (z *ℤ d) ≤ℤ t) (act ++ W) H n
    (each-map (λ z. Exists (BeginsBetween to z) W) (λ z. (z *ℤ d) ≤ℤ t) (ends H) (λ z x. absurd (none-in z W (each-right (λ v. (v *ℤ d) ≤ℤ t) act W n) x)) c))
  where
    none-in : (z : ℤ) (gs : List Tag) → Each (λ v. (v *ℤ d) ≤ℤ t) (ends gs) → Exists (BeginsBetween to z) gs → ⊥
    none-in z [] h x = x
    none-in z (g ∷ gs) h (inr x) = none-in z gs h.1.1 x
    none-in z (g ∷ gs) h (inl x) = by (low_end g)
      where
        of : (v : ℤ) → v ≡ low_of g → (v *ℤ d) ≤ℤ t → ⊥
        of v e l =
            let u : (low_of g *ℤ d) ≤ℤ t = subst (λ (w : ℤ). (w *ℤ d) ≤ℤ t) e l in
            let a : (to *ℤ d) <ℤ (low_of g *ℤ d) = lt-mul_right to (low_of g) d pd x.0 in
            omega (arith, sums, a, u, k)

        by : (g.edge.from.y ≡ low_of g) ⊎ (g.edge.to.y ≡ low_of g) → ⊥
        by (inl e) = of g.edge.from.y e h.0
        by (inr e) = of g.edge.to.y e h.1.0

-- the waiting edges lie above
pub kept-above : (ps ws waiting : List Piece) (from to : ℤ) (b : ℕ) (order : List Strand) (m : Matrix) (t d : ℤ) → waiting ≡ drop b ws → Kept ps from to ws b order m t d → Each (λ z. t <ℤ (z *ℤ d)) (ends (tags waiting))
kept-above ps ws waiting from to b order m t d e s =
    subst (λ (xs : List Piece). Each (λ z. t <ℤ (z *ℤ d)) (ends (tags xs))) (sym e) (each-left (λ z. t <ℤ (z *ℤ d)) (tags (drop b ws)) s.hidden s.stands.above)

-- ---- at the top
pub kept-top : (ps ws : List Piece) (from to : ℤ) (b : ℕ) (order : List Strand) (m w : Matrix) (t d : ℤ) → pos 0 <ℤ d → Kept ps from to ws b order m t d → NoneAbove (strand_tags order ++ tags (drop b ws)) t d →
    (k l : Parts) → Covers k l (tags ps) → IsFound from to w k l m
kept-top ps ws from to b order m w t d pd s n k l c = record {
  met = λ i j h. to-point i j ((s.met k l c i j).0 h);
  out = (s.met k l c Out Out).1 (inl (refl, refl));
  all = inr (λ i j p w ea eb. of i j p w ea eb (cmp (p.y *ℤ d) (t *ℤ pos p.n)));
}
  where
    to-point : (i j : Status) → BothOut i j ⊎ (UpTo k l i j from t d ⊎ WalkMeets i j (all_turns (wholes order)) (groups_by (same_of true t d) (wholes order))) → PartsMeet i j k l
    to-point i j (inl h) = out-met k l ps c i j h
    to-point i j (inr (inl q)) = (q.0, q.3, q.4)
    to-point i j (inr (inr x)) =
        out-met k l ps c i j (no-strands i j t d (subst (λ (ss : List Strand). WalkMeets i j (all_turns (wholes ss)) (groups_by (same_of true t d) (wholes ss))) (no-order order (tags (drop b ws)) t d s.passing n) x))

    none-up : NoneAbove (strand_tags order ++ (tags (drop b ws) ++ s.hidden)) t d
    none-up = none-hidden (strand_tags order) (tags (drop b ws)) s.hidden to t d pd s.counts s.covered n

    of : (i j : Status) (p : Point) → LiesUpTo from to p → status k p ≡ i → status l p ≡ j → Cmp (p.y *ℤ d) (t *ℤ pos p.n) → IsTrue (entry i j m)
    of i j p w ea eb (less h) = (s.met k l c i j).1 (inr (inl (p, w.0, omega (arith, sums, h), ea, eb)))
    of i j p w ea eb (same h) = (s.met k l c i j).1 (inr (inl (p, w.0, omega (arith, sums, h), ea, eb)))
    of i j p w ea eb (more h) =
        let r = high_point k l (tags ps) (strand_tags order) (tags (drop b ws) ++ s.hidden) t d pd c s.stands none-up p h in
        (s.met k l c i j).1 (inl (sym ea ∙ r.0, sym eb ∙ r.1))

-- ---- before the top: all wanted pairs are met, or one that decides, or the next height counts no more
pub kept-done : (ps ws : List Piece) (from to : ℤ) (b : ℕ) (order : List Strand) (m w q : Matrix) (t d : ℤ) (h : Ratio) → pos 0 <ℤ d → pos 0 <ℤ h.bottom → Kept ps from to ws b order m t d →
    IsSlab (strand_tags order ++ tags (drop b ws)) (wholes order) t d h → Each (λ z. h.top ≤ℤ (z *ℤ h.bottom)) (ends (tags (drop b ws))) → (has_all m w || (has_some m q || lt_z (to *ℤ h.bottom) h.top)) ≡ true →
    (k l : Parts) → Covers k l (tags ps) → IsWanted w k l → IsFound from to q k l m
kept-done ps ws from to b order m w q t d h pd ph s slab0 begins e k l c want = record {
  met = λ i j x. to-point i j ((s.met k l c i j).0 x);
  out = (s.met k l c Out Out).1 (inl (refl, refl));
  all = elim (either_true (has_all m w) (has_some m q || lt_z (to *ℤ h.bottom) h.top) e) [
    | inl x ↦ inr (λ i j p u ea eb. full-entry m w x i j (want i j (p, ea, eb)))
    | inr x ↦ elim (either_true (has_some m q) (lt_z (to *ℤ h.bottom) h.top) x) [
      | inl y ↦ inl (some-entry m q y)
      | inr y ↦ inr (λ i j p u ea eb. of (lt-from_true (to *ℤ h.bottom) h.top y) i j p u ea eb (cmp (p.y *ℤ d) (t *ℤ pos p.n)))
    ]
  ];
}
  where
    all-slab : IsSlab (strand_tags order ++ (tags (drop b ws) ++ s.hidden)) (wholes order) t d h
    all-slab = slab-hidden (strand_tags order) (tags (drop b ws)) s.hidden (wholes order) to t d h ph s.covered begins slab0

    perm : IsPermutation (above_of (strand_tags order) t d) (wholes order)
    perm = subst (λ (ss : List Stop). IsPermutation ss (wholes order)) (sym (passing-above t d order s.passing)) (IsPermutation-refl (wholes order))

    rises : (t *ℤ h.bottom) <ℤ (h.top *ℤ d)
    rises = all-slab.rises

    slab : (i j : Status) → WalkMeets i j (all_turns (wholes order)) (groups_by (same_of true t d) (wholes order)) ↔ InSlab k l i j t d h.top h.bottom
    slab i j =
        subst (λ (gs : List Group). WalkMeets i j (all_turns (wholes order)) gs ↔ InSlab k l i j t d h.top h.bottom) (sym (groups-same (same_of true t d) (same_in t d h.top h.bottom) (far_same t d h.top h.bottom pd rises) (wholes order)))
        (slab-met (strand_tags order) (tags (drop b ws) ++ s.hidden) t d pd h ph (above_of (strand_tags order) t d) (sited order) refl perm s.fans all-slab k l i j (tags ps) c s.stands)

    of-slab : (i j : Status) → InSlab k l i j t d h.top h.bottom → PartsMeet i j k l
    of-slab i j q = (q.0, q.2, q.3)

    to-point : (i j : Status) → BothOut i j ⊎ (UpTo k l i j from t d ⊎ WalkMeets i j (all_turns (wholes order)) (groups_by (same_of true t d) (wholes order))) → PartsMeet i j k l
    to-point i j (inl x) = out-met k l ps c i j x
    to-point i j (inr (inl q)) = (q.0, q.3, q.4)
    to-point i j (inr (inr x)) = of-slab i j ((slab i j).0 x)

    -- what counts lies below the next height
    below-next : (p : Point) → (to *ℤ h.bottom) <ℤ h.top → p.y ≤ℤ (to *ℤ pos p.n) → (p.y *ℤ h.bottom) <ℤ (h.top *ℤ pos p.n)
    below-next p k u =
        let a : ((to *ℤ h.bottom) *ℤ pos p.n) <ℤ (h.top *ℤ pos p.n) = lt-mul_right (to *ℤ h.bottom) h.top (pos p.n) (over p) k in
        let b : (p.y *ℤ h.bottom) ≤ℤ ((to *ℤ pos p.n) *ℤ h.bottom) = nonneg_diff-mul p.y (to *ℤ pos p.n) h.bottom (omega (arith, sums)) u in
        let e : (to *ℤ h.bottom) *ℤ pos p.n ≡ (to *ℤ pos p.n) *ℤ h.bottom = simp products in
        omega (arith, sums)

    of : (to *ℤ h.bottom) <ℤ h.top → (i j : Status) (p : Point) → LiesUpTo from to p → status k p ≡ i → status l p ≡ j → Cmp (p.y *ℤ d) (t *ℤ pos p.n) → IsTrue (entry i j m)
    of y i j p u ea eb (less x) = (s.met k l c i j).1 (inr (inl (p, u.0, omega (arith, sums, x), ea, eb)))
    of y i j p u ea eb (same x) = (s.met k l c i j).1 (inr (inl (p, u.0, omega (arith, sums, x), ea, eb)))
    of y i j p u ea eb (more x) = (s.met k l c i j).1 (inr (inr ((slab i j).1 (p, record { low = x; high = below-next p y u.1; order = rises }, ea, eb))))

-- ---- one height further
low-taken : (n : ℕ) (ws : List Piece) (t d : ℤ) → ((k : ℕ) (q : Piece) → k < n → ((upward (get_or ws k q).edge).from.y *ℤ d) ≤ℤ t) → Each (λ g. (low_of g *ℤ d) ≤ℤ t) (tags (take n ws))
low-taken zero ws t d f = tt
low-taken (suc n) [] t d f = tt
low-taken (suc n) (w ∷ ws) t d f = (f 0 w (omega arith), low-taken n ws t d (λ k q h. f (suc k) q (omega arith)))

-- where nothing is done yet, the next height counts
pub not-over : (x y : Bool) (u v : ℤ) → (x || (y || lt_z u v)) ≡ false → v ≤ℤ u
not-over false false u v e = le-from_false u v e
not-over false true u v e = absurd (cc)
not-over true y u v e = absurd (cc)

-- the edges that begin by a height that counts cover nothing
still-covered : (to z t d : ℤ) → pos 0 <ℤ d → t ≤ℤ (to *ℤ d) → (gs hs : List Tag) → Each (λ g. (low_of g *ℤ d) ≤ℤ t) gs → Exists (BeginsBetween to z) (gs ++ hs) → Exists (BeginsBetween to z) hs
still-covered to z t d pd k [] hs h x = x
still-covered to z t d pd k (g ∷ gs) hs h (inr x) = still-covered to z t d pd k gs hs h.1 x
still-covered to z t d pd k (g ∷ gs) hs h (inl x) = absurd (let u : (to *ℤ d) <ℤ (low_of g *ℤ d) = lt-mul_right to (low_of g) d pd x.0 in let v = h.0 in omega (arith, sums, u, v, k))

pub turned : (ps ws waiting taken : List Piece) (from to : ℤ) (b n : ℕ) (order next : List Strand) (old new : Matrix) (t d : ℤ) (h : Ratio) → pos 0 <ℤ d → pos 0 <ℤ h.bottom → IsRising (tags ws) → Kept ps from to ws b order old t d →
    waiting ≡ drop b ws → taken ≡ take n waiting → IsSlab (strand_tags order ++ tags (drop b ws)) (wholes order) t d h → Each (λ z. h.top ≤ℤ (z *ℤ h.bottom)) (ends (tags (drop b ws))) → h.top ≤ℤ (to *ℤ h.bottom) →
    ((k : ℕ) (q : Piece) → k < n → ((upward (get_or waiting k q).edge).from.y *ℤ h.bottom) ≤ℤ h.top) →
    ((q : Piece) → n < length waiting → h.top <ℤ ((upward (get_or waiting n q).edge).from.y *ℤ h.bottom)) → IsStep order (tags taken) h.top h.bottom old new next →
    Kept ps from to ws (b + n) next new h.top h.bottom
turned ps ws waiting taken from to b n order next old new t d h pd ph r s ew et slab0 begins le fl fa st = record {
  hidden = s.hidden;
  stands = next-stands (tags ps) (tags (drop (b + n) ws) ++ s.hidden) (tags taken) order next t d h old new pd ph stands s.passing s.fans slab low above st;
  covered = covered;
  passing = next-passing (tags ps) (tags (drop (b + n) ws) ++ s.hidden) (tags taken) order next t d h old new pd ph stands s.passing s.fans slab low above st;
  fans = next-fans (tags ps) (tags (drop (b + n) ws) ++ s.hidden) (tags taken) order next t d h old new pd ph stands s.passing s.fans slab low above st;
  risen = risen;
  counts = le;
  met = λ k l c. next-met (tags ps) (tags (drop (b + n) ws) ++ s.hidden) (tags taken) order next t d h old new pd ph stands s.passing s.fans slab low above st k l c from s.risen (s.met k l c);
}
  where
    parts : tags (drop b ws) ≡ tags taken ++ tags (drop (b + n) ws)
    parts = waiting-split ws waiting taken b n ew et

    all-parts : tags (drop b ws) ++ s.hidden ≡ tags taken ++ (tags (drop (b + n) ws) ++ s.hidden)
    all-parts = ap (λ (gs : List Tag). gs ++ s.hidden) parts ∙ append_assoc (tags taken) (tags (drop (b + n) ws)) s.hidden

    stands : Stands (tags ps) (strand_tags order) (tags taken ++ (tags (drop (b + n) ws) ++ s.hidden)) t d
    stands = subst (λ (gs : List Tag). Stands (tags ps) (strand_tags order) gs t d) all-parts s.stands

    slab : IsSlab (strand_tags order ++ (tags taken ++ (tags (drop (b + n) ws) ++ s.hidden))) (wholes order) t d h
    slab = subst (λ (gs : List Tag). IsSlab (strand_tags order ++ gs) (wholes order) t d h) all-parts (slab-hidden (strand_tags order) (tags (drop b ws)) s.hidden (wholes order) to t d h ph s.covered begins slab0)

    low : Each (λ g. (low_of g *ℤ h.bottom) ≤ℤ h.top) (tags taken)
    low = subst (λ (xs : List Piece). Each (λ g. (low_of g *ℤ h.bottom) ≤ℤ h.top) (tags xs)) (sym et) (low-taken n waiting h.top h.bottom fl)

    behind : Each (λ z. h.top <ℤ (z *ℤ h.bottom)) (ends (tags (drop (b + n) ws)))
    behind =
        subst (λ (xs : List Piece). Each (λ z. h.top <ℤ (z *ℤ h.bottom)) (ends (tags xs))) (ap (drop n) ew ∙ drop_drop n b ws)
        (behind-above n waiting h.top h.bottom ph (subst (λ (xs : List Piece). IsRising (tags xs)) (sym ew) (rising-drop b ws r)) fa)

    covered : Each (λ z. Exists (BeginsBetween to z) (tags (drop (b + n) ws))) (ends s.hidden)
    covered =
        each-map (λ z. Exists (BeginsBetween to z) (tags (drop b ws))) (λ z. Exists (BeginsBetween to z) (tags (drop (b + n) ws))) (ends s.hidden)
        (λ z x. still-covered to z h.top h.bottom ph le (tags taken) (tags (drop (b + n) ws)) low (subst (Exists (BeginsBetween to z)) parts x)) s.covered

    above : Each (λ z. h.top <ℤ (z *ℤ h.bottom)) (ends (tags (drop (b + n) ws) ++ s.hidden))
    above = each-both (λ z. h.top <ℤ (z *ℤ h.bottom)) (tags (drop (b + n) ws)) s.hidden behind (covered-above to h.top h.bottom (tags (drop (b + n) ws)) s.hidden ph le covered)

    risen : (from *ℤ h.bottom) ≤ℤ h.top
    risen =
        let u : ((from *ℤ d) *ℤ h.bottom) ≤ℤ (t *ℤ h.bottom) = nonneg_diff-mul (from *ℤ d) t h.bottom (omega (arith, sums)) s.risen in
        let e : (from *ℤ d) *ℤ h.bottom ≡ (from *ℤ h.bottom) *ℤ d = simp products in
        let v : (from *ℤ h.bottom) <ℤ h.top = lt-cancel_right (from *ℤ h.bottom) h.top d pd (let w = slab0.rises in omega (arith, sums, u, e, w)) in
        omega (arith, sums, v)
