-- One turn of the sweep: the next height's strands are in order above it, and what was met with its windows is what all its points have.
use Rattle.std.proofs.Common.{ℕ, ◌≡◌, ◌+◌, ◌-◌, arith, refl, sym, ap, ◌∙◌, subst, Bool, true, false, cond, List, [], ◌∷◌, ◌++◌, append_assoc, take, drop, IsTrue}
use Rattle.std.specs.Prelude.{◌↔◌}
use Rattle.std.specs.List.Sorted.{IsPermutation}
use Rattle.std.proofs.lemmas.List.Sorted.{IsPermutation-refl, IsPermutation-sym}
use mathlib.Core.Logic.{◌⊎◌, inl, inr}
use lib.IntN.{ℤ, pos, ◌*ℤ◌}
use lib.Signed.{◌<ℤ◌, ◌≤ℤ◌}
use Rattle.sg_algebra.proofs.Ring.{sums}
use Rattle.sg_algebra.proofs.Comparisons.{eq-from_true, true-from_eq, left_true, right_true, both, is_false}
use Rattle.sg_segment.proofs.PassOrder.{Apart, at_low, at_high, Level}
use Rattle.sg_segment.specs.Passes.{reach, Before, NotAfter}
use Rattle.sg_segment.specs.declared.figures.Pass.{Pass}
use Rattle.sg_segment.specs.declared.figures.Ratio.{Ratio}
use Rattle.sg_heights.proofs.Alike.{Even}
use Rattle.sg_heights.proofs.Climb.{AtHeight, InSlab, UpTo, up_to_next}
use Rattle.sg_heights.proofs.Counts.{Layered}
use Rattle.sg_heights.proofs.Crossing.{together}
use Rattle.sg_heights.proofs.Far.{far_same, lean_far}
use Rattle.sg_heights.proofs.Layers.{pick, stops_from}
use Rattle.sg_heights.proofs.Above.{above_from}
use Rattle.sg_heights.proofs.Slabs.{AllClear}
use Rattle.sg_heights.proofs.SlotSums.{total-append}
use Rattle.sg_heights.proofs.Sorted.{total-permutation}
use Rattle.sg_heights.proofs.SortedSlab.{neighbours}
use Rattle.sg_heights.specs.Layers.{both_layers}
use Rattle.sg_heights.proofs.Walks.{groups-same, walk_height}
use Rattle.sg_heights.proofs.Windows.{Balanced, window-walks}
use Rattle.sg_heights.specs.Counting.{WalkMeets, all_turns, turns_ahead}
use Rattle.sg_heights.specs.Fans.{lean, Fan, first, Uncrossed}
use Rattle.sg_heights.specs.Stops.{Group, AllNext, groups_by, same_at, same_in, same_of, total, opening, closing, turning}
use Rattle.sg_heights.specs.Tallies.{stops_in, entry}
use Rattle.sg_heights.specs.declared.stops.Stop.{Stop}
use Rattle.sg_shape.specs.Plane.{Parts, Status}
use Rattle.sg_shape.specs.declared.matrices.Matrix.{Matrix}
use Rattle.sg_sweep.specs.declared.strand.Strand.{Strand}
use Rattle.sg_sweep.specs.Fronts.{low_of, high_of, Stands, Passing}
use Rattle.sg_sweep.specs.Pieces.{Tag, stops_of, above_of}
use Rattle.sg_sweep.specs.Rungs.{Each, ends, IsSlab, Covers}
use Rattle.sg_sweep.specs.Steps.{IsStep}
use Rattle.sg_sweep.specs.Strands.{strand_tags, sited, wholes, leaving}
use Rattle.sg_sweep.specs.Windows.{EndsAbove, Quiet, IsFreeLeft, IsFreeRight, Meet}
use Rattle.sg_sweep.proofs.Borders.{next-left, next-right, next-join, next-two, meet-map, each-append, each-first, each-second, each-permutation, InRow, Left, LastBefore, AllBefore, last-meet, all-meet, meet-last, meet-all, last-both, last-first, last-second, all-second, last-map, all-map, last-begun, begun-all, cut-of, quiet-is, quiet-fan, left-not_after}
use Rattle.sg_sweep.proofs.Front.{each-map, each-both}
use Rattle.sg_sweep.proofs.Gather.{stops-append}
use Rattle.sg_sweep.proofs.Rising.{layered, slab-clear, slab-met, slab-sums, height-sums}
use Rattle.sg_sweep.proofs.RingTurns.{rings-turn}
use Rattle.sg_sweep.proofs.StrandLists.{strand_tags-append, wholes-append, take_drop, drop-part, take-part}
use Rattle.sg_sweep.proofs.Stretches.{passing-stops, passing-above, wholes-places, fan-passing, fan-places, staying, stay-sums, stay-below, fan-sums, stops-balanced, stops-turn, wholes-balanced, still-below, passing-next}
use Rattle.sg_sweep.proofs.Whole.{BothOut}

-- ---- in order at the next height
module _ (t d : ℤ) (h : Ratio) (pd : pos 0 <ℤ d) (ph : pos 0 <ℤ h.bottom) (rises : (t *ℤ h.bottom) <ℤ (h.top *ℤ d)) where
  pub at-next : (l m : Pass) → Fan l m t d → Uncrossed l m h.top h.bottom → NotAfter l m h.top h.bottom
  at-next l m f u = by (neighbours t d h.top h.bottom l m pd ph rises f u)
    where
      by-apart : Apart l m t d h.top h.bottom → NotAfter l m h.top h.bottom
      by-apart (at_low x y) = y
      by-apart (at_high x y) = left-not_after h.top h.bottom l m y

      by : (Level l m t d × Level l m h.top h.bottom) ⊎ Apart l m t d h.top h.bottom → NotAfter l m h.top h.bottom
      by (inl e) = omega (arith, sums, e.1)
      by (inr e) = by-apart e

  pub row-next : (ss : List Stop) → AllNext (λ s r. Fan s.pass r.pass t d) ss → AllNext (λ s r. Uncrossed s.pass r.pass h.top h.bottom) ss → InRow h.top h.bottom ss
  row-next ss f u = next-two (λ s r. Fan s.pass r.pass t d) (λ s r. Uncrossed s.pass r.pass h.top h.bottom) (λ s r. NotAfter s.pass r.pass h.top h.bottom) ss (λ s r x y. at-next s.pass r.pass x y) f u

module _ (all rest taken : List Tag) (order next : List Strand) (t d : ℤ) (h : Ratio) (old new : Matrix) (pd : pos 0 <ℤ d) (ph : pos 0 <ℤ h.bottom)
    (st : Stands all (strand_tags order) (taken ++ rest) t d) (pa : Passing (strand_tags order) t d) (fans : AllNext (λ s r. Fan s.pass r.pass t d) (wholes order))
    (slab : IsSlab (strand_tags order ++ (taken ++ rest)) (wholes order) t d h)
    (low : Each (λ g. (low_of g *ℤ h.bottom) ≤ℤ h.top) taken) (above : Each (λ z. h.top <ℤ (z *ℤ h.bottom)) (ends rest))
    (S : IsStep order taken h.top h.bottom old new next) where
  abbrev t2 : ℤ
  t2 = h.top

  abbrev d2 : ℤ
  d2 = h.bottom

  abbrev A : List Strand
  A = take S.from order

  abbrev V : List Strand
  V = take (S.to - S.from) (drop S.from order)

  abbrev B : List Strand
  B = drop S.to order

  abbrev front : List Tag
  front = strand_tags V ++ taken

  abbrev W : List Stop
  W = stops_in S.walked.stops

  abbrev U : List Stop
  U = wholes S.fan

  perm : IsPermutation (above_of (strand_tags order) t d) (wholes order)
  perm = subst (λ (ss : List Stop). IsPermutation ss (wholes order)) (sym (passing-above t d order pa)) (IsPermutation-refl (wholes order))

  rises : (t *ℤ d2) <ℤ (t2 *ℤ d)
  rises = slab.rises

  -- ---- the parts of the order
  order-parts : order ≡ A ++ (V ++ B)
  order-parts = sym (take_drop S.from order) ∙ ap (λ (ss : List Strand). A ++ ss) (drop-part S.from S.to order S.rises)

  wholes-parts : (X Y Z : List Strand) → wholes (X ++ (Y ++ Z)) ≡ wholes X ++ (wholes Y ++ wholes Z)
  wholes-parts X Y Z = wholes-append X (Y ++ Z) ∙ ap (λ (ss : List Stop). wholes X ++ ss) (wholes-append Y Z)

  tags-parts : (X Y Z : List Strand) → strand_tags (X ++ (Y ++ Z)) ≡ strand_tags X ++ (strand_tags Y ++ strand_tags Z)
  tags-parts X Y Z = strand_tags-append X (Y ++ Z) ∙ ap (λ (gs : List Tag). strand_tags X ++ gs) (strand_tags-append Y Z)

  order-stops : wholes order ≡ wholes A ++ (wholes V ++ wholes B)
  order-stops = ap wholes order-parts ∙ wholes-parts A V B

  next-stops : wholes next ≡ wholes A ++ (U ++ wholes B)
  next-stops = ap wholes S.next_is ∙ wholes-parts A S.fan B

  -- ---- in order at the height
  row : InRow t2 d2 (wholes order)
  row = row-next t d h pd ph rises (wholes order) fans slab.uncrossed

  row-parts : InRow t2 d2 (wholes A ++ (wholes V ++ wholes B))
  row-parts = subst (InRow t2 d2) order-stops row

  abbrev Not : Stop → Stop → Type 0
  Not s r = NotAfter s.pass r.pass t2 d2

  row-a : InRow t2 d2 (wholes A)
  row-a = next-left Not (wholes A) (wholes V ++ wholes B) row-parts

  row-vb : InRow t2 d2 (wholes V ++ wholes B)
  row-vb = next-right Not (wholes A) (wholes V ++ wholes B) row-parts

  row-b : InRow t2 d2 (wholes B)
  row-b = next-right Not (wholes V) (wholes B) row-vb

  row-av : InRow t2 d2 (wholes A ++ wholes V)
  row-av = next-left Not (wholes A ++ wholes V) (wholes B) (subst (InRow t2 d2) (sym (append_assoc (wholes A) (wholes V) (wholes B))) row-parts)

  meet-avb : Meet (Left t2 d2) (wholes A) (wholes V ++ wholes B)
  meet-avb = subst (Meet (Left t2 d2) (wholes A)) (ap wholes (drop-part S.from S.to order S.rises) ∙ wholes-append V B) S.apart_left

  meet-av_b : Meet (Left t2 d2) (wholes A ++ wholes V) (wholes B)
  meet-av_b = subst (λ (ss : List Stop). Meet (Left t2 d2) ss (wholes B)) (ap wholes (take-part S.from S.to order S.rises) ∙ wholes-append A V) S.apart_right

  last-vb : LastBefore t2 d2 (wholes A) (wholes V ++ wholes B)
  last-vb = meet-last t2 d2 (wholes A) (wholes V ++ wholes B) meet-avb row-vb

  all-av : AllBefore t2 d2 (wholes A ++ wholes V) (wholes B)
  all-av = meet-all t2 d2 (wholes A ++ wholes V) (wholes B) meet-av_b row-av

  -- ---- what stands in the window
  front-places : (P : Pass → Type 0) → Each (λ s. P s.pass) (wholes V) → Each (λ s. P s.pass) (stops_in S.begun) → Each (λ s. P s.pass) (stops_of front t2 d2)
  front-places P u v =
      subst (Each (λ s. P s.pass)) (sym (stops-append (strand_tags V) taken t2 d2))
      (each-append (λ s. P s.pass) (stops_of (strand_tags V) t2 d2) (stops_of taken t2 d2) (wholes-places t2 d2 P V u)
      (each-permutation (λ s. P s.pass) (stops_in S.begun) (stops_of taken t2 d2) (IsPermutation-sym (stops_of taken t2 d2) (stops_in S.begun) S.begun_is) v))

  places : (P : Pass → Type 0) → Each (λ s. P s.pass) (wholes V) → Each (λ s. P s.pass) (stops_in S.begun) → Each (λ s. P s.pass) W
  places P u v = each-permutation (λ s. P s.pass) (stops_of front t2 d2) W S.walked.permutation (front-places P u v)

  places-above : (P : Pass → Type 0) → Each (λ s. P s.pass) (wholes V) → Each (λ s. P s.pass) (stops_in S.begun) → Each (λ s. P s.pass) U
  places-above P u v = fan-places t2 d2 P front S.fan S.fanned.permutation (front-places P u v)

  last-v : LastBefore t2 d2 (wholes A) (wholes V)
  last-v = last-first t2 d2 (wholes A) (wholes V) (wholes B) last-vb

  last-b : LastBefore t2 d2 (wholes A) (wholes B)
  last-b = last-second t2 d2 (wholes A) (wholes V) (wholes B) last-vb

  last-n : LastBefore t2 d2 (wholes A) (stops_in S.begun)
  last-n = last-begun t2 d2 A (stops_in S.begun) S.begun_sorted S.free_left

  all-v : AllBefore t2 d2 (wholes V) (wholes B)
  all-v = all-second t2 d2 (wholes A) (wholes V) (wholes B) all-av

  all-n : AllBefore t2 d2 (stops_in S.begun) (wholes B)
  all-n = begun-all t2 d2 B (stops_in S.begun) S.begun_sorted S.free_right

  -- a list that stands between the parts
  pub record Between (X : List Stop) : Type 0 where
    pub left : Meet (Left t2 d2) (wholes A) (X ++ wholes B)
    pub right : Meet (Left t2 d2) X (wholes B)

  between : (X : List Stop) → ((P : Pass → Type 0) → Each (λ s. P s.pass) (wholes V) → Each (λ s. P s.pass) (stops_in S.begun) → Each (λ s. P s.pass) X) → Between X
  between X f = record {
    left = last-meet t2 d2 (wholes A) (X ++ wholes B) (last-both t2 d2 (wholes A) X (wholes B) (last-map t2 d2 (wholes A) (wholes V) (stops_in S.begun) X f last-v last-n) last-b);
    right = all-meet t2 d2 X (wholes B) (all-map t2 d2 (wholes V) (stops_in S.begun) X (wholes B) f all-v all-n);
  }

  between-w : Between W
  between-w = between W places

  between-u : Between U
  between-u = between U places-above

  joined : (P : Stop → Stop → Type 0) (X : List Stop) → ((s r : Stop) → Left t2 d2 s r → P s r) → AllNext P (wholes A) → AllNext P X → AllNext P (wholes B) → Between X → AllNext P (wholes A ++ (X ++ wholes B))
  joined P X f a x b m =
      next-join P (wholes A) (X ++ wholes B) a (next-join P X (wholes B) x b (meet-map (Left t2 d2) P X (wholes B) f m.right)) (meet-map (Left t2 d2) P (wholes A) (X ++ wholes B) f m.left)

  row-w : InRow t2 d2 (wholes A ++ (W ++ wholes B))
  row-w = joined Not W (λ s r k. left-not_after t2 d2 s.pass r.pass k) row-a S.walked.sorted row-b between-w

  abbrev Quiets : Stop → Stop → Type 0
  Quiets s r = Quiet s.pass r.pass t2 d2

  fans-of : (ss : List Stop) → InRow t2 d2 ss → AllNext Quiets ss → AllNext (λ s r. Fan s.pass r.pass t2 d2) ss
  fans-of ss n q = next-two Not Quiets (λ s r. Fan s.pass r.pass t2 d2) ss (λ s r x y. quiet-fan t2 d2 s.pass r.pass x y) n q

  -- the next strands are in order above the height
  pub next-fans : AllNext (λ s r. Fan s.pass r.pass t2 d2) (wholes next)
  next-fans =
      subst (AllNext (λ s r. Fan s.pass r.pass t2 d2)) (sym next-stops)
      (joined (λ s r. Fan s.pass r.pass t2 d2) U (λ s r k. first k) (fans-of (wholes A) row-a S.quiet_left) S.fanned.sorted (fans-of (wholes B) row-b S.quiet_right) between-u)

  -- ---- what is at hand
  passing-parts : Passing (strand_tags A ++ (strand_tags V ++ strand_tags B)) t d
  passing-parts = subst (λ (gs : List Tag). Passing gs t d) (ap strand_tags order-parts ∙ tags-parts A V B) pa

  abbrev Through : Tag → Type 0
  Through g = ((low_of g *ℤ d) ≤ℤ t) × (t <ℤ (high_of g *ℤ d))

  passing-a : Passing (strand_tags A) t d
  passing-a = each-first Through (strand_tags A) (strand_tags V ++ strand_tags B) passing-parts

  passing-vb : Passing (strand_tags V ++ strand_tags B) t d
  passing-vb = each-second Through (strand_tags A) (strand_tags V ++ strand_tags B) passing-parts

  passing-v : Passing (strand_tags V) t d
  passing-v = each-first Through (strand_tags V) (strand_tags B) passing-vb

  passing-b : Passing (strand_tags B) t d
  passing-b = each-second Through (strand_tags V) (strand_tags B) passing-vb

  ends-left : (ss : List Strand) (n : List Stop) → Each (λ s. IsFreeLeft s n t2 d2) ss → Each (λ s. EndsAbove s t2 d2) ss
  ends-left [] n f = tt
  ends-left (s ∷ ss) n f = (f.0.0, ends-left ss n f.1)

  ends-right : (ss : List Strand) (n : List Stop) → Each (λ s. IsFreeRight s n t2 d2) ss → Each (λ s. EndsAbove s t2 d2) ss
  ends-right [] n f = tt
  ends-right (s ∷ ss) n f = (f.0.0, ends-right ss n f.1)

  next-a : Passing (strand_tags A) t2 d2
  next-a = passing-next t d t2 d2 pd ph rises A passing-a (ends-left A (stops_in S.begun) S.free_left)

  next-b : Passing (strand_tags B) t2 d2
  next-b = passing-next t d t2 d2 pd ph rises B passing-b (ends-right B (stops_in S.begun) S.free_right)

  next-tags : strand_tags next ≡ strand_tags A ++ (strand_tags S.fan ++ strand_tags B)
  next-tags = ap strand_tags S.next_is ∙ tags-parts A S.fan B

  abbrev Through2 : Tag → Type 0
  Through2 g = ((low_of g *ℤ d2) ≤ℤ t2) × (t2 <ℤ (high_of g *ℤ d2))

  pub next-passing : Passing (strand_tags next) t2 d2
  next-passing =
      subst (λ (gs : List Tag). Passing gs t2 d2) (sym next-tags)
      (each-append Through2 (strand_tags A) (strand_tags S.fan ++ strand_tags B) next-a
      (each-append Through2 (strand_tags S.fan) (strand_tags B) (fan-passing t2 d2 front S.fan S.fanned.permutation) next-b))

  low-v : (gs : List Tag) → Passing gs t d → Each (λ g. (low_of g *ℤ d2) ≤ℤ t2) gs
  low-v [] p = tt
  low-v (g ∷ gs) p = ((let b = still-below t d t2 d2 pd ph rises (low_of g) p.0.0 in omega (arith, sums, b)), low-v gs p.1)

  low-front : Each (λ g. (low_of g *ℤ d2) ≤ℤ t2) front
  low-front = each-append (λ g. (low_of g *ℤ d2) ≤ℤ t2) (strand_tags V) taken (low-v (strand_tags V) passing-v) low

  gone-below : Each (λ z. (z *ℤ d2) <ℤ t2) (ends st.gone)
  gone-below = each-map (λ z. (z *ℤ d) ≤ℤ t) (λ z. (z *ℤ d2) <ℤ t2) (ends st.gone) (λ z k. still-below t d t2 d2 pd ph rises z k) st.below

  order-total : (f : Tag → ℕ) → total f (strand_tags order) ≡ total f (strand_tags A) + (total f (strand_tags V) + total f (strand_tags B))
  order-total f =
      ap (total f) (ap strand_tags order-parts ∙ tags-parts A V B) ∙ total-append f (strand_tags A) (strand_tags V ++ strand_tags B)
      ∙ ap (λ (n : ℕ). total f (strand_tags A) + n) (total-append f (strand_tags V) (strand_tags B))

  next-total : (f : Tag → ℕ) → total f (strand_tags next) ≡ total f (strand_tags A) + (total f (leaving t2 d2 front) + total f (strand_tags B))
  next-total f =
      ap (total f) next-tags ∙ total-append f (strand_tags A) (strand_tags S.fan ++ strand_tags B)
      ∙ ap (λ (n : ℕ). total f (strand_tags A) + n) (total-append f (strand_tags S.fan) (strand_tags B) ∙ ap (λ (n : ℕ). n + total f (strand_tags B)) (total-permutation f (leaving t2 d2 front) (strand_tags S.fan) S.fanned.permutation))

  front-total : (f : Tag → ℕ) → total f (strand_tags V) + total f taken ≡ total f (leaving t2 d2 front) + total f (staying t2 d2 front)
  front-total f = sym (total-append f (strand_tags V) taken) ∙ stay-sums t2 d2 f front

  pub next-stands : Stands all (strand_tags next) rest t2 d2
  next-stands = record {
    gone = st.gone ++ staying t2 d2 front;
    same = λ f.
        let u = st.same f in
        let v = order-total f in
        let w = next-total f in
        let x = front-total f in
        let y = total-append f st.gone (staying t2 d2 front) in
        let z = total-append f taken rest in
        omega (arith, u, v, w, x, y, z);
    below = each-both (λ z. (z *ℤ d2) ≤ℤ t2) st.gone (staying t2 d2 front)
        (each-map (λ z. (z *ℤ d2) <ℤ t2) (λ z. (z *ℤ d2) ≤ℤ t2) (ends st.gone) (λ z k. omega (arith, sums, k)) gone-below) (stay-below t2 d2 ph front low-front);
    above = above;
  }

  -- ---- which tests tell one place
  off-below : (l m : Pass) → Before l m t2 d2 → same_of true t d l m ≡ false
  off-below l m b =
      is_false (same_of true t d l m) (λ e.
      let k : same_in t d t2 d2 l m ≡ true = sym (far_same t d t2 d2 pd rises l m) ∙ e in
      let v : Level l m t2 d2 = eq-from_true (reach l t2 d2 *ℤ m.rise) (reach m t2 d2 *ℤ l.rise) (right_true (same_at t d l m) (same_at t2 d2 l m) k) in
      omega (arith, sums, b, v))

  off-at : (u : Bool) (l m : Pass) → Before l m t2 d2 → same_of u t2 d2 l m ≡ false
  off-at u l m b =
      is_false (same_of u t2 d2 l m) (λ e.
      let v : Level l m t2 d2 = eq-from_true (reach l t2 d2 *ℤ m.rise) (reach m t2 d2 *ℤ l.rise) (left_true (same_at t2 d2 l m) (same_at (cond u (pos 1) t2) (cond u (pos 0) d2) l m) e) in
      omega (arith, sums, b, v))

  on-line : (u : Bool) (l m : Pass) (x y : ℤ) → Level l m x y → lean l m ≡ pos 0 → same_of u x y l m ≡ true
  on-line u l m x y k e = both (same_at x y l m) (same_at (cond u (pos 1) x) (cond u (pos 0) y) l m) here (by u)
    where
      here : same_at x y l m ≡ true
      here = true-from_eq (reach l x y *ℤ m.rise) (reach m x y *ℤ l.rise) k

      by : (u : Bool) → same_at (cond u (pos 1) x) (cond u (pos 0) y) l m ≡ true
      by true = true-from_eq (reach l (pos 1) (pos 0) *ℤ m.rise) (reach m (pos 1) (pos 0) *ℤ l.rise) (lean_far l m e)
      by false = here

  same-quiet : (u : Bool) (l m : Pass) → NotAfter l m t2 d2 → Quiet l m t2 d2 → same_of true t d l m ≡ same_of u t2 d2 l m
  same-quiet u l m n q = by (quiet-is t2 d2 l m n q)
    where
      by : Before l m t2 d2 ⊎ (Level l m t2 d2 × (lean l m ≡ pos 0)) → same_of true t d l m ≡ same_of u t2 d2 l m
      by (inl b) = off-below l m b ∙ sym (off-at u l m b)
      by (inr k) = on-line true l m t d (together l m t2 d2 t d ph k.0 k.1) k.1 ∙ sym (on-line u l m t2 d2 k.0 k.1)

  same-next : (u : Bool) (ss : List Stop) → InRow t2 d2 ss → AllNext Quiets ss → AllNext (λ s r. same_of true t d s.pass r.pass ≡ same_of u t2 d2 s.pass r.pass) ss
  same-next u ss n q = next-two Not Quiets (λ s r. same_of true t d s.pass r.pass ≡ same_of u t2 d2 s.pass r.pass) ss (λ s r x y. same-quiet u s.pass r.pass x y) n q

  layered-strands : (ss : List Strand) → Layered 8 (wholes ss)
  layered-strands ss = layered (sited ss)

  layered-append : (xs ys : List Stop) → Layered 8 xs → Layered 8 ys → Layered 8 (xs ++ ys)
  layered-append [] ys x y = y
  layered-append (z ∷ xs) ys x y = (x.0, layered-append xs ys x.1 y)

  meet-v_b : Meet (Left t2 d2) (wholes V) (wholes B)
  meet-v_b = all-meet t2 d2 (wholes V) (wholes B) all-v

  -- the walk of a window that is balanced and turns as V does, up to an even number
  window : (i j : Status) (u : Bool) (X : List Stop) → Layered 8 X → Balanced X → Between X →
      Even (total (turning (pick 3)) (wholes V) + total (turning (pick 3)) X) → Even (total (turning (pick 7)) (wholes V) + total (turning (pick 7)) X) →
      (WalkMeets i j (all_turns (wholes order)) (groups_by (same_of true t d) (wholes order)) ⊎ WalkMeets i j (turns_ahead (all_turns (wholes B)) X) (groups_by (same_of u t2 d2) X))
      ↔ (WalkMeets i j (all_turns (wholes order)) (groups_by (same_of true t d) (wholes order)) ⊎ WalkMeets i j (all_turns (wholes A ++ (X ++ wholes B))) (groups_by (same_of u t2 d2) (wholes A ++ (X ++ wholes B))))
  window i j u X lx bx m e3 e7 =
      subst (λ (ss : List Stop). (WalkMeets i j (all_turns ss) (groups_by (same_of true t d) ss) ⊎ WalkMeets i j (turns_ahead (all_turns (wholes B)) X) (groups_by (same_of u t2 d2) X))
      ↔ (WalkMeets i j (all_turns ss) (groups_by (same_of true t d) ss) ⊎ WalkMeets i j (all_turns (wholes A ++ (X ++ wholes B))) (groups_by (same_of u t2 d2) (wholes A ++ (X ++ wholes B))))) (sym order-stops)
      (window-walks i j (same_of true t d) (same_of u t2 d2) (wholes A) (wholes V) X (wholes B) (layered-strands A) (layered-strands V) lx (layered-strands B)
      (wholes-balanced A) (wholes-balanced V) bx e3 e7
      (cut-of t2 d2 (same_of true t d) off-below (wholes A) (wholes V ++ wholes B) meet-avb)
      (cut-of t2 d2 (same_of true t d) off-below (wholes V) (wholes B) meet-v_b)
      (cut-of t2 d2 (same_of u t2 d2) (off-at u) (wholes A) (X ++ wholes B) m.left)
      (cut-of t2 d2 (same_of u t2 d2) (off-at u) X (wholes B) m.right)
      (same-next u (wholes A) row-a S.quiet_left) (same-next u (wholes B) row-b S.quiet_right))

  balanced-w : Balanced W
  balanced-w m =
      total-permutation (opening (pick m)) (stops_of front t2 d2) W S.walked.permutation ∙ stops-balanced t2 d2 front m
      ∙ sym (total-permutation (closing (pick m)) (stops_of front t2 d2) W S.walked.permutation)

  turns-above : (f : ℕ → ℕ) → total (turning f) U ≡ total (turning f) W
  turns-above f =
      fan-sums t2 d2 (turning f) front S.fan S.fanned.permutation ∙ sym (stops-turn t2 d2 f front) ∙ sym (total-permutation (turning f) (stops_of front t2 d2) W S.walked.permutation)

  three-total : (w : Stop → ℕ) (X Y Z : List Stop) → total w (X ++ (Y ++ Z)) ≡ total w X + (total w Y + total w Z)
  three-total w X Y Z = total-append w X (Y ++ Z) ∙ ap (λ (n : ℕ). total w X + n) (total-append w Y Z)

  -- ---- what was met
  module _ (a b : Parts) (cov : Covers a b all) where
    below-sums : (w : Stop → ℕ) → total w (wholes order) ≡ total w (above_from 0 (both_layers a b) t d)
    below-sums w = ap (total w) (sym (passing-above t d order pa)) ∙ slab-sums a b all (strand_tags order) (taken ++ rest) cov t d st w

    here-same : (f : Tag → ℕ) → total f all ≡ total f st.gone + (total f (strand_tags order ++ taken) + total f rest)
    here-same f =
        let u = st.same f in
        let v = total-append f taken rest in
        let w = total-append f (strand_tags order) taken in
        omega (arith, u, v, w)

    here-sums : (w : Stop → ℕ) → total w (wholes A ++ (W ++ wholes B)) ≡ total w (stops_from 0 (both_layers a b) t2 d2)
    here-sums w =
        let s = height-sums a b all (strand_tags order ++ taken) rest st.gone cov t2 d2 here-same gone-below above w in
        let x : total w (stops_of (strand_tags order ++ taken) t2 d2) ≡ total w (stops_of (strand_tags order) t2 d2) + total w (stops_of taken t2 d2) =
        ap (total w) (stops-append (strand_tags order) taken t2 d2) ∙ total-append w (stops_of (strand_tags order) t2 d2) (stops_of taken t2 d2) in
        let y : total w (stops_of (strand_tags order) t2 d2) ≡ total w (stops_of (strand_tags A) t2 d2) + (total w (stops_of (strand_tags V) t2 d2) + total w (stops_of (strand_tags B) t2 d2)) =
        ap (λ (gs : List Tag). total w (stops_of gs t2 d2)) (ap strand_tags order-parts ∙ tags-parts A V B)
        ∙ ap (total w) (stops-append (strand_tags A) (strand_tags V ++ strand_tags B) t2 d2 ∙ ap (λ (ss : List Stop). stops_of (strand_tags A) t2 d2 ++ ss) (stops-append (strand_tags V) (strand_tags B) t2 d2))
        ∙ three-total w (stops_of (strand_tags A) t2 d2) (stops_of (strand_tags V) t2 d2) (stops_of (strand_tags B) t2 d2) in
        let za : total w (stops_of (strand_tags A) t2 d2) ≡ total w (wholes A) = ap (total w) (passing-stops t2 d2 A next-a) in
        let zb : total w (stops_of (strand_tags B) t2 d2) ≡ total w (wholes B) = ap (total w) (passing-stops t2 d2 B next-b) in
        let zw : total w W ≡ total w (stops_of (strand_tags V) t2 d2) + total w (stops_of taken t2 d2) =
        total-permutation w (stops_of front t2 d2) W S.walked.permutation ∙ ap (total w) (stops-append (strand_tags V) taken t2 d2) ∙ total-append w (stops_of (strand_tags V) t2 d2) (stops_of taken t2 d2) in
        let n = three-total w (wholes A) W (wholes B) in
        omega (arith, s, x, y, za, zb, zw, n)

    clear : AllClear (both_layers a b) t d t2 d2
    clear = slab-clear (strand_tags order) (taken ++ rest) t d pd h ph (above_of (strand_tags order) t d) (sited order) refl perm fans slab a b all cov st

    turned : Even (total (turning (pick 3)) (above_from 0 (both_layers a b) t d) + total (turning (pick 3)) (stops_from 0 (both_layers a b) t2 d2))
        × Even (total (turning (pick 7)) (above_from 0 (both_layers a b) t d) + total (turning (pick 7)) (stops_from 0 (both_layers a b) t2 d2))
    turned = rings-turn t d t2 d2 pd ph rises a b cov.first.0 cov.second.0 cov.first.1 cov.second.1 cov.first_closed cov.second_closed clear

    even-window : (m : ℕ) → Even (total (turning (pick m)) (above_from 0 (both_layers a b) t d) + total (turning (pick m)) (stops_from 0 (both_layers a b) t2 d2)) →
        Even (total (turning (pick m)) (wholes V) + total (turning (pick m)) W)
    even-window m e =
        let u = below-sums (turning (pick m)) in
        let v = here-sums (turning (pick m)) in
        let x : total (turning (pick m)) (wholes order) ≡ total (turning (pick m)) (wholes A) + (total (turning (pick m)) (wholes V) + total (turning (pick m)) (wholes B)) =
        ap (total (turning (pick m))) order-stops ∙ three-total (turning (pick m)) (wholes A) (wholes V) (wholes B) in
        let y = three-total (turning (pick m)) (wholes A) W (wholes B) in
        record { half = e.half - (total (turning (pick m)) (wholes A) + total (turning (pick m)) (wholes B)); is = omega (arith, e.is, u, v, x, y) }

    even-above : (m : ℕ) → Even (total (turning (pick m)) (wholes V) + total (turning (pick m)) W) → Even (total (turning (pick m)) (wholes V) + total (turning (pick m)) U)
    even-above m e = rw (turns-above (pick m)) e

    pub old-slab : (i j : Status) → WalkMeets i j (all_turns (wholes order)) (groups_by (same_of true t d) (wholes order)) ↔ InSlab a b i j t d t2 d2
    old-slab i j =
        subst (λ (gs : List Group). WalkMeets i j (all_turns (wholes order)) gs ↔ InSlab a b i j t d t2 d2) (sym (groups-same (same_of true t d) (same_in t d t2 d2) (far_same t d t2 d2 pd rises) (wholes order)))
        (slab-met (strand_tags order) (taken ++ rest) t d pd h ph (above_of (strand_tags order) t d) (sited order) refl perm fans slab a b i j all cov st)

    here-met : (i j : Status) → WalkMeets i j (all_turns (wholes A ++ (W ++ wholes B))) (groups_by (same_of false t2 d2) (wholes A ++ (W ++ wholes B))) ↔ AtHeight a b i j t2 d2
    here-met i j =
        walk_height a b i j cov.first cov.second (wholes A ++ (W ++ wholes B)) (layered-append (wholes A) (W ++ wholes B) (layered-strands A) (layered-append W (wholes B) (layered S.walked.stops) (layered-strands B))) t2 d2 ph row-w here-sums

    window-here : (i j : Status) →
        (WalkMeets i j (all_turns (wholes order)) (groups_by (same_of true t d) (wholes order)) ⊎ WalkMeets i j (turns_ahead (all_turns (wholes B)) W) (groups_by (same_of false t2 d2) W))
        ↔ (WalkMeets i j (all_turns (wholes order)) (groups_by (same_of true t d) (wholes order)) ⊎ WalkMeets i j (all_turns (wholes A ++ (W ++ wholes B))) (groups_by (same_of false t2 d2) (wholes A ++ (W ++ wholes B))))
    window-here i j = window i j false W (layered S.walked.stops) balanced-w between-w (even-window 3 turned.0) (even-window 7 turned.1)

    window-above : (i j : Status) →
        (WalkMeets i j (all_turns (wholes order)) (groups_by (same_of true t d) (wholes order)) ⊎ WalkMeets i j (turns_ahead (all_turns (wholes B)) U) (groups_by (same_of true t2 d2) U))
        ↔ (WalkMeets i j (all_turns (wholes order)) (groups_by (same_of true t d) (wholes order)) ⊎ WalkMeets i j (all_turns (wholes next)) (groups_by (same_of true t2 d2) (wholes next)))
    window-above i j =
        subst (λ (ss : List Stop).
        (WalkMeets i j (all_turns (wholes order)) (groups_by (same_of true t d) (wholes order)) ⊎ WalkMeets i j (turns_ahead (all_turns (wholes B)) U) (groups_by (same_of true t2 d2) U))
        ↔ (WalkMeets i j (all_turns (wholes order)) (groups_by (same_of true t d) (wholes order)) ⊎ WalkMeets i j (all_turns ss) (groups_by (same_of true t2 d2) ss))) (sym next-stops)
        (window i j true U (layered-strands S.fan) (wholes-balanced S.fan) between-u (even-above 3 (even-window 3 turned.0)) (even-above 7 (even-window 7 turned.1)))

    pub next-met : (f : ℤ) → (f *ℤ d) ≤ℤ t → ((i j : Status) → IsTrue (entry i j old) ↔ (BothOut i j ⊎ (UpTo a b i j f t d ⊎ WalkMeets i j (all_turns (wholes order)) (groups_by (same_of true t d) (wholes order))))) →
        (i j : Status) → IsTrue (entry i j new) ↔ (BothOut i j ⊎ (UpTo a b i j f t2 d2 ⊎ WalkMeets i j (all_turns (wholes next)) (groups_by (same_of true t2 d2) (wholes next))))
    next-met f l m i j =
        turn (IsTrue (entry i j old)) (IsTrue (entry i j S.mid)) (IsTrue (entry i j new)) (BothOut i j) (UpTo a b i j f t d) _ (InSlab a b i j t d t2 d2) _ _ (AtHeight a b i j t2 d2) _ _ (UpTo a b i j f t2 d2)
        (m i j) (old-slab i j) (S.walked.entered i j) (window-here i j) (here-met i j) (S.fanned.entered i j) (window-above i j) (up_to_next a b i j f t d t2 d2 pd ph rises l)
      where
        turn : (M N Q X T O L K I H P R Z : Type 0) → M ↔ (X ⊎ (T ⊎ O)) → O ↔ L → N ↔ (M ⊎ K) → (O ⊎ K) ↔ (O ⊎ I) → I ↔ H → Q ↔ (N ⊎ P) → (O ⊎ P) ↔ (O ⊎ R) → (T ⊎ (L ⊎ H)) ↔ Z → Q ↔ (X ⊎ (Z ⊎ R))
        turn M N Q X T O L K I H P R Z m l n k g q p z = (λ x. by-q (q.0 x), from)
          where
            by-o : O → X ⊎ (Z ⊎ R)
            by-o o = inr (inl (z.0 (inr (inl (l.0 o)))))

            by-m : X ⊎ (T ⊎ O) → X ⊎ (Z ⊎ R)
            by-m (inl x) = inl x
            by-m (inr (inl u)) = inr (inl (z.0 (inl u)))
            by-m (inr (inr o)) = by-o o

            by-i : O ⊎ I → X ⊎ (Z ⊎ R)
            by-i (inl o) = by-o o
            by-i (inr i) = inr (inl (z.0 (inr (inr (g.0 i)))))

            by-n : M ⊎ K → X ⊎ (Z ⊎ R)
            by-n (inl x) = by-m (m.0 x)
            by-n (inr x) = by-i (k.0 (inr x))

            by-r : O ⊎ R → X ⊎ (Z ⊎ R)
            by-r (inl o) = by-o o
            by-r (inr r) = inr (inr r)

            by-q : N ⊎ P → X ⊎ (Z ⊎ R)
            by-q (inl x) = by-n (n.0 x)
            by-q (inr x) = by-r (p.0 (inr x))

            of-m : M → Q
            of-m x = q.1 (inl (n.1 (inl x)))

            of-o : O → Q
            of-o o = of-m (m.1 (inr (inr o)))

            of-k : O ⊎ K → Q
            of-k (inl o) = of-o o
            of-k (inr x) = q.1 (inl (n.1 (inr x)))

            of-p : O ⊎ P → Q
            of-p (inl o) = of-o o
            of-p (inr x) = q.1 (inr x)

            of-z : T ⊎ (L ⊎ H) → Q
            of-z (inl u) = of-m (m.1 (inr (inl u)))
            of-z (inr (inl s)) = of-o (l.1 s)
            of-z (inr (inr a)) = of-k (k.1 (inr (g.1 a)))

            from : X ⊎ (Z ⊎ R) → Q
            from (inl x) = of-m (m.1 (inl x))
            from (inr (inl y)) = of-z (z.1 y)
            from (inr (inr r)) = of-p (p.1 (inr r))
