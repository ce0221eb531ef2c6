-- A turn of the sweep: its window leaves what lies beside it as it is, and the queue has what is to come.
use Rattle.std.proofs.Common.{ℕ, zero, suc, ◌≡◌, ◌+◌, ◌-◌, ◌<◌, ◌≤◌, arith, sym, ap, ◌∙◌, subst, List, [], ◌∷◌, ◌++◌, append_assoc, length, length-append, length-take-le, take, drop}
use Rattle.std.proofs.Math.Seq.{take-append_seam, drop-append_seam}
use Rattle.std.specs.List.Sorted.{IsPermutation}
use mathlib.Core.Logic.{◌⊎◌, inl, inr}
use lib.IntN.{ℤ, pos, ◌+ℤ◌, ◌-ℤ◌, ◌*ℤ◌, *ℤ_comm, zero-*ℤ}
use lib.Signed.{◌<ℤ◌, ◌≤ℤ◌}
use Rattle.sg_algebra.proofs.Ring.{sums, times_one, lt-mul_right, nonneg_diff-mul}
use Rattle.sg_algebra.proofs.Cancelling.{lt-cancel_right}
use Rattle.sg_algebra.specs.Orders.{Cmp, less, same, more, cmp}
use Rattle.sg_heights.proofs.Grouping.{before-trans}
use Rattle.sg_segment.proofs.PassOrder.{Level}
use Rattle.sg_segment.specs.Passes.{reach, Before, NotAfter}
use Rattle.sg_segment.specs.declared.figures.Pass.{Pass}
use Rattle.sg_segment.specs.declared.figures.Ratio.{Ratio}
use Rattle.sg_heights.proofs.Crossing.{lead_is, leads}
use Rattle.sg_heights.specs.Fans.{lean, apart, Fan, first, slower, one_line, Uncrossed}
use Rattle.sg_heights.specs.Stops.{AllNext}
use Rattle.sg_heights.specs.Tallies.{stops_in}
use Rattle.sg_heights.specs.declared.stops.Stop.{Stop}
use Rattle.sg_shape.specs.declared.matrices.Matrix.{Matrix}
use Rattle.sg_sweep.specs.declared.events.Event.{Event}
use Rattle.sg_sweep.specs.declared.strand.Strand.{Strand}
use Rattle.sg_sweep.specs.Fronts.{low_of, high_of, Passing}
use Rattle.sg_sweep.specs.Pieces.{Tag, tag_of}
use Rattle.sg_sweep.specs.Queues.{NotOver, Under, IsEndOf, IsCrossingOf, EndIn, CrossingIn, AreIn, IsSpanned, pass_at}
use Rattle.sg_sweep.specs.Rungs.{Each, Exists}
use Rattle.sg_sweep.specs.Steps.{IsStep, IsTurn}
use Rattle.sg_sweep.specs.Strands.{strand_tags, wholes, leaving}
use Rattle.sg_sweep.specs.Windows.{AheadOf, BehindOf, EndsAbove, Quiet, IsFreeLeft, IsFreeRight, Meet}
use Rattle.sg_sweep.proofs.Borders.{next-left, next-right, next-join, next-map, each-append, each-first, each-second, each-permutation, InRow, ahead-all, behind-all}
use Rattle.sg_sweep.proofs.Coming.{both-in, exists-either, In, Lined, lined, Coming, ends-come, crossing-comes, Awaits}
use Rattle.sg_sweep.proofs.Front.{each-map}
use Rattle.sg_sweep.proofs.Growing.{exists-in, are-trans, permutation-in, grown-each, ends-in}
use Rattle.sg_sweep.proofs.Orders.{after-before}
use Rattle.sg_sweep.proofs.Places.{meet-at}
use Rattle.sg_sweep.proofs.StrandLists.{strand_tags-append, wholes-append, leaving-append, take_drop, drop-part}
use Rattle.sg_sweep.proofs.Stretches.{leaving-each, leaving-passing, fan-passing}
use Rattle.sg_sweep.proofs.Turn.{row-next}

-- ---- passes that part stay apart
parts-strictly : (l m : Pass) (t d t2 d2 : ℤ) → pos 0 <ℤ d → pos 0 <ℤ d2 → (t *ℤ d2) <ℤ (t2 *ℤ d) → NotAfter l m t d → lean l m <ℤ pos 0 → NotAfter l m t2 d2 → Before l m t2 d2
parts-strictly l m t d t2 d2 pd ph r a n b = by (cmp (reach l t2 d2 *ℤ m.rise) (reach m t2 d2 *ℤ l.rise))
  where
    -- level above and faster to the left, they would be in the other order below
    level : (p q : ℤ) → reach l t d *ℤ m.rise -ℤ reach m t d *ℤ l.rise ≡ p *ℤ t -ℤ q *ℤ d → reach l t2 d2 *ℤ m.rise -ℤ reach m t2 d2 *ℤ l.rise ≡ p *ℤ t2 -ℤ q *ℤ d2 → p <ℤ pos 0 → Level l m t2 d2 → ⊥
    level p q x y k e =
        let u : p *ℤ t2 -ℤ q *ℤ d2 ≡ pos 0 = omega (arith, sums, y, e) in
        let v : (p *ℤ t -ℤ q *ℤ d) ≤ℤ pos 0 = omega (arith, sums, x, a) in
        let w : (p *ℤ t2 -ℤ q *ℤ d2) *ℤ d ≡ (p *ℤ t -ℤ q *ℤ d) *ℤ d2 +ℤ p *ℤ (t2 *ℤ d -ℤ t *ℤ d2) = leads p q t d t2 d2 in
        let z : (p *ℤ t2 -ℤ q *ℤ d2) *ℤ d ≡ pos 0 = rw u (zero-*ℤ d) in
        let f : ((p *ℤ t -ℤ q *ℤ d) *ℤ d2) ≤ℤ (pos 0 *ℤ d2) = nonneg_diff-mul (p *ℤ t -ℤ q *ℤ d) (pos 0) d2 (omega (arith, sums)) v in
        let f0 : pos 0 *ℤ d2 ≡ pos 0 = zero-*ℤ d2 in
        let g : (p *ℤ (t2 *ℤ d -ℤ t *ℤ d2)) <ℤ (pos 0 *ℤ (t2 *ℤ d -ℤ t *ℤ d2)) = lt-mul_right p (pos 0) (t2 *ℤ d -ℤ t *ℤ d2) (omega (arith, sums)) k in
        let g0 : pos 0 *ℤ (t2 *ℤ d -ℤ t *ℤ d2) ≡ pos 0 = zero-*ℤ (t2 *ℤ d -ℤ t *ℤ d2) in
        omega (arith, sums, w, z, f, f0, g, g0)

    by : Cmp (reach l t2 d2 *ℤ m.rise) (reach m t2 d2 *ℤ l.rise) → Before l m t2 d2
    by (less h) = h
    by (same h) = absurd (level (lean l m) (apart l m) (lead_is l m t d) (lead_is l m t2 d2) n h)
    by (more h) = absurd (omega (arith, sums, b, h))

fan-not_after : (l m : Pass) (t d : ℤ) → Fan l m t d → NotAfter l m t d
fan-not_after l m t d (first h) = omega (arith, sums, h)
fan-not_after l m t d (slower h k) = omega (arith, sums, h)
fan-not_after l m t d (one_line h k) = omega (arith, sums, h)

before-crossing : (l m : Pass) (t2 d2 : ℤ) → (t2 *ℤ lean l m) <ℤ (apart l m *ℤ d2) → Before l m t2 d2
before-crossing l m t2 d2 h =
    let a : reach l t2 d2 *ℤ m.rise -ℤ reach m t2 d2 *ℤ l.rise ≡ lean l m *ℤ t2 -ℤ apart l m *ℤ d2 = lead_is l m t2 d2 in
    let b : lean l m *ℤ t2 ≡ t2 *ℤ lean l m = *ℤ_comm (lean l m) t2 in
    omega (arith, sums, a, b)

-- ---- lists by their places
behind-at : (t d : ℤ) (l : Pass) (n : ℕ) (ss : List Strand) → n ≤ length ss → ((x : Strand) → 0 < n → Before (pass_at ss (n - 1) x) l t d) → BehindOf l t d (wholes (take n ss))
behind-at t d l zero ss k f = tt
behind-at t d l (suc n) [] k f = tt
behind-at t d l (suc zero) (s ∷ ss) k f = f s (omega arith)
behind-at t d l (suc (suc n)) (s ∷ []) k f = absurd (omega arith)
behind-at t d l (suc (suc n)) (s ∷ (r ∷ ss)) k f =
    behind-at t d l (suc n) (r ∷ ss) (omega arith)
    (λ x z. let e : suc (suc n) - 1 ≡ suc (suc n - 1) = omega arith in subst (λ (m : ℕ). Before (pass_at (s ∷ (r ∷ ss)) m x) l t d) e (f x (omega arith)))

ahead-at : (t d : ℤ) (l : Pass) (n : ℕ) (ss : List Strand) → ((x : Strand) → n < length ss → Before l (pass_at ss n x) t d) → AheadOf l t d (wholes (drop n ss))
ahead-at t d l zero [] f = tt
ahead-at t d l zero (s ∷ ss) f = f s (omega arith)
ahead-at t d l (suc n) [] f = tt
ahead-at t d l (suc n) (s ∷ ss) f = ahead-at t d l n ss (λ x h. f x (omega arith))

strands-each : (P : Pass → Type 0) (ss : List Strand) → Each (λ s. P s.pass) (wholes ss) → Each (λ s. P s.stop.stop.pass) ss
strands-each P [] h = tt
strands-each P (s ∷ ss) h = (h.0, strands-each P ss h.1)

next-with : (P R : Stop → Stop → Type 0) (A : Stop → Type 0) (ss : List Stop) → ((s r : Stop) → P s r → A s → R s r) → AllNext P ss → Each A ss → AllNext R ss
next-with P R A [] f n a = tt
next-with P R A (s ∷ []) f n a = tt
next-with P R A (s ∷ (r ∷ ss)) f n a = (f s r n.0 a.0, next-with P R A (r ∷ ss) f n.1 a.1)

next-both : (P Q : Stop → Stop → Type 0) (ss : List Stop) → AllNext P ss → AllNext Q ss → AllNext (λ s r. P s r × Q s r) ss
next-both P Q [] p q = tt
next-both P Q (s ∷ []) p q = tt
next-both P Q (s ∷ (r ∷ ss)) p q = ((p.0, q.0), next-both P Q (r ∷ ss) p.1 q.1)

meet-part : (P : Stop → Stop → Type 0) (xs ys zs : List Stop) → Meet P xs (ys ++ zs) → Meet P xs ys
meet-part P [] ys zs m = tt
meet-part P (x ∷ []) [] zs m = tt
meet-part P (x ∷ []) (y ∷ ys) zs m = m
meet-part P (x ∷ (w ∷ xs)) ys zs m = meet-part P (w ∷ xs) ys zs m

-- ---- what lies beside the window
module _ (due : List Event) where
  -- nothing that happens at the height is at this pass
  abbrev pub Clear : Pass → Type 0
  Clear l = Each (λ e. e.pass ≡ l → ⊥) due

  module _ (q later : List Event) (p : IsPermutation q (due ++ later)) where
    -- what is queued at a clear pass stays queued
    pub stays : (P : Event → Type 0) (l : Pass) → ((e : Event) → P e → e.pass ≡ l) → Clear l → Exists P q → Exists P later
    stays P l f c h = by (exists-either P due later (exists-in P q (due ++ later) (permutation-in q (due ++ later) p) h))
      where
        by : Exists P due ⊎ Exists P later → Exists P later
        by (inl x) = absurd (both-in (λ e. e.pass ≡ l → ⊥) P ⊥ due (λ e c k. c (f e k)) c x)
        by (inr x) = x

pub record Apart (order : List Strand) (due : List Event) (begun : List Stop) (t d : ℤ) (from to : ℕ) : Type 0 where
  pub clear_left : Each (λ s. Clear due s.pass) (wholes (take from order))
  pub clear_right : Each (λ s. Clear due s.pass) (wholes (drop to order))
  pub ahead : Each (λ s. AheadOf s.pass t d begun) (wholes (take from order))
  pub behind : Each (λ s. BehindOf s.pass t d begun) (wholes (drop to order))
  pub apart_left : Meet (λ s r. Before s.pass r.pass t d) (wholes (take from order)) (wholes (drop from order))
  pub apart_right : Meet (λ s r. Before s.pass r.pass t d) (wholes (take to order)) (wholes (drop to order))

module _ (order : List Strand) (due : List Event) (begun : List Stop) (t d : ℤ) (from to : ℕ) (rises : from ≤ to) (within : to ≤ length order)
    (row-a : InRow t d (wholes (take from order))) (row-b : InRow t d (wholes (drop to order))) where
  all-clear : due ≡ [] → (ss : List Stop) → Each (λ s. Clear due s.pass) ss
  all-clear e [] = tt
  all-clear e (s ∷ ss) = (subst (λ (xs : List Event). Each (λ (x : Event). x.pass ≡ s.pass → ⊥) xs) (sym e) tt, all-clear e ss)

  all-behind : begun ≡ [] → (ss : List Stop) → Each (λ s. BehindOf s.pass t d begun) ss
  all-behind e [] = tt
  all-behind e (s ∷ ss) = (subst (λ (xs : List Stop). BehindOf s.pass t d xs) (sym e) tt, all-behind e ss)

  nothing : due ≡ [] → begun ≡ [] → from ≡ 0 → to ≡ 0 → Apart order due begun t d from to
  nothing e g f z = record {
    clear_left = all-clear e (wholes (take from order));
    clear_right = all-clear e (wholes (drop to order));
    ahead = subst (λ (n : ℕ). Each (λ s. AheadOf s.pass t d begun) (wholes (take n order))) (sym f) tt;
    behind = all-behind g (wholes (drop to order));
    apart_left = subst (λ (n : ℕ). Meet (λ s r. Before s.pass r.pass t d) (wholes (take n order)) (wholes (drop n order))) (sym f) tt;
    apart_right = subst (λ (n : ℕ). Meet (λ s r. Before s.pass r.pass t d) (wholes (take n order)) (wholes (drop n order))) (sym z) tt;
  }

  module _ (s : IsSpanned order due begun t d from to) where
    lefts : Each (λ r. Before r.pass s.span.left t d) (wholes (take from order))
    lefts = behind-all t d s.span.left (wholes (take from order)) row-a (behind-at t d s.span.left from order (omega arith) s.left.left)

    rights : Each (λ r. Before s.span.right r.pass t d) (wholes (drop to order))
    rights = ahead-all t d s.span.right (wholes (drop to order)) row-b (ahead-at t d s.span.right to order s.right.there)

    off-left : (l : Pass) → Before l s.span.left t d → Clear due l
    off-left l b =
        each-map (λ e. NotAfter s.span.left e.pass t d × NotAfter e.pass s.span.right t d) (λ e. e.pass ≡ l → ⊥) due
        (λ e i k. let u : NotAfter s.span.left l t d = subst (λ (x : Pass). NotAfter s.span.left x t d) k i.0 in omega (arith, sums, u, b)) s.events

    off-right : (l : Pass) → Before s.span.right l t d → Clear due l
    off-right l b =
        each-map (λ e. NotAfter s.span.left e.pass t d × NotAfter e.pass s.span.right t d) (λ e. e.pass ≡ l → ⊥) due
        (λ e i k. let u : NotAfter l s.span.right t d = subst (λ (x : Pass). NotAfter x s.span.right t d) k i.1 in omega (arith, sums, u, b)) s.events

    ahead-of : (l : Pass) (ss : List Stop) → Each (λ r. NotAfter s.span.left r.pass t d × NotAfter r.pass s.span.right t d) ss → Before l s.span.left t d → AheadOf l t d ss
    ahead-of l [] h b = tt
    ahead-of l (r ∷ ss) h b = after-before t d l s.span.left r.pass b h.0.0

    behind-of : (l : Pass) (ss : List Stop) → Each (λ r. NotAfter s.span.left r.pass t d × NotAfter r.pass s.span.right t d) ss → Before s.span.right l t d → BehindOf l t d ss
    behind-of l [] h b = tt
    behind-of l (r ∷ []) h b = before-trans r.pass s.span.right l t d h.0.1 b
    behind-of l (r ∷ (w ∷ ss)) h b = behind-of l (w ∷ ss) h.1 b

    from-or-after : (from < to) ⊎ (to ≡ from)
    from-or-after = grind (arith, rises)

    right-border : (x : Strand) → 0 < to → to < length order → Before (pass_at order (to - 1) x) (pass_at order to x) t d
    right-border x z l = by from-or-after
      where
        by : (from < to) ⊎ (to ≡ from) → Before (pass_at order (to - 1) x) (pass_at order to x) t d
        by (inl k) = before-trans (pass_at order (to - 1) x) s.span.right (pass_at order to x) t d (s.right.left x k) (s.right.there x l)
        by (inr k) =
            let u : Before (pass_at order (to - 1) x) s.span.left t d = subst (λ (n : ℕ). Before (pass_at order (n - 1) x) s.span.left t d) (sym k) (s.left.left x (omega arith)) in
            before-trans (pass_at order (to - 1) x) s.span.right (pass_at order to x) t d
            (let v : Before (pass_at order (to - 1) x) s.span.right t d = after-before t d (pass_at order (to - 1) x) s.span.left s.span.right u s.rises in omega (arith, sums, v)) (s.right.there x l)

    spanned : Apart order due begun t d from to
    spanned = record {
      clear_left = each-map (λ r. Before r.pass s.span.left t d) (λ r. Clear due r.pass) (wholes (take from order)) (λ r b. off-left r.pass b) lefts;
      clear_right = each-map (λ r. Before s.span.right r.pass t d) (λ r. Clear due r.pass) (wholes (drop to order)) (λ r b. off-right r.pass b) rights;
      ahead = each-map (λ r. Before r.pass s.span.left t d) (λ r. AheadOf r.pass t d begun) (wholes (take from order)) (λ r b. ahead-of r.pass begun s.stops b) lefts;
      behind = each-map (λ r. Before s.span.right r.pass t d) (λ r. BehindOf r.pass t d begun) (wholes (drop to order)) (λ r b. behind-of r.pass begun s.stops b) rights;
      apart_left = meet-at (λ x y. Before x.pass y.pass t d) from order (λ x z l. after-before t d (pass_at order (from - 1) x) s.span.left (pass_at order from x) (s.left.left x z) (s.left.there x l));
      apart_right = meet-at (λ x y. Before x.pass y.pass t d) to order right-border;
    }

  pub apart-from : IsSpanned order due begun t d from to ⊎ ((due ≡ []) × (begun ≡ []) × (from ≡ 0) × (to ≡ 0)) → Apart order due begun t d from to
  apart-from (inl s) = spanned s
  apart-from (inr n) = nothing n.0 n.1 n.2 n.3

-- ---- the turn
module _ (gs taken : List Tag) (order next : List Strand) (q q2 : List Event) (t d : ℤ) (h : Ratio) (old new : Matrix) (pd : pos 0 <ℤ d) (ph : pos 0 <ℤ h.bottom)
    (aw : Awaits gs q order t d) (pa : Passing (strand_tags order) t d) (fans : AllNext (λ s r. Fan s.pass r.pass t d) (wholes order)) (known : Each (In gs) taken)
    (rises : (t *ℤ h.bottom) <ℤ (h.top *ℤ d)) (uncrossed : AllNext (λ s r. Uncrossed s.pass r.pass h.top h.bottom) (wholes order))
    (T : IsTurn order taken h old new next q q2) where
  abbrev A : List Strand
  A = take T.from order

  abbrev V : List Strand
  V = take (T.to - T.from) (drop T.from order)

  abbrev B : List Strand
  B = drop T.to order

  order-parts : order ≡ A ++ (V ++ B)
  order-parts = sym (take_drop T.from order) ∙ ap (λ (ss : List Strand). A ++ ss) (drop-part T.from T.to order T.rises)

  stops-parts : (X Y Z : List Strand) → wholes (X ++ (Y ++ Z)) ≡ wholes X ++ (wholes Y ++ wholes Z)
  stops-parts X Y Z = wholes-append X (Y ++ Z) ∙ ap (λ (ss : List Stop). wholes X ++ ss) (wholes-append Y Z)

  tags-parts : (X Y Z : List Strand) → strand_tags (X ++ (Y ++ Z)) ≡ strand_tags X ++ (strand_tags Y ++ strand_tags Z)
  tags-parts X Y Z = strand_tags-append X (Y ++ Z) ∙ ap (λ (hs : List Tag). strand_tags X ++ hs) (strand_tags-append Y Z)

  order-stops : wholes order ≡ wholes A ++ (wholes V ++ wholes B)
  order-stops = ap wholes order-parts ∙ stops-parts A V B

  order-tags : strand_tags order ≡ strand_tags A ++ (strand_tags V ++ strand_tags B)
  order-tags = ap strand_tags order-parts ∙ tags-parts A V B

  next-stops : wholes next ≡ wholes A ++ (wholes T.fan ++ wholes B)
  next-stops = ap wholes T.next_is ∙ stops-parts A T.fan B

  next-tags : strand_tags next ≡ strand_tags A ++ (strand_tags T.fan ++ strand_tags B)
  next-tags = ap strand_tags T.next_is ∙ tags-parts A T.fan B

  -- what holds of neighbours in the order holds of those in its parts
  left-of : (P : Stop → Stop → Type 0) → AllNext P (wholes order) → AllNext P (wholes A)
  left-of P n = next-left P (wholes A) (wholes V ++ wholes B) (subst (AllNext P) order-stops n)

  right-of : (P : Stop → Stop → Type 0) → AllNext P (wholes order) → AllNext P (wholes B)
  right-of P n = next-right P (wholes V) (wholes B) (next-right P (wholes A) (wholes V ++ wholes B) (subst (AllNext P) order-stops n))

  row : InRow h.top h.bottom (wholes order)
  row = row-next t d h pd ph rises (wholes order) fans uncrossed

  abbrev Not : Stop → Stop → Type 0
  Not s r = NotAfter s.pass r.pass h.top h.bottom

  aside : Apart order T.due (stops_in T.begun) h.top h.bottom T.from T.to
  aside = apart-from order T.due (stops_in T.begun) h.top h.bottom T.from T.to T.rises T.within (left-of Not row) (right-of Not row) T.window

  -- ---- the strands beside the window
  stays-crossing : (s r : Stop) → CrossingIn q s.pass r.pass → Clear T.due s.pass → CrossingIn T.later s.pass r.pass
  stays-crossing s r c k p = stays T.due q T.later T.parted (IsCrossingOf s.pass r.pass) s.pass (λ e x. x.1) k (c p)

  part-crossings : (ss : List Stop) → AllNext (λ s r. CrossingIn q s.pass r.pass) ss → Each (λ s. Clear T.due s.pass) ss → AllNext (λ s r. CrossingIn T.later s.pass r.pass) ss
  part-crossings ss n c = next-with (λ s r. CrossingIn q s.pass r.pass) (λ s r. CrossingIn T.later s.pass r.pass) (λ s. Clear T.due s.pass) ss stays-crossing n c

  crossings-a : AllNext (λ s r. CrossingIn T.later s.pass r.pass) (wholes A)
  crossings-a = part-crossings (wholes A) (left-of (λ s r. CrossingIn q s.pass r.pass) aw.crossings) aside.clear_left

  crossings-b : AllNext (λ s r. CrossingIn T.later s.pass r.pass) (wholes B)
  crossings-b = part-crossings (wholes B) (right-of (λ s r. CrossingIn q s.pass r.pass) aw.crossings) aside.clear_right

  -- neighbours of which a crossing would still come are quiet
  abbrev Facts : Stop → Stop → Type 0
  Facts s r = CrossingIn T.later s.pass r.pass × (Not s r × Fan s.pass r.pass t d)

  quiet : (s r : Stop) → Facts s r → Quiet s.pass r.pass h.top h.bottom
  quiet s r f = by (cmp (lean s.pass r.pass) (pos 0))
    where
      by : Cmp (lean s.pass r.pass) (pos 0) → Quiet s.pass r.pass h.top h.bottom
      by (less k) = inl (parts-strictly s.pass r.pass t d h.top h.bottom pd ph rises (fan-not_after s.pass r.pass t d f.1.1) k f.1.0)
      by (same k) = inr k
      by (more k) =
          inl (both-in (λ e. Under h e.height) (IsCrossingOf s.pass r.pass) (Before s.pass r.pass h.top h.bottom) T.later
          (λ e u x.
          before-crossing s.pass r.pass h.top h.bottom
          (subst (λ (y : ℤ). (h.top *ℤ lean s.pass r.pass) <ℤ (y *ℤ h.bottom)) x.0.top (subst (λ (y : ℤ). (h.top *ℤ y) <ℤ (e.height.top *ℤ h.bottom)) x.0.bottom u))) T.later_above (f.0 k))

  quiets : (ss : List Stop) → AllNext (λ s r. CrossingIn T.later s.pass r.pass) ss → InRow h.top h.bottom ss → AllNext (λ s r. Fan s.pass r.pass t d) ss → AllNext (λ s r. Quiet s.pass r.pass h.top h.bottom) ss
  quiets ss c n f =
      next-map Facts (λ s r. Quiet s.pass r.pass h.top h.bottom) ss quiet
      (next-both (λ s r. CrossingIn T.later s.pass r.pass) (λ s r. Not s r × Fan s.pass r.pass t d) ss c (next-both Not (λ s r. Fan s.pass r.pass t d) ss n f))

  -- the end of a strand at a clear pass is still to come
  slants : (g : Tag) → (low_of g *ℤ d) ≤ℤ t → t <ℤ (high_of g *ℤ d) → low_of g <ℤ high_of g
  slants g l u = lt-cancel_right (low_of g) (high_of g) d pd (omega (arith, sums, l, u))

  end-stays : (s : Strand) → low_of (tag_of s.piece) <ℤ high_of (tag_of s.piece) → EndIn q (tag_of s.piece) → Clear T.due s.stop.stop.pass → EndIn T.later (tag_of s.piece)
  end-stays s k x c =
      stays T.due q T.later T.parted (IsEndOf (tag_of s.piece)) s.stop.stop.pass
      (λ e y. y.2 k ∙ sym (ap (λ (r : Stop). r.pass) (s.whole.1 k))) c x

  part-ends : (ss : List Strand) → Passing (strand_tags ss) t d → Each (EndIn q) (strand_tags ss) → Each (λ s. Clear T.due s.pass) (wholes ss) → Each (EndIn T.later) (strand_tags ss)
  part-ends [] p e c = tt
  part-ends (s ∷ ss) p e c = (end-stays s (slants (tag_of s.piece) p.0.0 p.0.1) e.0 c.0, part-ends ss p.1 e.1 c.1)

  ends-above : (ss : List Strand) → Each (EndIn T.later) (strand_tags ss) → Each (λ s. EndsAbove s h.top h.bottom) ss
  ends-above [] e = tt
  ends-above (s ∷ ss) e = (
    both-in (λ e. Under h e.height) (IsEndOf (tag_of s.piece)) (h.top <ℤ (high_of (tag_of s.piece) *ℤ h.bottom)) T.later
        (λ e u k.
        let a : (h.top *ℤ pos 1) <ℤ (high_of (tag_of s.piece) *ℤ h.bottom) =
        subst (λ (y : ℤ). (h.top *ℤ pos 1) <ℤ (y *ℤ h.bottom)) k.0 (subst (λ (y : ℤ). (h.top *ℤ y) <ℤ (e.height.top *ℤ h.bottom)) k.1 u) in
        let b : h.top *ℤ pos 1 ≡ h.top = times_one h.top in
        omega (arith, sums, a, b)) T.later_above e.0,
    ends-above ss e.1,
  )

  passing-parts : Passing (strand_tags A ++ (strand_tags V ++ strand_tags B)) t d
  passing-parts = subst (λ (hs : List Tag). Passing hs t d) order-tags pa

  abbrev Through : Tag → Type 0
  Through g = ((low_of g *ℤ d) ≤ℤ t) × (t <ℤ (high_of g *ℤ d))

  tags-a : (P : Tag → Type 0) → Each P (strand_tags order) → Each P (strand_tags A)
  tags-a P e = each-first P (strand_tags A) (strand_tags V ++ strand_tags B) (subst (Each P) order-tags e)

  tags-v : (P : Tag → Type 0) → Each P (strand_tags order) → Each P (strand_tags V)
  tags-v P e = each-first P (strand_tags V) (strand_tags B) (each-second P (strand_tags A) (strand_tags V ++ strand_tags B) (subst (Each P) order-tags e))

  tags-b : (P : Tag → Type 0) → Each P (strand_tags order) → Each P (strand_tags B)
  tags-b P e = each-second P (strand_tags V) (strand_tags B) (each-second P (strand_tags A) (strand_tags V ++ strand_tags B) (subst (Each P) order-tags e))

  ends-a : Each (EndIn T.later) (strand_tags A)
  ends-a = part-ends A (tags-a Through pa) (tags-a (EndIn q) aw.edge_ends) aside.clear_left

  ends-b : Each (EndIn T.later) (strand_tags B)
  ends-b = part-ends B (tags-b Through pa) (tags-b (EndIn q) aw.edge_ends) aside.clear_right

  free-left : (ss : List Strand) → Each (λ s. EndsAbove s h.top h.bottom) ss → Each (λ s. AheadOf s.pass h.top h.bottom (stops_in T.begun)) (wholes ss) → Each (λ s. IsFreeLeft s (stops_in T.begun) h.top h.bottom) ss
  free-left [] e a = tt
  free-left (s ∷ ss) e a = ((e.0, a.0), free-left ss e.1 a.1)

  free-right : (ss : List Strand) → Each (λ s. EndsAbove s h.top h.bottom) ss → Each (λ s. BehindOf s.pass h.top h.bottom (stops_in T.begun)) (wholes ss) → Each (λ s. IsFreeRight s (stops_in T.begun) h.top h.bottom) ss
  free-right [] e a = tt
  free-right (s ∷ ss) e a = ((e.0, a.0), free-right ss e.1 a.1)

  pub step : IsStep order taken h.top h.bottom old new next
  step = record {
    begun = T.begun;
    begun_is = T.begun_is;
    begun_sorted = T.begun_sorted;
    from = T.from;
    to = T.to;
    rises = T.rises;
    within = T.within;
    free_left = free-left A (ends-above A ends-a) aside.ahead;
    free_right = free-right B (ends-above B ends-b) aside.behind;
    quiet_left = quiets (wholes A) crossings-a (left-of Not row) (left-of (λ s r. Fan s.pass r.pass t d) fans);
    quiet_right = quiets (wholes B) crossings-b (right-of Not row) (right-of (λ s r. Fan s.pass r.pass t d) fans);
    apart_left = aside.apart_left;
    apart_right = aside.apart_right;
    mid = T.mid;
    fan = T.fan;
    walked = T.walked;
    fanned = T.fanned;
    next_is = T.next_is;
  }

  -- ---- what the queue has above
  module _ (passing : Passing (strand_tags next) h.top h.bottom) (fanned2 : AllNext (λ s r. Fan s.pass r.pass h.top h.bottom) (wholes next)) where
    abbrev front : List Tag
    front = strand_tags V ++ taken

    among-next : Each (In gs) (strand_tags next)
    among-next =
        subst (Each (In gs)) (sym next-tags)
        (each-append (In gs) (strand_tags A) (strand_tags T.fan ++ strand_tags B) (tags-a (In gs) aw.among)
        (each-append (In gs) (strand_tags T.fan) (strand_tags B)
        (each-permutation (In gs) (leaving h.top h.bottom front) (strand_tags T.fan) T.fanned.permutation (leaving-each h.top h.bottom (In gs) front (each-append (In gs) (strand_tags V) taken (tags-v (In gs) aw.among) known)))
        (tags-b (In gs) aw.among)))

    lined-next : Each (Lined gs) (wholes next)
    lined-next = lined gs h.top h.bottom next among-next passing

    passing-fan : Passing (strand_tags T.fan) h.top h.bottom
    passing-fan = fan-passing h.top h.bottom front T.fan T.fanned.permutation

    -- the events that stay in the queue
    later-comes : Each (Coming gs h.top h.bottom) T.later
    later-comes = both-each T.later (each-second (Coming gs t d) T.due T.later (each-permutation (Coming gs t d) q (T.due ++ T.later) T.parted aw.coming)) T.later_above
      where
        both-each : (es : List Event) → Each (Coming gs t d) es → Each (λ e. Under h e.height) es → Each (Coming gs h.top h.bottom) es
        both-each [] c u = tt
        both-each (e ∷ es) c u = ((c.0.0, u.0), both-each es c.1 u.1)

    known-ends : Each (In gs) (leaving h.top h.bottom taken)
    known-ends = leaving-each h.top h.bottom (In gs) taken known

    ended-comes : Each (Coming gs h.top h.bottom) T.ended
    ended-comes = grown-each (Coming gs h.top h.bottom) _ T.later T.ended T.ends_grow later-comes (ends-come gs h.top h.bottom (leaving h.top h.bottom taken) known-ends (each-map (λ g. ((low_of g *ℤ h.bottom) ≤ℤ h.top) × (h.top <ℤ (high_of g *ℤ h.bottom))) (λ g. h.top <ℤ (high_of g *ℤ h.bottom)) (leaving h.top h.bottom taken) (λ g p. p.1) (leaving-passing h.top h.bottom taken)))

    fan-fans : AllNext (λ s r. Fan s.pass r.pass h.top h.bottom) (wholes T.fan)
    fan-fans = T.fanned.sorted

    fan-lined : Each (Lined gs) (wholes T.fan)
    fan-lined = each-first (Lined gs) (wholes T.fan) (wholes B) (each-second (Lined gs) (wholes A) (wholes T.fan ++ wholes B) (subst (Each (Lined gs)) next-stops lined-next))

    next-comes : Each (Coming gs h.top h.bottom) q2
    next-comes =
        grown-each (Coming gs h.top h.bottom) _ T.crossings.left q2 T.crossings.right_grows
        (grown-each (Coming gs h.top h.bottom) _ T.crossings.inner T.crossings.left T.crossings.left_grows
        (grown-each (Coming gs h.top h.bottom) _ T.ended T.crossings.inner T.crossings.fan_grows ended-comes (crossing-comes gs h.top h.bottom (wholes T.fan) fan-fans fan-lined))
        (crossing-comes gs h.top h.bottom (wholes next) fanned2 lined-next))
        (crossing-comes gs h.top h.bottom (wholes next) fanned2 lined-next)

    ended-in : AreIn T.ended q2
    ended-in = are-trans T.ended T.crossings.left q2 (are-trans T.ended T.crossings.inner T.crossings.left T.crossings.fan_grows.kept T.crossings.left_grows.kept) T.crossings.right_grows.kept

    later-in : AreIn T.later q2
    later-in = are-trans T.later T.ended q2 T.ends_grow.kept ended-in

    inner-in : AreIn T.crossings.inner q2
    inner-in = are-trans T.crossings.inner T.crossings.left q2 T.crossings.left_grows.kept T.crossings.right_grows.kept

    -- an end above the height is not due
    above-stays : (g : Tag) → EndIn q g → h.top <ℤ (high_of g *ℤ h.bottom) → EndIn T.later g
    above-stays g x k = by (exists-either (IsEndOf g) T.due T.later (exists-in (IsEndOf g) q (T.due ++ T.later) (permutation-in q (T.due ++ T.later) T.parted) x))
      where
        not-due : (e : Event) → NotOver e.height h → IsEndOf g e → ⊥
        not-due e n y =
            let a : (high_of g *ℤ h.bottom) ≤ℤ (h.top *ℤ pos 1) = subst (λ (z : ℤ). (high_of g *ℤ h.bottom) ≤ℤ (h.top *ℤ z)) y.1 (subst (λ (z : ℤ). (z *ℤ h.bottom) ≤ℤ (h.top *ℤ e.height.bottom)) y.0 n) in
            let b : h.top *ℤ pos 1 ≡ h.top = times_one h.top in
            omega (arith, sums, a, b, k)

        by : Exists (IsEndOf g) T.due ⊎ Exists (IsEndOf g) T.later → EndIn T.later g
        by (inl y) = absurd (both-in (λ e. NotOver e.height h) (IsEndOf g) ⊥ T.due not-due T.due_by y)
        by (inr y) = y

    leaving-ends : (hs : List Tag) → Each (EndIn q) hs → Each (EndIn q2) (leaving h.top h.bottom hs)
    leaving-ends hs e = each-two (leaving h.top h.bottom hs) (leaving-each h.top h.bottom (EndIn q) hs e) (leaving-passing h.top h.bottom hs)
      where
        each-two : (xs : List Tag) → Each (EndIn q) xs → Passing xs h.top h.bottom → Each (EndIn q2) xs
        each-two [] a p = tt
        each-two (x ∷ xs) a p = (exists-in (IsEndOf x) T.later q2 later-in (above-stays x a.0 p.0.1), each-two xs a.1 p.1)

    fan-ends : Each (EndIn q2) (strand_tags T.fan)
    fan-ends =
        each-permutation (EndIn q2) (leaving h.top h.bottom front) (strand_tags T.fan) T.fanned.permutation
        (subst (Each (EndIn q2)) (sym (leaving-append h.top h.bottom (strand_tags V) taken))
        (each-append (EndIn q2) (leaving h.top h.bottom (strand_tags V)) (leaving h.top h.bottom taken) (leaving-ends (strand_tags V) (tags-v (EndIn q) aw.edge_ends)) (ends-in T.ended q2 (leaving h.top h.bottom taken) ended-in T.ends_queued)))

    next-ends : Each (EndIn q2) (strand_tags next)
    next-ends =
        subst (Each (EndIn q2)) (sym next-tags)
        (each-append (EndIn q2) (strand_tags A) (strand_tags T.fan ++ strand_tags B) (ends-in T.later q2 (strand_tags A) later-in ends-a)
        (each-append (EndIn q2) (strand_tags T.fan) (strand_tags B) fan-ends (ends-in T.later q2 (strand_tags B) later-in ends-b)))

    abbrev Queued : List Event → Stop → Stop → Type 0
    Queued u s r = CrossingIn u s.pass r.pass

    more-queued : (u v : List Event) → AreIn u v → (s r : Stop) → Queued u s r → Queued v s r
    more-queued u v k s r c p = exists-in (IsCrossingOf s.pass r.pass) u v k (c p)

    -- the two borders of what has come
    next-length : length A ≡ T.from
    next-length = length-take-le T.from order (let a = T.rises in let b = T.within in omega (arith, a, b))

    take-a : take T.from next ≡ A
    take-a = ap (take T.from) T.next_is ∙ ap (λ (n : ℕ). take n (A ++ (T.fan ++ B))) (sym next-length) ∙ take-append_seam A (T.fan ++ B)

    drop-a : drop T.from next ≡ T.fan ++ B
    drop-a = ap (drop T.from) T.next_is ∙ ap (λ (n : ℕ). drop n (A ++ (T.fan ++ B))) (sym next-length) ∙ drop-append_seam A (T.fan ++ B)

    both-length : length (A ++ T.fan) ≡ T.from + length T.fan
    both-length = length-append A T.fan ∙ ap (λ (n : ℕ). n + length T.fan) next-length

    next-two-parts : next ≡ (A ++ T.fan) ++ B
    next-two-parts = T.next_is ∙ sym (append_assoc A T.fan B)

    take-b : take (T.from + length T.fan) next ≡ A ++ T.fan
    take-b = ap (take (T.from + length T.fan)) next-two-parts ∙ ap (λ (n : ℕ). take n ((A ++ T.fan) ++ B)) (sym both-length) ∙ take-append_seam (A ++ T.fan) B

    drop-b : drop (T.from + length T.fan) next ≡ B
    drop-b = ap (drop (T.from + length T.fan)) next-two-parts ∙ ap (λ (n : ℕ). drop n ((A ++ T.fan) ++ B)) (sym both-length) ∙ drop-append_seam (A ++ T.fan) B

    left-meet : Meet (Queued q2) (wholes A) (wholes T.fan ++ wholes B)
    left-meet =
        subst (Meet (Queued q2) (wholes A)) (wholes-append T.fan B)
        (subst (λ (xs : List Strand). Meet (Queued q2) (wholes A) (wholes xs)) drop-a (subst (λ (xs : List Strand). Meet (Queued q2) (wholes xs) (wholes (drop T.from next))) take-a
        (meet-at (λ x y. CrossingIn q2 x.pass y.pass) T.from next (λ x z l. λ p. exists-in _ T.crossings.left q2 T.crossings.right_grows.kept (T.crossings.left_queued x z l p)))))

    right-meet : Meet (Queued q2) (wholes A ++ wholes T.fan) (wholes B)
    right-meet =
        subst (λ (ss : List Stop). Meet (Queued q2) ss (wholes B)) (wholes-append A T.fan)
        (subst (λ (xs : List Strand). Meet (Queued q2) (wholes (A ++ T.fan)) (wholes xs)) drop-b (subst (λ (xs : List Strand). Meet (Queued q2) (wholes xs) (wholes (drop (T.from + length T.fan) next))) take-b
        (meet-at (λ x y. CrossingIn q2 x.pass y.pass) (T.from + length T.fan) next T.crossings.right_queued)))

    next-crossings : AllNext (Queued q2) (wholes next)
    next-crossings =
        subst (AllNext (Queued q2)) (append_assoc (wholes A) (wholes T.fan) (wholes B) ∙ sym next-stops)
        (next-join (Queued q2) (wholes A ++ wholes T.fan) (wholes B)
        (next-join (Queued q2) (wholes A) (wholes T.fan) (next-map (Queued T.later) (Queued q2) (wholes A) (more-queued T.later q2 later-in) crossings-a)
        (next-map (Queued T.crossings.inner) (Queued q2) (wholes T.fan) (more-queued T.crossings.inner q2 inner-in) T.crossings.fan_queued) (meet-part (Queued q2) (wholes A) (wholes T.fan) (wholes B) left-meet))
        (next-map (Queued T.later) (Queued q2) (wholes B) (more-queued T.later q2 later-in) crossings-b) right-meet)

    pub next-awaits : Awaits gs q2 next h.top h.bottom
    next-awaits = record { among = among-next; coming = next-comes; edge_ends = next-ends; crossings = next-crossings }
