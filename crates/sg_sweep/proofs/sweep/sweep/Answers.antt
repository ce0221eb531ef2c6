use Rattle.std.proofs.Common.{arith, ◌≡◌, ◌+◌, ◌∙◌, ap, sym, subst, List, [], drop, heap_items, Option}
use Rattle.std.specs.Prelude.{IfSome}
use Rattle.sg_heights.specs.Stops.{AllNext, SomeNext}
use Rattle.sg_segment.specs.Ranges.{IsRatio}
use Rattle.sg_segment.specs.declared.figures.Ratio.{Ratio}
use Rattle.sg_shape.specs.declared.matrices.Matrix.{Matrix}
use Rattle.sg_sweep.specs.Aims.{only_outside}
use Rattle.sg_sweep.specs.declared.events.Event.{Event}
use Rattle.sg_sweep.specs.declared.pieces.Piece.{Piece}
use Rattle.sg_sweep.specs.declared.strand.Strand.{Strand}
use Rattle.sg_sweep.specs.Pieces.{tags}
use Rattle.sg_sweep.specs.Fronts.{IsRising}
use Rattle.sg_sweep.specs.Queues.{IsEndOf, IsCrossingOf, EndIn, CrossingIn, Grows, IsNextHeight}
use Rattle.sg_sweep.specs.Rungs.{Each, Exists}
use Rattle.sg_sweep.specs.Steps.{IsFanned}
use Rattle.sg_sweep.specs.Strands.{leaving, wholes}
use Rattle.sg_sweep.proofs.Front.{rising-drop, within-more}
use Rattle.sg_sweep.proofs.Moving.{Reached, ComesNext, awaits-start, moved, fewer-left, found-done, found-top}
use Rattle.sg_sweep.proofs.Turns.{kept-start, not-over}
use Rattle.sg_sweep.proofs.sweep.sweep.Goals as goal

pub loop-next-init : goal.loop-next-init
loop-next-init c =
    let fs = c.in_ok-first.first.items in
    let ws = c.in_ok-first.later.items in
    let t = c.start-start.result.top in
    let d = c.start-start.result.bottom in
    let order = c.in_ok-order.order.items in
    let q1 = heap_items c.queue_ends.new.queue in
    let q2 = heap_items c.queue_crossings.new.queue in
    let fanned : IsFanned (tags fs) t d c.turns_on.result only_outside c.walk_above.new.met order =
    subst (λ (m : Matrix). IsFanned (tags fs) t d c.turns_on.result m c.walk_above.new.met order) c.only_outside-met.ensures
    (subst (λ (ps : List Piece). IsFanned (tags ps) t d c.turns_on.result c.only_outside-met.result c.walk_above.new.met order) c.deref.ensures.value c.in_ok-order.ensures) in
    let ends_grow : Grows (λ e. Exists (λ g. IsEndOf g e) (leaving t d (tags fs))) [] q1 =
    subst (λ (q : List Event). Grows (λ e. Exists (λ g. IsEndOf g e) (leaving t d (tags fs))) q q1) c.new-queue.ensures.items
    (subst (λ (ps : List Piece). Grows (λ e. Exists (λ g. IsEndOf g e) (leaving t d (tags ps))) (heap_items c.new-queue.result) q1) c.deref-2.ensures.value c.in_ok-queue_ends.ensures.grows) in
    let ends_queued : Each (EndIn q1) (leaving t d (tags fs)) = subst (λ (ps : List Piece). Each (EndIn q1) (leaving t d (tags ps))) c.deref-2.ensures.value c.in_ok-queue_ends.ensures.queued in
    let crossings_grow : Grows (λ e. SomeNext (λ s r. IsCrossingOf s.pass r.pass e) (wholes order)) q1 q2 =
    subst (λ (ss : List Strand). Grows (λ e. SomeNext (λ s r. IsCrossingOf s.pass r.pass e) (wholes ss)) q1 q2) c.deref-3.ensures.value c.in_ok-queue_crossings.ensures.grows in
    let crossings_queued : AllNext (λ s r. CrossingIn q2 s.pass r.pass) (wholes order) =
    subst (λ (ss : List Strand). AllNext (λ s r. CrossingIn q2 s.pass r.pass) (wholes ss)) c.deref-3.ensures.value c.in_ok-queue_crossings.ensures.queued in
    record {
      heap = c.in_ok-queue_crossings.ensures.heap;
      rising = c.in_ok-first.ensures.sorted;
      within = omega arith;
      passed = record {
        last = c.start-start.result;
        reached = record {
          range = c.start-start.ensures.range;
          kept = kept-start c.args.pieces.now fs ws c.args.aim.now.from c.args.aim.now.to order c.walk_above.new.met c.turns_on.result t d c.start-start.ensures.top c.start-start.ensures.bottom c.args.aim.now.rises
              c.turns_on.ensures.turns c.in_ok-first.ensures.shares fanned;
          awaits = awaits-start fs ws order q1 q2 t d c.start-start.ensures.range.is_over fanned.permutation fanned.sorted ends_grow ends_queued crossings_grow crossings_queued;
        };
      };
      comes = subst (λ (xs : List Piece). ComesNext q2 xs c.next_height-next.result) c.deref-4.ensures.value c.next_height-next.ensures.next;
      range = c.next_height-next.ensures.range;
    }

pub returns-then-is_done : goal.returns-then-is_done
returns-then-is_done c = λ a b cov want.
    let ws = c.in_ok-first.later.items in
    let q = heap_items c.loop-next.queue in
    let next : IsNextHeight q (tags (drop c.loop-next.begun ws)) c.in-Some.height = subst (λ (o : Option Ratio). ComesNext q (drop c.loop-next.begun ws) o) c.in-Some.is c.loop-next.invariant.comes in
    let range : IsRatio c.in-Some.height = subst (λ (o : Option Ratio). IfSome o (λ h. IsRatio h)) c.in-Some.is c.loop-next.invariant.range in
    found-done c.args.pieces.now c.in_ok-first.first.items ws c.args.aim.now.from c.args.aim.now.to c.loop-next.begun c.loop-next.order.items c.loop-next.met c.args.aim.now.wanted c.args.aim.now.decides q c.in-Some.height range
    c.loop-next.invariant.passed next (sym c.is_done.ensures ∙ c.if-is_done.true) a b cov want

pub next_height-next-requires-in-Some-clause-rising : goal.next_height-next-requires-in-Some-clause-rising
next_height-next-requires-in-Some-clause-rising c =
    let n = c.loop-next.begun + c.count_begun-count.result in
    subst (λ (ps : List Piece). IsRising (tags ps)) (sym (c.rest_of.ensures ∙ ap (drop n) c.deref-in-Some-2.ensures.value)) (rising-drop n c.in_ok-first.later.items c.loop-next.invariant.rising)

after : (c : goal.After-next_height-next-in-Some) →
    Reached c.args.pieces.now c.in_ok-first.first.items c.in_ok-first.later.items c.args.aim.now.from c.args.aim.now.to (c.loop-next.begun + c.count_begun-count.result) c.step.new.order.items c.step.new.met (heap_items c.step.new.queue) c.in-Some.height
after c =
    let ws = c.in_ok-first.later.items in
    let q = heap_items c.loop-next.queue in
    let next : IsNextHeight q (tags (drop c.loop-next.begun ws)) c.in-Some.height = subst (λ (o : Option Ratio). ComesNext q (drop c.loop-next.begun ws) o) c.in-Some.is c.loop-next.invariant.comes in
    let range : IsRatio c.in-Some.height = subst (λ (o : Option Ratio). IfSome o (λ h. IsRatio h)) c.in-Some.is c.loop-next.invariant.range in
    moved c.args.pieces.now c.in_ok-first.first.items ws c.rest_of-waiting.result.now c.first_of-taken.result.now c.args.aim.now.from c.args.aim.now.to c.loop-next.begun c.count_begun-count.result c.loop-next.order.items c.step.new.order.items
    c.loop-next.met c.step.new.met q (heap_items c.step.new.queue) c.in-Some.height range (c.rest_of-waiting.ensures ∙ ap (drop c.loop-next.begun) c.deref-in-Some.ensures.value) c.loop-next.invariant.rising c.first_of-taken.ensures
    (not-over _ _ _ _ (sym c.is_done.ensures ∙ c.if-is_done.false)) c.count_begun-count.ensures.begun c.count_begun-count.ensures.behind c.loop-next.invariant.passed next c.in_ok-step.ensures.turn

coming : (c : goal.After-next_height-next-in-Some) → ComesNext (heap_items c.step.new.queue) (drop (c.loop-next.begun + c.count_begun-count.result) c.in_ok-first.later.items) c.next_height-next-in-Some.result
coming c =
    let n = c.loop-next.begun + c.count_begun-count.result in
    subst (λ (xs : List Piece). ComesNext (heap_items c.step.new.queue) xs c.next_height-next-in-Some.result) (c.rest_of.ensures ∙ ap (drop n) c.deref-in-Some-2.ensures.value) c.next_height-next-in-Some.ensures.next

pub loop-next-smaller : goal.loop-next-smaller
loop-next-smaller c =
    fewer-left c.args.pieces.now c.in_ok-first.first.items c.in_ok-first.later.items c.args.aim.now.from c.args.aim.now.to (c.loop-next.begun + c.count_begun-count.result) c.step.new.order.items c.step.new.met (heap_items c.step.new.queue)
    c.next_height-next-in-Some.result c.loop-next.next c.in-Some.height c.in-Some.is (coming c) c.next_height-next-in-Some.ensures.range (after c)

pub loop-next-preserved : goal.loop-next-preserved
loop-next-preserved c = record {
  heap = c.in_ok-step.ensures.heap;
  rising = c.loop-next.invariant.rising;
  within =
      within-more c.in_ok-first.later.items c.rest_of-waiting.result.now c.loop-next.begun c.count_begun-count.result c.loop-next.invariant.within (c.rest_of-waiting.ensures ∙ ap (drop c.loop-next.begun) c.deref-in-Some.ensures.value)
      c.count_begun-count.ensures.within;
  passed = record { last = c.in-Some.height; reached = after c };
  comes = coming c;
  range = c.next_height-next-in-Some.ensures.range;
}

pub returns : goal.returns
returns c = λ a b cov want.
    let ws = c.in_ok-first.later.items in
    let q = heap_items c.loop-next.queue in
    let none : (q ≡ []) × (drop c.loop-next.begun ws ≡ []) = subst (λ (o : Option Ratio). ComesNext q (drop c.loop-next.begun ws) o) c.in_default.is c.loop-next.invariant.comes in
    found-top c.args.pieces.now c.in_ok-first.first.items ws c.args.aim.now.from c.args.aim.now.to c.loop-next.begun c.loop-next.order.items c.loop-next.met c.args.aim.now.decides q c.loop-next.invariant.passed none a b cov
