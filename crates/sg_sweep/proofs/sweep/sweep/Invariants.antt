use Rattle.std.proofs.Common.{◌≤◌, length, drop, heap_items}
use Rattle.std.specs.BinaryHeap.{IsHeap}
use Rattle.std.specs.Prelude.{IfSome}
use Rattle.sg_segment.specs.Ranges.{IsRatio}
use Rattle.sg_sweep.specs.Events.{event_order}
use Rattle.sg_sweep.specs.Fronts.{IsRising}
use Rattle.sg_sweep.specs.Pieces.{tags}
use Rattle.sg_sweep.proofs.Moving.{edges_of, Passed, ComesNext, heights_left}
use Rattle.sg_sweep.proofs.sweep.sweep.Given as goal

abbrev pub invariant-loop-next : goal.invariant-loop-next
invariant-loop-next l = record {
  heap : IsHeap event_order (heap_items l.queue);
  rising : IsRising (tags l.later.items);
  within : l.begun ≤ length l.later.items;
  passed : Passed l.pieces l.first.items l.later.items l.aim.from l.aim.to l.begun l.order.items l.met (heap_items l.queue);
  comes : ComesNext (heap_items l.queue) (drop l.begun l.later.items) l.next;
  range : IfSome l.next (λ h. IsRatio h);
}

abbrev pub decreases-loop-next : goal.decreases-loop-next
decreases-loop-next l = heights_left (edges_of l.first.items l.later.items) l.next
