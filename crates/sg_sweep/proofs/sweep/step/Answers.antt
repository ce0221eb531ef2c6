use Rattle.std.proofs.Common.{ℕ, ◌≤◌, ◌-◌, ◌++◌, ◌∙◌, ap, subst, List, length, take, drop, heap_items}
use Rattle.std.specs.List.Sorted.{IsPermutation}
use Rattle.sg_heights.specs.declared.sited.Sited.{Sited}
use Rattle.sg_heights.specs.declared.stops.Stop.{Stop}
use Rattle.sg_heights.specs.Counting.{all_turns}
use Rattle.sg_heights.specs.Tallies.{stops_in}
use Rattle.sg_sweep.specs.declared.events.Event.{Event}
use Rattle.sg_sweep.specs.declared.strand.Strand.{Strand}
use Rattle.sg_sweep.specs.Pieces.{Tag, tags}
use Rattle.sg_sweep.specs.Queues.{IsWindow}
use Rattle.sg_sweep.specs.Strands.{strand_tags, wholes}
use Rattle.sg_sweep.specs.Steps.{IsWalked, IsFanned, IsQueued}
use Rattle.sg_sweep.proofs.sweep.step.Goals as goal

pub returns-clause-turn : goal.returns-clause-turn
returns-clause-turn c =
    let begun = c.sort_at.new.stops.items in
    let t = c.args.height.top in
    let d = c.args.height.bottom in
    let from = c.window-part.result.from in
    let to = c.window-part.result.to in
    let order = c.args.order.now.items in
    let fan = c.in_ok-fan.fan.items in
    let ahead = c.turns_on-ahead.ensures.turns ∙ ap (λ (ss : List Strand). all_turns (wholes ss)) (c.strands_from.ensures ∙ ap (drop to) c.deref-4.ensures.value) in
    let part = c.in_ok-front.ensures ∙ ap (λ (ss : List Strand). strand_tags ss ++ tags c.args.taken.now) (c.strands_between.ensures ∙ ap (λ (ss : List Strand). take (to - from) (drop from ss)) c.deref-5.ensures.value) in
    let front = ap tags c.deref-6.ensures.value ∙ part in
    let front2 = ap tags c.deref-7.ensures.value ∙ part in
    record {
      begun = begun;
      begun_is = subst (λ (ss : List Stop). IsPermutation ss (stops_in begun)) c.in_ok-begun.ensures c.sort_at.ensures.permutation;
      begun_sorted = c.in_ok-sort_at.ensures.sorted;
      due = c.in_ok-due.due.items;
      later = heap_items c.due_events.new.queue;
      parted = c.in_ok-due.ensures.parted;
      due_by = c.in_ok-due.ensures.due;
      later_above = c.in_ok-due.ensures.later;
      from = from;
      to = to;
      rises = c.window-part.ensures.rises;
      within = subst (λ (ss : List Strand). to ≤ length ss) c.deref.ensures.value c.window-part.ensures.within;
      window = subst (λ (ss : List Strand). IsWindow ss c.in_ok-due.due.items (stops_in begun) t d from to) c.deref.ensures.value
          (subst (λ (es : List Event). IsWindow c.deref.result.now es (stops_in begun) t d from to) c.deref-2.ensures.value
          (subst (λ (ss : List Sited). IsWindow c.deref.result.now c.deref-2.result.now (stops_in ss) t d from to) c.deref-3.ensures.value c.window-part.ensures.window));
      mid = c.walk_height.new.met;
      fan = fan;
      walked = subst (λ (xs : List ℕ). IsWalked (strand_tags (take (to - from) (drop from order)) ++ tags c.args.taken.now) t d xs c.args.met.now c.walk_height.new.met) ahead
          (subst (λ (gs : List Tag). IsWalked gs t d c.turns_on-ahead.result c.args.met.now c.walk_height.new.met) front c.in_ok-walk_height.ensures);
      fanned = subst (λ (xs : List ℕ). IsFanned (strand_tags (take (to - from) (drop from order)) ++ tags c.args.taken.now) t d xs c.walk_height.new.met c.walk_above.new.met fan) ahead
          (subst (λ (gs : List Tag). IsFanned gs t d c.turns_on-ahead.result c.walk_height.new.met c.walk_above.new.met fan) front2 c.in_ok-fan.ensures);
      next_is = c.in_ok-replace.ensures ∙ ap (λ (ss : List Strand). take from order ++ (ss ++ drop to order)) c.deref-8.ensures.value;
      ended = heap_items c.queue_ends.new.queue;
      ends_grow = c.in_ok-queue_ends.ensures.grows;
      ends_queued = c.in_ok-queue_ends.ensures.queued;
      crossings = subst (λ (ss : List Strand). IsQueued ss from fan (heap_items c.queue_ends.new.queue) (heap_items c.queue_fan.new.queue)) c.deref-9.ensures.value
          (subst (λ (ss : List Strand). IsQueued c.deref-9.result.now from ss (heap_items c.queue_ends.new.queue) (heap_items c.queue_fan.new.queue)) c.deref-10.ensures.value c.in_ok-queue_fan.ensures.queued);
    }
