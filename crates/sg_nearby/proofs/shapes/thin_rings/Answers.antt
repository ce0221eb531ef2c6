use Rattle.std.proofs.Common.{◌≡◌, ◌≤◌, ◌++◌, length, arith, sym, subst, List, false}
use Rattle.std.specs.List.{All}
use Rattle.sg_shape.specs.declared.spots.Spot.{Spot}
use Rattle.sg_shape.specs.Sound.{is_out}
use Rattle.sg_nearby.specs.Nearby.{IsThin}
use Rattle.sg_nearby.proofs.Rings.{Replaced, replaced_first, replaced_more, at_ring, same_rings, sound_rings, spots_of_rings}
use Rattle.sg_nearby.proofs.shapes.thin_rings.Goals as goal

pub loop-ring-init : goal.loop-ring-init
loop-ring-init c = record { so_far = subst (λ (l : List (List Spot)). Replaced c.args.cell.now (l ++ c.args.rings.now) c.args.rings.now) (sym c.new-list.ensures) (replaced_first c.args.cell.now c.args.rings.now c.requires.sound) }

pub thin-requires-clause-some : goal.thin-requires-clause-some
thin-requires-clause-some c =
    let a = at_ring c.args.cell.now c.args.rings.now c.loop-ring.list c.loop-ring.ring-index c.ring-item.result c.loop-ring-test.true c.ring-item.is c.loop-ring.invariant.so_far in
    subst (λ (r : List Spot). 2 ≤ length r) (sym c.as_slice.ensures) a.0

pub thin-requires-clause-within : goal.thin-requires-clause-within
thin-requires-clause-within c =
    let a = at_ring c.args.cell.now c.args.rings.now c.loop-ring.list c.loop-ring.ring-index c.ring-item.result c.loop-ring-test.true c.ring-item.is c.loop-ring.invariant.so_far in
    subst (λ (r : List Spot). All (λ s. is_out s ≡ false) r) (sym c.as_slice.ensures) a.1

pub loop-ring-preserved : goal.loop-ring-preserved
loop-ring-preserved c = record {
  so_far = replaced_more c.args.cell.now c.args.rings.now c.loop-ring.list c.add.new.list c.loop-ring.ring-index c.ring-item.result c.in_ok-thin.field-0 c.loop-ring-test.true c.ring-item.is
      (subst (λ (r : List Spot). IsThin c.args.cell.now r c.in_ok-thin.field-0) c.as_slice.ensures c.in_ok-thin.ensures) c.in_ok-add.ensures c.loop-ring.invariant.so_far;
}

pub returns-clause-same : goal.returns-clause-same
returns-clause-same c = same_rings c.args.cell.now c.args.rings.now c.loop-ring.list c.loop-ring.ring-index (let h = c.loop-ring-test.false in omega arith) c.loop-ring.invariant.so_far

pub returns-clause-sound : goal.returns-clause-sound
returns-clause-sound c = sound_rings c.args.cell.now c.args.rings.now c.loop-ring.list c.loop-ring.ring-index (let h = c.loop-ring-test.false in omega arith) c.loop-ring.invariant.so_far

pub returns-clause-spots : goal.returns-clause-spots
returns-clause-spots c = spots_of_rings c.args.cell.now c.args.rings.now c.loop-ring.list c.loop-ring.ring-index (let h = c.loop-ring-test.false in omega arith) c.loop-ring.invariant.so_far
