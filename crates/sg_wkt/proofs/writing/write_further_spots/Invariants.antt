use Rattle.std.proofs.Common.{◌≡◌, ◌++◌, flat_map, codes, take}
use Rattle.sg_wkt.specs.Canonical.{spot_text}
use Rattle.sg_wkt.proofs.writing.write_further_spots.Given as goal

-- the texts so far
abbrev pub invariant-loop-spot : goal.invariant-loop-spot
invariant-loop-spot l = l.out.items ≡ l.fn.out.items ++ flat_map (λ spot. codes ", " ++ spot_text spot) (take l.spot-index l.spots)
