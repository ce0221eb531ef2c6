use Rattle.std.proofs.Common.{◌≡◌, ◌+◌, length, drop, flat_map}
use Rattle.sg_tess.proofs.sizes.have_many.Given as goal

-- the spots of the rest, and what may still come
abbrev pub invariant-loop-ring : goal.invariant-loop-ring
invariant-loop-ring l = length (flat_map (λ ring. ring) l.rings) + l.left ≡ 16 + length (flat_map (λ ring. ring) (drop l.ring-index l.rings))
