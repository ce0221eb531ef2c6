use Rattle.std.proofs.Common.{◌≡◌, ◌++◌, flat_map, codes, take}
use Rattle.sg_wkt.specs.Canonical.{path_text}
use Rattle.sg_wkt.proofs.writing.write_further_rings.Given as goal

-- the texts so far
abbrev pub invariant-loop-ring : goal.invariant-loop-ring
invariant-loop-ring l = l.out.items ≡ l.fn.out.items ++ flat_map (λ ring. codes ", " ++ path_text ring) (take l.ring-index l.rings)
