use Rattle.std.proofs.Common.{◌≡◌}
use Rattle.sg_wkt.specs.Cursors.{left}
use Rattle.sg_wkt.specs.Grammar.{most_spots, spots}
use Rattle.sg_wkt.proofs.drafts.spots.Given as goal

-- each turn takes a spot
abbrev pub decreases-spots : goal.decreases-spots
decreases-spots l = l.room

-- what is left, read after what was read, is the whole
abbrev pub invariant-spots : goal.invariant-spots
invariant-spots l = spots most_spots l.fn.draft (left l.fn.tokens) ≡ spots l.room l.draft (left l.rest)
