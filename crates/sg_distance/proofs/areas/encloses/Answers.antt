use Rattle.std.proofs.Common.{subst, sym, List}
use Rattle.std.specs.List.{All}
use Rattle.sg_shape.specs.declared.spots.Spot.{Spot}
use Rattle.sg_distance.proofs.ByKind.{of_area}
use Rattle.sg_shape.specs.Limits.{IsIn}
use Rattle.sg_distance.proofs.areas.encloses.Goals as goal

pub encloses_first-requires-clause-first : goal.encloses_first-requires-clause-first
encloses_first-requires-clause-first c = subst (λ (rs : List (List Spot)). All (All IsIn) rs) (sym c.area_of.ensures) (of_area IsIn c.args.a.now c.requires.first)
