use Rattle.std.proofs.Common.{◌++◌, [], ◌∷◌, refl}
use Rattle.sg_tess.proofs.Distant.{row_far}
use Rattle.sg_tess.proofs.sights.Sight.is_far_up.Goals as goal

pub returns-in-Some : goal.returns-in-Some
returns-in-Some g c =
    row_far c.args.self.now.grid.now c.args.parent c.args.self.now.bounds c.in-Some.found (c.args.parent ++ c.place_of-first.result ∷ []) c.side_under-side.result c.place_of-first.result c.args.row c.is_near_up.result
    c.in-Some.ensures.0 refl c.place_of-first.ensures.spot c.side_under-side.ensures.doublings c.is_near_up.ensures
