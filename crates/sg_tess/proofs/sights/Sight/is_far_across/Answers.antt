use Rattle.std.proofs.Common.{◌++◌, [], ◌∷◌, refl}
use Rattle.sg_tess.proofs.Distant.{column_far}
use Rattle.sg_tess.proofs.sights.Sight.is_far_across.Goals as goal

pub returns-in-Some : goal.returns-in-Some
returns-in-Some g c =
    column_far c.args.self.now.grid.now c.args.parent c.args.self.now.bounds c.in-Some.found (c.args.parent ++ c.place_of-lowest.result ∷ []) c.side_under-side.result c.place_of-lowest.result c.args.column c.is_near_across.result
    c.in-Some.ensures.0 refl c.place_of-lowest.ensures.spot c.side_under-side.ensures.doublings c.is_near_across.ensures
