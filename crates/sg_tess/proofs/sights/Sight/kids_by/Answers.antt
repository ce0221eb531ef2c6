use Rattle.std.proofs.Common.{◌≡◌, ◌≤◌, ◌<◌, subst, List, length}
use Rattle.std.specs.Prelude.{IfOk, MatchOption}
use Rattle.sg_cells.specs.Tess.{Entry}
use Rattle.sg_tess.proofs.Narrow.{same_kids}
use Rattle.sg_tess.proofs.sights.Sight.kids_by.Goals as goal

pub returns-in-Some : goal.returns-in-Some
returns-in-Some g c =
    subst (λ (ks : List Entry). IfOk c.kids_among-in-Some.result (λ list. MatchOption list (c.args.room < length ks) (λ entries. (entries.items ≡ ks) × (length entries.items ≤ c.args.room))))
    (same_kids c.args.self.now.grid.now c.args.parent c.args.near.now c.args.self.now.shape.now c.requires.same) c.kids_among-in-Some.ensures
