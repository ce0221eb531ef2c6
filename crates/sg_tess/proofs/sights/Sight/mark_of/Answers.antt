use Rattle.std.proofs.Common.{◌++◌, [], ◌∷◌, arith}
use Rattle.std.proofs.lemmas.List.{length-append}
use Rattle.sg_tess.proofs.Looks.{boxless_unmet}
use Rattle.sg_tess.proofs.sights.Sight.mark_of.Goals as goal

pub returns-in-None : goal.returns-in-None
returns-in-None g c =
    let n = length-append c.args.parent (c.args.place ∷ []) in
    boxless_unmet c.args.self.now.grid.now c.args.self.now.shape.now (c.args.parent ++ c.args.place ∷ []) c.requires.sight.grid (omega arith) (rw c.in-None.is at c.child_box.ensures)
