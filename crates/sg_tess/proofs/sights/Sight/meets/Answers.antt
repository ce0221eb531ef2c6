use Rattle.std.proofs.Common.{sym, ◌∙◌}
use Rattle.sg_tess.proofs.Looks.{met_is}
use Rattle.sg_tess.proofs.Within.{far_unmet}
use Rattle.sg_tess.proofs.sights.Sight.meets.Goals as goal

pub returns-then-is_near : goal.returns-then-is_near
returns-then-is_near g c = met_is c.args.self.now.shape.now c.args.found.now c.meets.result c.meets.ensures

pub returns-else-is_near : goal.returns-else-is_near
returns-else-is_near g c = far_unmet c.args.self.now.shape.now c.args.self.now.bounds c.args.found.now c.requires.sight.sound c.requires.sight.bounds (sym c.is_near.ensures ∙ c.if-is_near.false)
