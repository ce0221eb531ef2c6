use Rattle.std.proofs.Common.{sym, ◌∙◌}
use Rattle.sg_distance.proofs.Apart.{apart_lines}
use Rattle.sg_distance.specs.Shapes.{lines_of}
use Rattle.sg_distance.proofs.lines.edge_is_near.Goals as goal

pub returns-then-are_apart : goal.returns-then-are_apart
returns-then-are_apart c =
    sym (apart_lines c.args.limit c.box_of.result c.args.bounds c.args.e (lines_of c.args.b.now) c.box_of.ensures.from c.box_of.ensures.to c.requires.inside (sym c.are_apart.ensures ∙ c.if-are_apart.true))
