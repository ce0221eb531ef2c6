use Rattle.std.proofs.Common.{sym, ap, ◌∙◌, ℤ}
use Rattle.sg_distance.proofs.Apart.{apart_edges}
use Rattle.sg_distance.proofs.Fitting.{clean}
use Rattle.sg_distance.specs.Edges.{edges_test}
use Rattle.sg_distance.proofs.edges.edges_are_near.Goals as goal

pub returns-then-are_apart : goal.returns-then-are_apart
returns-then-are_apart c =
    sym (apart_edges c.args.limit c.box_of.result c.box_of-2.result c.args.e c.args.f c.box_of.ensures.from c.box_of.ensures.to c.box_of-2.ensures.from c.box_of-2.ensures.to (sym c.are_apart.ensures ∙ c.if-are_apart.true))

pub returns : goal.returns
returns c = c.pair_is_near.ensures ∙ ap (λ (D : ℤ). edges_test c.args.limit.strict D c.args.e c.args.f) (clean c.square.result _ (record { sfits = c.square.type_inv }) c.square.ensures.value)
