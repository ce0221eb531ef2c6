use Rattle.std.proofs.Common.{ℕ, sym, ap, ◌∙◌}
use Rattle.sg_hilbert.specs.Curve.{spot_at}
use Rattle.sg_tess.specs.Sights.{is_within}
use Rattle.sg_tess.proofs.Distant.{unreached}
use Rattle.sg_tess.proofs.sights.Sight.mark_at.Goals as goal

pub returns-else-has : goal.returns-else-has
returns-else-has g c =
    unreached c.args.self.now.grid.now c.args.self.now.shape.now c.args.self.now.bounds c.args.parent c.args.place c.requires.sight.sound c.requires.sight.bounds
    (c.requires.reach c.args.place c.requires.place (ap (λ (j : ℕ). is_within c.args.reach.now (spot_at j c.args.place)) (sym c.side_under.ensures.doublings) ∙ (sym c.has.ensures ∙ c.if-has.false)))
