use Rattle.std.proofs.Common.{◌≡◌, ◌∙◌, sym}
use Rattle.std.specs.Option.{option_copied}
use Rattle.sg_plain.specs.Rows.{shape_at}
use Rattle.sg_stores.specs.Agreement.{seen_rows}
use Rattle.sg_stores.proofs.Picked.{shape_at-seen, seen_are_rows}
use Rattle.sg_engine.proofs.Satisfying.{seen_sound}
use Rattle.sg_engine.proofs.queries.shape_of.Goals as goal

pub returns-clause-shape : goal.returns-clause-shape
returns-clause-shape c = c.visible.ensures.shape ∙ sym (shape_at-seen c.args.s c.args.rows.now.rows c.args.key c.in_order.ensures.rising)

pub returns-clause-sound : goal.returns-clause-sound
returns-clause-sound c =
    let is : option_copied c.visible.result ≡ shape_at (seen_rows c.args.s c.args.rows.now.rows) c.args.key =
    c.visible.ensures.shape ∙ sym (shape_at-seen c.args.s c.args.rows.now.rows c.args.key c.in_order.ensures.rising) in
    seen_sound c.visible.result (seen_rows c.args.s c.args.rows.now.rows) c.args.key (seen_are_rows c.args.s c.args.rows.now.rows c.in_order.ensures.rising c.in_order.ensures.sound) is
