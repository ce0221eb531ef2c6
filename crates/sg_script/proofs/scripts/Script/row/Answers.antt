use Rattle.std.proofs.Common.{◌≤◌, sym, subst}
use Rattle.sg_plain.specs.Rows.{keys_of}
use Rattle.sg_script.specs.Plans.{Plan, above_all}
use Rattle.sg_script.proofs.Lasts.{rising_push}
use Rattle.sg_script.proofs.scripts.Script.row.Goals as goal

pub push-requires-clause-above : goal.push-requires-clause-above
push-requires-clause-above c =
    rising_push _ _ c.in_order.ensures.rising
    (subst (λ (p : Plan). above_all (keys_of p.rows) ≤ c.args.key) (sym c.self.view_is) c.requires.above)
