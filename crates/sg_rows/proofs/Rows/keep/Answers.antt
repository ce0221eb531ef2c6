use Rattle.std.proofs.Common.{sym, subst}
use Rattle.sg_versions.specs.declared.version.WritesEnd.TheVariants.{Keep}
use Rattle.sg_rows.specs.Table.{AreSoundRows}
use Rattle.sg_rows.proofs.SoundRows.{sound_settled}
use Rattle.sg_rows.proofs.Rows.keep.Goals as goal

pub invariant_of-self : goal.invariant_of-self
invariant_of-self c = subst AreSoundRows (sym c.keep.ensures.rows) (sound_settled Keep c.args.s c.self.inside.versions.rows c.self.invariant)
