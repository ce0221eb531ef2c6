use Rattle.std.proofs.Common.{sym, subst}
use Rattle.sg_versions.specs.Versions.{fresh}
use Rattle.sg_rows.specs.Table.{AreSoundRows}
use Rattle.sg_rows.proofs.SoundRows.{sound_inserted, sound_fresh}
use Rattle.sg_rows.proofs.Rows.put_reserved.Goals as goal

pub invariant_of-self : goal.invariant_of-self
invariant_of-self c = subst AreSoundRows (sym c.put_reserved.ensures.rows) (sound_inserted c.args.key (fresh c.args.s) c.self.inside.versions.rows (sound_fresh c.args.s c.args.key) c.self.invariant)
