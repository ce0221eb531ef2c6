use Rattle.std.proofs.Common.{sym, subst}
use Rattle.std.specs.Ordering.{nat_cmp}
use Rattle.std.specs.BTreeMap.{is_at}
use Rattle.sg_rows.specs.Table.{AreSoundRows}
use Rattle.sg_rows.proofs.SoundRows.{sound_written}
use Rattle.sg_rows.proofs.Rows.write.Goals as goal

pub invariant_of-self : goal.invariant_of-self
invariant_of-self c = subst AreSoundRows (sym c.write.ensures.rows) (sound_written (is_at (nat_cmp c.args.key)) c.args.s c.args.shape c.self.inside.versions.rows c.requires.sound c.self.invariant)
