use Rattle.std.proofs.Common.{sym, subst}
use Rattle.sg_rows.specs.Table.{AreSoundRows}
use Rattle.sg_rows.proofs.SoundRows.{sound_loaded}
use Rattle.sg_rows.proofs.Rows.load.Goals as goal

pub invariant_of-self : goal.invariant_of-self
invariant_of-self c = subst AreSoundRows (sym c.in_ok-self-inside.ensures.rows) (sound_loaded c.args.rows c.in_ok-self-inside.ensures.sound.sound)
