use Rattle.sg_wkt.proofs.Sound.{IsSound-shape_in}
use Rattle.sg_wkt.proofs.laws.reads_sound.Goals as goal

pub returns : goal.returns
returns c = IsSound-shape_in
