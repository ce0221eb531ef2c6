use Rattle.std.proofs.lemmas.Bool.Decides.{same_from_decides}
use Rattle.std.specs.Str.{str_to_ascii_lowercase}
use lib.Pointwise.{bytes_decides}
use Rattle.sg_wkt.proofs.pieces.is_word.Goals as goal

pub returns : goal.returns
returns c =
    same_from_decides c.eq_ignore_ascii_case.result _ c.eq_ignore_ascii_case.ensures.test
    (bytes_decides (str_to_ascii_lowercase c.args.token.now) (str_to_ascii_lowercase c.args.word.now))
