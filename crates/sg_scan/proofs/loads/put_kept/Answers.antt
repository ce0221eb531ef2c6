use Rattle.std.proofs.Common.{sym, subst}
use Rattle.sg_stores.specs.Keys.{AreCodes}
use Rattle.sg_scan.proofs.Codes.{codes_put}
use Rattle.sg_scan.proofs.loads.put_kept.Goals as goal

pub returns-clause-codes : goal.returns-clause-codes
returns-clause-codes c = λ h. subst AreCodes (sym c.put_kept.ensures.rows) (codes_put _ _ c.in_bytes.ensures.code c.args.index.now.rows h)
