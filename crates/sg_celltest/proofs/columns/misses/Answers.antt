use Rattle.std.proofs.Common.{◌≡◌, refl, Bool, true, false, not}
use Rattle.sg_celltest.proofs.Closed.{none_closed}
use Rattle.sg_celltest.proofs.columns.misses.Goals as goal

not_true : (b : Bool) → not b ≡ true → b ≡ false
not_true true e = absurd (cc)
not_true false e = refl

pub returns-then-missed : goal.returns-then-missed
returns-then-missed g c = (λ _. c.in_ok-missed.ensures.inside c.if-missed.true, λ _. refl)

pub returns-then-not-missed : goal.returns-then-not-missed
returns-then-not-missed g c = none_closed c.in_ok-missed.missed.anywhere c.args.shape.now c.args.cell.now c.in_ok-missed.ensures.anywhere (not_true c.in_ok-missed.missed.anywhere c.if-not-missed.true)
