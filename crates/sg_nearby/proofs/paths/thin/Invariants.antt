use Rattle.sg_nearby.proofs.Thinning.{Thinning}
use Rattle.sg_nearby.proofs.paths.thin.Given as goal

abbrev pub invariant-loop-at : goal.invariant-loop-at
invariant-loop-at l = record {
  so_far : Thinning l.cell l.path l.kept l.last l.at l.spare;
}
