use Rattle.sg_hilbert.proofs.curve.+spot_from.Given as goal

abbrev pub decreases-spot_from : goal.decreases-spot_from
decreases-spot_from l = l.k
