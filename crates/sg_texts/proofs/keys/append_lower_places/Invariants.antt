use Rattle.sg_texts.proofs.Lower.{IsLowerTo}
use Rattle.sg_texts.proofs.keys.append_lower_places.Given as goal

abbrev pub invariant-loop-level : goal.invariant-loop-level
invariant-loop-level l = IsLowerTo l.cell l.fn.out.items l.out.items l.level
