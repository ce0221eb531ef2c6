use Rattle.std.specs.Prelude.{IsSome}
use Rattle.std.proofs.Common.{inr, not, None, refl, sym, ap, subst}
use Rattle.std.specs.Ordering.{is_eq}
use Rattle.sg_versions.specs.Versions.{fresh, written}
use Rattle.sg_versions.specs.Writers.{writer_of}
use Rattle.sg_cellrows.specs.Nexts.{part_key_cmp}
use Rattle.sg_cellrows.proofs.Mirrors.{still_absent, come}
use Rattle.sg_cellrows.proofs.move_pair.Goals as goal

pub put_reserved-requires-clause-absent : goal.put_reserved-requires-clause-absent
put_reserved-requires-clause-absent c =
    still_absent (is_eq (part_key_cmp (not c.args.to, c.args.key) (c.args.to, c.args.key))) (written c.args.s None) _ _ _ c.requires.absent (c.write.ensures.each (c.args.to, c.args.key)) (c.remove.ensures.each (c.args.to, c.args.key))

pub write-requires-2-clause-present : goal.write-requires-2-clause-present
write-requires-2-clause-present c = subst IsSome (sym (come (c.args.to, c.args.key) (fresh c.args.s) _ _ (c.put_reserved.ensures.each (c.args.to, c.args.key)))) refl

pub write-requires-2-clause-alone : goal.write-requires-2-clause-alone
write-requires-2-clause-alone c = inr (ap writer_of (come (c.args.to, c.args.key) (fresh c.args.s) _ _ (c.put_reserved.ensures.each (c.args.to, c.args.key))))
