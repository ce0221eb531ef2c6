use Rattle.std.proofs.Common.{subst, sym}
use Rattle.std.specs.BTreeMap.{is_at}
use Rattle.std.specs.List.Sorted.{IsStrictlySortedBy}
use Rattle.std.proofs.lemmas.Map.{keys-set_value}
use Rattle.sg_versions.proofs.versions.write_row.Goals as goal

pub returns-in-Some-clause-rising : goal.returns-in-Some-clause-rising
returns-in-Some-clause-rising g c =
    subst (IsStrictlySortedBy g.K.Ord.cmp) (sym (keys-set_value (is_at (g.K.Ord.cmp c.args.key.now)) c.args.rows.now.pairs c.write.new.self)) c.get_mut.ensures.rising
