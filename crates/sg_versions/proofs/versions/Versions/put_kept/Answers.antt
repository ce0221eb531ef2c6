use Rattle.std.proofs.Common.{ap, arith}
use Rattle.sg_versions.specs.Versions.{kept_value}
use Rattle.sg_versions.specs.Writers.{unwritten, count_written}
use Rattle.sg_versions.proofs.Indexes.{indexed_kept}
use Rattle.sg_versions.proofs.Rooms.{unwritten_inserted, counted_inserted}
use Rattle.sg_versions.proofs.versions.Versions.put_kept.Goals as goal

pub invariant_of-self : goal.invariant_of-self
invariant_of-self g c =
    let requires = rw (← c.self.view_is) at c.requires in
    let more = counted_inserted g.met.K.Ord.total c.self.inside.rows.pairs c.args.key (kept_value c.args.value) c.self.invariant.0.rising requires.absent in
    let same = ap count_written c.insert_reserved.ensures.pairs in (
      indexed_kept g.K.Ord.cmp g.met.K.Ord.total c.self.inside.rows.pairs c.args.key c.self.inside.listed.pairs c.self.inside.listed.spare c.self.invariant.0 c.args.value c.insert_reserved.new.self.pairs requires.absent (omega (arith, requires.room)) c.insert_reserved.ensures.pairs c.insert_reserved.ensures.rising,
      omega (arith, c.self.invariant.1, more, same),
    )

pub returns-clause-spare : goal.returns-clause-spare
returns-clause-spare g c =
    let less = unwritten_inserted g.met.K.Ord.total c.self.inside.rows.pairs c.args.key (kept_value c.args.value) c.self.invariant.0.rising in
    let same = ap unwritten c.insert_reserved.ensures.pairs in
    rw (← c.self.view_is) (omega (arith, less, same, c.insert_reserved.ensures.spare))
