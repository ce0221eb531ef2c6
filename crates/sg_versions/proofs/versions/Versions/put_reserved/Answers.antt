use Rattle.std.proofs.Common.{List, ◌∙◌}
use Rattle.std.specs.Map.{lookup}
use Rattle.std.specs.BTreeMap.{is_at}
use Rattle.sg_versions.specs.declared.version.Version.{Version}
use Rattle.sg_versions.proofs.Orders.{lookup_inserted}
use Rattle.std.proofs.Common.{ap, arith}
use Rattle.sg_versions.specs.Versions.{fresh}
use Rattle.sg_versions.specs.Writers.{unwritten, count_written}
use Rattle.sg_versions.proofs.Indexes.{indexed_put}
use Rattle.sg_versions.proofs.Rooms.{unwritten_inserted, counted_inserted, written_and_not}
use Rattle.sg_versions.proofs.versions.Versions.put_reserved.Goals as goal

pub invariant_of-self : goal.invariant_of-self
invariant_of-self g c =
    let requires = rw (← c.self.view_is) at c.requires in
    let more = counted_inserted g.met.K.Ord.total c.self.inside.rows.pairs c.args.key (fresh c.args.s) c.self.invariant.0.rising requires.absent in
    let same = ap count_written c.insert_reserved.ensures.pairs in (
      indexed_put g.K.Ord.cmp g.met.K.Ord.total c.self.inside.rows.pairs c.args.key c.self.inside.listed.pairs c.self.inside.listed.spare c.self.invariant.0 c.args.s c.insert_reserved.new.self.pairs c.insert_reserved-2.new.self.pairs c.insert_reserved-2.new.self.spare
          requires.absent c.insert_reserved.ensures.pairs c.insert_reserved.ensures.rising c.insert_reserved-2.ensures.pairs (omega (arith, requires.room)) c.insert_reserved-2.ensures.spare,
      omega (arith, c.self.invariant.1, more, same),
    )

pub returns-clause-spare : goal.returns-clause-spare
returns-clause-spare g c =
    let less = unwritten_inserted g.met.K.Ord.total c.self.inside.rows.pairs c.args.key (fresh c.args.s) c.self.invariant.0.rising in
    let same = ap unwritten c.insert_reserved.ensures.pairs in
    rw (← c.self.view_is) (omega (arith, less, same, c.insert_reserved.ensures.spare, c.insert_reserved-2.ensures.spare))

pub returns-clause-each : goal.returns-clause-each
returns-clause-each g c = λ k.
    rw (← c.self.view_is) (ap (λ (rows : List (g.row.K.Denot × Version g.row.V.Denot)). lookup (is_at (g.K.Ord.cmp k)) rows) c.insert_reserved.ensures.pairs ∙ lookup_inserted g.K.Ord.cmp g.met.K.Ord.total c.args.key k (fresh c.args.s) c.self.inside.rows.pairs)

pub prove-unreachable-requires : goal.prove-unreachable-requires
prove-unreachable-requires g c =
    let requires = rw (← c.self.view_is) at c.requires in
    let more = counted_inserted g.met.K.Ord.total c.self.inside.rows.pairs c.args.key (fresh c.args.s) c.self.invariant.0.rising requires.absent in
    omega (arith, c.self.invariant.1, more, ap count_written c.insert_reserved.ensures.pairs, written_and_not c.insert_reserved.new.self.pairs, c.len-keys.ensures, c.if-prove.true)
