use Rattle.std.proofs.Common.{List, ap, ◌∙◌, arith}
use Rattle.std.specs.Option.{is_some}
use Rattle.std.specs.Map.{lookup}
use Rattle.std.specs.BTreeMap.{is_at}
use Rattle.sg_versions.specs.declared.version.Version.{Version}
use Rattle.sg_versions.specs.Writers.{unwritten, count_written}
use Rattle.sg_versions.proofs.Orders.{lookup_removed}
use Rattle.sg_versions.proofs.Indexes.{indexed_removed, is_own, some_written}
use Rattle.sg_versions.proofs.Rooms.{unwritten_removed, counted_removed}
use Rattle.sg_versions.proofs.versions.Versions.remove.Goals as goal

pub overflow_sub-self : goal.overflow_sub-self
overflow_sub-self g c =
    let requires = rw (← c.self.view_is) at c.requires in
    omega (arith, counted_removed (is_at (g.K.Ord.cmp c.args.key.now)) c.self.inside.rows.pairs c.args.s requires.own, c.self.invariant.1)

pub invariant_of-self : goal.invariant_of-self
invariant_of-self g c =
    let requires = rw (← c.self.view_is) at c.requires in
    let fewer = counted_removed (is_at (g.K.Ord.cmp c.args.key.now)) c.self.inside.rows.pairs c.args.s requires.own in
    let alike = ap count_written c.remove.ensures.pairs in
    let freed = c.remove-2.ensures.freed (c.self.invariant.0.listed_are c.args.s c.args.key.now ∙ is_own c.args.s _ requires.own) in (
      indexed_removed g.K.Ord.cmp g.met.K.Ord.total c.self.inside.rows.pairs c.args.key.now c.self.inside.listed.pairs c.self.inside.listed.spare c.self.invariant.0 c.args.s c.remove.new.self.pairs c.remove-2.new.self.pairs c.remove-2.new.self.spare
          requires.own c.remove.ensures.pairs c.remove.ensures.rising c.remove-2.ensures.pairs freed,
      omega (arith, fewer, alike, c.self.invariant.1),
    )

pub returns-clause-each : goal.returns-clause-each
returns-clause-each g c = λ k.
    rw (← c.self.view_is) (ap (λ (rows : List (g.row.K.Denot × Version g.row.V.Denot)). lookup (is_at (g.K.Ord.cmp k)) rows) c.remove.ensures.pairs ∙ lookup_removed g.K.Ord.cmp g.met.K.Ord.total c.args.key.now k c.self.inside.rows.pairs c.self.invariant.0.rising)

pub returns-clause-spare : goal.returns-clause-spare
returns-clause-spare g c =
    let requires = rw (← c.self.view_is) at c.requires in
    let most = unwritten_removed (is_at (g.K.Ord.cmp c.args.key.now)) c.self.inside.rows.pairs in
    let same = ap unwritten c.remove.ensures.pairs in
    let listed = c.remove-2.ensures.freed (c.self.invariant.0.listed_are c.args.s c.args.key.now ∙ is_own c.args.s _ requires.own) in
    let freed = c.remove.ensures.freed (ap is_some c.remove.ensures.value ∙ some_written c.args.s _ requires.own) in
    rw (← c.self.view_is) (omega (arith, most, same, listed, freed, c.self.invariant.0.room_is))
