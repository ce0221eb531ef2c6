use Rattle.std.proofs.Common.{List}
use Rattle.std.specs.Map.{lookup}
use Rattle.sg_versions.specs.declared.version.Version.{Version}
use Rattle.std.proofs.Common.{ℕ, sym, ap, ◌∙◌, cond, arith}
use Rattle.std.specs.BTreeMap.{is_at}
use Rattle.sg_versions.specs.Writers.{unwritten, count_written}
use Rattle.sg_versions.proofs.Indexes.{none_from, own_from, unwritten_written, lookup_written, indexed_first, indexed_again}
use Rattle.sg_versions.proofs.Rooms.{counted_written, written_and_not}
use Rattle.sg_versions.proofs.versions.Versions.write.Goals as goal

pub insert_reserved-requires : goal.insert_reserved-requires
insert_reserved-requires g c =
    let requires = rw (← c.self.view_is) at c.requires in
    let free = ap {B = ℕ} (λ b. cond b 1 0) (sym c.write_row.ensures.first ∙ c.if-write_row.true) in
    let less = unwritten_written (is_at (g.K.Ord.cmp c.args.key)) c.args.s c.args.value c.self.inside.rows.pairs requires.present in
    omega (arith, free, less, c.self.invariant.0.room_is)

pub invariant_of-self : goal.invariant_of-self
invariant_of-self g c =
    let requires = rw (← c.self.view_is) at c.requires in
    let more = counted_written (is_at (g.K.Ord.cmp c.args.key)) c.self.inside.rows.pairs c.args.s c.args.value requires.present in
    let alike = ap count_written c.write_row.ensures.rows in
    let free = ap {B = ℕ} (λ b. cond b 1 0) (sym c.write_row.ensures.first ∙ c.if-write_row.true) in (
      indexed_first g.K.Ord.cmp g.met.K.Ord.total c.self.inside.rows.pairs c.args.key c.self.inside.listed.pairs c.self.inside.listed.spare c.self.invariant.0 c.args.s c.args.value c.write_row.new.rows.pairs c.insert_reserved.new.self.pairs c.insert_reserved.new.self.spare requires.present
          (none_from _ (sym c.write_row.ensures.first ∙ c.if-write_row.true)) c.write_row.ensures.rows c.write_row.ensures.rising c.insert_reserved.ensures.pairs c.insert_reserved.ensures.spare,
      omega (arith, more, alike, free, c.self.invariant.1),
    )

pub invariant_of-self-else-write_row : goal.invariant_of-self-else-write_row
invariant_of-self-else-write_row g c =
    let requires = rw (← c.self.view_is) at c.requires in
    let more = counted_written (is_at (g.K.Ord.cmp c.args.key)) c.self.inside.rows.pairs c.args.s c.args.value requires.present in
    let alike = ap count_written c.write_row.ensures.rows in
    let free = ap {B = ℕ} (λ b. cond b 1 0) (sym c.write_row.ensures.first ∙ c.if-write_row.false) in (
      indexed_again g.K.Ord.cmp g.met.K.Ord.total c.self.inside.rows.pairs c.args.key c.self.inside.listed.pairs c.self.inside.listed.spare c.self.invariant.0 c.args.s c.args.value c.write_row.new.rows.pairs requires.present
          (own_from c.args.s _ requires.alone (sym c.write_row.ensures.first ∙ c.if-write_row.false)) c.write_row.ensures.rows c.write_row.ensures.rising,
      omega (arith, more, alike, free, c.self.invariant.1),
    )

pub returns-then-write_row-clause-spare : goal.returns-then-write_row-clause-spare
returns-then-write_row-clause-spare g c =
    let requires = rw (← c.self.view_is) at c.requires in
    let free = ap {B = ℕ} (λ b. cond b 1 0) (sym c.write_row.ensures.first ∙ c.if-write_row.true) in
    let less = unwritten_written (is_at (g.K.Ord.cmp c.args.key)) c.args.s c.args.value c.self.inside.rows.pairs requires.present in
    let same = ap unwritten c.write_row.ensures.rows in
    rw (← c.self.view_is) (omega (arith, free, less, same, c.insert_reserved.ensures.spare, c.write_row.ensures.spare))

pub returns-else-write_row-clause-spare : goal.returns-else-write_row-clause-spare
returns-else-write_row-clause-spare g c =
    let requires = rw (← c.self.view_is) at c.requires in
    let less = unwritten_written (is_at (g.K.Ord.cmp c.args.key)) c.args.s c.args.value c.self.inside.rows.pairs requires.present in
    let same = ap unwritten c.write_row.ensures.rows in
    rw (← c.self.view_is) (omega (arith, less, same, c.write_row.ensures.spare))

pub returns-then-write_row-clause-each : goal.returns-then-write_row-clause-each
returns-then-write_row-clause-each g c = λ k.
    let requires = rw (← c.self.view_is) at c.requires in
    rw (← c.self.view_is) (ap (λ (rows : List (g.row.K.Denot × Version g.row.V.Denot)). lookup (is_at (g.K.Ord.cmp k)) rows) c.write_row.ensures.rows ∙ lookup_written g.K.Ord.cmp g.met.K.Ord.total c.self.inside.rows.pairs c.args.key c.args.s c.args.value k requires.present)

pub returns-else-write_row-clause-each : goal.returns-else-write_row-clause-each
returns-else-write_row-clause-each g c = λ k.
    let requires = rw (← c.self.view_is) at c.requires in
    rw (← c.self.view_is) (ap (λ (rows : List (g.row.K.Denot × Version g.row.V.Denot)). lookup (is_at (g.K.Ord.cmp k)) rows) c.write_row.ensures.rows ∙ lookup_written g.K.Ord.cmp g.met.K.Ord.total c.self.inside.rows.pairs c.args.key c.args.s c.args.value k requires.present)

pub prove-unreachable-requires : goal.prove-unreachable-requires
prove-unreachable-requires g c =
    let requires = rw (← c.self.view_is) at c.requires in
    let more = counted_written (is_at (g.K.Ord.cmp c.args.key)) c.self.inside.rows.pairs c.args.s c.args.value requires.present in
    let free = ap {B = ℕ} (λ b. cond b 1 0) (sym c.write_row.ensures.first ∙ c.if-write_row.true) in
    omega (arith, c.self.invariant.1, more, free, ap count_written c.write_row.ensures.rows, written_and_not c.write_row.new.rows.pairs, c.len-keys.ensures, c.if-prove.true)
