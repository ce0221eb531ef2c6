use Rattle.std.proofs.Common.{List}
use Rattle.std.specs.Map.{lookup}
use Rattle.sg_versions.specs.declared.version.Version.{Version}
use Rattle.std.proofs.Common.{sym, ap, ◌∙◌, arith}
use Rattle.std.specs.BTreeMap.{is_at}
use Rattle.sg_versions.specs.Versions.{settled}
use Rattle.sg_versions.specs.Writers.{unwritten, count_written}
use Rattle.sg_versions.proofs.Indexes.{indexed_settled}
use Rattle.sg_versions.proofs.Rooms.{unwritten_settled, counted_settled}
use Rattle.sg_versions.proofs.Settling.{settled_step, settled_none, lookup_settled}
use Rattle.sg_versions.proofs.versions.Versions.settle.Goals as goal

pub overflow_sub-self : goal.overflow_sub-self
overflow_sub-self g c =
    let indexed = c.loop-key.invariant.indexed in
    let own = sym (indexed.listed_are c.args.s c.in-Some.key) ∙ c.in-Some.ensures.there in
    omega (arith, counted_settled (is_at (g.K.Ord.cmp c.in-Some.key)) c.loop-key.self-inside.rows.pairs c.args.end c.args.s own, c.loop-key.invariant.counted)

pub loop-key-preserved : goal.loop-key-preserved
loop-key-preserved g c =
    let rows = c.loop-key.self-inside.rows.pairs in
    let indexed = c.loop-key.invariant.indexed in
    let key = c.in-Some.key in
    let own = sym (indexed.listed_are c.args.s key) ∙ c.in-Some.ensures.there in
    let freed = c.remove.ensures.freed c.in-Some.ensures.there in
    let most = unwritten_settled (is_at (g.K.Ord.cmp key)) c.args.end rows in
    let same = ap unwritten c.settle_row.ensures.rows in
    let fewer = counted_settled (is_at (g.K.Ord.cmp key)) rows c.args.end c.args.s own in
    let alike = ap count_written c.settle_row.ensures.rows in
    record {
      indexed = indexed_settled g.K.Ord.cmp g.met.K.Ord.total rows key c.loop-key.self-inside.listed.pairs c.loop-key.self-inside.listed.spare indexed c.args.s c.args.end c.settle_row.new.rows.pairs c.remove.new.self.pairs c.remove.new.self.spare own c.settle_row.ensures.rows c.settle_row.ensures.rising c.remove.ensures.pairs freed;
      counted = omega (arith, fewer, alike, c.loop-key.invariant.counted);
      rows = ap (settled c.args.end c.args.s) c.settle_row.ensures.rows ∙ settled_step c.args.end c.args.s (is_at (g.K.Ord.cmp key)) rows own ∙ c.loop-key.invariant.rows;
      spare = omega (arith, most, same, freed, c.settle_row.ensures.spare, c.loop-key.invariant.spare);
    }

pub returns-clause-rows : goal.returns-clause-rows
returns-clause-rows g c =
    let indexed = c.loop-key.invariant.indexed in
    sym (settled_none c.args.end c.args.s g.K.Ord.cmp g.met.K.Ord.total c.loop-key.self-inside.rows.pairs indexed.rising (λ q. sym (indexed.listed_are c.args.s q) ∙ c.in_default.ensures.none q)) ∙ c.loop-key.invariant.rows

pub returns-clause-each : goal.returns-clause-each
returns-clause-each g c = λ k.
    let indexed = c.loop-key.invariant.indexed in
    let whole = sym (settled_none c.args.end c.args.s g.K.Ord.cmp g.met.K.Ord.total c.loop-key.self-inside.rows.pairs indexed.rising (λ q. sym (indexed.listed_are c.args.s q) ∙ c.in_default.ensures.none q)) ∙ c.loop-key.invariant.rows in
    ap (λ (rows : List (g.row.K.Denot × Version g.row.V.Denot)). lookup (is_at (g.K.Ord.cmp k)) rows) whole
    ∙ rw (← c.self.view_is) (lookup_settled c.args.end c.args.s g.K.Ord.cmp g.met.K.Ord.total k c.self.inside.rows.pairs c.self.invariant.0.rising)
