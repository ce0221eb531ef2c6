use Rattle.std.proofs.Common.{rules, true, false}
use Rattle.std.specs.Prelude.{not}
use Rattle.std.proofs.lemmas.Fn.{always_returns_same}
use Rattle.sg_pages.specs.Sorted.{is_reached}
use Rattle.sg_pages.proofs.Places.{place_from_split, partitioned}
use Rattle.sg_pages.proofs.sorted.place.Goals as goal

pub returns-then-strict-clause-place : goal.returns-then-strict-clause-place
returns-then-strict-clause-place g c =
    let test = λ (e : g.row.K.Denot × g.row.V.Denot). (is_reached g.K.Ord.cmp c.args.key.now true e.0) in
    rw c.if-strict.true (place_from_split test c.args.pairs.now c.partition_point.result c.partition_point.ensures.bound
    (c.partition_point.ensures.partitioned (λ e. not (test e)) (always_returns_same _ _ _ (λ a r f' called. search rules)) (partitioned g.K.Ord.cmp g.met.K.Ord.total c.args.key.now true c.args.pairs.now c.requires)))

pub returns-clause-place : goal.returns-clause-place
returns-clause-place g c =
    let test = λ (e : g.row.K.Denot × g.row.V.Denot). (is_reached g.K.Ord.cmp c.args.key.now false e.0) in
    rw c.if-strict.false (place_from_split test c.args.pairs.now c.partition_point-2.result c.partition_point-2.ensures.bound
    (c.partition_point-2.ensures.partitioned (λ e. not (test e)) (always_returns_same _ _ _ (λ a r f' called. search rules)) (partitioned g.K.Ord.cmp g.met.K.Ord.total c.args.key.now false c.args.pairs.now c.requires)))
