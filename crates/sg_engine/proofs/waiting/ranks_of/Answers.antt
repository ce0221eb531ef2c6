use Rattle.std.proofs.Common.{sym, arith}
use Rattle.sg_waits.proofs.Finds.{first_none}
use Rattle.sg_engine.proofs.Ranked.{rank_is, ranked_more, ranked_last}
use Rattle.sg_engine.proofs.waiting.ranks_of.Goals as goal

pub loop-s-preserved : goal.loop-s-preserved
loop-s-preserved c =
    ranked_more c.args.cycle c.args.priorities.now c.args.seats.now c.loop-s.rest c.pop_first.new.self c.loop-s.ranks c.set.new.self c.in-Some.s c.rank_at-rank.result c.in-Some.ensures.rest
    (rank_is c.args.priorities.now c.args.seats.now c.in-Some.s c.index.result c.index-seats-index.result c.rank_at-rank.result c.index.ensures.place (let long = c.requires in let below = c.index.ensures.below in omega (arith, long, below)) c.index-seats-index.is c.rank_at-rank.ensures.priority c.rank_at-rank.ensures.cost)
    c.set.ensures c.loop-s.invariant

pub returns : goal.returns
returns c = ranked_last c.args.cycle c.args.priorities.now c.args.seats.now c.loop-s.rest c.loop-s.ranks (first_none c.loop-s.rest (sym c.in_default.ensures.first)) c.loop-s.invariant
