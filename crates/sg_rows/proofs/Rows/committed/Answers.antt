use Rattle.sg_rows.proofs.Committed.{done, next_committed, joined_next, fewer}
use Rattle.sg_rows.proofs.Rows.committed.Goals as goal

pub push_committed-requires : goal.push_committed-requires
push_committed-requires c =
    next_committed c.loop-key.rows c.loop-key.last c.self.inside.versions.rows c.loop-key.invariant (c.in-Some.key.now, c.in-Some.version.now) c.in-Some.ensures.rising c.in-Some.ensures.first c.self.invariant

pub loop-key-smaller : goal.loop-key-smaller
loop-key-smaller c =
    fewer c.loop-key.rows c.loop-key.last c.self.inside.versions.rows c.loop-key.invariant (c.in-Some.key.now, c.in-Some.version.now) c.in-Some.ensures.rising c.in-Some.ensures.first

pub loop-key-preserved : goal.loop-key-preserved
loop-key-preserved c =
    joined_next c.loop-key.rows c.loop-key.last c.self.inside.versions.rows c.loop-key.invariant (c.in-Some.key.now, c.in-Some.version.now) c.in-Some.ensures.rising c.in-Some.ensures.first c.push_committed.new.rows c.in_ok-push_committed.ensures

pub returns : goal.returns
returns c = rw (← c.self.view_is) (done c.loop-key.rows c.loop-key.last c.self.inside.versions.rows c.loop-key.invariant c.in_default.ensures.first)
