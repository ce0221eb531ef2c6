use Rattle.std.proofs.Common.{◌≡◌, take}
use Rattle.sg_stores.specs.Agreement.{seen_rows}
use Rattle.sg_trace.specs.Pending.{ArePending}
use Rattle.sg_engine.proofs.queries.job_of.Given as goal

-- the job is of the query, and has the rows that are left to be tested so far
abbrev pub invariant-loop-key : goal.invariant-loop-key
invariant-loop-key l = record {
  name : l.job.name ≡ l.fn.name;
  test : l.job.test ≡ l.fn.test;
  query : l.job.query ≡ l.shape;
  items : ArePending (seen_rows l.s l.rows.rows) (take l.key-index l.key-items) l.sure l.job.items;
}
