use Rattle.std.proofs.Common.{◌≡◌, take}
use Rattle.sg_refine.proofs.jobs.RefineJob.copy.Given as goal

-- the job of the query, with the candidates so far
abbrev pub invariant-loop-item : goal.invariant-loop-item
invariant-loop-item l = l.copy ≡ record { name = l.fn.self.name; test = l.fn.self.test; query = l.fn.self.query; items = take l.item-index l.item-items }
