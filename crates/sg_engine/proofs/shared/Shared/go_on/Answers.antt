use Rattle.std.proofs.Common.{ap}
use Rattle.sg_engine.specs.Outside.{outside}
use Rattle.sg_engine.proofs.Outer.{steps_out}
use Rattle.sg_engine.proofs.Refines.{read_in, some_none}
use Rattle.sg_engine.proofs.shared.Shared.go_on.Goals as goal

pub returns-in-Some-clause-ok : goal.returns-in-Some-clause-ok
returns-in-Some-clause-ok g c =
    steps_out c.args.s c.in_range.ensures c.args.self.now c.search.new.self c.lock_or_wait.new.self c.lock_or_wait.result (ap outside c.search.ensures.same) c.lock_or_wait.ensures.ok

pub returns-in-Some-clause-refines : goal.returns-in-Some-clause-refines
returns-in-Some-clause-refines g c = λ x. some_none c.in_ok-key.field-0 _ c.in-Some.is (c.in_ok-key.ensures.unread (read_in c.args.self.now c.args.s x))
