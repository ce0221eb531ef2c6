use Rattle.std.proofs.Common.{[], ◌∷◌}
use Rattle.sg_trace.specs.declared.labels.Cause.TheVariants.{NoMemory}
use Rattle.sg_trace.specs.Traces.{Rollback}
use Rattle.sg_db.proofs.Knowing.{known_goes}
use Rattle.sg_db.proofs.locked.Locked.give_up.Goals as goal

pub returns-clause-goes : goal.returns-clause-goes
returns-clause-goes g c = known_goes c.args.s (Rollback c.args.s NoMemory ∷ []) c.args.self.now c.rollback.new.self c.args.token.now.known c.rollback.new.token.known c.requires.knows c.rollback.ensures.done
