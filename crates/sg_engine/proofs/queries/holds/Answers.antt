use Rattle.std.proofs.Common.{sym, Err}
use Rattle.std.proofs.lemmas.List.Sorted.{searched}
use Rattle.sg_engine.proofs.Choices.{has_key-gap, never_falls}
use Rattle.sg_engine.proofs.queries.holds.Goals as goal

pub returns-in-Err : goal.returns-in-Err
returns-in-Err c =
    let found = searched c.args.keys.now c.args.key (Err c.in-Err.field-0) c.in-Err.ensures.position
    (λ i j le within. never_falls c.args.keys.now i j c.requires le within) in
    sym (has_key-gap c.args.keys.now c.args.key c.in-Err.field-0 found.1 found.2)
