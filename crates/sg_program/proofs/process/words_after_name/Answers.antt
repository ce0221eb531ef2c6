use Rattle.sg_program.proofs.WordLemmas.{words_left}
use Rattle.sg_program.proofs.process.words_after_name.Goals as goal

pub returns : goal.returns
returns c =
    words_left c.args.args c.next-name.new.self c.into_iter-arg-iterator.result c.loop-arg.arg-iterator c.next-name.result c.loop-arg.yielded c.loop-arg.words
    c.next-name.ensures.items c.next-name.ensures.cases c.into_iter-arg-iterator.ensures.into_iter_gives c.loop-arg.yielded_by c.in-None.ensures.steps.0
    c.loop-arg.invariant
