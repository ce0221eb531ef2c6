use Rattle.sg_texts.specs.Laws.{IsAnswer}
use Rattle.sg_texts.specs.Texts.{answer_line}
use Rattle.sg_texts.proofs.Fits.{fits_more, text_more}
use Rattle.sg_texts.proofs.texts.append_answers.Goals as goal

pub loop-answer-preserved : goal.loop-answer-preserved
loop-answer-preserved c = record {
  text = text_more answer_line c.args.out.now.items c.loop-answer.out.items c.append_answer.new.out.items c.args.answers.now c.loop-answer.answer-index c.answer-item.result
      c.loop-answer-test.true c.answer-item.is c.loop-answer.invariant.text c.in_ok-append_answer.ensures.text;
  fits = fits_more IsAnswer c.args.answers.now c.loop-answer.answer-index c.answer-item.result
      c.loop-answer-test.true c.answer-item.is c.loop-answer.invariant.fits c.in_ok-append_answer.ensures.fits;
}
