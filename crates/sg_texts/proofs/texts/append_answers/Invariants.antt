use Rattle.std.proofs.Common.{◌≡◌, ℕ, ◌<◌, ◌++◌, get_or, take}
use Rattle.std.specs.List.{flat_map}
use Rattle.sg_texts.specs.Laws.{IsAnswer}
use Rattle.sg_texts.specs.Texts.{answer_line}
use Rattle.sg_texts.proofs.texts.append_answers.Given as goal

abbrev pub invariant-loop-answer : goal.invariant-loop-answer
invariant-loop-answer l = record {
  text : l.out.items ≡ l.fn.out.items ++ flat_map answer_line (take l.answer-index l.answers);
  fits : (k : ℕ) (d : _) → k < l.answer-index → IsAnswer (get_or l.answers k d);
}
