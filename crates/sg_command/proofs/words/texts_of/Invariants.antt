use Rattle.std.proofs.Common.{◌≡◌, true, map, take}
use Rattle.std.specs.List.{list_all}
use Rattle.sg_command.specs.Words.{texts}
use Rattle.sg_command.specs.Usage.{may_stand}
use Rattle.sg_command.proofs.words.texts_of.Given as goal

pub record Stands (l : goal.Live-loop-word) : Type 0 where
  pub same : map (λ word. word.now) l.list.items ≡ texts (take l.word-index l.words)
  pub stand : list_all may_stand (texts (take l.word-index l.words)) ≡ true

abbrev pub invariant-loop-word : goal.invariant-loop-word
invariant-loop-word l = Stands l
