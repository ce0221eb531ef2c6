-- When the shapes in answers are sound.
use Rattle.std.specs.Prelude.{List, All}
use Rattle.sg_plain.specs.Sat.{IsSoundAnswer, AreSoundAnswers}
use Rattle.sg_trace.specs.declared.labels.Label.{Label}
use Rattle.sg_trace.specs.declared.labels.Label.TheVariants as label
use Rattle.sg_texts.specs.Texts.{Commit}

-- all answers of the commits
abbrev pub AreSoundCommits : List Commit → Type 0
AreSoundCommits commits = All (λ commit. AreSoundAnswers commit.answers) commits

-- the answer that a label tells, if it tells one
abbrev pub IsSoundLabel : Label → Type 0
IsSoundLabel (label.Answer s a) = IsSoundAnswer a
IsSoundLabel (label.Begin s t) = Unit {0}
IsSoundLabel (label.Ask s n) = Unit {0}
IsSoundLabel (label.Take s k m) = Unit {0}
IsSoundLabel (label.Put s k m) = Unit {0}
IsSoundLabel (label.Wait s k m b) = Unit {0}
IsSoundLabel (label.Victim s c) = Unit {0}
IsSoundLabel (label.Commit s p) = Unit {0}
IsSoundLabel (label.Rollback s c) = Unit {0}
