use Rattle.std.proofs.Common.{◌≡◌, ℕ, ◌<◌, ◌++◌, get_or, take}
use Rattle.std.specs.List.{flat_map, enumerate_from}
use Rattle.sg_texts.specs.Laws.{IsCommit}
use Rattle.sg_texts.specs.Texts.{commit_text}
use Rattle.sg_texts.proofs.telling.append_commits.Given as goal

abbrev pub invariant-loop-index : goal.invariant-loop-index
invariant-loop-index l = record {
  text : l.out.items ≡ l.fn.out.items ++ flat_map commit_text (enumerate_from 1 (take l.index l.commits));
  fits : (k : ℕ) (d : _) → k < l.index → IsCommit (get_or l.commits k d);
}
