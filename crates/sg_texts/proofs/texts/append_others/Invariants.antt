use Rattle.std.proofs.Common.{◌≡◌, ℕ, ◌<◌, ◌++◌, get_or, take}
use Rattle.std.specs.List.{flat_map}
use Rattle.sg_texts.specs.Laws.{IsOther}
use Rattle.sg_texts.specs.Texts.{other_text}
use Rattle.sg_texts.proofs.texts.append_others.Given as goal

abbrev pub invariant-loop-other : goal.invariant-loop-other
invariant-loop-other l = record {
  text : l.out.items ≡ l.fn.out.items ++ flat_map other_text (take l.other-index l.others);
  fits : (k : ℕ) (d : _) → k < l.other-index → IsOther (get_or l.others k d);
}
