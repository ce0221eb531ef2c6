use Rattle.std.proofs.Common.{◌≡◌, ℕ, ◌<◌, ◌++◌, get_or, take}
use Rattle.std.specs.List.{flat_map}
use Rattle.sg_texts.specs.Fitting.{IsLabel}
use Rattle.sg_texts.specs.Labels.{label_line}
use Rattle.sg_texts.proofs.labels.append_each_label.Given as goal

abbrev pub invariant-loop-label : goal.invariant-loop-label
invariant-loop-label l = record {
  text : l.out.items ≡ l.fn.out.items ++ flat_map label_line (take l.label-index l.labels);
  fits : (k : ℕ) (d : _) → k < l.label-index → IsLabel (get_or l.labels k d);
}
