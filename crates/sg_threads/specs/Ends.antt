-- Labels that end a transaction.
use Rattle.std.specs.Prelude.{◌-◌, Bool, true, false, List, length, slice_get, Option, None, Some}
use Rattle.sg_trace.specs.declared.labels.Label.{Label}
use Rattle.sg_trace.specs.declared.labels.Label.TheVariants as label

abbrev pub is_end : Label → Bool
is_end (label.Commit s place) = true
is_end (label.Rollback s why) = true
is_end (label.Victim s cycle) = true
is_end (label.Begin s t) = false
is_end (label.Ask s n) = false
is_end (label.Take s k m) = false
is_end (label.Put s k m) = false
is_end (label.Wait s k m b) = false
is_end (label.Answer s a) = false

abbrev pub is_end_there : Option Label → Bool
is_end_there None = false
is_end_there (Some l) = is_end l

-- the last of these labels is one
abbrev pub closes : List Label → Bool
closes labels = is_end_there (slice_get labels (length labels - 1))
