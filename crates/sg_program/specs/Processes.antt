-- What a process does with its arguments.
use Rattle.std.specs.Prelude.{◌≡◌, ℕ, List, [], ◌∷◌, drop, map, Result, Ok, Err}
use Rattle.std.specs.String.{string_bytes}
use Rattle.std.specs.Vec.Iter.{into_iter_items}
use Rattle.std.specs.declared.string.String.{String}
use Rattle.std.specs.declared.vec.IntoIter.{IntoIter}
use Rattle.sg_command.specs.Words.{Word, form_of}
use Rattle.sg_program.specs.Calls.{Device, IsCall}
use Rattle.sg_program.specs.Statuses.{number_of}
use Rattle.sg_program.specs.declared.status.Status.{Status}

-- the words after the program's name, in order; one empty word, which has no form, where the arguments can't be had
abbrev pub words_in : {Z A E : Type 0} → Result (IntoIter (String Z) A) E → List Word
words_in (Ok args) = map string_bytes (drop 1 (into_iter_items args))
words_in (Err error) = [] ∷ []

-- what these words ask for was called, and the process ends with the number of that call's status
pub record IsProcess (words : List Word) (source out err : Device) (number : ℕ) : Type 0 where
  pub status : Status
  pub call : IsCall (form_of words) source out err status
  pub is : number ≡ number_of status
