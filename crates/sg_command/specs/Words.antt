-- The forms of the command's words.
use Rattle.std.specs.Prelude.{ℕ, ◌+◌, ◌-◌, ◌^◌, ◌≤◌, ◌<◌, nat_le, Bool, true, not, ◌&&◌, List, [], ◌∷◌, ◌++◌, length, take, drop, map, if◌then◌else◌, Option, Some, None, option_map, codes, bytes_eq}
use Rattle.std.specs.List.{list_any, position_or_len}
use Rattle.std.specs.Global.{Vec}
use Rattle.std.specs.Str.{all_ascii_digits}
use Rattle.std.specs.Str.Parse.{digits_value}
use Rattle.sg_command.specs.declared.forms.Form.{Form}
use Rattle.sg_command.specs.declared.forms.Form.TheVariants as forms

-- a word is its bytes
abbrev pub Word : Type 0
Word = List ℕ

-- the words as their bytes
abbrev pub texts : List (Vec ℕ) → List Word
texts = map (λ word. word.items)

abbrev pub is : Word → Word → Bool
is known word = bytes_eq word known

-- what a word of 1 to 20 decimal digits stands for; it has no sign
abbrev pub number_in : Word → Option ℕ
number_in word = if nat_le 1 (length word) && (nat_le (length word) 20 && all_ascii_digits word) then Some (digits_value 10 word) else None

-- a number within its limits
abbrev pub within : ℕ → ℕ → Option ℕ → Option ℕ
within least most None = None
within least most (Some n) = if nat_le least n && nat_le n most then Some n else None

-- N of the words `--workers N` at the front; one worker where there are no words
abbrev pub workers_from : List Word → Option ℕ
workers_from [] = Some 1
workers_from (option ∷ []) = None
workers_from (option ∷ number ∷ rest) = within 1 64 (number_in number)

-- where `--workers` stands, or how many words there are
abbrev pub place_of_workers : List Word → ℕ
place_of_workers = position_or_len (is (codes "--workers"))

abbrev pub workers_of : List Word → Option ℕ
workers_of words = workers_from (drop (place_of_workers words) words)

-- the words but for `--workers N`
abbrev pub flags_of : List Word → List Word
flags_of words = take (place_of_workers words) words ++ drop (place_of_workers words + 2) words

-- each word is a known flag, and none stands again
abbrev pub are_flags : List Word → List Word → Bool
are_flags known [] = true
are_flags known (flag ∷ rest) = list_any (bytes_eq flag) known && (not (list_any (is flag) rest) && are_flags known rest)

-- what the options say
pub record Options : Type 0 where
  pub workers : ℕ
  pub labels : Bool
  pub trace : Bool

-- the options that the words say, with these flags
abbrev pub options_of : List Word → List Word → Option Options
options_of known words = if are_flags known (flags_of words) then option_map (λ n. record {
  workers = n;
  labels = list_any (is (codes "--labels")) (flags_of words);
  trace = list_any (is (codes "--trace")) (flags_of words);
}) (workers_of words) else None

abbrev pub replay_flags : List Word
replay_flags = codes "--labels" ∷ []

abbrev pub threads_flags : List Word
threads_flags = codes "--labels" ∷ codes "--trace" ∷ []

abbrev pub replay_of : List Word → Option Form
replay_of words = option_map (λ o. forms.Replay o.workers o.labels) (options_of replay_flags words)

abbrev pub threads_of : List Word → Option Form
threads_of words = option_map (λ o. forms.Threads o.workers o.labels o.trace) (options_of threads_flags words)

-- where each number is within its limits
abbrev pub made_of : Option ℕ → Option ℕ → Option ℕ → Option Form
made_of (Some seed) (Some rows) (Some sessions) = Some (forms.Make seed rows sessions)
made_of seed rows sessions = None

abbrev pub make_of : List Word → Option Form
make_of (seed ∷ rows ∷ sessions ∷ []) =
    made_of (within 0 (2 ^ 64 - 1) (number_in seed)) (within 1 5000 (number_in rows)) (within 1 64 (number_in sessions))
make_of words = None

-- `replay [--workers N] [--labels]`, `threads [--workers N] [--labels] [--trace]`, with the options in any order, or `make SEED ROWS SESSIONS`
unfoldable pub form_of : List Word → Option Form
form_of [] = None
form_of (command ∷ words) =
    if is (codes "replay") command then replay_of words
    else (if is (codes "threads") command then threads_of words
    else (if is (codes "make") command then make_of words else None))

abbrev pub IsWithin : ℕ → ℕ → ℕ → Type 0
IsWithin least most n = (least ≤ n) × (n ≤ most)

-- the numbers are within their limits
abbrev pub IsForm : Form → Type 0
IsForm (forms.Replay workers labels) = IsWithin 1 64 workers
IsForm (forms.Threads workers labels trace) = IsWithin 1 64 workers
IsForm (forms.Make seed rows sessions) = (seed < 2 ^ 64) × IsWithin 1 5000 rows × IsWithin 1 64 sessions
