-- The usage of each command, as the parser of command lines is told it.
use Rattle.std.specs.Prelude.{◌≡◌, ℕ, ◌==◌, Bool, true, false, not, ◌&&◌, ◌||◌, is_some, bytes_eq, List, [], ◌∷◌, Option, Some, None, if◌then◌else◌, codes}
use Rattle.std.specs.List.{list_any}
use Rattle.clap.specs.Words.{App, Kinds, Row, Rule, fault_of, is_simple_and_free, matches_of, new_app, new_rule, with_rule}
use Rattle.clap.specs.Simple.{on_top}
use Rattle.clap.specs.declared.builder.action.ArgAction.TheVariants.{SetTrue}
use Rattle.sg_command.specs.Words.{Word, number_in, within}

-- `--workers N`
abbrev pub workers_rule : Rule
workers_rule = record (new_rule (codes "workers")) { long = Some (codes "workers") }

-- `--labels` or `--trace`
abbrev pub flag_rule : Word → Rule
flag_rule name = record (new_rule name) { long = Some name; action = Some SetTrue }

-- SEED, ROWS or SESSIONS
abbrev pub number_rule : Word → Rule
number_rule name = record (new_rule name) { required = true }

-- the command has no `--help`
abbrev pub bare : Word → App
bare name = on_top (λ s. record s { disable_help_flag = true }) (new_app name)

abbrev pub replay_app : App
replay_app = with_rule (with_rule (bare (codes "replay")) workers_rule) (flag_rule (codes "labels"))

abbrev pub threads_app : App
threads_app = with_rule (with_rule (with_rule (bare (codes "threads")) workers_rule) (flag_rule (codes "labels"))) (flag_rule (codes "trace"))

abbrev pub make_app : App
make_app = with_rule (with_rule (with_rule (bare (codes "make")) (number_rule (codes "seed"))) (number_rule (codes "rows"))) (number_rule (codes "sessions"))

-- the parse has no fault
abbrev pub clear : Kinds → Bool
clear [] = true
clear (fault ∷ more) = false

-- the rows of a parse, where it has no fault
unfoldable pub rows_found : App → List Word → Option (List Row)
rows_found usage words = if clear (fault_of usage words) then Some (matches_of usage words) else None

-- the parser's contract tells all that comes of it
unfoldable pub IsTold : App → Type 0
IsTold usage = is_simple_and_free usage ≡ true

-- how many workers there are, by N of `--workers N` or without it
abbrev pub workers_said : Option Word → Option ℕ
workers_said None = Some 1
workers_said (Some word) = within 1 64 (number_in word)

-- the three words that begin with `-`
abbrev pub option_words : List Word
option_words = codes "--workers" ∷ codes "--labels" ∷ codes "--trace" ∷ []

-- a word that the parser may see: it isn't empty, has no `=`, isn't `help`, and begins with `-` only as an option
abbrev pub may_stand : Word → Bool
may_stand [] = false
may_stand (byte ∷ rest) = not (list_any (λ b. b == 61) (byte ∷ rest))
    && (not (bytes_eq (byte ∷ rest) (codes "help")) && (not (byte == 45) || list_any (bytes_eq (byte ∷ rest)) option_words))

-- a word of some form
abbrev pub form_words : List Word
form_words = codes "replay" ∷ codes "threads" ∷ codes "make" ∷ option_words

abbrev pub is_spoken : Word → Bool
is_spoken word = list_any (bytes_eq word) form_words || is_some (number_in word)
