-- What the parser of command lines makes of one word: of an option, and of a word that is none.
use Rattle.std.proofs.Common.{◌≡◌, ℕ, Bool, true, false, ◌||◌, List, [], ◌∷◌, refl, Some, None, codes}
use Rattle.std.specs.Prelude.{◌==◌, if◌then◌else◌}
use Rattle.clap.specs.Walk.{with_values, without, with_default, reading_by, Held, Walk, Row, Rule, option, walked, settled, reacted, has_row}
use Rattle.clap.specs.Simple.{Shape, built, filled}
use Rattle.clap.specs.Faults.{check_fault, default_fault, defaults_fault, turn_fault, settle_fault, repeat_fault}
use Rattle.clap.specs.Kinds.{Kinds, or_else}
use Rattle.clap.specs.declared.error.kind.ErrorKind.TheVariants.{UnknownArgument, InvalidValue}
use Rattle.clap.specs.declared.parser.matches.ValueSource.TheVariants.{CommandLine}
use Rattle.clap.proofs.OnLiterals.{clap_on_literals}
use Rattle.sg_command.specs.Words.{Word}
use Rattle.sg_command.specs.Usage.{replay_app, threads_app, workers_rule}
use Rattle.sg_command.proofs.Rows.{flag}
use Rattle.sg_command.proofs.Outcome.{resting}
use Rattle.sg_command.proofs.Run.{workers_word, labels_word, trace_word}

-- the built command
abbrev pub shape : Bool → Shape
shape true = (built threads_app).top
shape false = (built replay_app).top

abbrev pub rules : Bool → List Rule
rules traced = (shape traced).rules

abbrev pub workers : Rule
workers = filled workers_rule

abbrev pub labels : Rule
labels = flag (codes "labels")

abbrev pub trace : Rule
trace = flag (codes "trace")

-- N stands next
abbrev pub asking : Held → Walk
asking h = record { held = record h { pending = Some (codes "workers", []) }; waiting = option (codes "workers"); position = 1; is_trailing = false; stopped = None }

abbrev pub asked : Word → Held → Held
asked word h = record h { pending = Some (codes "workers", word ∷ []) }

rules_true : rules true ≡ workers ∷ labels ∷ trace ∷ []
rules_true = refl

rules_false : rules false ≡ workers ∷ labels ∷ []
rules_false = refl

pub walked_labels : (traced : Bool) (h : Held) → walked (rules traced) [] (resting h) labels_word ≡ resting (reacted (rules traced) labels [] h)
unfolding clap_on_literals
walked_labels true h = refl
walked_labels false h = refl

pub turn_labels : (traced : Bool) (h : Held) → turn_fault (shape traced) [] (resting h) labels_word
    ≡ or_else (or_else (settle_fault (rules traced) false h) (or_else (repeat_fault false (codes "labels") (settled (rules traced) h).rows) [])) []
unfolding clap_on_literals
turn_labels true h = refl
turn_labels false h = refl

pub walked_trace : (h : Held) → walked (rules true) [] (resting h) trace_word ≡ resting (reacted (rules true) trace [] h)
unfolding clap_on_literals
walked_trace h = refl

pub turn_trace : (h : Held) → turn_fault (shape true) [] (resting h) trace_word
    ≡ or_else (or_else (settle_fault (rules true) false h) (or_else (repeat_fault false (codes "trace") (settled (rules true) h).rows) [])) []
unfolding clap_on_literals
turn_trace h = refl

pub turn_no_trace : (h : Held) → turn_fault (shape false) [] (resting h) trace_word ≡ UnknownArgument ∷ []
unfolding clap_on_literals
turn_no_trace h = refl

pub walked_workers : (traced : Bool) (h : Held) → walked (rules traced) [] (resting h) workers_word ≡ asking (settled (rules traced) h)
unfolding clap_on_literals
walked_workers true h = refl
walked_workers false h = refl

pub turn_workers : (traced : Bool) (h : Held) → turn_fault (shape traced) [] (resting h) workers_word ≡ or_else (settle_fault (rules traced) false h) []
unfolding clap_on_literals
turn_workers true h = refl
turn_workers false h = refl

pub turn_plain : (traced : Bool) (h : Held) (x : ℕ) (xs : Word) → (x == 45) ≡ false → turn_fault (shape traced) [] (resting h) (x ∷ xs) ≡ UnknownArgument ∷ []
unfolding clap_on_literals
turn_plain true h x xs e = rw e rw e refl
turn_plain false h x xs e = rw e rw e refl

-- ---- where N stands next

pub walked_asked : (traced : Bool) (h : Held) (x : ℕ) (xs : Word) → (x == 45) ≡ false → walked (rules traced) [] (asking h) (x ∷ xs) ≡ resting (asked (x ∷ xs) h)
unfolding clap_on_literals
walked_asked true h x xs e = rw e rw e refl
walked_asked false h x xs e = rw e rw e refl

pub turn_asked : (traced : Bool) (h : Held) (x : ℕ) (xs : Word) → (x == 45) ≡ false → turn_fault (shape traced) [] (asking h) (x ∷ xs) ≡ []
unfolding clap_on_literals
turn_asked true h x xs e = simp e refl
turn_asked false h x xs e = simp e refl

pub asked_labels : (traced : Bool) (h : Held) → turn_fault (shape traced) [] (asking h) labels_word ≡ InvalidValue ∷ []
unfolding clap_on_literals
asked_labels true h = refl
asked_labels false h = refl

pub asked_workers : (traced : Bool) (h : Held) → turn_fault (shape traced) [] (asking h) workers_word ≡ InvalidValue ∷ []
unfolding clap_on_literals
asked_workers true h = refl
asked_workers false h = refl

pub asked_trace : (h : Held) → turn_fault (shape true) [] (asking h) trace_word ≡ InvalidValue ∷ []
unfolding clap_on_literals
asked_trace h = refl

pub asked_no_trace : (h : Held) → turn_fault (shape false) [] (asking h) trace_word ≡ UnknownArgument ∷ []
unfolding clap_on_literals
asked_no_trace h = refl

pub settle_asking : (traced : Bool) (h : Held) → settle_fault (rules traced) false (asking h).held ≡ InvalidValue ∷ []
settle_asking true h = refl
settle_asking false h = refl

pub settle_asked : (traced : Bool) (word : Word) (h : Held) → settle_fault (rules traced) false (asked word h) ≡ or_else (repeat_fault false (codes "workers") h.rows) []
settle_asked true word h = refl
settle_asked false word h = refl

pub settled_asked : (traced : Bool) (word : Word) (h : Held) → (settled (rules traced) (asked word h)).rows ≡ with_values (codes "workers") (reading_by workers) CommandLine (word ∷ []) (without (codes "workers") h.rows)
settled_asked true word h = refl
settled_asked false word h = refl

-- ---- the end

past : (a b : Kinds) → a ≡ [] → b ≡ [] → or_else a b ≡ []
past a b e f = rw (e, f) refl

abbrev no_kinds : Kinds
no_kinds = []

no_fault : (b : Bool) → (if b then no_kinds else []) ≡ []
no_fault true = refl
no_fault false = refl

flag_clear : (id : Word) (rows : List Row) → default_fault rows (flag id) ≡ []
flag_clear id rows = no_fault (has_row id rows || false)

workers_clear : (rows : List Row) → default_fault rows workers ≡ []
workers_clear rows = no_fault (has_row (codes "workers") rows || true)

pub tail_clear : (traced : Bool) (rows last : List Row) → or_else (defaults_fault rows (rules traced)) (check_fault (shape traced) last false) ≡ []
unfolding clap_on_literals
tail_clear true rows last = past _ _ (past _ _ (workers_clear rows) (past _ _ (flag_clear (codes "labels") (with_default rows workers)) (past _ _ (flag_clear (codes "trace") (with_default (with_default rows workers) labels)) refl))) refl
tail_clear false rows last = past _ _ (past _ _ (workers_clear rows) (past _ _ (flag_clear (codes "labels") (with_default rows workers)) refl)) refl
