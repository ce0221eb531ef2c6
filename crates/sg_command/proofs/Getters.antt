-- What the getters read of a parse, as the form of the words.
use Rattle.std.proofs.Common.{◌≡◌, ℕ, Bool, true, false, List, ap, sym, ◌∙◌, Option, Some, None, codes}
use Rattle.std.specs.Prelude.{option_map, option_and_then, drop}
use Rattle.std.specs.List.{list_all}
use Rattle.std.specs.Borrow.{Bor}
use Rattle.clap.specs.Words.{App, first_of, first_value, found_of, one_of, one_text, rows_of}
use Rattle.clap.specs.Walk.{Row, Text}
use Rattle.clap.specs.Values.{bool_text}
use Rattle.clap.specs.declared.parser.matches.Found.{Found}
use Rattle.clap.specs.declared.parser.matches.ArgMatches.{ArgMatches}
use Rattle.clap.proofs.WalkLemmas.{first_value-rows, one_text-rows}
use Rattle.sg_command.specs.declared.forms.Form.{Form}
use Rattle.sg_command.specs.declared.forms.Form.TheVariants as forms
use Rattle.sg_command.specs.Words.{Word, make_of, made_of, number_in, options_of, replay_of, threads_of, within}
use Rattle.sg_command.specs.Usage.{make_app, may_stand, rows_found, workers_said}
use Rattle.sg_command.proofs.Makes.{refused_make, taken_make}
use Rattle.sg_command.proofs.Run.{known}
use Rattle.sg_command.proofs.Said.{Taken, refused, taken, usage}
use Rattle.sg_command.proofs.Spoken.{rest_tame}

pub read_none : (f : Found) (id : Text) (r : Option (Bor Text)) → option_map (λ s. s.now) r ≡ first_value f id → r ≡ None → first_of id (rows_of f) ≡ None
read_none f id r e n = sym (first_value-rows f id) ∙ sym e ∙ ap (option_map (λ s. s.now)) n

pub read_some : (f : Found) (id : Text) (r : Option (Bor Text)) (s : Bor Text) → option_map (λ s. s.now) r ≡ first_value f id → r ≡ Some s → first_of id (rows_of f) ≡ Some s.now
read_some f id r s e n = sym (first_value-rows f id) ∙ sym e ∙ ap (option_map (λ s. s.now)) n

pub flag_read : (f : Found) (id : Text) (r b : Bool) → (one_text f id ≡ Some (codes "true") → r ≡ true) → (one_text f id ≡ Some (codes "false") → r ≡ false)
    → one_of id (rows_of f) ≡ Some (bool_text b) → r ≡ b
flag_read f id r true if_true if_false e = if_true (one_text-rows f id ∙ e)
flag_read f id r false if_true if_false e = if_false (one_text-rows f id ∙ e)

abbrev pub rows_in : Option ArgMatches → Option (List Row)
rows_in = option_map (λ m. rows_of (found_of m))

pub refused_by : (traced : Bool) (o : Option ArgMatches) (a : App) (words : List Word) → list_all may_stand words ≡ true → a ≡ usage traced → rows_in o ≡ rows_found a words → o ≡ None
    → options_of (known traced) (drop 1 words) ≡ None
refused_by traced o a words stand is e none = refused traced words (rest_tame words stand) (ap (λ u. rows_found u words) (sym is) ∙ sym e ∙ ap rows_in none)

pub taken_by : (traced : Bool) (o : Option ArgMatches) (a : App) (m : ArgMatches) (words : List Word) → list_all may_stand words ≡ true → a ≡ usage traced → rows_in o ≡ rows_found a words → o ≡ Some m
    → Taken traced (rows_of (found_of m)) (drop 1 words)
taken_by traced o a m words stand is e some = taken traced words (rows_of (found_of m)) (rest_tame words stand) (ap (λ u. rows_found u words) (sym is) ∙ sym e ∙ ap rows_in some)

pub no_workers : (traced : Bool) (rows : List Row) (ws : List Word) (w : Option ℕ) → Taken traced rows ws → w ≡ workers_said (first_of (codes "workers") rows) → w ≡ None → options_of (known traced) ws ≡ None
no_workers traced rows ws w t e none = t.options ∙ ap (option_map (λ n. record { workers = n; labels = t.seen.labels; trace = t.seen.trace })) (ap workers_said (sym t.says.workers) ∙ sym e ∙ none)

pub all_read : (traced : Bool) (rows : List Row) (ws : List Word) (w : Option ℕ) (n : ℕ) (t : Taken traced rows ws) → w ≡ workers_said (first_of (codes "workers") rows) → w ≡ Some n
    → options_of (known traced) ws ≡ Some (record { workers = n; labels = t.seen.labels; trace = t.seen.trace })
all_read traced rows ws w n t e some = t.options ∙ ap (option_map (λ n. record { workers = n; labels = t.seen.labels; trace = t.seen.trace })) (ap workers_said (sym t.says.workers) ∙ sym e ∙ some)

pub replay_none : (ws : List Word) → options_of (known false) ws ≡ None → None ≡ replay_of ws
replay_none ws e = sym (ap (option_map (λ o. forms.Replay o.workers o.labels)) e)

pub threads_none : (ws : List Word) → options_of (known true) ws ≡ None → None ≡ threads_of ws
threads_none ws e = sym (ap (option_map (λ o. forms.Threads o.workers o.labels o.trace)) e)

pub replay_some : (ws : List Word) (n : ℕ) (l m t : Bool) → options_of (known false) ws ≡ Some (record { workers = n; labels = m; trace = t }) → l ≡ m → Some (forms.Replay n l) ≡ replay_of ws
replay_some ws n l m t e f = ap (λ b. Some (forms.Replay n b)) f ∙ sym (ap (option_map (λ o. forms.Replay o.workers o.labels)) e)

pub threads_some : (ws : List Word) (n : ℕ) (l m t u : Bool) → options_of (known true) ws ≡ Some (record { workers = n; labels = m; trace = u }) → l ≡ m → t ≡ u → Some (forms.Threads n l t) ≡ threads_of ws
threads_some ws n l m t u e f g = ap (λ b. Some (forms.Threads n b t)) f ∙ ap (λ b. Some (forms.Threads n m b)) g ∙ sym (ap (option_map (λ o. forms.Threads o.workers o.labels o.trace)) e)

pub make_none : (o : Option ArgMatches) (a : App) (words : List Word) → list_all may_stand words ≡ true → a ≡ make_app → rows_in o ≡ rows_found a words → o ≡ None → None ≡ make_of (drop 1 words)
make_none o a words stand is e none = sym (refused_make words (rest_tame words stand) (ap (λ u. rows_found u words) (sym is) ∙ sym e ∙ ap rows_in none))

abbrev pub number_read : ℕ → ℕ → Option Word → Option ℕ
number_read least most = option_and_then (λ word. within least most (number_in word))

pub make_some : (o : Option ArgMatches) (a : App) (m : ArgMatches) (words : List Word) (r : Option Form) → list_all may_stand words ≡ true → a ≡ make_app → rows_in o ≡ rows_found a words → o ≡ Some m
    → r ≡ made_of (number_read 0 18446744073709551615 (first_of (codes "seed") (rows_of (found_of m)))) (number_read 1 5000 (first_of (codes "rows") (rows_of (found_of m)))) (number_read 1 64 (first_of (codes "sessions") (rows_of (found_of m))))
    → r ≡ make_of (drop 1 words)
make_some o a m words r stand is e some made =
    let t = taken_make words (rows_of (found_of m)) (rest_tame words stand) (ap (λ u. rows_found u words) (sym is) ∙ sym e ∙ ap rows_in some) in
    made ∙ rw (t.seed_is, t.rows_is, t.sessions_is) (sym (ap make_of t.words))
