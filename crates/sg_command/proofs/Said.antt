-- What a parse of the options says, as all the words say it.
use Rattle.std.proofs.Common.{◌≡◌, ℕ, Bool, true, false, not, ◌&&◌, ◌||◌, List, [], ◌∷◌, refl, ap, sym, ◌∙◌, subst, Option, Some, None}
use Rattle.std.specs.Prelude.{◌==◌, if◌then◌else◌, option_map, option_and_then, drop, length, nat_le}
use Rattle.std.specs.Cmp.{unsigned_Decides}
use Rattle.clap.specs.Walk.{Row, nothing_held}
use Rattle.clap.specs.Simple.{App, built, matches_of}
use Rattle.clap.proofs.FaultLemmas.{leaf_fault}
use Rattle.sg_command.specs.Words.{Word, Options, are_flags, flags_of, number_in, options_of, place_of_workers, within, workers_from, workers_of}
use Rattle.sg_command.specs.Usage.{clear, replay_app, rows_found, threads_app, workers_said}
use Rattle.sg_command.proofs.Outcome.{outcome, resting}
use Rattle.sg_command.proofs.Turns.{shape}
use Rattle.sg_command.proofs.Parse.{Agrees, AllTame, Says, both, raw}
use Rattle.sg_command.proofs.Run.{Seen, has, known, labels_word, number, run, run_words, seen, trace_word}

abbrev pub said : Seen Word → Option Options
said s = option_map (λ n. record { workers = n; labels = s.labels; trace = s.trace }) (workers_said s.workers)

said_flags : (a x y : Bool) (m : Option (Option Word)) (k : Option ℕ) → k ≡ option_and_then workers_said m
    → option_and_then said (if a && (not (false && x) && not (false && y)) then option_map (λ n. seen n (false || x) (false || y)) m else None)
    ≡ (if a then option_map (λ n. record { workers = n; labels = x; trace = y }) k else None)
said_flags true x y None k e = rw e refl
said_flags true x y (Some n) k e = rw e refl
said_flags false x y m k e = refl

no_digits : (a b : Bool) (n : ℕ) → (if a && (b && false) then Some n else None) ≡ None
no_digits true true n = refl
no_digits true false n = refl
no_digits false b n = refl

hyphen : (xs : Word) → number_in (45 ∷ xs) ≡ None
hyphen xs = no_digits (nat_le 1 (length (45 ∷ xs))) (nat_le (length (45 ∷ xs)) 20) _

workers_read : (ws : List Word) → workers_from ws ≡ option_and_then workers_said (number raw ws)
workers_read [] = refl
workers_read (option ∷ []) = refl
workers_read (option ∷ [] ∷ rest) = refl
workers_read (option ∷ (x ∷ xs) ∷ rest) = each (x == 45) (λ e. ap (λ c. number_in (c ∷ xs)) ((unsigned_Decides x 45).0 e) ∙ hyphen xs)
  where
    each : (b : Bool) → (b ≡ true → number_in (x ∷ xs) ≡ None) → within 1 64 (number_in (x ∷ xs)) ≡ option_and_then workers_said (option_map Some (if b then None else Some (x ∷ xs)))
    each true e = ap (within 1 64) (e refl)
    each false e = refl

pub run_options : (traced : Bool) (ws : List Word) → option_and_then said (run raw traced (seen None false false) ws) ≡ options_of (known traced) ws
run_options traced ws = ap (option_and_then said) (run_words raw traced false false ws)
    ∙ said_flags (are_flags (known traced) (flags_of ws)) (has labels_word (flags_of ws)) (has trace_word (flags_of ws))
    (number raw (drop (place_of_workers ws) ws)) (workers_of ws) (workers_read (drop (place_of_workers ws) ws))

-- ---- a whole parse

pub found_replay : (words : List Word) → rows_found replay_app words ≡ outcome (shape false) (resting nothing_held) (drop 1 words)
unfolding rows_found
found_replay words = ap (λ k. if clear k then Some (matches_of replay_app words) else None) (leaf_fault (built replay_app) nothing_held (drop 1 words) refl)

pub found_threads : (words : List Word) → rows_found threads_app words ≡ outcome (shape true) (resting nothing_held) (drop 1 words)
unfolding rows_found
found_threads words = ap (λ k. if clear k then Some (matches_of threads_app words) else None) (leaf_fault (built threads_app) nothing_held (drop 1 words) refl)

abbrev pub usage : Bool → App
usage true = threads_app
usage false = replay_app

found : (traced : Bool) (words : List Word) → rows_found (usage traced) words ≡ outcome (shape traced) (resting nothing_held) (drop 1 words)
found true = found_threads
found false = found_replay

agrees : (traced : Bool) (words : List Word) → AllTame (drop 1 words) → Agrees traced (rows_found (usage traced) words) (run raw traced (seen None false false) (drop 1 words))
agrees traced words tames = rw (found traced words) ((both traced (drop 1 words) tames).0 nothing_held None false false refl (record { workers = refl; labels = refl; trace = refl }))

pub refused : (traced : Bool) (words : List Word) → AllTame (drop 1 words) → rows_found (usage traced) words ≡ None → options_of (known traced) (drop 1 words) ≡ None
refused traced words tames e = sym (run_options traced (drop 1 words)) ∙ go (rows_found (usage traced) words) (run raw traced (seen None false false) (drop 1 words)) e (agrees traced words tames)
  where
    go : (o : Option (List Row)) (r : Option (Seen Word)) → o ≡ None → Agrees traced o r → option_and_then said r ≡ None
    go None None e a = refl
    go None (Some s) e a = absurd a
    go (Some rows) r e a = absurd (let z : Some rows ≡ None = e in cc)

pub record Taken (traced : Bool) (rows : List Row) (ws : List Word) : Type 0 where
  pub seen : Seen Word
  pub says : Says traced rows seen
  pub options : options_of (known traced) ws ≡ said seen

pub taken : (traced : Bool) (words : List Word) (rows : List Row) → AllTame (drop 1 words) → rows_found (usage traced) words ≡ Some rows → Taken traced rows (drop 1 words)
taken traced words rows tames e = go (run raw traced (seen None false false) (drop 1 words)) refl (subst (λ o. Agrees traced o (run raw traced (seen None false false) (drop 1 words))) e (agrees traced words tames))
  where
    go : (r : Option (Seen Word)) → run raw traced (seen None false false) (drop 1 words) ≡ r → Agrees traced (Some rows) r → Taken traced rows (drop 1 words)
    go None e a = absurd a
    go (Some s) e a = record { seen = s; says = a; options = sym (run_options traced (drop 1 words)) ∙ ap (option_and_then said) e }
