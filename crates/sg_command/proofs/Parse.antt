-- The parser of command lines on all the words of `replay` and `threads`: it takes what the options read word by word take, and finds the same.
use Rattle.std.proofs.Common.{◌≡◌, ℕ, Bool, true, false, not, ◌&&◌, List, [], ◌∷◌, refl, ap, sym, ◌∙◌, subst, inl, inr, Option, Some, None, codes}
use Rattle.std.specs.Prelude.{slice_get, ◌==◌, ◌⊎◌, ⊤, if◌then◌else◌, option_map, option_and_then, is_some}
use Rattle.std.proofs.lemmas.Bool.{false≢true}
use Rattle.clap.specs.Walk.{with_values, without, row_text, Held, Walk, Row, Text, finished, first_of, one_of, reacted, settled, with_default, reading_by}
use Rattle.clap.specs.Values.{bool_text}
use Rattle.clap.specs.Kinds.{Kinds, or_else}
use Rattle.clap.specs.Faults.{check_fault, defaults_fault, settle_fault, turn_fault, repeat_fault}
use Rattle.clap.specs.declared.parser.matches.ValueSource.TheVariants.{CommandLine}
use Rattle.clap.specs.declared.error.kind.ErrorKind.TheVariants.{ArgumentConflict}
use Rattle.sg_command.specs.Words.{Word}
use Rattle.sg_command.proofs.Rows.{look, has_look, put, look_put, look_other, flag_row, new_row, flag_last, other_last, no_default}
use Rattle.sg_command.proofs.Run.{Seen, run, seen, workers_word, labels_word, trace_word}
use Rattle.sg_command.specs.Usage.{clear}
use Rattle.sg_command.proofs.Outcome as at_end
use Rattle.sg_command.proofs.Outcome.{resting, outcome, fails, passes, clear_first}
use Rattle.sg_command.proofs.Turns.{shape, rules, workers, labels, trace, asking, asked, walked_labels, turn_labels, walked_trace, turn_trace, turn_no_trace, walked_workers, turn_workers, turn_plain, walked_asked, turn_asked, asked_labels, asked_workers, asked_trace, asked_no_trace, settle_asking, settle_asked, settled_asked, tail_clear}

-- ---- words that the parser may see

-- the word is neither empty nor begins with `-`
abbrev pub IsPlain : Word → Type 0
IsPlain [] = ⊥
IsPlain (x ∷ xs) = (x == 45) ≡ false

abbrev pub Tame : Word → Type 0
Tame w = (w ≡ workers_word) ⊎ ((w ≡ labels_word) ⊎ ((w ≡ trace_word) ⊎ IsPlain w))

abbrev pub AllTame : List Word → Type 0
AllTame [] = ⊤
AllTame (w ∷ ws) = Tame w × AllTame ws

-- N as its word, which doesn't begin with `-`
abbrev pub raw : Word → Option Word
raw [] = None
raw (x ∷ xs) = if x == 45 then None else Some (x ∷ xs)

-- ---- what the parse comes to

ends : (traced : Bool) (h : Held) → settle_fault (rules traced) false h ≡ [] → outcome (shape traced) (resting h) [] ≡ Some (finished (rules traced) h)
ends true h e = at_end.ends (shape true) (resting h) (ap (λ k. or_else k (or_else (defaults_fault (settled (rules true) h).rows (rules true)) (check_fault (shape true) (finished (rules true) h) false))) e
    ∙ tail_clear true (settled (rules true) h).rows (finished (rules true) h))
ends false h e = at_end.ends (shape false) (resting h) (ap (λ k. or_else k (or_else (defaults_fault (settled (rules false) h).rows (rules false)) (check_fault (shape false) (finished (rules false) h) false))) e
    ∙ tail_clear false (settled (rules false) h).rows (finished (rules false) h))

ends_badly : (traced : Bool) (w : Walk) → clear (settle_fault (rules traced) false w.held) ≡ false → outcome (shape traced) w [] ≡ None
ends_badly true w e = at_end.ends_badly (shape true) w (clear_first (settle_fault (rules true) false w.held) _ e)
ends_badly false w e = at_end.ends_badly (shape false) w (clear_first (settle_fault (rules false) false w.held) _ e)

-- ---- what the rows say

abbrev pub workers_row : Word → Row
workers_row word = new_row (codes "workers") (reading_by workers) CommandLine (word ∷ [])

pub record Holds (rows : List Row) (n : Option Word) (l t : Bool) : Type 0 where
  pub workers : look (codes "workers") rows ≡ option_map workers_row n
  pub labels : look (codes "labels") rows ≡ (if l then Some (flag_row (codes "labels")) else None)
  pub trace : look (codes "trace") rows ≡ (if t then Some (flag_row (codes "trace")) else None)

-- what the getters read at the end
pub record Says (traced : Bool) (rows : List Row) (s : Seen Word) : Type 0 where
  pub workers : first_of (codes "workers") rows ≡ s.workers
  pub labels : one_of (codes "labels") rows ≡ Some (bool_text s.labels)
  pub trace : traced ≡ true → one_of (codes "trace") rows ≡ Some (bool_text s.trace)

abbrev pub Agrees : Bool → Option (List Row) → Option (Seen Word) → Type 0
Agrees traced None None = ⊤
Agrees traced None (Some s) = ⊥
Agrees traced (Some rows) None = ⊥
Agrees traced (Some rows) (Some s) = Says traced rows s

by : (traced : Bool) (o p : Option (List Row)) (r s : Option (Seen Word)) → o ≡ p → r ≡ s → Agrees traced p s → Agrees traced o r
by traced o p r s e f h = rw (e, f) h

repeat_is : (id : Text) (rows : List Row) → repeat_fault false id rows ≡ (if is_some (look id rows) then ArgumentConflict ∷ [] else [])
repeat_is id rows = ap (λ b. if b && true then ArgumentConflict ∷ [] else []) (has_look id rows) ∙ go (is_some (look id rows))
  where
    go : (b : Bool) → (if b && true then ArgumentConflict ∷ [] else []) ≡ (if b then ArgumentConflict ∷ [] else [])
    go true = refl
    go false = refl

is_some_flag : (b : Bool) (r : Row) → is_some (if b then Some r else None) ≡ b
is_some_flag true r = refl
is_some_flag false r = refl

-- one more use of a flag passes where it is the first
flag_turn : (id : Text) (rows : List Row) (b : Bool) (r : Row) (s : Kinds) → s ≡ [] → look id rows ≡ (if b then Some r else None)
    → clear (or_else (or_else s (or_else (repeat_fault false id rows) [])) []) ≡ not b
flag_turn id rows b r s e h =
    ap (λ k. clear (or_else (or_else k (or_else (repeat_fault false id rows) [])) [])) e
    ∙ ap (λ k. clear (or_else (or_else [] (or_else k [])) [])) (repeat_is id rows ∙ ap (λ b. if b then ArgumentConflict ∷ [] else []) (ap is_some h ∙ is_some_flag b r))
    ∙ go b
  where
    go : (b : Bool) → clear (or_else (or_else [] (or_else (if b then ArgumentConflict ∷ [] else []) [])) []) ≡ not b
    go true = refl
    go false = refl

-- ---- what a use changes

labels_hold : (rows : List Row) (n : Option Word) (t : Bool) → Holds rows n false t → Holds (with_values (codes "labels") (reading_by labels) CommandLine (codes "true" ∷ []) (without (codes "labels") rows)) n true t
labels_hold rows n t h =
    let e = put (codes "labels") (reading_by labels) CommandLine (codes "true" ∷ []) rows h.labels in
    record {
      workers = ap (look (codes "workers")) e ∙ look_other (codes "workers") (flag_row (codes "labels")) rows refl ∙ h.workers;
      labels = ap (look (codes "labels")) e ∙ look_put (codes "labels") (flag_row (codes "labels")) rows h.labels refl;
      trace = ap (look (codes "trace")) e ∙ look_other (codes "trace") (flag_row (codes "labels")) rows refl ∙ h.trace;
    }

trace_holds : (rows : List Row) (n : Option Word) (l : Bool) → Holds rows n l false → Holds (with_values (codes "trace") (reading_by trace) CommandLine (codes "true" ∷ []) (without (codes "trace") rows)) n l true
trace_holds rows n l h =
    let e = put (codes "trace") (reading_by trace) CommandLine (codes "true" ∷ []) rows h.trace in
    record {
      workers = ap (look (codes "workers")) e ∙ look_other (codes "workers") (flag_row (codes "trace")) rows refl ∙ h.workers;
      labels = ap (look (codes "labels")) e ∙ look_other (codes "labels") (flag_row (codes "trace")) rows refl ∙ h.labels;
      trace = ap (look (codes "trace")) e ∙ look_put (codes "trace") (flag_row (codes "trace")) rows h.trace refl;
    }

workers_hold : (rows : List Row) (word : Word) (l t : Bool) → Holds rows None l t → Holds (with_values (codes "workers") (reading_by workers) CommandLine (word ∷ []) (without (codes "workers") rows)) (Some word) l t
workers_hold rows word l t h =
    let e = put (codes "workers") (reading_by workers) CommandLine (word ∷ []) rows h.workers in
    record {
      workers = ap (look (codes "workers")) e ∙ look_put (codes "workers") (workers_row word) rows h.workers refl;
      labels = ap (look (codes "labels")) e ∙ look_other (codes "labels") (workers_row word) rows refl ∙ h.labels;
      trace = ap (look (codes "trace")) e ∙ look_other (codes "trace") (workers_row word) rows refl ∙ h.trace;
    }

-- ---- the end

text_of_row : (n : Option Word) → option_and_then (λ r. slice_get r.values 0) (option_map workers_row n) ≡ n
text_of_row None = refl
text_of_row (Some word) = refl

says_threads : (rows : List Row) (n : Option Word) (l t : Bool) → Holds rows n l t → Says true (with_default (with_default rows labels) trace) (seen n l t)
says_threads rows n l t h =
    let first = with_default rows labels in
    let traced : look (codes "trace") first ≡ (if t then Some (flag_row (codes "trace")) else None) = other_last (codes "labels") (codes "trace") rows l h.labels refl ∙ h.trace in
    record {
      workers = ap (option_and_then (λ r. slice_get r.values 0)) (other_last (codes "trace") (codes "workers") first t traced refl ∙ other_last (codes "labels") (codes "workers") rows l h.labels refl ∙ h.workers) ∙ text_of_row n;
      labels = ap (option_and_then row_text) (other_last (codes "trace") (codes "labels") first t traced refl) ∙ flag_last (codes "labels") rows l h.labels;
      trace = λ _. flag_last (codes "trace") first t traced;
    }

says_replay : (rows : List Row) (n : Option Word) (l t : Bool) → Holds rows n l t → Says false (with_default rows labels) (seen n l t)
says_replay rows n l t h = record {
  workers = ap (option_and_then (λ r. slice_get r.values 0)) (other_last (codes "labels") (codes "workers") rows l h.labels refl ∙ h.workers) ∙ text_of_row n;
  labels = flag_last (codes "labels") rows l h.labels;
  trace = λ e. absurd (false≢true e);
}

says_last : (traced : Bool) (h : Held) (n : Option Word) (l t : Bool) → Holds (settled (rules traced) h).rows n l t → Says traced (finished (rules traced) h) (seen n l t)
says_last true h n l t holds = subst (λ rows. Says true (with_default (with_default rows labels) trace) (seen n l t)) (sym (no_default workers (settled (rules true) h).rows refl)) (says_threads (settled (rules true) h).rows n l t holds)
says_last false h n l t holds = subst (λ rows. Says false (with_default rows labels) (seen n l t)) (sym (no_default workers (settled (rules false) h).rows refl)) (says_replay (settled (rules false) h).rows n l t holds)

-- ---- one word

abbrev RestP : Bool → List Word → Type 0
RestP traced ws = (h : Held) (n : Option Word) (l t : Bool) → settle_fault (rules traced) false h ≡ [] → Holds (settled (rules traced) h).rows n l t
    → Agrees traced (outcome (shape traced) (resting h) ws) (run raw traced (seen n l t) ws)

abbrev waiting : Bool → Bool → Seen Word
waiting l t = record { waits = true; workers = None; labels = l; trace = t }

abbrev AskP : Bool → List Word → Type 0
AskP traced ws = (h : Held) (l t : Bool) → Holds h.rows None l t → Agrees traced (outcome (shape traced) (asking h) ws) (run raw traced (waiting l t) ws)

rest_end : (traced : Bool) → RestP traced []
rest_end traced h n l t s holds = by traced _ (Some (finished (rules traced) h)) _ (Some (seen n l t)) (ends traced h s) refl (says_last traced h n l t holds)

rest_labels : (traced : Bool) (ws : List Word) → RestP traced ws → RestP traced (labels_word ∷ ws)
rest_labels traced ws ih h n true t s holds = by traced _ None _ None
    (fails (shape traced) (resting h) labels_word ws (ap clear (turn_labels traced h) ∙ flag_turn (codes "labels") (settled (rules traced) h).rows true (flag_row (codes "labels")) _ s holds.labels)) refl tt
rest_labels traced ws ih h n false t s holds = by traced _ (outcome (shape traced) (resting (reacted (rules traced) labels [] h)) ws) _ (run raw traced (seen n true t) ws)
    (passes (shape traced) (resting h) (resting (reacted (rules traced) labels [] h)) labels_word ws (ap clear (turn_labels traced h) ∙ flag_turn (codes "labels") (settled (rules traced) h).rows false (flag_row (codes "labels")) _ s holds.labels)
    (walked_labels traced h)) refl (ih (reacted (rules traced) labels [] h) n true t refl (labels_hold (settled (rules traced) h).rows n t holds))

rest_trace : (traced : Bool) (ws : List Word) → RestP traced ws → RestP traced (trace_word ∷ ws)
rest_trace true ws ih h n l true s holds = by true _ None _ None
    (fails (shape true) (resting h) trace_word ws (ap clear (turn_trace h) ∙ flag_turn (codes "trace") (settled (rules true) h).rows true (flag_row (codes "trace")) _ s holds.trace)) refl tt
rest_trace true ws ih h n l false s holds = by true _ (outcome (shape true) (resting (reacted (rules true) trace [] h)) ws) _ (run raw true (seen n l true) ws)
    (passes (shape true) (resting h) (resting (reacted (rules true) trace [] h)) trace_word ws (ap clear (turn_trace h) ∙ flag_turn (codes "trace") (settled (rules true) h).rows false (flag_row (codes "trace")) _ s holds.trace)
    (walked_trace h)) refl (ih (reacted (rules true) trace [] h) n l true refl (trace_holds (settled (rules true) h).rows n l holds))
rest_trace false ws ih h n l true s holds = by false _ None _ None (fails (shape false) (resting h) trace_word ws (ap clear (turn_no_trace h))) refl tt
rest_trace false ws ih h n l false s holds = by false _ None _ None (fails (shape false) (resting h) trace_word ws (ap clear (turn_no_trace h))) refl tt

rest_plain : (traced : Bool) (x : ℕ) (xs : Word) (ws : List Word) → (x == 45) ≡ false → RestP traced ((x ∷ xs) ∷ ws)
rest_plain traced x xs ws e h n l t s holds = by traced _ None _ None (fails (shape traced) (resting h) (x ∷ xs) ws (ap clear (turn_plain traced h x xs e))) (simp e refl) tt

-- ---- N

-- the pending option fails where it is settled
doomed : (traced : Bool) (h : Held) (ws : List Word) → clear (settle_fault (rules traced) false h) ≡ false → AllTame ws → outcome (shape traced) (resting h) ws ≡ None
doomed traced h [] e tames = ends_badly traced (resting h) e
doomed traced h (w ∷ ws) e tames = fails (shape traced) (resting h) w ws (elim tames.0 [
  | inl i ↦ subst (λ v. clear (turn_fault (shape traced) [] (resting h) v) ≡ false) (sym i) (ap clear (turn_workers traced h) ∙ clear_first _ [] e)
  | inr a ↦ elim a [
    | inl i ↦ subst (λ v. clear (turn_fault (shape traced) [] (resting h) v) ≡ false) (sym i) (ap clear (turn_labels traced h) ∙ clear_first _ [] (clear_first _ _ e))
    | inr b ↦ elim b [
      | inl i ↦ subst (λ v. clear (turn_fault (shape traced) [] (resting h) v) ≡ false) (sym i) (doomed_trace traced e)
      | inr p ↦ doomed_plain w p
    ]
  ]
])
  where
    doomed_trace : (traced : Bool) → clear (settle_fault (rules traced) false h) ≡ false → clear (turn_fault (shape traced) [] (resting h) trace_word) ≡ false
    doomed_trace true e = ap clear (turn_trace h) ∙ clear_first _ [] (clear_first _ _ e)
    doomed_trace false e = ap clear (turn_no_trace h)

    doomed_plain : (w : Word) → IsPlain w → clear (turn_fault (shape traced) [] (resting h) w) ≡ false
    doomed_plain [] p = absurd p
    doomed_plain (x ∷ xs) p = ap clear (turn_plain traced h x xs p)

asked_option : (traced : Bool) (h : Held) → clear (turn_fault (shape traced) [] (asking h) trace_word) ≡ false
asked_option true h = ap clear (asked_trace h)
asked_option false h = ap clear (asked_no_trace h)

-- `--workers` stands again
again : (traced : Bool) (h : Held) (r : Row) (ws : List Word) → look (codes "workers") h.rows ≡ Some r → AllTame ws → outcome (shape traced) (asking h) ws ≡ None
again traced h r [] e tames = ends_badly traced (asking h) (ap clear (settle_asking traced h))
again traced h r (w ∷ ws) e tames = elim tames.0 [
  | inl i ↦ subst (λ v. outcome (shape traced) (asking h) (v ∷ ws) ≡ None) (sym i) (fails (shape traced) (asking h) workers_word ws (ap clear (asked_workers traced h)))
  | inr a ↦ elim a [
    | inl i ↦ subst (λ v. outcome (shape traced) (asking h) (v ∷ ws) ≡ None) (sym i) (fails (shape traced) (asking h) labels_word ws (ap clear (asked_labels traced h)))
    | inr b ↦ elim b [
      | inl i ↦ subst (λ v. outcome (shape traced) (asking h) (v ∷ ws) ≡ None) (sym i) (fails (shape traced) (asking h) trace_word ws (asked_option traced h))
      | inr p ↦ plain w p
    ]
  ]
]
  where
    plain : (w : Word) → IsPlain w → outcome (shape traced) (asking h) (w ∷ ws) ≡ None
    plain [] p = absurd p
    plain (x ∷ xs) p = passes (shape traced) (asking h) (resting (asked (x ∷ xs) h)) (x ∷ xs) ws (ap clear (turn_asked traced h x xs p)) (walked_asked traced h x xs p)
        ∙ doomed traced (asked (x ∷ xs) h) ws (ap clear (settle_asked traced (x ∷ xs) h ∙ ap (λ k. or_else k []) (repeat_is (codes "workers") h.rows ∙ ap (λ o. if is_some o then ArgumentConflict ∷ [] else []) e))) tames.1

rest_workers : (traced : Bool) (ws : List Word) → AllTame ws → AskP traced ws → RestP traced (workers_word ∷ ws)
rest_workers traced ws tames ask h n l t s holds = go n holds
  where
    next : outcome (shape traced) (resting h) (workers_word ∷ ws) ≡ outcome (shape traced) (asking (settled (rules traced) h)) ws
    next = passes (shape traced) (resting h) (asking (settled (rules traced) h)) workers_word ws (ap clear (turn_workers traced h ∙ ap (λ k. or_else k []) s)) (walked_workers traced h)

    go : (n : Option Word) → Holds (settled (rules traced) h).rows n l t → Agrees traced (outcome (shape traced) (resting h) (workers_word ∷ ws)) (run raw traced (seen n l t) (workers_word ∷ ws))
    go None holds = by traced _ (outcome (shape traced) (asking (settled (rules traced) h)) ws) _ (run raw traced (waiting l t) ws) next refl (ask (settled (rules traced) h) l t holds)
    go (Some word) holds = by traced _ None _ None (next ∙ again traced (settled (rules traced) h) (workers_row word) ws holds.workers tames) refl tt

ask_end : (traced : Bool) → AskP traced []
ask_end traced h l t holds = by traced _ None _ None (ends_badly traced (asking h) (ap clear (settle_asking traced h))) refl tt

ask_plain : (traced : Bool) (x : ℕ) (xs : Word) (ws : List Word) → (x == 45) ≡ false → RestP traced ws → AskP traced ((x ∷ xs) ∷ ws)
ask_plain traced x xs ws e ih h l t holds = by traced _ (outcome (shape traced) (resting (asked (x ∷ xs) h)) ws) _ (run raw traced (seen (Some (x ∷ xs)) l t) ws)
    (passes (shape traced) (asking h) (resting (asked (x ∷ xs) h)) (x ∷ xs) ws (ap clear (turn_asked traced h x xs e)) (walked_asked traced h x xs e)) (simp e refl)
    (ih (asked (x ∷ xs) h) (Some (x ∷ xs)) l t
    (settle_asked traced (x ∷ xs) h ∙ ap (λ k. or_else k []) (repeat_is (codes "workers") h.rows ∙ ap (λ o. if is_some o then ArgumentConflict ∷ [] else []) holds.workers))
    (subst (λ rows. Holds rows (Some (x ∷ xs)) l t) (sym (settled_asked traced (x ∷ xs) h)) (workers_hold h.rows (x ∷ xs) l t holds)))

rest_tame : (traced : Bool) (w : Word) (ws : List Word) → Tame w → AllTame ws → RestP traced ws → AskP traced ws → RestP traced (w ∷ ws)
rest_tame traced w ws tame tames rest ask = elim tame [
  | inl i ↦ subst (λ v. RestP traced (v ∷ ws)) (sym i) (rest_workers traced ws tames ask)
  | inr a ↦ elim a [
    | inl i ↦ subst (λ v. RestP traced (v ∷ ws)) (sym i) (rest_labels traced ws rest)
    | inr b ↦ elim b [
      | inl i ↦ subst (λ v. RestP traced (v ∷ ws)) (sym i) (rest_trace traced ws rest)
      | inr p ↦ plain w p
    ]
  ]
]
  where
    plain : (w : Word) → IsPlain w → RestP traced (w ∷ ws)
    plain [] p = absurd p
    plain (x ∷ xs) p = rest_plain traced x xs ws p

ask_tame : (traced : Bool) (w : Word) (ws : List Word) → Tame w → RestP traced ws → AskP traced (w ∷ ws)
ask_tame traced w ws tame rest = elim tame [
  | inl i ↦ subst (λ v. AskP traced (v ∷ ws)) (sym i) (λ h l t holds. by traced _ None _ None (fails (shape traced) (asking h) workers_word ws (ap clear (asked_workers traced h))) refl tt)
  | inr a ↦ elim a [
    | inl i ↦ subst (λ v. AskP traced (v ∷ ws)) (sym i) (λ h l t holds. by traced _ None _ None (fails (shape traced) (asking h) labels_word ws (ap clear (asked_labels traced h))) refl tt)
    | inr b ↦ elim b [
      | inl i ↦ subst (λ v. AskP traced (v ∷ ws)) (sym i) (λ h l t holds. by traced _ None _ None (fails (shape traced) (asking h) trace_word ws (asked_option traced h)) refl tt)
      | inr p ↦ plain w p
    ]
  ]
]
  where
    plain : (w : Word) → IsPlain w → AskP traced (w ∷ ws)
    plain [] p = absurd p
    plain (x ∷ xs) p = ask_plain traced x xs ws p rest

pub both : (traced : Bool) (ws : List Word) → AllTame ws → RestP traced ws × AskP traced ws
both traced [] tames = (rest_end traced, ask_end traced)
both traced (w ∷ ws) tames = let ih = both traced ws tames.1 in (rest_tame traced w ws tames.0 tames.1 ih.0 ih.1, ask_tame traced w ws tames.0 ih.0)
