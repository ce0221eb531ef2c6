-- The options read word by word, and the same said of all the words.
use Rattle.std.proofs.Common.{◌≡◌, ℕ, ◌+◌, suc, arith, Bool, true, false, not, ◌&&◌, ◌||◌, List, [], ◌∷◌, ◌++◌, refl, ap, sym, ◌∙◌, subst, inl, inr, Option, Some, None, codes}
use Rattle.std.specs.Prelude.{◌⊎◌, unwrap_or, if◌then◌else◌, option_map, option_and_then, is_some, take, drop}
use Rattle.std.specs.List.{list_any}
use Rattle.std.proofs.lemmas.Slice.Eq.{bytes_eq-Decides}
use Rattle.std.proofs.lemmas.Bool.{false≢true}
use Rattle.sg_command.specs.Words.{Word, Options, options_of, within, number_in, is, are_flags, flags_of, workers_from, workers_of, place_of_workers, replay_flags, threads_flags}

-- what was read so far: whether N stands next, and the options
pub record Seen (X : Type 0) : Type 0 where
  pub waits : Bool
  pub workers : Option X
  pub labels : Bool
  pub trace : Bool

abbrev pub workers_word : Word
workers_word = codes "--workers"

abbrev pub labels_word : Word
labels_word = codes "--labels"

abbrev pub trace_word : Word
trace_word = codes "--trace"

abbrev pub known : Bool → List Word
known traced = if traced then threads_flags else replay_flags

abbrev pub has : Word → List Word → Bool
has word = list_any (is word)

module _ {X : Type 0} (read : Word → Option X) (traced : Bool) where
  abbrev pub step : Seen X → Word → Option (Seen X)
  step s w = if s.waits then option_map (λ n. record s { waits = false; workers = Some n }) (read w)
      else (if is workers_word w && not (is_some s.workers) then Some (record s { waits = true })
      else (if is labels_word w && not s.labels then Some (record s { labels = true })
      else (if is trace_word w && not (s.trace || not traced) then Some (record s { trace = true })
      else None)))

  abbrev pub run : Seen X → List Word → Option (Seen X)
  run s [] = if s.waits then None else Some s
  run s (w ∷ ws) = option_and_then (λ next. run next ws) (step s w)

-- ---- which option a word is

pub record IsOther (w : Word) : Type 0 where
  pub workers : is workers_word w ≡ false
  pub labels : is labels_word w ≡ false
  pub trace : is trace_word w ≡ false

abbrev pub Which : Word → Type 0
Which w = (w ≡ workers_word) ⊎ ((w ≡ labels_word) ⊎ ((w ≡ trace_word) ⊎ IsOther w))

true_or_false : (b : Bool) → (b ≡ true) ⊎ (b ≡ false)
true_or_false true = inl refl
true_or_false false = inr refl

pub is_word : (w known : Word) → is known w ≡ true → w ≡ known
is_word w known e = (bytes_eq-Decides w known).0 e

pub which : (w : Word) → Which w
which w = elim (true_or_false (is workers_word w)) [
  | inl e ↦ inl (is_word w workers_word e)
  | inr a ↦ elim (true_or_false (is labels_word w)) [
    | inl e ↦ inr (inl (is_word w labels_word e))
    | inr b ↦ elim (true_or_false (is trace_word w)) [
      | inl e ↦ inr (inr (inl (is_word w trace_word e)))
      | inr c ↦ inr (inr (inr (record { workers = a; labels = b; trace = c })))
    ]
  ]
]

-- ---- the place of `--workers`

place_more : (w : Word) (ws : List Word) → is workers_word w ≡ false → place_of_workers (w ∷ ws) ≡ suc (place_of_workers ws)
place_more w ws e = next (is workers_word w) e
  where
    next : (b : Bool) → b ≡ false → (if not b then 1 + place_of_workers ws else 0) ≡ suc (place_of_workers ws)
    next true e = absurd (false≢true (sym e))
    next false e = omega arith

cut_more : (w : Word) (ws : List Word) (k : ℕ) → take (suc k) (w ∷ ws) ++ drop (suc k + 2) (w ∷ ws) ≡ w ∷ (take k ws ++ drop (k + 2) ws)
cut_more w ws k = let e : suc k + 2 ≡ suc (k + 2) = omega arith in ap (λ n. take (suc k) (w ∷ ws) ++ drop n (w ∷ ws)) e

-- ---- the flags

abbrev pub fits : Bool → Bool → Bool → List Word → Bool
fits traced l t ws = are_flags (known traced) ws && (not (l && has labels_word ws) && not (t && has trace_word ws))

module _ {X : Type 0} where
  abbrev pub seen : Option X → Bool → Bool → Seen X
  seen n l t = record { waits = false; workers = n; labels = l; trace = t }

  -- what comes of these flags after l and t, with workers m
  abbrev pub result : Bool → Option (Option X) → Bool → Bool → List Word → Option (Seen X)
  result traced m l t fs = if fits traced l t fs then option_map (λ n. seen n (l || has labels_word fs) (t || has trace_word fs)) m else None

  no_more : (m : Option (Option X)) (l t : Bool) → option_map (λ n. seen n l t) m ≡ (if true && (not (l && false) && not (t && false)) then option_map (λ n. seen n (l || false) (t || false)) m else None)
  no_more m true true = refl
  no_more m true false = refl
  no_more m false true = refl
  no_more m false false = refl

  -- one more `--labels`, before flags of which a says whether they are flags, and x and y whether they have `--labels` and `--trace`
  label_more : (m : Option (Option X)) (t a x y : Bool) → (if a && (not (true && x) && not (t && y)) then option_map (λ n. seen n (true || x) (t || y)) m else None)
      ≡ (if (true && (not x && a)) && (not (false && true) && not (t && y)) then option_map (λ n. seen n (false || true) (t || y)) m else None)
  label_more m t true true y = refl
  label_more m t true false y = refl
  label_more m t false true y = refl
  label_more m t false false y = refl

  label_again : (m : Option (Option X)) (t a x y : Bool) → None ≡ (if (true && (not x && a)) && (not (true && true) && not (t && y)) then option_map (λ n. seen n (true || true) (t || y)) m else None)
  label_again m t true true y = refl
  label_again m t true false y = refl
  label_again m t false true y = refl
  label_again m t false false y = refl

  trace_more : (m : Option (Option X)) (l a x y : Bool) → (if a && (not (l && x) && not (true && y)) then option_map (λ n. seen n (l || x) (true || y)) m else None)
      ≡ (if (true && (not y && a)) && (not (l && x) && not (false && true)) then option_map (λ n. seen n (l || x) (false || true)) m else None)
  trace_more m true true true true = refl
  trace_more m true true true false = refl
  trace_more m true true false true = refl
  trace_more m true true false false = refl
  trace_more m true false true true = refl
  trace_more m true false true false = refl
  trace_more m true false false true = refl
  trace_more m true false false false = refl
  trace_more m false true x true = refl
  trace_more m false true x false = refl
  trace_more m false false x true = refl
  trace_more m false false x false = refl

  trace_again : (m : Option (Option X)) (l a x y : Bool) → None ≡ (if (true && (not y && a)) && (not (l && x) && not (true && true)) then option_map (λ n. seen n (l || x) (true || true)) m else None)
  trace_again m true true true true = refl
  trace_again m true true true false = refl
  trace_again m true true false true = refl
  trace_again m true true false false = refl
  trace_again m true false true true = refl
  trace_again m true false true false = refl
  trace_again m true false false true = refl
  trace_again m true false false false = refl
  trace_again m false true x true = refl
  trace_again m false true x false = refl
  trace_again m false false x true = refl
  trace_again m false false x false = refl

  module _ (read : Word → Option X) where
    at_labels : (traced : Bool) (n : Option X) (m : Option (Option X)) (l t : Bool) (ws fs : List Word) → run read traced (seen n true t) ws ≡ result traced m true t fs
        → run read traced (seen n l t) (labels_word ∷ ws) ≡ result traced m l t (labels_word ∷ fs)
    at_labels true n m true t ws fs ih = label_again m t (are_flags threads_flags fs) (has labels_word fs) (has trace_word fs)
    at_labels true n m false t ws fs ih = ih ∙ label_more m t (are_flags threads_flags fs) (has labels_word fs) (has trace_word fs)
    at_labels false n m true t ws fs ih = label_again m t (are_flags replay_flags fs) (has labels_word fs) (has trace_word fs)
    at_labels false n m false t ws fs ih = ih ∙ label_more m t (are_flags replay_flags fs) (has labels_word fs) (has trace_word fs)

    at_trace : (traced : Bool) (n : Option X) (m : Option (Option X)) (l t : Bool) (ws fs : List Word) → run read traced (seen n l true) ws ≡ result traced m l true fs
        → run read traced (seen n l t) (trace_word ∷ ws) ≡ result traced m l t (trace_word ∷ fs)
    at_trace true n m l true ws fs ih = trace_again m l (are_flags threads_flags fs) (has labels_word fs) (has trace_word fs)
    at_trace true n m l false ws fs ih = ih ∙ trace_more m l (are_flags threads_flags fs) (has labels_word fs) (has trace_word fs)
    at_trace false n m l true ws fs ih = refl
    at_trace false n m l false ws fs ih = refl

    at_other : (traced : Bool) (n : Option X) (m : Option (Option X)) (l t : Bool) (w : Word) (ws fs : List Word) → IsOther w
        → run read traced (seen n l t) (w ∷ ws) ≡ result traced m l t (w ∷ fs)
    at_other true n m l t w ws fs o = simp (o.workers, o.labels, o.trace) refl
    at_other false n m l t w ws fs o = simp (o.workers, o.labels, o.trace) refl

    at_workers : (traced : Bool) (n : X) (m : Option (Option X)) (l t : Bool) (ws fs : List Word) → run read traced (seen (Some n) l t) (workers_word ∷ ws) ≡ result traced m l t (workers_word ∷ fs)
    at_workers true n m l t ws fs = refl
    at_workers false n m l t ws fs = refl

    run_flags : (traced : Bool) (n : X) (l t : Bool) (ws : List Word) → run read traced (seen (Some n) l t) ws ≡ result traced (Some (Some n)) l t ws
    run_flags traced n l t [] = no_more (Some (Some n)) l t
    run_flags traced n l t (w ∷ ws) = elim (which w) [
      | inl e ↦ subst (λ v. run read traced (seen (Some n) l t) (v ∷ ws) ≡ result traced (Some (Some n)) l t (v ∷ ws)) (sym e) (at_workers traced n (Some (Some n)) l t ws ws)
      | inr a ↦ elim a [
        | inl e ↦ subst (λ v. run read traced (seen (Some n) l t) (v ∷ ws) ≡ result traced (Some (Some n)) l t (v ∷ ws)) (sym e) (at_labels traced (Some n) (Some (Some n)) l t ws ws (run_flags traced n true t ws))
        | inr b ↦ elim b [
          | inl e ↦ subst (λ v. run read traced (seen (Some n) l t) (v ∷ ws) ≡ result traced (Some (Some n)) l t (v ∷ ws)) (sym e) (at_trace traced (Some n) (Some (Some n)) l t ws ws (run_flags traced n l true ws))
          | inr o ↦ at_other traced (Some n) (Some (Some n)) l t w ws ws o
        ]
      ]
    ]

    -- ---- all the words

    abbrev pub number : List Word → Option (Option X)
    number [] = Some None
    number (option ∷ []) = None
    number (option ∷ n ∷ rest) = option_map Some (read n)

    abbrev pub whole : Bool → Bool → Bool → List Word → Option (Seen X)
    whole traced l t ws = result traced (number (drop (place_of_workers ws) ws)) l t (flags_of ws)

    abbrev none_seen : Option (Seen X)
    none_seen = None

    nothing : (b : Bool) → none_seen ≡ (if b then None else None)
    nothing true = refl
    nothing false = refl

    after_number : (traced l t : Bool) (r : Option X) (ws : List Word) → option_and_then (λ next. run read traced next ws) (option_map (λ n. seen (Some n) l t) r) ≡ result traced (option_map Some r) l t ws
    after_number traced l t None ws = nothing (fits traced l t ws)
    after_number traced l t (Some n) ws = run_flags traced n l t ws

    after_workers : (traced l t : Bool) (ws : List Word) → run read traced (seen None l t) (workers_word ∷ ws) ≡ whole traced l t (workers_word ∷ ws)
    after_workers traced l t [] = nothing (fits traced l t [])
    after_workers traced l t (n ∷ ws) = after_number traced l t (read n) ws

    flags_more : (w : Word) (ws : List Word) → is workers_word w ≡ false → flags_of (w ∷ ws) ≡ w ∷ flags_of ws
    flags_more w ws e = ap (λ k. take k (w ∷ ws) ++ drop (k + 2) (w ∷ ws)) (place_more w ws e) ∙ cut_more w ws (place_of_workers ws)

    number_more : (w : Word) (ws : List Word) → is workers_word w ≡ false → number (drop (place_of_workers (w ∷ ws)) (w ∷ ws)) ≡ number (drop (place_of_workers ws) ws)
    number_more w ws e = ap (λ k. number (drop k (w ∷ ws))) (place_more w ws e)

    whole_more : (traced l t : Bool) (w : Word) (ws : List Word) → is workers_word w ≡ false → whole traced l t (w ∷ ws) ≡ result traced (number (drop (place_of_workers ws) ws)) l t (w ∷ flags_of ws)
    whole_more traced l t w ws e = rw (number_more w ws e, flags_more w ws e) refl

    pub run_words : (traced l t : Bool) (ws : List Word) → run read traced (seen None l t) ws ≡ whole traced l t ws
    run_words traced l t [] = no_more (Some None) l t
    run_words traced l t (w ∷ ws) = elim (which w) [
      | inl e ↦ subst (λ v. run read traced (seen None l t) (v ∷ ws) ≡ whole traced l t (v ∷ ws)) (sym e) (after_workers traced l t ws)
      | inr a ↦ elim a [
        | inl e ↦ subst (λ v. run read traced (seen None l t) (v ∷ ws) ≡ whole traced l t (v ∷ ws)) (sym e)
            (at_labels traced None (number (drop (place_of_workers ws) ws)) l t ws (flags_of ws) (run_words traced true t ws) ∙ sym (whole_more traced l t labels_word ws refl))
        | inr b ↦ elim b [
          | inl e ↦ subst (λ v. run read traced (seen None l t) (v ∷ ws) ≡ whole traced l t (v ∷ ws)) (sym e)
              (at_trace traced None (number (drop (place_of_workers ws) ws)) l t ws (flags_of ws) (run_words traced l true ws) ∙ sym (whole_more traced l t trace_word ws refl))
          | inr o ↦ at_other traced None (number (drop (place_of_workers ws) ws)) l t w ws (flags_of ws) o ∙ sym (whole_more traced l t w ws o.workers)
        ]
      ]
    ]

-- ---- what they say

-- N of `--workers N`
abbrev pub read_workers : Word → Option ℕ
read_workers word = within 1 64 (number_in word)

abbrev pub said : Seen ℕ → Options
said s = record { workers = unwrap_or s.workers 1; labels = s.labels; trace = s.trace }

said_flags : (a x y : Bool) (m : Option (Option ℕ)) (k : Option ℕ) → k ≡ option_map (λ n. unwrap_or n 1) m
    → option_map said (if a && (not (false && x) && not (false && y)) then option_map (λ n. seen n (false || x) (false || y)) m else None)
    ≡ (if a then option_map (λ n. record { workers = n; labels = x; trace = y }) k else None)
said_flags true x y None k e = rw e refl
said_flags true x y (Some n) k e = rw e refl
said_flags false x y m k e = refl

workers_read : (ws : List Word) → workers_from ws ≡ option_map (λ n. unwrap_or n 1) (number read_workers ws)
workers_read [] = refl
workers_read (option ∷ []) = refl
workers_read (option ∷ n ∷ rest) = each (read_workers n)
  where
    each : (r : Option ℕ) → r ≡ option_map (λ n. unwrap_or n 1) (option_map Some r)
    each None = refl
    each (Some n) = refl

pub run_options : (traced : Bool) (ws : List Word) → option_map said (run read_workers traced (seen None false false) ws) ≡ options_of (known traced) ws
run_options traced ws = ap (option_map said) (run_words read_workers traced false false ws)
    ∙ said_flags (are_flags (known traced) (flags_of ws)) (has labels_word (flags_of ws)) (has trace_word (flags_of ws))
    (number read_workers (drop (place_of_workers ws) ws)) (workers_of ws) (workers_read (drop (place_of_workers ws) ws))
