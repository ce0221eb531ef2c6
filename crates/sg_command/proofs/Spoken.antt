-- The words that the parser may see, and those of some form.
use Rattle.std.proofs.Common.{◌≡◌, ℕ, zero, suc, get_or, ◌≤◌, ◌<◌, Bool, true, false, not, ◌&&◌, ◌||◌, List, [], ◌∷◌, refl, ap, sym, ◌∙◌, subst, inl, inr, arith, length, Option, Some, None, codes}
use Rattle.std.specs.Prelude.{◌==◌, ◌⊎◌, if◌then◌else◌, is_some, option_map, option_and_then, nat_le, bytes_eq, drop}
use Rattle.std.specs.Global.{Vec}
use Rattle.std.specs.List.{list_all, list_any}
use Rattle.std.specs.Str.{IsAscii, IsUtf8, all_ascii_digits}
use Rattle.std.specs.Cmp.{unsigned_Decides}
use Rattle.std.proofs.lemmas.Str.{IsUtf8-from_ascii}
use Rattle.std.proofs.lemmas.Bool.{false≢true, leb-true}
use Rattle.std.proofs.lemmas.Str.Ascii.{IsAscii-cons, IsAscii-nil}
use Rattle.std.specs.Str.Parse.{digits_value}
use Rattle.std.proofs.lemmas.Slice.Eq.{bytes_eq-Decides}
use Rattle.clap.proofs.WalkLemmas as walks
use Rattle.sg_command.specs.declared.forms.Form.{Form}
use Rattle.sg_command.specs.Words.{Word, Options, texts, form_of, make_of, made_of, number_in, options_of, replay_of, threads_of, within}
use Rattle.sg_command.specs.Usage.{form_words, is_spoken, may_stand, option_words}
use Rattle.sg_command.proofs.Parse.{AllTame, Tame}
use Rattle.sg_command.proofs.Run as words
use Rattle.sg_command.proofs.Run.{IsOther, Seen, known, labels_word, read_workers, run, seen, step, trace_word, which, workers_word}

true_or_false : (b : Bool) → (b ≡ true) ⊎ (b ≡ false)
true_or_false true = inl refl
true_or_false false = inr refl

is_false : (b : Bool) → (b ≡ true → ⊥) → b ≡ false
is_false true h = absurd (h refl)
is_false false h = refl

-- the two halves of a test
both : (a b : Bool) → (a && b) ≡ true → (a ≡ true) × (b ≡ true)
both = walks.both

one_of_two : (a b : Bool) → (a || b) ≡ true → (a ≡ true) ⊎ (b ≡ true)
one_of_two true b e = inl refl
one_of_two false b e = inr e

-- ---- words that may stand

pub tame : (w : Word) → may_stand w ≡ true → Tame w
tame [] e = absurd (false≢true e)
tame (x ∷ xs) e = elim (true_or_false (x == 45)) [
  | inr plain ↦ inr (inr (inr plain))
  | inl hyphen ↦
      let last = (both _ _ (both _ _ e).1).1 in
      let option : list_any (bytes_eq (x ∷ xs)) option_words ≡ true = subst (λ b. (not b || list_any (bytes_eq (x ∷ xs)) option_words) ≡ true) hyphen last in
      elim (one_of_two (bytes_eq (x ∷ xs) workers_word) _ option) [
        | inl a ↦ inl ((bytes_eq-Decides (x ∷ xs) workers_word).0 a)
        | inr b ↦ elim (one_of_two (bytes_eq (x ∷ xs) labels_word) _ b) [
          | inl a ↦ inr (inl ((bytes_eq-Decides (x ∷ xs) labels_word).0 a))
          | inr d ↦ elim (one_of_two (bytes_eq (x ∷ xs) trace_word) _ d) [
            | inl a ↦ inr (inr (inl ((bytes_eq-Decides (x ∷ xs) trace_word).0 a)))
            | inr f ↦ absurd (false≢true f)
          ]
        ]
      ]
]

all_tame : (words : List Word) → list_all may_stand words ≡ true → AllTame words
all_tame [] e = tt
all_tame (w ∷ ws) e = (tame w (both _ _ e).0, all_tame ws (both _ _ e).1)

pub rest_tame : (words : List Word) → list_all may_stand words ≡ true → AllTame (drop 1 words)
rest_tame [] e = tt
rest_tame (w ∷ ws) e = all_tame ws (both _ _ e).1

-- ---- words of some form

pub record Digit (c : ℕ) : Type 0 where
  pub no_equals : (c == 61) ≡ false
  pub no_hyphen : (c == 45) ≡ false
  pub no_letter : (c == 104) ≡ false
  pub ascii : c < 128

differs : (c k : ℕ) → (c ≡ k → ⊥) → (c == k) ≡ false
differs c k h = is_false (c == k) (λ t. h ((unsigned_Decides c k).0 t))

digit : (c : ℕ) → (nat_le 48 c && nat_le c 57) ≡ true → Digit c
digit c e =
    let low : 48 ≤ c = leb-true 48 c (both (nat_le 48 c) (nat_le c 57) e).0 in
    let high : c ≤ 57 = leb-true c 57 (both (nat_le 48 c) (nat_le c 57) e).1 in
    record {
      no_equals = differs c 61 (λ q. omega arith);
      no_hyphen = differs c 45 (λ q. omega arith);
      no_letter = differs c 104 (λ q. omega arith);
      ascii = omega arith;
    }

or_false : (a b : Bool) → a ≡ false → b ≡ false → (a || b) ≡ false
or_false a b e f = rw (e, f) refl

no_equals : (w : Word) → all_ascii_digits w ≡ true → list_any (λ b. b == 61) w ≡ false
no_equals [] e = refl
no_equals (c ∷ cs) e = or_false (c == 61) (list_any (λ b. b == 61) cs) (digit c (both _ _ e).0).no_equals (no_equals cs (both _ _ e).1)

and_true : (a b : Bool) → a ≡ true → b ≡ true → (a && b) ≡ true
and_true a b e f = rw (e, f) refl

digits_stand : (w : Word) → nat_le 1 (length w) ≡ true → all_ascii_digits w ≡ true → may_stand w ≡ true
digits_stand [] long e = absurd (false≢true long)
digits_stand (c ∷ cs) long e =
    let d = digit c (both _ _ e).0 in
    let help : not (bytes_eq (c ∷ cs) (codes "help")) ≡ true = rw d.no_letter refl in
    let dash : (not (c == 45) || list_any (bytes_eq (c ∷ cs)) option_words) ≡ true = rw d.no_hyphen refl in
    and_true _ _ (ap not (no_equals (c ∷ cs) e)) (and_true _ _ help dash)

digits_ascii : (w : Word) → all_ascii_digits w ≡ true → IsAscii w
digits_ascii [] e = IsAscii-nil
digits_ascii (c ∷ cs) e = IsAscii-cons c cs (digit c (both _ _ e).0).ascii (digits_ascii cs (both _ _ e).1)

number_digits : (w : Word) → is_some (number_in w) ≡ true → (nat_le 1 (length w) ≡ true) × (all_ascii_digits w ≡ true)
number_digits w e = halves (nat_le 1 (length w)) (nat_le (length w) 20) (all_ascii_digits w) (digits_value 10 w) e
  where
    halves : (a b c : Bool) (n : ℕ) → is_some (if a && (b && c) then Some n else None) ≡ true → (a ≡ true) × (c ≡ true)
    halves true true true n e = (refl, refl)
    halves true true false n e = absurd (false≢true e)
    halves true false c n e = absurd (false≢true e)
    halves false b c n e = absurd (false≢true e)

abbrev Stands : Word → Type 0
Stands w = (may_stand w ≡ true) × IsUtf8 w

ascii_all : (w : Word) → list_all (λ b. nat_le b 127) w ≡ true → IsAscii w
ascii_all [] e = IsAscii-nil
ascii_all (c ∷ cs) e = let low : c ≤ 127 = leb-true c 127 (both (nat_le c 127) (list_all (λ b. nat_le b 127) cs) e).0 in IsAscii-cons c cs (omega arith) (ascii_all cs (both (nat_le c 127) (list_all (λ b. nat_le b 127) cs) e).1)

named : (w name : Word) → bytes_eq w name ≡ true → may_stand name ≡ true → list_all (λ b. nat_le b 127) name ≡ true → Stands w
named w name e stands ascii = subst Stands (sym ((bytes_eq-Decides w name).0 e)) (stands, IsUtf8-from_ascii name (ascii_all name ascii))

spoken : (w : Word) → is_spoken w ≡ true → Stands w
spoken w e = elim (one_of_two (list_any (bytes_eq w) form_words) _ e) [
  | inr n ↦ let d = number_digits w n in (digits_stand w d.0 d.1, IsUtf8-from_ascii w (digits_ascii w d.1))
  | inl a ↦ name a
]
  where
    name : list_any (bytes_eq w) form_words ≡ true → Stands w
    name a = elim (one_of_two (bytes_eq w (codes "replay")) _ a) [
      | inl h ↦ named w (codes "replay") h refl refl
      | inr b ↦ elim (one_of_two (bytes_eq w (codes "threads")) _ b) [
        | inl h ↦ named w (codes "threads") h refl refl
        | inr c ↦ elim (one_of_two (bytes_eq w (codes "make")) _ c) [
          | inl h ↦ named w (codes "make") h refl refl
          | inr d ↦ elim (one_of_two (bytes_eq w workers_word) _ d) [
            | inl h ↦ named w workers_word h refl refl
            | inr f ↦ elim (one_of_two (bytes_eq w labels_word) _ f) [
              | inl h ↦ named w labels_word h refl refl
              | inr g ↦ elim (one_of_two (bytes_eq w trace_word) _ g) [
                | inl h ↦ named w trace_word h refl refl
                | inr z ↦ absurd (false≢true z)
              ]
            ]
          ]
        ]
      ]
    ]

pub unsaid : (w : Word) → may_stand w ≡ false → is_spoken w ≡ false
unsaid w e = is_false (is_spoken w) (λ t. false≢true (sym e ∙ (spoken w t).0))

pub no_text : (w : Word) → (IsUtf8 w → ⊥) → is_spoken w ≡ false
no_text w h = is_false (is_spoken w) (λ t. h (spoken w t).1)

-- ---- a list with another word has no form

spoken_name : (w name : Word) → w ≡ name → is_spoken name ≡ true → is_spoken w ≡ true
spoken_name w name e s = ap is_spoken e ∙ s

or_true : (a b : Bool) → b ≡ true → (a || b) ≡ true
or_true true b e = refl
or_true false b e = e

spoken_number : (w : Word) (least most n : ℕ) → within least most (number_in w) ≡ Some n → is_spoken w ≡ true
spoken_number w least most n e = or_true (list_any (bytes_eq w) form_words) (is_some (number_in w)) (go (number_in w) e)
  where
    go : (o : Option ℕ) → within least most o ≡ Some n → is_some o ≡ true
    go None e = absurd (let z : Some n ≡ None = sym e in cc)
    go (Some m) e = refl

-- each word that was read is of some form
step_spoken : (traced : Bool) (s next : Seen ℕ) (w : Word) → step read_workers traced s w ≡ Some next → is_spoken w ≡ true
step_spoken traced s next w e = go s.waits refl
  where
    go : (b : Bool) → s.waits ≡ b → is_spoken w ≡ true
    go true h = number (read_workers w) refl
      where
        number : (o : Option ℕ) → read_workers w ≡ o → is_spoken w ≡ true
        number None r = absurd (let z : step read_workers traced s w ≡ None = rw (h, r) refl in let y : Some next ≡ None = sym e ∙ z in cc)
        number (Some n) r = spoken_number w 1 64 n r
    go false h = elim (which w) [
      | inl i ↦ spoken_name w workers_word i refl
      | inr a ↦ elim a [
        | inl i ↦ spoken_name w labels_word i refl
        | inr b ↦ elim b [
          | inl i ↦ spoken_name w trace_word i refl
          | inr o ↦ absurd (let z : step read_workers traced s w ≡ None = rw (h, o.workers, o.labels, o.trace) refl in let y : Some next ≡ None = sym e ∙ z in cc)
        ]
      ]
    ]

run_spoken : (traced : Bool) (s last : Seen ℕ) (ws : List Word) → run read_workers traced s ws ≡ Some last → list_all is_spoken ws ≡ true
run_spoken traced s last [] e = refl
run_spoken traced s last (w ∷ ws) e = go (step read_workers traced s w) refl (λ next r. run_spoken traced next last ws r)
  where
    go : (o : Option (Seen ℕ)) → step read_workers traced s w ≡ o → ((next : Seen ℕ) → run read_workers traced next ws ≡ Some last → list_all is_spoken ws ≡ true) → (is_spoken w && list_all is_spoken ws) ≡ true
    go None h rest = absurd (let z : run read_workers traced s (w ∷ ws) ≡ None = ap (option_and_then (λ next. run read_workers traced next ws)) h in let y : Some last ≡ None = sym e ∙ z in cc)
    go (Some next) h rest = and_true _ _ (step_spoken traced s next w h) (rest next (sym (ap (option_and_then (λ next. run read_workers traced next ws)) h) ∙ e))

options_spoken : (traced : Bool) (ws : List Word) (o : Options) → options_of (known traced) ws ≡ Some o → list_all is_spoken ws ≡ true
options_spoken traced ws o e = go (run read_workers traced (seen None false false) ws) refl (words.run_options traced ws ∙ e)
  where
    go : (r : Option (Seen ℕ)) → run read_workers traced (seen None false false) ws ≡ r → option_map words.said (run read_workers traced (seen None false false) ws) ≡ Some o → list_all is_spoken ws ≡ true
    go None h f = absurd (let z : option_map words.said (run read_workers traced (seen None false false) ws) ≡ None = ap (option_map words.said) h in let y : Some o ≡ None = sym f ∙ z in cc)
    go (Some last) h f = run_spoken traced (seen None false false) last ws h

make_spoken : (ws : List Word) (f : Form) → make_of ws ≡ Some f → list_all is_spoken ws ≡ true
make_spoken [] f e = refl
make_spoken (a ∷ []) f e = absurd (let z : None ≡ Some f = e in cc)
make_spoken (a ∷ b ∷ []) f e = absurd (let z : None ≡ Some f = e in cc)
make_spoken (a ∷ b ∷ c ∷ []) f e = go (within 0 18446744073709551615 (number_in a)) (within 1 5000 (number_in b)) (within 1 64 (number_in c)) refl refl refl e
  where
    go : (x y z : Option ℕ) → within 0 18446744073709551615 (number_in a) ≡ x → within 1 5000 (number_in b) ≡ y → within 1 64 (number_in c) ≡ z → made_of x y z ≡ Some f
        → list_all is_spoken (a ∷ b ∷ c ∷ []) ≡ true
    go None y z i j k e = absurd (let q : None ≡ Some f = e in cc)
    go (Some x) None z i j k e = absurd (let q : None ≡ Some f = e in cc)
    go (Some x) (Some y) None i j k e = absurd (let q : None ≡ Some f = e in cc)
    go (Some x) (Some y) (Some z) i j k e = and_true _ _ (spoken_number a 0 18446744073709551615 x i) (and_true _ _ (spoken_number b 1 5000 y j) (and_true _ _ (spoken_number c 1 64 z k) refl))
make_spoken (a ∷ b ∷ c ∷ d ∷ ws) f e = absurd (let z : None ≡ Some f = e in cc)

mapped : {X Y : Type 0} (g : X → Y) (o : Option X) (y : Y) → option_map g o ≡ Some y → is_some o ≡ true
mapped g None y e = absurd (let z : None ≡ Some y = e in cc)
mapped g (Some x) y e = refl

options_there : (traced : Bool) (ws : List Word) → is_some (options_of (known traced) ws) ≡ true → list_all is_spoken ws ≡ true
options_there traced ws e = go (options_of (known traced) ws) refl e
  where
    go : (o : Option Options) → options_of (known traced) ws ≡ o → is_some o ≡ true → list_all is_spoken ws ≡ true
    go None h e = absurd (false≢true e)
    go (Some o) h e = options_spoken traced ws o h

is_command : (w : Word) (name : Word) → bytes_eq w name ≡ true → is_spoken name ≡ true → is_spoken w ≡ true
is_command w name e s = spoken_name w name ((bytes_eq-Decides w name).0 e) s

form_spoken : (words : List Word) (f : Form) → form_of words ≡ Some f → list_all is_spoken words ≡ true
unfolding form_of
form_spoken [] f e = refl
form_spoken (w ∷ ws) f e = go (bytes_eq w (codes "replay")) (bytes_eq w (codes "threads")) (bytes_eq w (codes "make")) refl refl refl e
  where
    go : (a b c : Bool) → bytes_eq w (codes "replay") ≡ a → bytes_eq w (codes "threads") ≡ b → bytes_eq w (codes "make") ≡ c
        → (if a then replay_of ws else (if b then threads_of ws else (if c then make_of ws else None))) ≡ Some f → (is_spoken w && list_all is_spoken ws) ≡ true
    go true b c i j k e = and_true _ _ (is_command w (codes "replay") i refl) (options_there false ws (mapped _ (options_of (known false) ws) f e))
    go false true c i j k e = and_true _ _ (is_command w (codes "threads") j refl) (options_there true ws (mapped _ (options_of (known true) ws) f e))
    go false false true i j k e = and_true _ _ (is_command w (codes "make") k refl) (make_spoken ws f e)
    go false false false i j k e = absurd (let z : None ≡ Some f = e in cc)

pub no_form : (words : List Word) → list_all is_spoken words ≡ false → None ≡ form_of words
no_form words e = go (form_of words) refl
  where
    go : (o : Option Form) → form_of words ≡ o → None ≡ form_of words
    go None h = sym h
    go (Some f) h = absurd (false≢true (sym e ∙ form_spoken words f h))

-- a word of a list that is of no form
pub other_at : (words : List (Vec ℕ)) (i : ℕ) (item : Vec ℕ) → i < length words → item ≡ get_or words i item → is_spoken item.items ≡ false → list_all is_spoken (texts words) ≡ false
other_at [] i item h e s = absurd (omega arith)
other_at (w ∷ ws) zero item h e s = ap (λ b. b && list_all is_spoken (texts ws)) (ap (λ v. is_spoken v.items) (sym e) ∙ s)
other_at (w ∷ ws) (suc i) item h e s = and_false (is_spoken w.items) (list_all is_spoken (texts ws)) (other_at ws i item (omega arith) e s)
  where
    and_false : (a b : Bool) → b ≡ false → (a && b) ≡ false
    and_false true b e = e
    and_false false b e = refl
