-- The pieces of a report's text: where one ends, and what it tells.
use Rattle.std.proofs.Common.{◌≡◌, ℕ, suc, ◌+◌, ◌*◌, ◌^◌, ◌<◌, true, false, ◌==◌, List, [], ◌∷◌, ◌++◌, length, get_or, codes, refl, arith, sym, ap, ◌∙◌}
use Rattle.std.specs.Prelude.{All}
use Rattle.std.proofs.lemmas.List.{append_assoc, append_cancel_left}
use Rattle.std.proofs.lemmas.List.Folds.{list_all-append}
use Rattle.std.proofs.lemmas.Bool.Decides.{nat_tests}
use Rattle.std.specs.Char.{is_ascii_digit}
use Rattle.std.specs.Fmt.{decimal}
use Rattle.std.specs.List.{flat_map, list_all}
use Rattle.sg_shape.specs.declared.shapes.Shape.{Shape}
use Rattle.sg_plain.specs.declared.statements.Answer.{Answer}
use Rattle.sg_plain.specs.declared.statements.Answer.TheVariants.{Inserted, Duplicate, Done, Missing, Absent, Found, Keys, Deleted, Plan}
use Rattle.sg_wkt.specs.Canonical.{canonical}
use Rattle.sg_wkt.specs.Laws.{TellsApart, IsPrintable, is_printable}
use Rattle.sg_texts.specs.Texts.{spaced, keys_text, answer_text, answer_line, owner_text, row_line}
use Rattle.sg_texts.specs.Laws.{AreKeys, IsAnswer, IsPlanned, IsRow}
use Rattle.sg_texts.proofs.Splits.{Stops, both, split, list_all-wider, all_digits, split_number}

-- ---- facts of each element
pub first_of_all : {A : Type 0} (P : A → Type 0) (x : A) (xs : List A) → All P (x ∷ xs) → P x
first_of_all P x xs all = let some : 0 < length (x ∷ xs) = omega arith in all 0 x some

pub rest_of_all : {A : Type 0} (P : A → Type 0) (x : A) (xs : List A) → All P (x ∷ xs) → All P xs
rest_of_all P x xs all k d within = let later : suc k < length (x ∷ xs) = omega arith in all (suc k) d later

-- ---- regrouping
pub by_two : (a b xs : List ℕ) → (a ++ b) ++ xs ≡ a ++ (b ++ xs)
by_two a b xs = simp append_assoc

pub by_three : (a b c xs : List ℕ) → ((a ++ b) ++ c) ++ xs ≡ a ++ (b ++ (c ++ xs))
by_three a b c xs = simp append_assoc

pub by_four : (a b c d xs : List ℕ) → (((a ++ b) ++ c) ++ d) ++ xs ≡ a ++ (b ++ (c ++ (d ++ xs)))
by_four a b c d xs = simp append_assoc

pub by_five : (a b c d e xs : List ℕ) → ((((a ++ b) ++ c) ++ d) ++ e) ++ xs ≡ a ++ (b ++ (c ++ (d ++ (e ++ xs))))
by_five a b c d e xs = simp append_assoc

-- ---- whose a transaction was
pub record SameOwner (s t : ℕ) (u v : ℕ) (xs ys : List ℕ) : Type 0 where
  pub session : s ≡ u
  pub transaction : t ≡ v
  pub rest : xs ≡ ys

pub owner_tells : (s t u v : ℕ) (xs ys : List ℕ) → s < 2 ^ 64 → t < 2 ^ 64 → u < 2 ^ 64 → v < 2 ^ 64 →
    Stops is_ascii_digit xs → Stops is_ascii_digit ys → owner_text s t ++ xs ≡ owner_text u v ++ ys → SameOwner s t u v xs ys
owner_tells s t u v xs ys hs ht hu hv sx sy e =
    let session = codes " session " in
    let transaction = codes " transaction " in
    let line = sym (by_four session (decimal s) transaction (decimal t) xs) ∙ e ∙ by_four session (decimal u) transaction (decimal v) ys in
    let one = split_number s u (transaction ++ (decimal t ++ xs)) (transaction ++ (decimal v ++ ys)) hs hu refl refl
    (append_cancel_left session (decimal s ++ (transaction ++ (decimal t ++ xs))) (decimal u ++ (transaction ++ (decimal v ++ ys))) line) in
    let two = split_number t v xs ys ht hv sx sy (append_cancel_left transaction (decimal t ++ xs) (decimal v ++ ys) one.1) in
    record { session = one.0; transaction = two.0; rest = two.1 }

-- ---- numbers, each after a byte that is no digit
-- the first byte
abbrev pub first : List ℕ → ℕ
first text = get_or text 0 0

pub unequal : (m n : ℕ) → (m == n) ≡ false → m ≡ n → ⊥
unequal m n h e = grind (arith, nat_tests)

pub short : (k : ℕ) → k < 2 ^ 32 → k < 2 ^ 64
short k h = omega arith

module _ (separator : ℕ) (no_digit : is_ascii_digit separator ≡ false) where
  abbrev pub behind : ℕ → List ℕ
  behind n = separator ∷ decimal n

  after : (ks xs : List ℕ) → Stops is_ascii_digit xs → Stops is_ascii_digit (flat_map behind ks ++ xs)
  after [] xs stops = stops
  after (k ∷ ks) xs stops = no_digit

  one_more : (k : ℕ) (ks xs : List ℕ) → flat_map behind (k ∷ ks) ++ xs ≡ separator ∷ (decimal k ++ (flat_map behind ks ++ xs))
  one_more k ks xs = ap (λ text. separator ∷ text) (by_two (decimal k) (flat_map behind ks) xs)

  -- to a text that begins with neither a digit nor the byte
  pub numbers_tell : (ks ls : List ℕ) (xs ys : List ℕ) → AreKeys ks → AreKeys ls → Stops is_ascii_digit xs → Stops is_ascii_digit ys →
      (first xs ≡ separator → ⊥) → (first ys ≡ separator → ⊥) → flat_map behind ks ++ xs ≡ flat_map behind ls ++ ys → (ks ≡ ls) × (xs ≡ ys)
  numbers_tell [] [] xs ys hk hl sx sy nx ny e = (refl, e)
  numbers_tell [] (l ∷ ls) xs ys hk hl sx sy nx ny e = absurd (nx (ap first e))
  numbers_tell (k ∷ ks) [] xs ys hk hl sx sy nx ny e = absurd (ny (sym (ap first e)))
  numbers_tell (k ∷ ks) (l ∷ ls) xs ys hk hl sx sy nx ny e =
      let line = sym (one_more k ks xs) ∙ e ∙ one_more l ls ys in
      let one = split_number k l (flat_map behind ks ++ xs) (flat_map behind ls ++ ys)
      (short k (first_of_all (λ (n : ℕ). n < 2 ^ 32) k ks hk)) (short l (first_of_all (λ (n : ℕ). n < 2 ^ 32) l ls hl))
      (after ks xs sx) (after ls ys sy) (append_cancel_left (separator ∷ []) (decimal k ++ (flat_map behind ks ++ xs)) (decimal l ++ (flat_map behind ls ++ ys)) line) in
      let rest = numbers_tell ks ls xs ys (rest_of_all (λ (n : ℕ). n < 2 ^ 32) k ks hk) (rest_of_all (λ (n : ℕ). n < 2 ^ 32) l ls hl) sx sy nx ny one.1 in
      let head : k ≡ l = one.0 in
      let tail : ks ≡ ls = rest.0 in
      (cc, rest.1)

-- keys, to the end of the line
pub keys_tell : (ks ls : List ℕ) (xs ys : List ℕ) → AreKeys ks → AreKeys ls → keys_text ks ++ 10 ∷ xs ≡ keys_text ls ++ 10 ∷ ys → (ks ≡ ls) × (xs ≡ ys)
keys_tell ks ls xs ys hk hl e =
    let both = numbers_tell 32 refl ks ls (10 ∷ xs) (10 ∷ ys) hk hl refl refl (unequal 10 32 refl) (unequal 10 32 refl) e in
    (both.0, append_cancel_left (10 ∷ []) xs ys both.1)

-- ---- answers, each on a line
digit_printable : (b : ℕ) → is_ascii_digit b ≡ true → is_printable b ≡ true
digit_printable b h = grind (arith, nat_tests)

joined : (xs ys : List ℕ) → list_all is_printable xs ≡ true → list_all is_printable ys ≡ true → list_all is_printable (xs ++ ys) ≡ true
joined xs ys h k = list_all-append is_printable xs ys ∙ both (list_all is_printable xs) (list_all is_printable ys) h k

spaced_printable : (n : ℕ) → list_all is_printable (spaced n) ≡ true
spaced_printable n = list_all-wider is_ascii_digit is_printable digit_printable (decimal n) (all_digits n)

keys_printable : (ks : List ℕ) → list_all is_printable (keys_text ks) ≡ true
keys_printable [] = refl
keys_printable (k ∷ ks) =
    joined (spaced k) (keys_text ks) (spaced_printable k) (keys_printable ks)

-- ---- the counts of a plan, and its keys
counts_grouped : (c s r : ℕ) (xs : List ℕ) →
    codes "plan" ++ spaced c ++ spaced s ++ spaced r ++ codes " keys" ++ xs ≡ codes "plan" ++ (spaced c ++ (spaced s ++ (spaced r ++ (codes " keys" ++ xs))))
counts_grouped c s r xs = by_five (codes "plan") (spaced c) (spaced s) (spaced r) (codes " keys") xs

plan_printable : (c s r : ℕ) (ks : List ℕ) → list_all is_printable (answer_text (Plan c s r ks)) ≡ true
plan_printable c s r ks =
    ap (list_all is_printable) (counts_grouped c s r (keys_text ks))
    ∙ joined (spaced c) (spaced s ++ (spaced r ++ (codes " keys" ++ keys_text ks))) (spaced_printable c)
    (joined (spaced s) (spaced r ++ (codes " keys" ++ keys_text ks)) (spaced_printable s)
    (joined (spaced r) (codes " keys" ++ keys_text ks) (spaced_printable r) (keys_printable ks)))

-- a count, and what follows it after a space
count_tells : (m n : ℕ) (xs ys : List ℕ) → m < 2 ^ 64 → n < 2 ^ 64 → spaced m ++ (32 ∷ xs) ≡ spaced n ++ (32 ∷ ys) → (m ≡ n) × (32 ∷ xs ≡ 32 ∷ ys)
count_tells m n xs ys hm hn e =
    split_number m n (32 ∷ xs) (32 ∷ ys) hm hn refl refl (append_cancel_left (codes " ") (decimal m ++ (32 ∷ xs)) (decimal n ++ (32 ∷ ys)) e)

-- two texts of keys without the end of the line
whole_keys : (ks ls : List ℕ) → AreKeys ks → AreKeys ls → keys_text ks ≡ keys_text ls → ks ≡ ls
whole_keys ks ls hk hl e = (keys_tell ks ls [] [] hk hl (ap (λ text. text ++ 10 ∷ []) e)).0

plan_tells : (c s r : ℕ) (ks : List ℕ) (d t u : ℕ) (ls : List ℕ) → IsPlanned c s r ks → IsPlanned d t u ls →
    answer_text (Plan c s r ks) ≡ answer_text (Plan d t u ls) → Plan c s r ks ≡ Plan d t u ls
plan_tells c s r ks d t u ls h g e =
    let text = sym (counts_grouped c s r (keys_text ks)) ∙ e ∙ counts_grouped d t u (keys_text ls) in
    let one = count_tells c d (decimal s ++ (spaced r ++ (codes " keys" ++ keys_text ks))) (decimal t ++ (spaced u ++ (codes " keys" ++ keys_text ls))) h.first g.first
    (append_cancel_left (codes "plan") (spaced c ++ (spaced s ++ (spaced r ++ (codes " keys" ++ keys_text ks)))) (spaced d ++ (spaced t ++ (spaced u ++ (codes " keys" ++ keys_text ls)))) text) in
    let two = count_tells s t (decimal r ++ (codes " keys" ++ keys_text ks)) (decimal u ++ (codes " keys" ++ keys_text ls)) h.second g.second one.1 in
    let three = count_tells r u (codes "keys" ++ keys_text ks) (codes "keys" ++ keys_text ls) h.third g.third two.1 in
    let keys = whole_keys ks ls h.keys g.keys (append_cancel_left (codes " keys") (keys_text ks) (keys_text ls) three.1) in
    let first : c ≡ d = one.0 in
    let second : s ≡ t = two.0 in
    let third : r ≡ u = three.0 in
    cc

module _ (apart : TellsApart) (printable : IsPrintable) where
  answer_printable : (a : Answer) → IsAnswer a → list_all is_printable (answer_text a) ≡ true
  answer_printable Inserted h = refl
  answer_printable Duplicate h = refl
  answer_printable Done h = refl
  answer_printable Missing h = refl
  answer_printable Absent h = refl
  answer_printable (Found s) h = printable s h
  answer_printable (Keys ks) h = keys_printable ks
  answer_printable (Deleted ks) h = keys_printable ks
  answer_printable (Plan c s r ks) h = plan_printable c s r ks

  -- the first byte and the third tell the kind of an answer
  kind : List ℕ → ℕ
  kind text = get_or text 0 0 * 256 + get_or text 2 0

  pub answer_tells : (a b : Answer) → IsAnswer a → IsAnswer b → answer_text a ≡ answer_text b → a ≡ b
  unfolding kind
  answer_tells Inserted Inserted ha hb e = refl
  answer_tells Duplicate Duplicate ha hb e = refl
  answer_tells Done Done ha hb e = refl
  answer_tells Missing Missing ha hb e = refl
  answer_tells Absent Absent ha hb e = refl
  answer_tells (Found s) (Found t) ha hb e = ap Found (apart s t ha hb (append_cancel_left (codes "shape ") (canonical s) (canonical t) e))
  answer_tells (Keys ks) (Keys ls) ha hb e = ap Keys (whole_keys ks ls ha hb (append_cancel_left (codes "keys") (keys_text ks) (keys_text ls) e))
  answer_tells (Deleted ks) (Deleted ls) ha hb e = ap Deleted (whole_keys ks ls ha hb (append_cancel_left (codes "deleted") (keys_text ks) (keys_text ls) e))
  answer_tells (Plan c s r ks) (Plan d t u ls) ha hb e = plan_tells c s r ks d t u ls ha hb e
  answer_tells a b ha hb e = let clash : kind (answer_text a) ≡ kind (answer_text b) = ap kind e in absurd (omega arith)

  -- to the end of the line
  pub answer_end_tells : (a b : Answer) (xs ys : List ℕ) → IsAnswer a → IsAnswer b → answer_text a ++ 10 ∷ xs ≡ answer_text b ++ 10 ∷ ys → (a ≡ b) × (xs ≡ ys)
  answer_end_tells a b xs ys ha hb e =
      let parts = split is_printable (answer_text a) (answer_text b) (10 ∷ xs) (10 ∷ ys) (answer_printable a ha) (answer_printable b hb) refl refl e in
      (answer_tells a b ha hb parts.0, append_cancel_left (10 ∷ []) xs ys parts.1)

  pub answer_line_tells : (a b : Answer) (xs ys : List ℕ) → IsAnswer a → IsAnswer b → answer_line a ++ xs ≡ answer_line b ++ ys → (a ≡ b) × (xs ≡ ys)
  answer_line_tells a b xs ys ha hb e =
      answer_end_tells a b xs ys ha hb
      (sym (by_two (answer_text a) (10 ∷ []) xs) ∙ append_cancel_left (codes "  ") ((answer_text a ++ 10 ∷ []) ++ xs) ((answer_text b ++ 10 ∷ []) ++ ys) e ∙ by_two (answer_text b) (10 ∷ []) ys)

  -- ---- rows
  row_grouped : (row : ℕ × Shape) (xs : List ℕ) → row_line row ++ xs ≡ codes "  " ++ (decimal row.0 ++ (codes " " ++ (canonical row.1 ++ 10 ∷ xs)))
  row_grouped row xs = by_five (codes "  ") (decimal row.0) (codes " ") (canonical row.1) (10 ∷ []) xs

  abbrev pair : ℕ → Shape → ℕ × Shape
  pair key shape = (key, shape)

  pub row_tells : (row other : ℕ × Shape) (xs ys : List ℕ) → IsRow row → IsRow other → row_line row ++ xs ≡ row_line other ++ ys → (row ≡ other) × (xs ≡ ys)
  row_tells row other xs ys hr ho e =
      let line = sym (row_grouped row xs) ∙ e ∙ row_grouped other ys in
      let one = split_number row.0 other.0 (codes " " ++ (canonical row.1 ++ 10 ∷ xs)) (codes " " ++ (canonical other.1 ++ 10 ∷ ys)) (short row.0 hr.key) (short other.0 ho.key) refl refl
      (append_cancel_left (codes "  ") (decimal row.0 ++ (codes " " ++ (canonical row.1 ++ 10 ∷ xs))) (decimal other.0 ++ (codes " " ++ (canonical other.1 ++ 10 ∷ ys))) line) in
      let two = split is_printable (canonical row.1) (canonical other.1) (10 ∷ xs) (10 ∷ ys) (printable row.1 hr.shape) (printable other.1 ho.shape) refl refl
      (append_cancel_left (codes " ") (canonical row.1 ++ 10 ∷ xs) (canonical other.1 ++ 10 ∷ ys) one.1) in
      let key : row.0 ≡ other.0 = one.0 in
      let shape : row.1 ≡ other.1 = apart row.1 other.1 hr.shape ho.shape two.0 in
      let same : pair row.0 row.1 ≡ pair other.0 other.1 = cc in
      (same, append_cancel_left (10 ∷ []) xs ys two.1)
