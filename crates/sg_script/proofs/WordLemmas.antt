-- All fields of a line, and the first one.
use Rattle.std.proofs.Common.{◌≡◌, ℕ, suc, ◌<◌, ◌≤◌, ◌==◌, Bool, true, false, cond, List, [], ◌∷◌, length, take, drop, refl, ap, ap₂, sym, ◌∙◌, add-one, arith, length-take, length-drop, eqb-true}
use Rattle.std.proofs.lemmas.Bool.Decides.{nat_tests}
use Rattle.sg_script.specs.Fields.{is_blank, after_blanks, word_length, field, after_field, joined, words}
use Rattle.sg_script.specs.Lines.{longer}

-- a text that begins a field begins with its first field
begun_step : (t : Bool) (b c : ℕ) (cs : List ℕ) → is_blank c ≡ t →
    (t ≡ false → words (c ∷ cs) ≡ take (word_length (c ∷ cs)) (c ∷ cs) ∷ words (drop (word_length (c ∷ cs)) (c ∷ cs))) →
    joined b (c ∷ cs) (words (c ∷ cs)) ≡ (b ∷ take (word_length (c ∷ cs)) (c ∷ cs)) ∷ words (drop (word_length (c ∷ cs)) (c ∷ cs))
begun_step true b c cs e h = simp e
begun_step false b c cs e h = ap (λ (t : Bool). cond t ((b ∷ []) ∷ words (c ∷ cs)) (longer b (words (c ∷ cs)))) e ∙ ap (longer b) (h refl)

length_begun : (b : ℕ) (bs : List ℕ) → is_blank b ≡ false → word_length (b ∷ bs) ≡ suc (word_length bs)
length_begun b bs e = simp (e, add-one)

begun : (b : ℕ) (bs : List ℕ) → is_blank b ≡ false → words (b ∷ bs) ≡ joined b bs (words bs)
begun b bs e = simp e

words-begun : (b : ℕ) (bs : List ℕ) → is_blank b ≡ false →
    words (b ∷ bs) ≡ take (word_length (b ∷ bs)) (b ∷ bs) ∷ words (drop (word_length (b ∷ bs)) (b ∷ bs))
words-begun b [] e = begun b [] e ∙ sym (ap (λ (n : ℕ). take n (b ∷ []) ∷ words (drop n (b ∷ []))) (length_begun b [] e))
words-begun b (c ∷ cs) e =
    begun b (c ∷ cs) e
    ∙ (begun_step (is_blank c) b c cs refl (λ f. words-begun c cs f)
    ∙ sym (ap (λ (n : ℕ). take n (b ∷ c ∷ cs) ∷ words (drop n (b ∷ c ∷ cs))) (length_begun b (c ∷ cs) e)))

-- blanks before the first field change nothing
by_blank : (t : Bool) (b : ℕ) (bs : List ℕ) → is_blank b ≡ t → words bs ≡ words (after_blanks bs) → words (b ∷ bs) ≡ words (after_blanks (b ∷ bs))
by_blank true b bs e h = simp e h
by_blank false b bs e h = simp e

words-after_blanks : (text : List ℕ) → words text ≡ words (after_blanks text)
words-after_blanks [] = refl
words-after_blanks (b ∷ bs) = by_blank (is_blank b) b bs refl (words-after_blanks bs)

-- ---- the first field
-- no blank stands first
abbrev IsTrimmed : List ℕ → Type 0
IsTrimmed [] = Unit {0}
IsTrimmed (b ∷ bs) = is_blank b ≡ false

trimmed_by : (t : Bool) (b : ℕ) (bs : List ℕ) → is_blank b ≡ t → IsTrimmed (after_blanks bs) → IsTrimmed (after_blanks (b ∷ bs))
trimmed_by true b bs e h = simp e h
trimmed_by false b bs e h = simp e

trimmed : (text : List ℕ) → IsTrimmed (after_blanks text)
trimmed [] = tt
trimmed (b ∷ bs) = trimmed_by (is_blank b) b bs refl (trimmed bs)

none_at : (text : List ℕ) → IsTrimmed text → (length (take (word_length text) text) == 0) ≡ true → words text ≡ []
none_at [] h e = refl
none_at (b ∷ bs) h e = absurd (some (take (word_length bs) bs) (ap (λ (n : ℕ). length (take n (b ∷ bs)) == 0) (sym (length_begun b bs h)) ∙ e))
  where
    some : (xs : List ℕ) → (length (b ∷ xs) == 0) ≡ true → ⊥
    some xs e = let q : length (b ∷ xs) ≡ 0 = eqb-true (length (b ∷ xs)) 0 e in omega arith

some_at : (text : List ℕ) → IsTrimmed text → (length (take (word_length text) text) == 0) ≡ false →
    words text ≡ take (word_length text) text ∷ words (drop (word_length text) text)
some_at [] h e = absurd (cc)
some_at (b ∷ bs) h e = words-begun b bs h

-- a line without a first field has none
pub words-none : (text w : List ℕ) → w ≡ field text → (length w == 0) ≡ true → words text ≡ []
words-none text w f e = words-after_blanks text ∙ none_at (after_blanks text) (trimmed text) (ap (λ (v : List ℕ). length v == 0) (sym f) ∙ e)

-- the first field, and those of the rest
pub words-some : (text w rest : List ℕ) → w ≡ field text → rest ≡ after_field text → (length w == 0) ≡ false → words text ≡ w ∷ words rest
words-some text w rest f r e =
    words-after_blanks text ∙ some_at (after_blanks text) (trimmed text) (ap (λ (v : List ℕ). length v == 0) (sym f) ∙ e)
    ∙ ap₂ (λ (v s : List ℕ). v ∷ words s) (sym f) (sym r)

length_by : (t : Bool) (b : ℕ) (bs : List ℕ) → is_blank b ≡ t → length (after_blanks bs) ≤ length bs → length (after_blanks (b ∷ bs)) ≤ length (b ∷ bs)
length_by true b bs e h = simp e (omega arith)
length_by false b bs e h = simp e (omega arith)

length-after_blanks : (text : List ℕ) → length (after_blanks text) ≤ length text
length-after_blanks [] = omega arith
length-after_blanks (b ∷ bs) = length_by (is_blank b) b bs refl (length-after_blanks bs)

shorter_at : (text : List ℕ) → (length (take (word_length text) text) == 0) ≡ false → length (drop (word_length text) text) < length text
shorter_at text e = grind (arith, nat_tests, length-take, length-drop)

-- what stands after the first field is shorter
pub after_field-less : (text w rest : List ℕ) → w ≡ field text → rest ≡ after_field text → (length w == 0) ≡ false → length rest < length text
after_field-less text w rest f r e =
    let less : length (after_field text) < length (after_blanks text) = shorter_at (after_blanks text) (ap (λ (v : List ℕ). length v == 0) (sym f) ∙ e) in
    omega (arith, length-after_blanks text, ap length r)
