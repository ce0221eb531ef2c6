-- The first line of a text.
use Rattle.std.proofs.Common.{◌≡◌, ℕ, ◌+◌, ◌-◌, ◌<◌, ◌==◌, Bool, true, false, cond, List, [], ◌∷◌, length, take, drop, refl, ap, ap₂, sym, ◌∙◌, add-one, arith, take_all, drop_of_length-le, length-drop}
use Rattle.std.proofs.lemmas.List.{drop-drop}
use Rattle.sg_script.specs.Lines.{lines, longer, line_length}

line_step : (t : Bool) (b : ℕ) (bs : List ℕ) (n : ℕ) → lines bs ≡ take n bs ∷ lines (drop (n + 1) bs) →
    cond t ([] ∷ lines bs) (longer b (lines bs)) ≡ take (cond t 0 (n + 1)) (b ∷ bs) ∷ lines (drop (cond t 0 (n + 1) + 1) (b ∷ bs))
line_step true b bs n h = refl
line_step false b bs n h = simp (h, add-one)

last_step : (t : Bool) (b : ℕ) → cond t ([] ∷ []) ((b ∷ []) ∷ []) ≡ take (cond t 0 1) (b ∷ []) ∷ lines (drop (cond t 0 1 + 1) (b ∷ []))
last_step true b = refl
last_step false b = refl

-- a text that isn't empty begins with its first line
pub lines-front : (b : ℕ) (bs : List ℕ) →
    lines (b ∷ bs) ≡ take (line_length (b ∷ bs)) (b ∷ bs) ∷ lines (drop (line_length (b ∷ bs) + 1) (b ∷ bs))
lines-front b [] = last_step (b == 10) b
lines-front b (c ∷ cs) = line_step (b == 10) b (c ∷ cs) (line_length (c ∷ cs)) (lines-front c cs)

split_line : (text : List ℕ) → (length text == 0) ≡ false → lines text ≡ take (line_length text) text ∷ lines (drop (line_length text + 1) text)
split_line [] e = cc
split_line (b ∷ bs) e = lines-front b bs

short_nil : (xs : List ℕ) → length xs < 1 → xs ≡ []
short_nil [] h = refl
short_nil (x ∷ xs) h = absurd (some xs h)
  where
    some : (xs : List ℕ) → length (x ∷ xs) < 1 → ⊥
    some xs h = omega arith

-- the first line ends with the text
pub last_line : (text front back : List ℕ) (n : ℕ) → (length text == 0) ≡ false → n ≡ line_length text → front ≡ take n text → back ≡ drop n text →
    length back < 1 → lines text ≡ front ∷ lines back
last_line text front back n some len f b short =
    let none : drop (n + 1) text ≡ [] = drop_of_length-le text (omega (arith, ap length b, length-drop n text)) in
    let nil : back ≡ [] = short_nil back short in
    split_line text some
    ∙ ap₂ (λ (x y : List ℕ). x ∷ lines y) (ap (λ (k : ℕ). take k text) (sym len) ∙ sym f)
    (ap (λ (k : ℕ). drop (k + 1) text) (sym len) ∙ none ∙ sym nil)

-- the first line ends with a line feed
pub some_line : (text front back after : List ℕ) (n : ℕ) → (length text == 0) ≡ false → n ≡ line_length text → front ≡ take n text → back ≡ drop n text →
    after ≡ take (length back - 1) (drop 1 back) → lines text ≡ front ∷ lines after
some_line text front back after n some len f b a =
    let whole : after ≡ drop 1 back = a ∙ take_all (length back - 1) (drop 1 back) (omega (arith, length-drop 1 back)) in
    split_line text some
    ∙ ap₂ (λ (x y : List ℕ). x ∷ lines y) (ap (λ (k : ℕ). take k text) (sym len) ∙ sym f)
    (ap (λ (k : ℕ). drop (k + 1) text) (sym len) ∙ sym (drop-drop 1 n text) ∙ ap (drop 1) (sym b) ∙ sym whole)
