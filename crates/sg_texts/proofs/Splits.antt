-- Texts that begin alike.
use Rattle.std.proofs.Common.{◌≡◌, ℕ, zero, suc, ◌/◌, ◌%◌, ◌^◌, ◌<◌, Bool, true, false, cond, ◌&&◌, ◌==◌, List, [], ◌∷◌, ◌++◌, refl, arith, sym, ap, ◌∙◌}
use Rattle.std.proofs.lemmas.Bool.Decides.{nat_tests}
use Rattle.std.proofs.lemmas.Fmt.{decimal_injective}
use Rattle.std.specs.Char.{is_ascii_digit}
use Rattle.std.specs.Fmt.{decimal, digits, digits_onto, digit_glyph}
use Rattle.std.specs.List.{list_all}

-- ---- tests of bytes
pub both : (a b : Bool) → a ≡ true → b ≡ true → (a && b) ≡ true
both true b e f = f
both false b e f = cc

pub left_of : (a b : Bool) → (a && b) ≡ true → a ≡ true
left_of true b e = refl
left_of false b e = e

pub right_of : (a b : Bool) → (a && b) ≡ true → b ≡ true
right_of true b e = e
right_of false b e = cc

-- the text is empty or its first byte fails the test
abbrev pub Stops : (ℕ → Bool) → List ℕ → Type 0
Stops p [] = Unit {0}
Stops p (b ∷ bs) = p b ≡ false

-- a byte can't pass and fail
unlike : (p : ℕ → Bool) (b : ℕ) (bs xs : List ℕ) → p b ≡ true → Stops p xs → xs ≡ b ∷ bs → ⊥
unlike p b bs [] h s e = cc
unlike p b bs (x ∷ xs) h s e = let same : x ≡ b = cc in let clash : true ≡ false = sym h ∙ sym (ap p same) ∙ s in cc

-- what stands before the first byte that fails the test, and what begins there
pub split : (p : ℕ → Bool) (s t xs ys : List ℕ) → list_all p s ≡ true → list_all p t ≡ true → Stops p xs → Stops p ys → s ++ xs ≡ t ++ ys → (s ≡ t) × (xs ≡ ys)
split p [] [] xs ys hs ht sx sy e = (refl, e)
split p [] (b ∷ t) xs ys hs ht sx sy e = absurd (unlike p b (t ++ ys) xs (left_of (p b) (list_all p t) ht) sx e)
split p (a ∷ s) [] xs ys hs ht sx sy e = absurd (unlike p a (s ++ xs) ys (left_of (p a) (list_all p s) hs) sy (sym e))
split p (a ∷ s) (b ∷ t) xs ys hs ht sx sy e =
    let head : a ≡ b = cc in
    let tail : s ++ xs ≡ t ++ ys = cc in
    let parts = split p s t xs ys (right_of (p a) (list_all p s) hs) (right_of (p b) (list_all p t) ht) sx sy tail in
    let first : s ≡ t = parts.0 in
    (cc, parts.1)

-- a test that passes more
pub list_all-wider : (p q : ℕ → Bool) → ((b : ℕ) → p b ≡ true → q b ≡ true) → (bs : List ℕ) → list_all p bs ≡ true → list_all q bs ≡ true
list_all-wider p q wider [] h = refl
list_all-wider p q wider (b ∷ bs) h =
    both (q b) (list_all q bs) (wider b (left_of (p b) (list_all p bs) h)) (list_all-wider p q wider bs (right_of (p b) (list_all p bs) h))

-- ---- numbers
digit : (n : ℕ) → is_ascii_digit (digit_glyph false (n % 10)) ≡ true
digit n = let below : n % 10 < 10 = omega arith in grind (arith, nat_tests)

either : (t : Bool) (xs ys : List ℕ) → list_all is_ascii_digit xs ≡ true → list_all is_ascii_digit ys ≡ true → list_all is_ascii_digit (cond t xs ys) ≡ true
either true xs ys h k = h
either false xs ys h k = k

all_digits_onto : (k n : ℕ) (acc : List ℕ) → list_all is_ascii_digit acc ≡ true → list_all is_ascii_digit (digits_onto k 10 false n acc) ≡ true
all_digits_onto zero n acc h = h
all_digits_onto (suc k) n acc h =
    let more : list_all is_ascii_digit (digit_glyph false (n % 10) ∷ acc) ≡ true = both (is_ascii_digit (digit_glyph false (n % 10))) (list_all is_ascii_digit acc) (digit n) h in
    either (n / 10 == 0) (digit_glyph false (n % 10) ∷ acc) (digits_onto k 10 false (n / 10) (digit_glyph false (n % 10) ∷ acc)) more (all_digits_onto k (n / 10) (digit_glyph false (n % 10) ∷ acc) more)

pub all_digits : (n : ℕ) → list_all is_ascii_digit (decimal n) ≡ true
unfolding digits
all_digits n = all_digits_onto 64 n [] refl

-- a number, and what follows it
pub split_number : (m n : ℕ) (xs ys : List ℕ) → m < 2 ^ 64 → n < 2 ^ 64 → Stops is_ascii_digit xs → Stops is_ascii_digit ys → decimal m ++ xs ≡ decimal n ++ ys → (m ≡ n) × (xs ≡ ys)
split_number m n xs ys hm hn sx sy e =
    let parts = split is_ascii_digit (decimal m) (decimal n) xs ys (all_digits m) (all_digits n) sx sy e in
    (decimal_injective m n hm hn parts.0, parts.1)
