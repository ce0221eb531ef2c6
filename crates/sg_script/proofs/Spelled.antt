-- Fields that were written are read again.
use Rattle.std.proofs.Common.{◌≡◌, ℕ, suc, ◌+◌, ◌-◌, ◌*◌, ◌≤◌, ◌<◌, ◌^◌, Bool, true, false, not, ◌&&◌, ◌==◌, if◌then◌else◌, List, [], ◌∷◌, ◌++◌, length, take, drop, ℤ, pos, negsuc, neg_ℤ, nat_abs, nat_le, Option, Some, None, option_map, refl, ap, ◌∙◌, arith, add-one}
use Rattle.std.specs.Char.{digit_value}
use Rattle.std.specs.Fmt.{decimal, signed_decimal}
use Rattle.std.specs.List.{list_all}
use Rattle.std.specs.Str.{all_ascii_digits}
use Rattle.std.specs.Str.Parse.{digits_value, digits_value_after}
use Rattle.std.proofs.lemmas.Bool.Decides.{nat_tests}
use Rattle.std.proofs.lemmas.Fmt.{digits_decimal, digits_value-decimal, decimal_nonempty, length-decimal-le}
use Rattle.std.proofs.lemmas.List.{take_at, drop_at}
use Rattle.std.proofs.lemmas.Str.Parse.{IsNumeralModel, numerals_by_value, tells_all_ascii_digits}
use Rattle.sg_script.specs.Fields.{is_blank, after_blanks, word_length, field, after_field}
use Rattle.sg_script.specs.Numbers.{is_digit, digits_from, magnitude, number}

-- ---- fields
-- no byte is blank
abbrev pub IsPlain : List ℕ → Type 0
IsPlain w = list_all (λ b. not (is_blank b)) w ≡ true

-- a field may end here
abbrev pub IsBreak : List ℕ → Type 0
IsBreak [] = Unit {0}
IsBreak (b ∷ bs) = b ≡ 32

-- a text begins with this field, and then comes the rest
pub record Begins (text w rest : List ℕ) : Type 0 where
  pub is : field text ≡ w
  pub after : after_field text ≡ rest

not_blank : (b : ℕ) (bs : List ℕ) → IsPlain (b ∷ bs) → is_blank b ≡ false
not_blank b bs h = go (is_blank b) h
  where
    go : (t : Bool) → (not t && list_all (λ b. not (is_blank b)) bs) ≡ true → t ≡ false
    go false e = refl
    go true e = cc

plain_rest : (b : ℕ) (bs : List ℕ) → IsPlain (b ∷ bs) → IsPlain bs
plain_rest b bs h = go (is_blank b) h
  where
    go : (t : Bool) → (not t && list_all (λ b. not (is_blank b)) bs) ≡ true → IsPlain bs
    go false e = e
    go true e = cc

word_length-plain : (w rest : List ℕ) → IsPlain w → IsBreak rest → word_length (w ++ rest) ≡ length w
word_length-plain [] [] h e = refl
word_length-plain [] (b ∷ rest) h e = ap (λ (c : ℕ). if is_blank c then 0 else word_length rest + 1) e
word_length-plain (b ∷ w) rest h e =
    ap (λ (t : Bool). if t then 0 else word_length (w ++ rest) + 1) (not_blank b w h)
    ∙ (ap (λ (n : ℕ). n + 1) (word_length-plain w rest (plain_rest b w h) e) ∙ add-one (length w))

after_blanks-plain : (w rest : List ℕ) → IsPlain w → 0 < length w → after_blanks (w ++ rest) ≡ w ++ rest
after_blanks-plain [] rest h some = absurd (omega arith)
after_blanks-plain (b ∷ w) rest h some = ap (λ (t : Bool). if t then after_blanks (w ++ rest) else b ∷ (w ++ rest)) (not_blank b w h)

pub begins : (w rest : List ℕ) → IsPlain w → 0 < length w → IsBreak rest → Begins (w ++ rest) w rest
begins w rest h some e =
    let same : after_blanks (w ++ rest) ≡ w ++ rest = after_blanks-plain w rest h some in
    let len : word_length (w ++ rest) ≡ length w = word_length-plain w rest h e in
    record {
      is = ap (λ (t : List ℕ). take (word_length t) t) same ∙ (ap (λ (n : ℕ). take n (w ++ rest)) len ∙ take_at w rest (length w) refl);
      after = ap (λ (t : List ℕ). drop (word_length t) t) same ∙ (ap (λ (n : ℕ). drop n (w ++ rest)) len ∙ drop_at w rest (length w) refl);
    }

-- a space before it changes nothing
pub spaced_begins : (text w rest : List ℕ) → Begins text w rest → Begins (32 ∷ text) w rest
spaced_begins text w rest h = record { is = h.is; after = h.after }

-- ---- numbers
pub own : IsNumeralModel (λ ds. all_ascii_digits ds ≡ true) (digits_value 10)
own = numerals_by_value _ tells_all_ascii_digits

value_of_digit : (c : ℕ) → 48 ≤ c → c ≤ 57 → digit_value c ≡ c - 48
value_of_digit c low high = grind (arith, nat_tests)

digit_in : (c : ℕ) → 48 ≤ c → c ≤ 57 → is_digit c ≡ true
digit_in c low high = grind (arith, nat_tests)

digit_plain : (c : ℕ) → 48 ≤ c → c ≤ 57 → not (is_blank c) ≡ true
digit_plain c low high = grind (arith, nat_tests)

digits_from-value : (n : ℕ) (ds : List ℕ) → all_ascii_digits ds ≡ true → digits_from n ds ≡ Some (digits_value_after 10 n ds)
digits_from-value n [] e = refl
digits_from-value n (d ∷ ds) e =
    let parts = tells_all_ascii_digits.parts d ds e in
    let next : 10 * n + (d - 48) ≡ n * 10 + digit_value d = omega (arith, value_of_digit d parts.0.0 parts.0.1) in
    ap (λ (t : Bool). if t then digits_from (10 * n + (d - 48)) ds else None) (digit_in d parts.0.0 parts.0.1)
    ∙ (ap (λ (m : ℕ). digits_from m ds) next ∙ digits_from-value (n * 10 + digit_value d) ds parts.1)

digits_plain : (ds : List ℕ) → all_ascii_digits ds ≡ true → IsPlain ds
digits_plain [] e = refl
digits_plain (d ∷ ds) e =
    let parts = tells_all_ascii_digits.parts d ds e in
    ap (λ (t : Bool). t && list_all (λ b. not (is_blank b)) ds) (digit_plain d parts.0.0 parts.0.1) ∙ digits_plain ds parts.1

pub decimal-plain : (n : ℕ) → n < 2 ^ 64 → IsPlain (decimal n)
decimal-plain n h = digits_plain (decimal n) (digits_decimal own n h)

pub signed_decimal-plain : (z : ℤ) → nat_abs z < 10 ^ 18 → IsPlain (signed_decimal z)
signed_decimal-plain (pos n) h = decimal-plain n (omega arith)
signed_decimal-plain (negsuc n) h = decimal-plain (suc n) (omega arith)

pub signed_decimal-some : (z : ℤ) → nat_abs z < 10 ^ 18 → 0 < length (signed_decimal z)
signed_decimal-some (pos n) h = decimal_nonempty n (omega arith)
signed_decimal-some (negsuc n) h = omega arith

magnitude-decimal : (n : ℕ) → n < 10 ^ 18 → magnitude (decimal n) ≡ Some n
magnitude-decimal n h =
    let some : 0 < length (decimal n) = decimal_nonempty n (omega arith) in
    let few : length (decimal n) ≤ 18 = length-decimal-le 18 n (omega arith) h (omega arith) in
    few_digits (decimal n) some few (digits_decimal own n (omega arith))
    ∙ ap (λ (m : ℕ). Some m) (digits_value-decimal own n (omega arith))
  where
    few_digits : (ds : List ℕ) → 0 < length ds → length ds ≤ 18 → all_ascii_digits ds ≡ true → magnitude ds ≡ Some (digits_value 10 ds)
    few_digits ds some few e = within (length ds) some few ∙ digits_from-value 0 ds e
      where
        within : (k : ℕ) → 0 < k → k ≤ 18 → (if nat_le 1 k && nat_le k 18 then digits_from 0 ds else None) ≡ digits_from 0 ds
        within k some few = grind (arith, nat_tests)

-- a decimal begins with a digit, and so with no minus sign
number-digits : (ds : List ℕ) (n : ℕ) → all_ascii_digits ds ≡ true → magnitude ds ≡ Some n → number ds ≡ Some (pos n)
number-digits [] n e m = absurd (cc)
number-digits (d ∷ ds) n e m =
    let parts = tells_all_ascii_digits.parts d ds e in
    ap (λ (t : Bool). if t then option_map (λ n. neg_ℤ (pos n)) (magnitude ds) else option_map pos (magnitude (d ∷ ds))) (no_minus d parts.0.0)
    ∙ ap (λ (o : Option ℕ). option_map pos o) m
  where
    no_minus : (d : ℕ) → 48 ≤ d → (d == 45) ≡ false
    no_minus d low = grind (arith, nat_tests)

pub number-decimal : (n : ℕ) → n < 10 ^ 18 → number (decimal n) ≡ Some (pos n)
number-decimal n h = number-digits (decimal n) n (digits_decimal own n (omega arith)) (magnitude-decimal n h)

pub number-signed : (z : ℤ) → nat_abs z < 10 ^ 18 → number (signed_decimal z) ≡ Some z
number-signed (pos n) h = number-decimal n h
number-signed (negsuc n) h = ap (λ (o : Option ℕ). option_map (λ n. neg_ℤ (pos n)) o) (magnitude-decimal (suc n) h)
