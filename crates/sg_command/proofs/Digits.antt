-- Digits, one after another.
use Rattle.std.proofs.Common.{◌≡◌, ℕ, ◌+◌, ◌-◌, ◌*◌, ◌≤◌, ◌<◌, ◌^◌, true, List, length, get_or, take, arith}
use Rattle.std.specs.Char.{digit_value}
use Rattle.std.specs.Int.{IsInRange}
use Rattle.std.specs.Str.{all_ascii_digits}
use Rattle.std.specs.Str.Parse.{digits_value}
use Rattle.std.proofs.lemmas.Str.Parse.{IsNumeralModel, numerals_by_value, tells_all_ascii_digits, digit_at, digits_value_short, digits_value-take-le}
use Rattle.std.proofs.lemmas.Int.Digits.{digits_value_more}
use Rattle.std.proofs.lemmas.Bool.Decides.{nat_tests}

own : IsNumeralModel (λ ds. all_ascii_digits ds ≡ true) (digits_value 10)
own = numerals_by_value _ tells_all_ascii_digits

pub is_digit_at : (ds : List ℕ) (i : ℕ) → all_ascii_digits ds ≡ true → i < length ds → IsInRange 48 57 (get_or ds i 0)
is_digit_at ds i e h = digit_at ds i (own.to ds e) h

value_of_digit : (c : ℕ) → 48 ≤ c → c ≤ 57 → digit_value c ≡ c - 48
value_of_digit c low high = grind (arith, nat_tests)

-- the number with one more digit
pub one_more : (ds : List ℕ) (i part value : ℕ) → all_ascii_digits ds ≡ true → i < length ds → part ≡ get_or ds i 0 - 48 →
    value ≡ digits_value 10 (take i ds) → value * 10 + part ≡ digits_value 10 (take (i + 1) ds)
one_more ds i part value e h p v =
    let range = is_digit_at ds i e h in
    let digit = value_of_digit (get_or ds i 0) range.0 range.1 in
    let more = digits_value_more 10 ds i h in
    omega arith

-- which fits, as one of 20 digits does
pub one_more-fits : (ds : List ℕ) (i part value : ℕ) → all_ascii_digits ds ≡ true → length ds ≤ 20 → i < length ds → part ≡ get_or ds i 0 - 48 →
    value ≡ digits_value 10 (take i ds) → value * 10 + part < 2 ^ 128
one_more-fits ds i part value e few h p v =
    let more : value * 10 + part ≡ digits_value 10 (take (i + 1) ds) = one_more ds i part value e h p v in
    let whole : digits_value 10 ds < 10 ^ 20 = digits_value_short own ds 20 e few in
    let front : digits_value 10 (take (i + 1) ds) ≤ digits_value 10 ds = digits_value-take-le 10 ds (i + 1) (omega arith) in
    omega arith
