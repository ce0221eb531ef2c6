-- Numbers of a script: an optional minus sign and 1 to 18 decimal digits.
use Rattle.std.specs.Prelude.{ℕ, ◌+◌, ◌-◌, ◌*◌, ◌==◌, nat_le, Bool, ◌&&◌, if◌then◌else◌, List, [], ◌∷◌, length, ℤ, pos, neg_ℤ, Option, Some, None, option_map}

abbrev pub is_digit : ℕ → Bool
is_digit b = nat_le 48 b && nat_le b 57

-- the number of digits after those that stand for n
abbrev pub digits_from : ℕ → List ℕ → Option ℕ
digits_from n [] = Some n
digits_from n (b ∷ bs) = if is_digit b then digits_from (10 * n + (b - 48)) bs else None

-- 1 to 18 digits
abbrev pub magnitude : List ℕ → Option ℕ
magnitude digits = if nat_le 1 (length digits) && nat_le (length digits) 18 then digits_from 0 digits else None

abbrev pub number : List ℕ → Option ℤ
number [] = None
number (b ∷ bs) = if b == 45 then option_map (λ n. neg_ℤ (pos n)) (magnitude bs) else option_map pos (magnitude (b ∷ bs))
