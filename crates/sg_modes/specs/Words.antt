-- Sets of sessions as words of 64 bits: session n stands at bit n - 1.
use Rattle.std.specs.Prelude.{ℕ, zero, suc, ◌-◌, ◌*◌, ◌%◌, ◌^◌, Bool, cond, List, [], ◌∷◌, eqb, bit_or}
use Rattle.std.specs.Int.{bit_at}

-- the bit is 1
abbrev pub is_set : ℕ → ℕ → Bool
is_set word i = eqb (bit_at word i) 1

-- the sessions of the bits from i on, of that many bits
abbrev pub members_from : ℕ → ℕ → ℕ → List ℕ
members_from word zero i = []
members_from word (suc count) i = cond (is_set word i) (suc i ∷ members_from word count (suc i)) (members_from word count (suc i))

-- the sessions of the word, rising
unfoldable pub members : ℕ → List ℕ
members word = members_from word 64 0

-- the word of the sessions
abbrev pub word_of : List ℕ → ℕ
word_of [] = 0
word_of (n ∷ ns) = bit_or (word_of ns) (1 * 2 ^ (n - 1) % 2 ^ 64)
