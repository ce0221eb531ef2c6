-- The fields of a line: runs of bytes that aren't blank.
use Rattle.std.specs.Prelude.{ℕ, ◌+◌, ◌==◌, Bool, true, ◌||◌, if◌then◌else◌, List, [], ◌∷◌, take, drop}
use Rattle.sg_script.specs.Lines.{longer}

-- space, tab and carriage return
abbrev pub is_blank : ℕ → Bool
is_blank b = b == 32 || b == 9 || b == 13

-- from the first byte that isn't blank
abbrev pub after_blanks : List ℕ → List ℕ
after_blanks [] = []
after_blanks (b ∷ bs) = if is_blank b then after_blanks bs else b ∷ bs

-- how many bytes stand before the first blank
abbrev pub word_length : List ℕ → ℕ
word_length [] = 0
word_length (b ∷ bs) = if is_blank b then 0 else word_length bs + 1

-- the first field, without bytes where there is none, and what stands after it
abbrev pub field : List ℕ → List ℕ
field text = take (word_length (after_blanks text)) (after_blanks text)

abbrev pub after_field : List ℕ → List ℕ
after_field text = drop (word_length (after_blanks text)) (after_blanks text)

-- with a byte before these fields, which goes with the first where no blank follows
abbrev pub joined : ℕ → List ℕ → List (List ℕ) → List (List ℕ)
joined b [] words = (b ∷ []) ∷ words
joined b (c ∷ cs) words = if is_blank c then (b ∷ []) ∷ words else longer b words

-- all fields
abbrev pub words : List ℕ → List (List ℕ)
words [] = []
words (b ∷ bs) = if is_blank b then words bs else joined b bs (words bs)

-- no field, or a comment, whose first byte is #
abbrev pub says_nothing : List ℕ → Bool
says_nothing [] = true
says_nothing (b ∷ bs) = b == 35

abbrev pub is_skipped : List ℕ → Bool
is_skipped line = says_nothing (after_blanks line)
