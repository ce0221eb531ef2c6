-- A piece of what is left, and a piece more of what was sent.
use Rattle.std.proofs.Common.{◌≡◌, ◌≤◌, ◌<◌, ◌+◌, ◌-◌, ℕ, List, [], ◌++◌, Option, length, take, drop, min, arith, sym, ap, ap₂, subst, ◌∙◌, take_all, take-append-drop, take-add, drop-drop, length-drop, drop_of_length-le}
use Rattle.std.specs.Io.KnownBytes.{Appends}
use Rattle.std.proofs.KnownBytes.{Appends-trans}

-- all of a list from a place on
pub take-rest : (bytes : List ℕ) (from : ℕ) → take (length bytes - from) (drop from bytes) ≡ drop from bytes
take-rest bytes from = take_all (length bytes - from) (drop from bytes) (omega (arith, length-drop from bytes))

-- what is left is the piece that was read, and then the rest
pub drop-piece : (bytes into : List ℕ) (given count : ℕ) → take count into ≡ take count (take (length bytes - given) (drop given bytes)) → drop given bytes ≡ take count into ++ drop (given + count) bytes
drop-piece bytes into given count same =
    sym (take-append-drop count (drop given bytes)) ∙
    ap₂ (λ (xs ys : List ℕ). xs ++ ys) (sym (same ∙ ap (take count) (take-rest bytes given))) (drop-drop count given bytes)

-- no byte is given only where none is left
pub drop-end : (bytes : List ℕ) (given piece room count : ℕ) → 0 < piece → 0 < room → count ≡ min piece (min room (length (take (length bytes - given) (drop given bytes)))) → count ≡ 0 → drop (given + count) bytes ≡ []
drop-end bytes given piece room count some_piece some_room least none =
    let rest : length (take (length bytes - given) (drop given bytes)) ≡ length bytes - given = ap length (take-rest bytes given) ∙ length-drop given bytes in
    drop_of_length-le bytes (omega arith)

-- a piece of the rest ends within the text
pub rest-within : (text : List ℕ) (sent count : ℕ) → sent ≤ length text → count ≤ length (take (length text - sent) (drop sent text)) → sent + count ≤ length text
rest-within text sent count before now = omega (arith, ap length (take-rest text sent), length-drop sent text)

-- the next bytes of a text after those that went before
pub Appends-more : (a b c : Option (List ℕ)) (text rest : List ℕ) (sent count : ℕ) → rest ≡ take (length text - sent) (drop sent text) →
    Appends a b (take sent text) → Appends b c (take count rest) → Appends a c (take (sent + count) text)
Appends-more a b c text rest sent count is_rest before now =
    let whole : rest ≡ drop sent text = is_rest ∙ take-rest text sent in
    subst (Appends a c) (sym (take-add sent count text))
    (Appends-trans a b c (take sent text) (take count (drop sent text)) before (subst (λ (xs : List ℕ). Appends b c (take count xs)) whole now))
