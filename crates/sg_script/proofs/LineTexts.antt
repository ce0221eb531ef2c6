-- The text of lines, as it grows.
use Rattle.std.proofs.Common.{◌≡◌, ℕ, ◌+◌, ◌<◌, List, [], ◌∷◌, ◌++◌, length, get_or, map, flat_map, take, All, Some, Result, Ok, Err, ap, sym, subst, ◌∙◌, arith, append_assoc, append-nil}
use Rattle.std.specs.Fmt.{decimal}
use Rattle.std.specs.Prelude.{OnOk, slice_get, slice_index}
use Rattle.std.proofs.lemmas.List.{take_more}
use Rattle.std.proofs.lemmas.List.Elements.{All-cons, All-more, All-nil}
use Rattle.std.proofs.lemmas.Option.{get_or_from_slice_get, slice_get_within}
use Rattle.std.proofs.lemmas.List.Concat.{flat_map-append}
use Rattle.sg_script.specs.declared.words.Line.{Line}
use Rattle.sg_script.specs.Canonical.{line_text, lines_text, spaced, turns_text}
use Rattle.sg_script.specs.Told.{IsSplit}

-- where a call returned Ok, or whatever it returned
pub on_any : {T E P : Type 0} (r : Result T E) → P → OnOk r P
on_any (Ok x) p = p
on_any (Err e) p = tt

pub lines_text-append : (xs ys : List Line) → lines_text (xs ++ ys) ≡ lines_text xs ++ lines_text ys
lines_text-append xs ys = flat_map-append (λ l. line_text l ++ 10 ∷ []) xs ys

-- one piece more after what was written
pub grown : (start out new before piece all : List ℕ) → out ≡ start ++ before → new ≡ out ++ piece → all ≡ before ++ piece → new ≡ start ++ all
grown start out new before piece all o n a =
    n ∙ (ap (λ (t : List ℕ). t ++ piece) o ∙ (append_assoc start before piece ∙ ap (λ (t : List ℕ). start ++ t) (sym a)))

-- four pieces, one after another
pub four_pieces : (start a b c d first second third fourth : List ℕ) → first ≡ start ++ a → second ≡ first ++ b → third ≡ second ++ c →
    fourth ≡ third ++ d → fourth ≡ start ++ (a ++ (b ++ (c ++ d)))
four_pieces start a b c d first second third fourth e f g h =
    h ∙ (ap (λ (t : List ℕ). t ++ d) (g ∙ ap (λ (t : List ℕ). t ++ c) (f ∙ ap (λ (t : List ℕ). t ++ b) e))
    ∙ (append_assoc ((start ++ a) ++ b) c d ∙ (append_assoc (start ++ a) b (c ++ d) ∙ append_assoc start a (b ++ (c ++ d)))))

-- two pairs of pieces, one after another
pub two_pairs : (start a b c d first second : List ℕ) → first ≡ start ++ (a ++ b) → second ≡ first ++ (c ++ d) → second ≡ start ++ (((a ++ b) ++ c) ++ d)
two_pairs start a b c d first second e f =
    f ∙ (ap (λ (t : List ℕ). t ++ (c ++ d)) e ∙ (append_assoc start (a ++ b) (c ++ d) ∙ ap (λ (t : List ℕ). start ++ t) (sym (append_assoc (a ++ b) c d))))

map_push : {X : Type 0} (f : X → Line) (xs : List X) (x : X) → map f (xs ++ x ∷ []) ≡ map f xs ++ f x ∷ []
map_push f [] x = λ i. f x ∷ []
map_push f (y ∷ xs) x = ap (λ (ls : List Line). f y ∷ ls) (map_push f xs x)

-- with the line of a further item
pub mapped_more : {X : Type 0} (f : X → Line) (xs : List X) (i : ℕ) (x : X) → i < length xs → x ≡ get_or xs i x →
    lines_text (map f (take (i + 1) xs)) ≡ lines_text (map f (take i xs)) ++ lines_text (f x ∷ [])
mapped_more f xs i x h at =
    ap (λ (ys : List _). lines_text (map f ys)) (take_more xs i x h ∙ ap (λ (y : _). take i xs ++ y ∷ []) (sym at))
    ∙ (ap lines_text (map_push f (take i xs) x) ∙ lines_text-append (map f (take i xs)) (f x ∷ []))

flat_push : {X : Type 0} (f : X → List Line) (xs : List X) (x : X) → flat_map f (xs ++ x ∷ []) ≡ flat_map f xs ++ (f x ++ [])
flat_push f xs x = flat_map-append f xs (x ∷ [])

-- with the lines of a further item
pub joined_more : {X : Type 0} (f : X → List Line) (xs : List X) (i : ℕ) (x : X) → i < length xs → x ≡ get_or xs i x →
    lines_text (flat_map f (take (i + 1) xs)) ≡ lines_text (flat_map f (take i xs)) ++ lines_text (f x)
joined_more f xs i x h at =
    ap (λ (ys : List _). lines_text (flat_map f ys)) (take_more xs i x h ∙ ap (λ (y : _). take i xs ++ y ∷ []) (sym at))
    ∙ (ap lines_text (flat_push f (take i xs) x ∙ ap (λ (ls : List Line). flat_map f (take i xs) ++ ls) (append-nil (f x)))
    ∙ lines_text-append (flat_map f (take i xs)) (f x))

-- what holds of each item so far, and of a further one
pub told_more : {X : Type 0} (P : X → Type 0) (xs : List X) (i : ℕ) (x : X) → i < length xs → x ≡ get_or xs i x → All P (take i xs) → P x → All P (take (i + 1) xs)
told_more P xs i x h at each p = All-more P xs i x h each (subst P at p)

-- a further turn
pub turn_more : (order : List ℕ) (i s : ℕ) → slice_get order i ≡ Some s → turns_text (take (i + 1) order) ≡ turns_text (take i order) ++ spaced (decimal s)
turn_more order i s at =
    ap turns_text (take_more order i 0 (slice_get_within order i s at) ∙ ap (λ (x : ℕ). take i order ++ x ∷ []) (get_or_from_slice_get order i s 0 at))
    ∙ (flat_map-append (λ n. spaced (decimal n)) (take i order) (s ∷ []) ∙ ap (λ (t : List ℕ). turns_text (take i order) ++ t) (append-nil (spaced (decimal s))))

-- ---- splits of four levels
pub four_splits : (ks : List ℕ) → length ks ≡ 4 → IsSplit (slice_index ks 0) → IsSplit (slice_index ks 1) → IsSplit (slice_index ks 2) → IsSplit (slice_index ks 3) → All IsSplit ks
four_splits [] e p q r s = absurd (omega arith)
four_splits (a ∷ []) e p q r s = absurd (omega arith)
four_splits (a ∷ b ∷ []) e p q r s = absurd (omega arith)
four_splits (a ∷ b ∷ c ∷ []) e p q r s = absurd (omega arith)
four_splits (a ∷ b ∷ c ∷ d ∷ []) e p q r s =
    All-cons IsSplit a (b ∷ c ∷ d ∷ []) p (All-cons IsSplit b (c ∷ d ∷ []) q (All-cons IsSplit c (d ∷ []) r (All-cons IsSplit d [] s (All-nil IsSplit))))
four_splits (a ∷ b ∷ c ∷ d ∷ k ∷ ks) e p q r s = absurd (omega arith)
