-- Pieces of text that begin with their places.
use Rattle.std.proofs.Common.{◌≡◌, ℕ, ◌+◌, ◌<◌, List, [], ◌∷◌, ◌++◌, length, get_or, take, arith, sym, ap, ◌∙◌}
use Rattle.std.specs.List.{flat_map, enumerate_from}
use Rattle.std.proofs.lemmas.List.{take_more, length-take, flat_map_more}

-- one more item comes with the next place
enumerate_from-push : {X : Type 0} (n : ℕ) (xs : List X) (x : X) → enumerate_from n (xs ++ x ∷ []) ≡ enumerate_from n xs ++ (n + length xs, x) ∷ []
enumerate_from-push n [] x = let same : n ≡ n + 0 = omega arith in ap (λ (m : ℕ). (m, x) ∷ []) same
enumerate_from-push n (y ∷ ys) x =
    let same : n + 1 + length ys ≡ n + length (y ∷ ys) = omega arith in
    ap (λ rest. (n, y) ∷ rest) (enumerate_from-push (n + 1) ys x ∙ ap (λ (m : ℕ). enumerate_from (n + 1) ys ++ (m, x) ∷ []) same)

-- a text with the piece of one more item
pub one_more : {X : Type 0} (f : ℕ × X → List ℕ) (old now new : List ℕ) (xs : List X) (i : ℕ) (x : X) → i < length xs → x ≡ get_or xs i x →
    now ≡ old ++ flat_map f (enumerate_from 1 (take i xs)) → new ≡ now ++ f (i + 1, x) → new ≡ old ++ flat_map f (enumerate_from 1 (take (i + 1) xs))
one_more f old now new xs i x within read before after =
    let long : i + 1 ≡ 1 + length (take i xs) = omega (arith, length-take i xs) in
    let more : take (i + 1) xs ≡ take i xs ++ x ∷ [] = take_more xs i x within ∙ ap (λ y. take i xs ++ y ∷ []) (sym read) in
    after ∙ ap (λ text. text ++ f (i + 1, x)) before ∙ flat_map_more f old (enumerate_from 1 (take i xs)) (i + 1, x)
    ∙ ap (λ (n : ℕ). old ++ flat_map f (enumerate_from 1 (take i xs) ++ (n, x) ∷ [])) long
    ∙ ap (λ items. old ++ flat_map f items) (sym (enumerate_from-push 1 (take i xs) x))
    ∙ ap (λ ys. old ++ flat_map f (enumerate_from 1 ys)) (sym more)
