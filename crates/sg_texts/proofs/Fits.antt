-- What holds of each item below a place, as a loop goes on to the next.
use Rattle.std.proofs.Common.{◌≡◌, ℕ, ◌+◌, ◌<◌, List, [], ◌∷◌, ◌++◌, length, get_or, take, subst, below_more, sym, ap, ◌∙◌}
use Rattle.std.specs.List.{flat_map}
use Rattle.std.proofs.lemmas.List.{get_or_default, take_more, flat_map_more}

-- an item that was read at the place has it too
pub fits_more : {X : Type 0} (P : X → Type 0) (xs : List X) (i : ℕ) (x : X) → i < length xs → x ≡ get_or xs i x →
    ((k : ℕ) (d : X) → k < i → P (get_or xs k d)) → P x → (k : ℕ) (d : X) → k < i + 1 → P (get_or xs k d)
fits_more {X} P xs i x within read before here k d less =
    below_more (λ j. (e : X) → P (get_or xs j e)) i (λ j lower e. before j e lower)
    (λ e. subst P (read ∙ get_or_default xs i x e within) here) k less d

-- and a text of the pieces of all goes on with its piece
pub text_more : {X : Type 0} (f : X → List ℕ) (old now new : List ℕ) (xs : List X) (i : ℕ) (x : X) → i < length xs → x ≡ get_or xs i x →
    now ≡ old ++ flat_map f (take i xs) → new ≡ now ++ f x → new ≡ old ++ flat_map f (take (i + 1) xs)
text_more f old now new xs i x within read before after =
    let more : take (i + 1) xs ≡ take i xs ++ x ∷ [] = take_more xs i x within ∙ ap (λ y. take i xs ++ y ∷ []) (sym read) in
    after ∙ ap (λ text. text ++ f x) before ∙ flat_map_more f old (take i xs) x ∙ ap (λ ys. old ++ flat_map f ys) (sym more)
