-- The words that a loop over a process's arguments has taken.
use Rattle.std.proofs.Common.{◌≡◌, ℕ, List, [], ◌∷◌, ◌++◌, length, drop, map, Option, Some, None, append-nil, refl, sym, ap, ◌∙◌}
use Rattle.std.specs.Iterator.{Yields}
use Rattle.std.specs.Option.{option_to_list}
use Rattle.std.specs.String.{string_bytes}
use Rattle.std.specs.Vec.Iter.{into_iter_items, into_iter_len, into_iter_steps}
use Rattle.std.specs.declared.string.String.{String}
use Rattle.std.specs.declared.vec.IntoIter.{IntoIter}

no_items : {X : Type 0} (xs : List X) → length xs ≡ 0 → xs ≡ []
no_items [] e = refl
no_items (x ∷ xs) e = absurd (cc)

module _ {X A : Type 0} where
  -- where nothing is left there are no items
  empty_items : (it : IntoIter X A) → into_iter_len it ≡ 0 → into_iter_items it ≡ []
  empty_items it e = no_items (into_iter_items it) (sym it.rest.ok.0 ∙ e)

  -- what was given is a front of the items, and what is left follows it
  taken_front : (s : IntoIter X A) (xs : List X) (t : IntoIter X A) → Yields into_iter_steps s xs t → into_iter_items s ≡ xs ++ into_iter_items t
  taken_front s [] t y = ap into_iter_items y
  taken_front s (x ∷ xs) t y = y.1.0 ∙ ap (λ (ys : List X). x ∷ ys) (taken_front y.0 xs t y.2)

  -- all of them were given, once nothing is left
  taken_all : (s : IntoIter X A) (xs : List X) (t : IntoIter X A) → Yields into_iter_steps s xs t → into_iter_len t ≡ 0 → into_iter_items s ≡ xs
  taken_all s xs t y e = taken_front s xs t y ∙ (ap (λ (ys : List X). xs ++ ys) (empty_items t e) ∙ append-nil xs)

  -- behind the first one
  behind_first : (all start : IntoIter X A) (first : Option X) → into_iter_items all ≡ option_to_list first ++ into_iter_items start → into_iter_steps all first start
      → drop 1 (into_iter_items all) ≡ into_iter_items start
  behind_first all start None e s = ap (drop 1) (empty_items all s.0) ∙ sym (empty_items start s.1)
  behind_first all start (Some x) e s = ap (drop 1) e

pub words_left : {Z A : Type 0} (all start begun now : IntoIter (String Z) A) (first : Option (String Z)) (yielded : List (String Z)) (words : List (List ℕ))
    → into_iter_items all ≡ option_to_list first ++ into_iter_items start → into_iter_steps all first start → begun ≡ start → Yields into_iter_steps begun yielded now → into_iter_len now ≡ 0
    → words ≡ map string_bytes yielded → words ≡ map string_bytes (drop 1 (into_iter_items all))
words_left all start begun now first yielded words e s same y empty w =
    w ∙ ap (λ xs. map string_bytes xs) (sym (taken_all begun yielded now y empty) ∙ (ap into_iter_items same ∙ sym (behind_first all start first e s)))
