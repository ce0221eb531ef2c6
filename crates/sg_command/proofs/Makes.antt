-- The parser of command lines on all the words of `make`: it takes three words, and finds them.
use Rattle.std.proofs.Common.{◌≡◌, ℕ, false, List, [], ◌∷◌, refl, ap, sym, ◌∙◌, subst, inl, inr, Option, Some, None, codes}
use Rattle.std.specs.Prelude.{◌==◌, ◌⊎◌, if◌then◌else◌, drop}
use Rattle.clap.specs.Walk.{Held, Row, finished, first_of, nothing_held, walked}
use Rattle.clap.specs.Simple.{Shape, built, matches_of}
use Rattle.clap.specs.Faults.{turn_fault}
use Rattle.clap.proofs.OnLiterals.{clap_on_literals}
use Rattle.clap.proofs.FaultLemmas.{leaf_fault}
use Rattle.sg_command.specs.Words.{Word, made_of, make_of, number_in, within}
use Rattle.sg_command.specs.Usage.{clear, make_app, rows_found}
use Rattle.sg_command.proofs.Outcome.{ends, ends_badly, fails, outcome, passes, resting, resting_at, end_fault}
use Rattle.sg_command.proofs.Parse.{AllTame, IsPlain, Tame}
use Rattle.sg_command.proofs.Run.{labels_word, trace_word, workers_word}
use Rattle.sg_command.proofs.Turns.{workers}
use Rattle.sg_command.proofs.Rows.{new_row}
use Rattle.clap.specs.Walk.{reading_by}
use Rattle.clap.specs.declared.parser.matches.ValueSource.TheVariants.{CommandLine}

abbrev pub three : Shape
three = (built make_app).top

abbrev number_row : Word → Word → Row
number_row id word = new_row id (reading_by workers) CommandLine (word ∷ [])

abbrev one : Word → Held
one a = record { rows = []; pending = Some (codes "seed", a ∷ []); skip = 0 }

abbrev two : Word → Word → Held
two a b = record { rows = number_row (codes "seed") a ∷ []; pending = Some (codes "rows", b ∷ []); skip = 0 }

abbrev all : Word → Word → Word → Held
all a b c = record { rows = number_row (codes "seed") a ∷ number_row (codes "rows") b ∷ []; pending = Some (codes "sessions", c ∷ []); skip = 0 }

to_one : (x : ℕ) (xs : Word) → (x == 45) ≡ false → walked three.rules [] (resting_at 1 nothing_held) (x ∷ xs) ≡ resting_at 2 (one (x ∷ xs))
unfolding clap_on_literals
to_one x xs e = rw e rw e refl

to_two : (a : Word) (x : ℕ) (xs : Word) → (x == 45) ≡ false → walked three.rules [] (resting_at 2 (one a)) (x ∷ xs) ≡ resting_at 3 (two a (x ∷ xs))
unfolding clap_on_literals
to_two a x xs e = rw e rw e refl

to_three : (a b : Word) (x : ℕ) (xs : Word) → (x == 45) ≡ false → walked three.rules [] (resting_at 3 (two a b)) (x ∷ xs) ≡ resting_at 4 (all a b (x ∷ xs))
unfolding clap_on_literals
to_three a b x xs e = rw e rw e refl

turn_one : (x : ℕ) (xs : Word) → (x == 45) ≡ false → turn_fault three [] (resting_at 1 nothing_held) (x ∷ xs) ≡ []
unfolding clap_on_literals
turn_one x xs e = simp e refl

turn_two : (a : Word) (x : ℕ) (xs : Word) → (x == 45) ≡ false → turn_fault three [] (resting_at 2 (one a)) (x ∷ xs) ≡ []
unfolding clap_on_literals
turn_two a x xs e = simp e refl

turn_three : (a b : Word) (x : ℕ) (xs : Word) → (x == 45) ≡ false → turn_fault three [] (resting_at 3 (two a b)) (x ∷ xs) ≡ []
unfolding clap_on_literals
turn_three a b x xs e = simp e refl

turn_four : (a b c : Word) (x : ℕ) (xs : Word) → (x == 45) ≡ false → clear (turn_fault three [] (resting_at 4 (all a b c)) (x ∷ xs)) ≡ false
unfolding clap_on_literals
turn_four a b c x xs e = simp e refl

no_options : (p : ℕ) (h : Held) (w : Word) → (w ≡ workers_word) ⊎ ((w ≡ labels_word) ⊎ (w ≡ trace_word)) → clear (turn_fault three [] (resting_at p h) w) ≡ false
unfolding clap_on_literals
no_options p h w (inl e) = rw e refl
no_options p h w (inr (inl e)) = rw e refl
no_options p h w (inr (inr e)) = rw e refl

end_zero : clear (end_fault three nothing_held) ≡ false
unfolding clap_on_literals
end_zero = refl

end_one : (a : Word) → clear (end_fault three (one a)) ≡ false
unfolding clap_on_literals
end_one a = refl

end_two : (a b : Word) → clear (end_fault three (two a b)) ≡ false
unfolding clap_on_literals
end_two a b = refl

end_three : (a b c : Word) → end_fault three (all a b c) ≡ []
unfolding clap_on_literals
end_three a b c = refl

-- ---- all the words

abbrev IsOption : Word → Type 0
IsOption w = (w ≡ workers_word) ⊎ ((w ≡ labels_word) ⊎ (w ≡ trace_word))

option_or_plain : (w : Word) → Tame w → IsOption w ⊎ IsPlain w
option_or_plain w (inl e) = inl (inl e)
option_or_plain w (inr (inl e)) = inl (inr (inl e))
option_or_plain w (inr (inr (inl e))) = inl (inr (inr e))
option_or_plain w (inr (inr (inr p))) = inr p

no_number : (w : Word) → IsOption w → number_in w ≡ None
no_number w (inl e) = ap number_in e
no_number w (inr (inl e)) = ap number_in e
no_number w (inr (inr e)) = ap number_in e

no_made : (o p : Option ℕ) → made_of o p None ≡ None
no_made None p = refl
no_made (Some x) None = refl
no_made (Some x) (Some y) = refl

not_made : (o p : Option ℕ) → made_of o None p ≡ None
not_made None p = refl
not_made (Some x) p = refl

no_first : (w : Word) → number_in w ≡ None → (ws : List Word) → make_of (w ∷ ws) ≡ None
no_first w e [] = refl
no_first w e (b ∷ []) = refl
no_first w e (b ∷ c ∷ []) = rw e refl
no_first w e (b ∷ c ∷ d ∷ ws) = refl

no_second : (a w : Word) → number_in w ≡ None → (ws : List Word) → make_of (a ∷ w ∷ ws) ≡ None
no_second a w e [] = refl
no_second a w e (c ∷ []) = rw e (not_made (within 0 18446744073709551615 (number_in a)) (within 1 64 (number_in c)))
no_second a w e (c ∷ d ∷ ws) = refl

no_third : (a b w : Word) → number_in w ≡ None → (ws : List Word) → make_of (a ∷ b ∷ w ∷ ws) ≡ None
no_third a b w e [] = rw e (no_made (within 0 18446744073709551615 (number_in a)) (within 1 5000 (number_in b)))
no_third a b w e (d ∷ ws) = refl

-- the words are three, and these are the rows
pub record Three (ws : List Word) (o : Option (List Row)) : Type 0 where
  pub seed : Word
  pub rows : Word
  pub sessions : Word
  pub words : ws ≡ seed ∷ rows ∷ sessions ∷ []
  pub found : o ≡ Some (finished three.rules (all seed rows sessions))

abbrev pub Ends : List Word → Option (List Row) → Type 0
Ends ws o = ((o ≡ None) × (make_of ws ≡ None)) ⊎ Three ws o

moved : (ws : List Word) (o p : Option (List Row)) → o ≡ p → Ends ws p → Ends ws o
moved ws o p e h = subst (Ends ws) (sym e) h

from_three : (a b c : Word) (ws : List Word) → AllTame ws → Ends (a ∷ b ∷ c ∷ ws) (outcome three (resting_at 4 (all a b c)) ws)
from_three a b c [] t = inr (record { seed = a; rows = b; sessions = c; words = refl; found = ends three (resting_at 4 (all a b c)) (end_three a b c) })
from_three a b c (w ∷ ws) t = inl (fails three (resting_at 4 (all a b c)) w ws (elim (option_or_plain w t.0) [ inl o ↦ no_options 4 (all a b c) w o | inr p ↦ plain w p ]), refl)
  where
    plain : (w : Word) → IsPlain w → clear (turn_fault three [] (resting_at 4 (all a b c)) w) ≡ false
    plain [] p = absurd p
    plain (x ∷ xs) p = turn_four a b c x xs p

from_two : (a b : Word) (ws : List Word) → AllTame ws → Ends (a ∷ b ∷ ws) (outcome three (resting_at 3 (two a b)) ws)
from_two a b [] t = inl (ends_badly three (resting_at 3 (two a b)) (end_two a b), refl)
from_two a b (w ∷ ws) t = elim (option_or_plain w t.0) [
  | inl o ↦ inl (fails three (resting_at 3 (two a b)) w ws (no_options 3 (two a b) w o), no_third a b w (no_number w o) ws)
  | inr p ↦ plain w p
]
  where
    plain : (w : Word) → IsPlain w → Ends (a ∷ b ∷ w ∷ ws) (outcome three (resting_at 3 (two a b)) (w ∷ ws))
    plain [] p = absurd p
    plain (x ∷ xs) p = moved _ _ _ (passes three (resting_at 3 (two a b)) (resting_at 4 (all a b (x ∷ xs))) (x ∷ xs) ws (ap clear (turn_three a b x xs p)) (to_three a b x xs p)) (from_three a b (x ∷ xs) ws t.1)

from_one : (a : Word) (ws : List Word) → AllTame ws → Ends (a ∷ ws) (outcome three (resting_at 2 (one a)) ws)
from_one a [] t = inl (ends_badly three (resting_at 2 (one a)) (end_one a), refl)
from_one a (w ∷ ws) t = elim (option_or_plain w t.0) [
  | inl o ↦ inl (fails three (resting_at 2 (one a)) w ws (no_options 2 (one a) w o), no_second a w (no_number w o) ws)
  | inr p ↦ plain w p
]
  where
    plain : (w : Word) → IsPlain w → Ends (a ∷ w ∷ ws) (outcome three (resting_at 2 (one a)) (w ∷ ws))
    plain [] p = absurd p
    plain (x ∷ xs) p = moved _ _ _ (passes three (resting_at 2 (one a)) (resting_at 3 (two a (x ∷ xs))) (x ∷ xs) ws (ap clear (turn_two a x xs p)) (to_two a x xs p)) (from_two a (x ∷ xs) ws t.1)

from_none : (ws : List Word) → AllTame ws → Ends ws (outcome three (resting nothing_held) ws)
from_none [] t = inl (ends_badly three (resting nothing_held) end_zero, refl)
from_none (w ∷ ws) t = elim (option_or_plain w t.0) [
  | inl o ↦ inl (fails three (resting nothing_held) w ws (no_options 1 nothing_held w o), no_first w (no_number w o) ws)
  | inr p ↦ plain w p
]
  where
    plain : (w : Word) → IsPlain w → Ends (w ∷ ws) (outcome three (resting nothing_held) (w ∷ ws))
    plain [] p = absurd p
    plain (x ∷ xs) p = moved _ _ _ (passes three (resting nothing_held) (resting_at 2 (one (x ∷ xs))) (x ∷ xs) ws (ap clear (turn_one x xs p)) (to_one x xs p)) (from_one (x ∷ xs) ws t.1)

found_make : (words : List Word) → rows_found make_app words ≡ outcome three (resting nothing_held) (drop 1 words)
unfolding rows_found
found_make words = ap (λ k. if clear k then Some (matches_of make_app words) else None) (leaf_fault (built make_app) nothing_held (drop 1 words) refl)

pub ends_make : (words : List Word) → AllTame (drop 1 words) → Ends (drop 1 words) (rows_found make_app words)
ends_make words t = moved (drop 1 words) _ _ (found_make words) (from_none (drop 1 words) t)

pub refused_make : (words : List Word) → AllTame (drop 1 words) → rows_found make_app words ≡ None → make_of (drop 1 words) ≡ None
refused_make words t e = elim (ends_make words t) [
  | inl h ↦ h.1
  | inr h ↦ absurd (let z : Some (finished three.rules (all h.seed h.rows h.sessions)) ≡ None = sym h.found ∙ e in cc)
]

-- what the getters read of three words
pub record Makes (ws : List Word) (rows : List Row) : Type 0 where
  pub seed : Word
  pub rows_word : Word
  pub sessions : Word
  pub words : ws ≡ seed ∷ rows_word ∷ sessions ∷ []
  pub seed_is : first_of (codes "seed") rows ≡ Some seed
  pub rows_is : first_of (codes "rows") rows ≡ Some rows_word
  pub sessions_is : first_of (codes "sessions") rows ≡ Some sessions

pub taken_make : (words : List Word) (rows : List Row) → AllTame (drop 1 words) → rows_found make_app words ≡ Some rows → Makes (drop 1 words) rows
taken_make words rows t e = elim (ends_make words t) [
  | inl h ↦ absurd (let z : Some rows ≡ None = sym e ∙ h.0 in cc)
  | inr h ↦ let same : rows ≡ finished three.rules (all h.seed h.rows h.sessions) = some_same (sym e ∙ h.found) in record {
    seed = h.seed;
    rows_word = h.rows;
    sessions = h.sessions;
    words = h.words;
    seed_is = ap (first_of (codes "seed")) same;
    rows_is = ap (first_of (codes "rows")) same;
    sessions_is = ap (first_of (codes "sessions")) same;
  }
]
  where
    some_same : {X : Type 0} {x y : X} → Some x ≡ Some y → x ≡ y
    some_same e = cc
