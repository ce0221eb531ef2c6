-- The ranges of cells that lie in order and apart rise, without repeats or overlaps.
use Rattle.std.proofs.Common.{ℕ, zero, suc, ◌≡◌, ◌+◌, ◌*◌, ◌<◌, ◌≤◌, arith, refl, sym, ◌∙◌, subst, Bool, true, false, not, cond, leb, List, [], ◌∷◌, ◌++◌, map, inl, inr}
use mathlib.Core.Bool.{◌&&◌}
use Rattle.std.proofs.lemmas.Bool.{cases_lt, leb-true, le-leb}
use Rattle.sg_algebra.proofs.Comparisons.{right_true, both}
use Rattle.sg_cells.proofs.Ids.{contains_interval}
use Rattle.sg_cells.proofs.Related.{contains_trans, has_above, above_contains}
use Rattle.sg_cells.proofs.Tessellates.{id-le-last_of}
use Rattle.sg_cells.specs.Cells.{Cell, IsCode, weight, contains, id_from, id_of, last_of}
use Rattle.sg_cells.specs.Ranges.{ancestors, is_ancestor, fresh, alone, ranges_after, ranges}
use Rattle.sg_cells.specs.Laws.{Has, IsDeep, Spread, Steps, AllCodes}

-- the numbers of a list of cells rise from lo and stay below hi
abbrev Climb : (Cell → ℕ) → ℕ → List Cell → ℕ → Type 0
Climb f lo [] hi = lo ≤ hi
Climb f lo (a ∷ as') hi = (lo ≤ f a) × Climb f (suc (f a)) as' hi

climb_le : (f : Cell → ℕ) (lo : ℕ) (as' : List Cell) (hi : ℕ) → Climb f lo as' hi → lo ≤ hi
climb_le f lo [] hi h = h
climb_le f lo (a ∷ as') hi h = let z = climb_le f (suc (f a)) as' hi h.1 in let y = h.0 in omega arith

climb_has : (f : Cell → ℕ) (lo : ℕ) (as' : List Cell) (hi : ℕ) (a : Cell) → Climb f lo as' hi → Has as' a → lo ≤ f a
climb_has f lo [] hi a h m = absurd m
climb_has f lo (x ∷ xs) hi a h (inl e) = subst (λ z. lo ≤ f z) e h.0
climb_has f lo (x ∷ xs) hi a h (inr m) = let z = climb_has f (suc (f x)) xs hi a h.1 m in let y = h.0 in omega arith

climb_map : (l k d lo : ℕ) (as' : List Cell) (hi : ℕ) → Climb (id_from l (suc k)) lo as' hi → Climb (id_from (suc l) k) (d * weight (suc l) + lo) (map (λ a. d ∷ a) as') (d * weight (suc l) + hi)
climb_map l k d lo [] hi h = omega arith
climb_map l k d lo (a ∷ as') hi h =
    (let z = h.0 in omega arith, subst (λ n. Climb (id_from (suc l) k) n (map (λ a. d ∷ a) as') (d * weight (suc l) + hi)) (omega arith) (climb_map l k d (suc (id_from l (suc k) a)) as' hi h.1))

ancestors_climb : (l k : ℕ) (q : Cell) → IsCode l q → IsDeep q → Climb (id_from l k) (suc k) (ancestors q) (id_from l k q)
ancestors_climb l k [] c h = absurd h
ancestors_climb zero k (d ∷ ds) c h = absurd c
ancestors_climb (suc l) k (d ∷ []) c h = omega arith
ancestors_climb (suc l) k (d ∷ e ∷ es) c h =
    (omega arith, subst (λ n. Climb (id_from (suc l) k) n (map (λ a. d ∷ a) (ancestors (e ∷ es))) (id_from (suc l) k (d ∷ e ∷ es))) (omega arith) (climb_map l k d (suc (suc k)) (ancestors (e ∷ es)) (id_from l (suc k) (e ∷ es)) (ancestors_climb l (suc k) (e ∷ es) c.1 tt)))

climb_of : (n : ℕ) (q : Cell) → IsCode n q → Climb (id_of n) 0 (ancestors q) (id_of n q)
climb_of n [] c = omega arith
climb_of n (d ∷ ds) c = lower (ancestors (d ∷ ds)) (ancestors_climb n 0 (d ∷ ds) c tt)
  where
    lower : (as' : List Cell) → Climb (id_of n) 1 as' (id_of n (d ∷ ds)) → Climb (id_of n) 0 as' (id_of n (d ∷ ds))
    lower [] h = omega arith
    lower (a ∷ as') h = (omega arith, h.1)

fresh_climb : (f : Cell → ℕ) (p : Cell) (m lo : ℕ) (as' : List Cell) (hi : ℕ) → Climb f m as' hi → ((a : Cell) → Has as' a → is_ancestor a p ≡ false → lo ≤ f a) → lo ≤ hi → Climb f lo (fresh p as') hi
fresh_climb f p m lo [] hi h low l = l
fresh_climb f p m lo (a ∷ as') hi h low l =
    go (is_ancestor a p) refl
    (fresh_climb f p (suc (f a)) lo as' hi h.1 (λ b w e. low b (inr w) e) l)
    (fresh_climb f p (suc (f a)) (suc (f a)) as' hi h.1 (λ b w e. climb_has f (suc (f a)) as' hi b h.1 w) (climb_le f (suc (f a)) as' hi h.1))
  where
    go : (b : Bool) → is_ancestor a p ≡ b → Climb f lo (fresh p as') hi → Climb f (suc (f a)) (fresh p as') hi → Climb f lo (cond b (fresh p as') (a ∷ fresh p as')) hi
    go true e x y = x
    go false e x y = (low a (inl refl) e, y)

steps_alone : (n lo : ℕ) (as' : List Cell) (hi : ℕ) (pairs : List (ℕ × ℕ)) → Climb (id_of n) lo as' hi → Steps hi pairs → Steps lo (alone n as' ++ pairs)
steps_alone n lo [] hi pairs h s = lower pairs s
  where
    lower : (ps : List (ℕ × ℕ)) → Steps hi ps → Steps lo ps
    lower [] s = tt
    lower (p ∷ ps) s = (let z = s.0 in omega arith, s.1)
steps_alone n lo (a ∷ as') hi pairs h s = (h.0, (omega arith, steps_alone n (suc (id_of n a)) as' hi pairs h.1 s))

clash : (b : Bool) → b ≡ true → b ≡ false → ⊥
clash b u v = cc

-- An ancestor of a cell that is none of the cell before stands behind that one.
above_next : (n : ℕ) (p a q : Cell) → n < 256 → IsCode n p → IsCode n a → IsCode n q → last_of n p < id_of n q → contains a q ≡ true → is_ancestor a p ≡ false → last_of n p < id_of n a
above_next n p a q r hp ha hq l c f =
    elim (cases_lt (last_of n p) (id_of n a)) [
      | inl h ↦ h
      | inr h ↦ elim (cases_lt (id_of n a) (id_of n p)) [
        | inl k ↦
            let i = sym (contains_interval n a q r ha hq) ∙ c in
            let z = leb-true _ _ (right_true (leb (id_of n a) (id_of n q)) _ i) in
            let y = id-le-last_of n p in
            let t : contains a p ≡ true = contains_interval n a p r ha hp ∙ both (leb (id_of n a) (id_of n p)) (leb (id_of n p) (last_of n a)) (le-leb _ _ (omega arith)) (le-leb _ _ (omega arith)) in
            absurd (bad (turn (contains a p) (contains p a) t f))
        | inr k ↦ absurd (bad (contains_interval n p a r hp ha ∙ both (leb (id_of n p) (id_of n a)) (leb (id_of n a) (last_of n p)) (le-leb _ _ k) (le-leb _ _ h)))
      ]
    ]
  where
    bad : contains p a ≡ true → ⊥
    bad e =
        let t = sym (contains_interval n p q r hp hq) ∙ contains_trans p a q e c in
        let z = leb-true (id_of n q) (last_of n p) (right_true (leb (id_of n p) (id_of n q)) _ t) in
        omega arith

    turn : (x y : Bool) → x ≡ true → (x && not y) ≡ false → y ≡ true
    turn true true e f = refl
    turn true false e f = absurd (cc)
    turn false y e f = absurd (cc)

abbrev Low : ℕ → Cell → ℕ → List Cell → Type 0
Low n p lo [] = Unit {0}
Low n p lo (q ∷ qs) = (a : Cell) → IsCode n a → contains a q ≡ true → is_ancestor a p ≡ false → lo ≤ id_of n a

next_low : (n : ℕ) (p : Cell) (hi : ℕ) (qs : List Cell) → n < 256 → IsCode n p → AllCodes n qs → Spread n (suc (last_of n p)) hi qs → Low n p (suc (last_of n p)) qs
next_low n p hi [] r hp a s = tt
next_low n p hi (q ∷ qs) r hp a s = λ b hb c f. above_next n p b q r hp hb a.0 s.0 c f

ranges_step : (n : ℕ) (p : Cell) (lo hi : ℕ) (qs : List Cell) → n < 256 → AllCodes n qs → Low n p lo qs → Spread n lo hi qs → Steps lo (ranges_after n p qs)
ranges_step n p lo hi [] r a w s = tt
ranges_step n p lo hi (q ∷ qs) r a w s =
    let rest = ranges_step n q (suc (last_of n q)) hi qs r a.1 (next_low n q hi qs r a.0 a.1 s.1.1) s.1.1 in
    steps_alone n lo (fresh p (ancestors q)) (id_of n q) _
    (fresh_climb (id_of n) p 0 lo (ancestors q) (id_of n q) (climb_of n q a.0) (λ b m f. let u = has_above n q b a.0 m in w b u.code (above_contains n b q u) f) s.0)
    (omega arith, (id-le-last_of n q, rest))

first_low : (n : ℕ) (qs : List Cell) → Low n [] 0 qs
first_low n [] = tt
first_low n (q ∷ qs) = λ a h c f. omega arith

pub ranges_rise : (n hi : ℕ) (qs : List Cell) → n < 256 → AllCodes n qs → Spread n 0 hi qs → Steps 0 (ranges n qs)
ranges_rise n hi qs r a s = ranges_step n [] 0 hi qs r a (first_low n qs) s
