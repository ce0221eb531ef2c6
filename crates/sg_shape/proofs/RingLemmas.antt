-- Lemmas on rings.
use Rattle.std.proofs.Common.{◌≡◌, ℕ, ◌+◌, ◌-◌, ◌<◌, ◌≤◌, Bool, true, false, cond, not, List, [], ◌∷◌, ◌++◌, length, get_or, drop, flat_map, Option, Some, None, option_map, refl, sym, ap, ◌∙◌, subst, arith, add-one, suc, drop-cons, length-append}
use Rattle.std.specs.List.{position_from}
use Rattle.sg_shape.specs.declared.spots.Spot.{Spot}
use Rattle.sg_shape.specs.Plane.{last_of, same_spot}
use Rattle.sg_shape.specs.Sound.{is_open}

last_at : (s : Spot) (rest : List Spot) (d : Spot) → last_of s rest ≡ get_or (s ∷ rest) (length rest) d
last_at s [] d = refl
last_at s (t ∷ rest) d = last_at t rest d

-- whether a ring is open, by its first and last place
pub is_open-at : (ring : List Spot) (d : Spot) → 2 ≤ length ring → is_open ring ≡ not (same_spot (get_or ring 0 d) (get_or ring (length ring - 1) d))
is_open-at [] d h = absurd (omega arith)
is_open-at (s ∷ rest) d h =
    ap (λ (t : Spot). not (same_spot s t)) (last_at s rest d ∙ ap (λ (i : ℕ). get_or (s ∷ rest) i d) back)
  where
    back : length rest ≡ length (s ∷ rest) - 1
    back = omega arith

module _ {X : Type 0} (p : X → Bool) where
  step_none : (t : Bool) (n : ℕ) (o : Option ℕ) → cond t (Some n) o ≡ None → (t ≡ false) × (o ≡ None)
  step_none true n o e = cc
  step_none false n o e = (refl, e)

  -- the first place in the second part, where the first part has none
  pub position_from-append_none : (m n : ℕ) (xs ys : List X) → position_from p m xs ≡ None → position_from p n (xs ++ ys) ≡ position_from p (n + length xs) ys
  position_from-append_none m n [] ys e = ap (λ (k : ℕ). position_from p k ys) (omega arith)
  position_from-append_none m n (x ∷ xs) ys e =
      let d = step_none (p x) m (position_from p (m + 1) xs) e in
      rw d.0 (position_from-append_none (m + 1) (n + 1) xs ys d.1 ∙ ap (λ (k : ℕ). position_from p k ys) (omega arith))

  same_step : (t : Bool) (n j : ℕ) (o q : Option ℕ) → (o ≡ Some j → q ≡ Some j) → cond t (Some n) o ≡ Some j → cond t (Some n) q ≡ Some j
  same_step true n j o q f e = e
  same_step false n j o q f e = f e

  position_from-append_same : (n j : ℕ) (xs ys : List X) → position_from p n xs ≡ Some j → position_from p n (xs ++ ys) ≡ Some j
  position_from-append_same n j [] ys e = cc
  position_from-append_same n j (x ∷ xs) ys e =
      same_step (p x) n j _ _ (position_from-append_same (n + 1) j xs ys) e

  shift_step : (t : Bool) (k m : ℕ) (o q : Option ℕ) → o ≡ option_map (λ j. k + j) q → cond t (Some (k + m)) o ≡ option_map (λ j. k + j) (cond t (Some m) q)
  shift_step true k m o q e = refl
  shift_step false k m o q e = e

  position_from-shift : (k m : ℕ) (xs : List X) → position_from p (k + m) xs ≡ option_map (λ j. k + j) (position_from p m xs)
  position_from-shift k m [] = refl
  position_from-shift k m (x ∷ xs) =
      shift_step (p x) k m _ _ (ap (λ (i : ℕ). position_from p i xs) (omega arith) ∙ position_from-shift k (m + 1) xs)

  -- the first place in the first part
  pub position_from-append_some : (n i : ℕ) (xs ys : List X) → position_from p 0 xs ≡ Some i → position_from p n (xs ++ ys) ≡ Some (n + i)
  position_from-append_some n i xs ys e =
      position_from-append_same n (n + i) xs ys
      (ap (λ (k : ℕ). position_from p k xs) (omega arith) ∙ position_from-shift n 0 xs ∙ ap (option_map (λ j. n + j)) e)

  pub position_from-below : (n j : ℕ) (xs : List X) → position_from p n xs ≡ Some j → j < n + length xs
  position_from-below n j [] e = cc
  position_from-below n j (x ∷ xs) e = below_step (p x) n j (length xs) (position_from p (n + 1) xs) e (position_from-below (n + 1) j xs)
    where
      below_step : (t : Bool) (n j len : ℕ) (o : Option ℕ) → cond t (Some n) o ≡ Some j → (o ≡ Some j → j < n + 1 + len) → j < n + suc len
      below_step true n j len o e f = let same : n ≡ j = cc in omega arith
      below_step false n j len o e f = let b = f e in omega arith

-- ---- the loop over rings
ahead : (rings : List (List Spot)) (i : ℕ) (ring d : List Spot) → i < length rings → ring ≡ get_or rings i d → drop i rings ≡ ring ∷ drop (i + 1) rings
ahead rings i ring d h e = rw add-one (drop-cons rings i d h ∙ ap (λ (r : List Spot). r ∷ drop (suc i) rings) (sym e))

pub record Ahead (p : Spot → Bool) (before : ℕ) (rings all : List (List Spot)) : Type 0 where
  pub count : before + length (flat_map (λ ring. ring) rings) ≡ length (flat_map (λ ring. ring) all)
  pub first : position_from p 0 (flat_map (λ ring. ring) all) ≡ position_from p before (flat_map (λ ring. ring) rings)

next_ring : (p : Spot → Bool) (before : ℕ) (ring : List Spot) (rest all : List (List Spot)) → position_from p 0 ring ≡ None →
    Ahead p before (ring ∷ rest) all → Ahead p (before + length ring) rest all
next_ring p before ring rest all none h = record {
  count = omega (arith, h.count, length-append ring (flat_map (λ ring. ring) rest));
  first = h.first ∙ position_from-append_none p 0 before ring (flat_map (λ ring. ring) rest) none;
}

pub Ahead-step : (p : Spot → Bool) (before i : ℕ) (ring d : List Spot) (all : List (List Spot)) → i < length all → ring ≡ get_or all i d → position_from p 0 ring ≡ None →
    Ahead p before (drop i all) all → Ahead p (before + length ring) (drop (i + 1) all) all
Ahead-step p before i ring d all h e none a =
    next_ring p before ring (drop (i + 1) all) all none (subst (λ (r : List (List Spot)). Ahead p before r all) (ahead all i ring d h e) a)

pub Ahead-found : (p : Spot → Bool) (before i at : ℕ) (ring d : List Spot) (all : List (List Spot)) → i < length all → ring ≡ get_or all i d → position_from p 0 ring ≡ Some at →
    Ahead p before (drop i all) all → Some (before + at) ≡ position_from p 0 (flat_map (λ ring. ring) all)
Ahead-found p before i at ring d all h e found a =
    let here : Ahead p before (ring ∷ drop (i + 1) all) all = subst (λ (r : List (List Spot)). Ahead p before r all) (ahead all i ring d h e) a in
    sym (here.first ∙ position_from-append_some p before at ring (flat_map (λ ring. ring) (drop (i + 1) all)) found)

pub Ahead-fits : (p : Spot → Bool) (before i at : ℕ) (ring d : List Spot) (all : List (List Spot)) → i < length all → ring ≡ get_or all i d → position_from p 0 ring ≡ Some at →
    Ahead p before (drop i all) all → before + at < length (flat_map (λ ring. ring) all)
Ahead-fits p before i at ring d all h e found a =
    let here : Ahead p before (ring ∷ drop (i + 1) all) all = subst (λ (r : List (List Spot)). Ahead p before r all) (ahead all i ring d h e) a in
    omega (arith, here.count, length-append ring (flat_map (λ ring. ring) (drop (i + 1) all)), position_from-below p 0 at ring found)
