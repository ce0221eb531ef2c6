-- Seats of sessions in a list.
use Rattle.std.specs.Prelude.{map, is_some, ◌-◌}
use Rattle.std.proofs.Common.{◌≡◌, ◌≢◌, ℕ, zero, suc, ◌+◌, ◌≤◌, ◌<◌, Bool, true, false, cond, List, [], ◌∷◌, length, get_or, set, refl, sym, ap, ◌∙◌, arith, get_or-set_same, get_or-set_other}
use Rattle.std.proofs.lemmas.List.{get_or-map, map-set, length-set}
use Rattle.sg_modes.specs.Sessions.{IsSession}
use Rattle.sg_engine.specs.declared.shared.Seat.{Seat}
use Rattle.sg_engine.specs.Shown.{Seated, empty_seat, seat_in}
use Rattle.sg_engine.specs.Inside.{seat_of}
use Rattle.sg_engine.specs.Ties.{is_running, running_count}

module _ (seats : List Seat) (i : ℕ) (within : i < length seats) where
  -- the seat of a session
  pub seat_at : (s : ℕ) → i + 1 ≡ s → (d : Seat) → d ≡ get_or seats i d → seat_in (map seat_of seats) s ≡ seat_of d
  seat_at s e d is =
      let at : s - 1 ≡ i = omega arith in
      ap (λ n. get_or (map seat_of seats) n empty_seat) at ∙ (get_or-map seat_of seats i d empty_seat within ∙ ap seat_of (sym is))

  module _ (x : Seat) where
    pub seat_set : (s : ℕ) → i + 1 ≡ s → seat_in (map seat_of (set seats i x)) s ≡ seat_of x
    seat_set s e =
        let at : s - 1 ≡ i = omega arith in
        let long : i < length (set seats i x) = (let l = length-set seats i x in omega (arith, l)) in
        ap (λ n. get_or (map seat_of (set seats i x)) n empty_seat) at ∙ (get_or-map seat_of (set seats i x) i x empty_seat long ∙ ap seat_of (get_or-set_same seats i x x within))

    pub seat_kept : (u : ℕ) → IsSession u → i + 1 ≢ u → seat_in (map seat_of (set seats i x)) u ≡ seat_in (map seat_of seats) u
    seat_kept u session ne =
        ap (λ xs. get_or xs (u - 1) empty_seat) (map-set seat_of seats i x)
        ∙ get_or-set_other (map seat_of seats) i (u - 1) (seat_of x) empty_seat (λ e. ne (omega (arith, e)))

pub length_map : (xs : List Seat) → length (map seat_of xs) ≡ length xs
length_map [] = refl
length_map (x ∷ xs) = ap (λ n. suc n) (length_map xs)

-- ---- how many run
pub count_set : (xs : List Seated) (i : ℕ) (x d : Seated) → i < length xs → running_count (set xs i x) + is_running (get_or xs i d) ≡ running_count xs + is_running x
count_set [] i x d h = absurd (omega arith)
count_set (y ∷ ys) zero x d h = omega arith
count_set (y ∷ ys) (suc i) x d h = let ih = count_set ys i x d (omega arith) in omega (arith, ih)

running_most : (x : Seated) → is_running x ≤ 1
running_most x = by_test (is_some x.running)
  where
    by_test : (b : Bool) → cond b 1 0 ≤ 1
    by_test true = omega arith
    by_test false = omega arith

pub count_most : (xs : List Seated) → running_count xs ≤ length xs
count_most [] = omega arith
count_most (x ∷ xs) = let h = running_most x in let ih = count_most xs in omega (arith, h, ih)
