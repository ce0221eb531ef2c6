-- The places of a cell, by its id.
use Rattle.std.proofs.Common.{ℕ, zero, suc, ◌≡◌, ◌+◌, ◌-◌, ◌*◌, ◌/◌, ◌%◌, ◌<◌, ◌≤◌, arith, ap, ◌∙◌, [], ◌∷◌, length}
use Rattle.std.specs.Prelude.{slice_index}
use native.Mathlib.Nat.{mul-add-div_right, add-mul-mod_self_right, mod-eq_of_lt}
use Rattle.std.proofs.lemmas.Nat.{div-mul-add}
use Rattle.sg_cells.proofs.Ids.{id_room}
use Rattle.sg_cells.proofs.Fronts.{weight_pos, weight-add}
use Rattle.sg_cells.specs.Cells.{Cell, IsCode, weight, id_from, id_of}

-- what counts more than a weight by whole bytes leaves the byte at the weight as it is
below_byte : (d big v w r : ℕ) → big ≡ 256 * v * w → 0 < w → (d * big + r) / w % 256 ≡ r / w % 256
below_byte d big v w r f h =
    let a : d * big + r ≡ d * v * 256 * w + r = ap (λ b. d * b + r) f ∙ grind arith in
    let b : (d * v * 256 * w + r) / w ≡ d * v * 256 + r / w = mul-add-div_right h (d * v * 256) r in
    let e : d * v * 256 + r / w ≡ r / w + d * v * 256 = omega arith in
    ap (λ x. x / w % 256) a ∙ (ap (λ x. x % 256) (b ∙ e) ∙ add-mul-mod_self_right (r / w) (d * v) 256)

place_from : (l k j : ℕ) (c : Cell) → k + l < 256 → IsCode l c → j < length c → id_from l k c / weight (l - j) % 256 ≡ slice_index c j
place_from l k j [] r h s = absurd (omega arith)
place_from zero k j (d ∷ ds) r h s = absurd h
place_from (suc l) k zero (d ∷ ds) r h s =
    let e : suc l - 0 ≡ suc l = omega arith in
    let x = id_room l (suc k) ds (omega arith) h.1 in
    let q = div-mul-add d (weight (suc l)) (id_from l (suc k) ds) x in
    rw (e, q) (mod-eq_of_lt h.0)
place_from (suc l) k (suc j) (d ∷ ds) r h s =
    let y = Rattle.sg_cells.proofs.Paths.short_code l ds h.1 in
    let e : suc l - suc j ≡ l - j = omega arith in
    let f : weight (suc l) ≡ 256 * weight j * weight (l - j) = split l j (omega arith) in
    rw e (below_byte d (weight (suc l)) (weight j) (weight (l - j)) (id_from l (suc k) ds) f (weight_pos (l - j)) ∙ place_from l (suc k) j ds (omega arith) h.1 (omega arith))
  where
    split : (l j : ℕ) → j ≤ l → weight (suc l) ≡ 256 * weight j * weight (l - j)
    split l j h =
        let a : l ≡ (l - j) + j = omega arith in
        ap (λ x. 256 * x) (ap weight a ∙ weight-add (l - j) j) ∙ grind arith

-- the place at a level
pub place_of_id : (n j : ℕ) (c : Cell) → n < 256 → IsCode n c → j < length c → id_of n c / weight (n - j) % 256 ≡ slice_index c j
place_of_id n j c r h s = place_from n 0 j c (omega arith) h s
