-- The first places of a cell, by its id, and its ancestors as such.
use Rattle.std.proofs.Common.{ℕ, zero, suc, ◌≡◌, ◌+◌, ◌-◌, ◌*◌, ◌/◌, ◌<◌, ◌≤◌, arith, refl, sym, ap, ◌∙◌, [], ◌∷◌, length, map}
use native.Mathlib.Nat.{mul-add-div_right, div-eq_of_lt}
use Rattle.sg_cells.proofs.Ids.{id_room}
use Rattle.sg_cells.specs.Cells.{Cell, IsCode, weight, id_from, id_of}
use Rattle.sg_cells.specs.Ranges.{ancestors, fronts}
use Rattle.sg_cells.specs.Cells.{front}

pub weight_pos : (l : ℕ) → 0 < weight l
weight_pos zero = omega arith
weight_pos (suc l) = let h = weight_pos l in omega arith

pub weight-add : (a b : ℕ) → weight (a + b) ≡ weight b * weight a
weight-add a zero = let e : a + 0 ≡ a = omega arith in ap weight e ∙ omega arith
weight-add a (suc b) = let e : a + suc b ≡ suc (a + b) = omega arith in ap weight e ∙ (ap (λ x. 256 * x) (weight-add a b) ∙ grind arith)

front_from : (l k m : ℕ) (c : Cell) → k + l < 256 → IsCode l c → m ≤ length c → id_from l k (front m c) ≡ id_from l k c / weight (suc l - m) * weight (suc l - m) + (k + m)
front_from l k zero c r h s =
    let e : suc l - 0 ≡ suc l = omega arith in
    let x = id_room l k c r h in
    let q : id_from l k c / weight (suc l) ≡ 0 = div-eq_of_lt x in
    rw (e, q) (omega arith)
front_from l k (suc m) [] r h s = absurd (omega arith)
front_from zero k (suc m) (d ∷ ds) r h s = absurd h
front_from (suc l) k (suc m) (d ∷ ds) r h s =
    let ih = front_from l (suc k) m ds (omega arith) h.1 (omega arith) in
    let w = weight (suc l - m) in
    let e : suc (suc l) - suc m ≡ suc l - m = omega arith in
    let x = id_room l (suc k) ds (omega arith) h.1 in
    let y = Rattle.sg_cells.proofs.Paths.short_code l ds h.1 in
    let f : weight (suc l) ≡ weight m * w = ap weight (sum_back l m (omega arith)) ∙ weight-add (suc l - m) m in
    rw e (join d (weight (suc l)) (weight m) w (id_from l (suc k) ds) (id_from l (suc k) (front m ds)) (suc k + m) (k + suc m) f (weight_pos (suc l - m)) (omega arith) ih)
  where
    sum_back : (l m : ℕ) → m ≤ l → suc l ≡ suc l - m + m
    sum_back l m h = omega arith

    join : (d big v w r s j i : ℕ) → big ≡ v * w → 0 < w → j ≡ i → s ≡ r / w * w + j → d * big + s ≡ (d * big + r) / w * w + i
    join d big v w r s j i f h e g =
        let a : d * big + r ≡ d * v * w + r = ap (λ b. d * b + r) f ∙ grind arith in
        let b : (d * v * w + r) / w ≡ d * v + r / w = mul-add-div_right h (d * v) r in
        let c : (d * big + r) / w ≡ d * v + r / w = ap (λ x. x / w) a ∙ b in
        let t : (d * v + r / w) * w ≡ d * v * w + r / w * w = grind arith in
        let u : d * big ≡ d * v * w = ap (λ b. d * b) f ∙ grind arith in
        let z : (d * big + r) / w * w ≡ (d * v + r / w) * w = ap (λ x. x * w) c in
        omega arith

-- the id of a cell's first m places
pub front_id : (n m : ℕ) (c : Cell) → n < 256 → IsCode n c → m ≤ length c → id_of n (front m c) ≡ id_of n c / weight (suc n - m) * weight (suc n - m) + m
front_id n m c r h s = front_from n 0 m c (omega arith) h s ∙ omega arith

pub front_code : (n m : ℕ) (c : Cell) → IsCode n c → IsCode n (front m c)
front_code n zero c h = tt
front_code n (suc m) [] h = tt
front_code zero (suc m) (d ∷ ds) h = absurd h
front_code (suc n) (suc m) (d ∷ ds) h = (h.0, front_code n m ds h.1)

fronts_map : (d : ℕ) (c : Cell) (i n : ℕ) → map (λ a. d ∷ a) (fronts c i n) ≡ fronts (d ∷ c) (suc i) n
fronts_map d c i zero = refl
fronts_map d c i (suc n) = ap (λ x. (d ∷ front i c) ∷ x) (fronts_map d c (suc i) n)

-- the ancestors of a cell are its first places
pub ancestors_fronts : (c : Cell) → ancestors c ≡ fronts c 1 (length c - 1)
ancestors_fronts [] = refl
ancestors_fronts (d ∷ []) = refl
ancestors_fronts (d ∷ e ∷ es) =
    let n : suc (suc (length es)) - 1 ≡ suc (length es) = omega arith in
    let m : suc (length es) - 1 ≡ length es = omega arith in
    let x = ap (map (λ a. d ∷ a)) (ancestors_fronts (e ∷ es)) ∙ (fronts_map d (e ∷ es) 1 (suc (length es) - 1) ∙ ap (fronts (d ∷ e ∷ es) 2) m) in
    ap (λ z. (d ∷ []) ∷ z) x ∙ ap (fronts (d ∷ e ∷ es) 1) (sym n)
