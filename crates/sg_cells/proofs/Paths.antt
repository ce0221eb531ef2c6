-- A cell and its id give each other.
use Rattle.std.proofs.Common.{ℕ, zero, suc, ◌≡◌, ◌+◌, ◌-◌, ◌*◌, ◌%◌, ◌<◌, ◌≤◌, arith, refl, ap, ◌∙◌, [], ◌∷◌, length}
use Rattle.std.proofs.lemmas.Nat.{div-mul-add, mod-mul-add}
use Rattle.sg_cells.proofs.Ids.{id_room}
use Rattle.sg_cells.specs.Cells.{Cell, IsCode, weight, filled, id_from, last_from, id_of, last_of, path_from, path_of, filled_path, last_path}

weight_mod : (l d r : ℕ) → (d * weight (suc l) + r) % 256 ≡ r % 256
weight_mod l d r =
    let e : d * weight (suc l) + r ≡ r + d * weight l * 256 = grind arith in
    rw e (native.Mathlib.Nat.add-mul-mod_self_right r (d * weight l) 256)

level_from : (l k : ℕ) (c : Cell) → k + l < 256 → IsCode l c → id_from l k c % 256 ≡ k + length c
level_from l k [] r h = native.Mathlib.Nat.mod-eq_of_lt (omega arith) ∙ omega arith
level_from zero k (d ∷ ds) r h = absurd h
level_from (suc l) k (d ∷ ds) r h = weight_mod l d (id_from l (suc k) ds) ∙ (level_from l (suc k) ds (omega arith) h.1 ∙ omega arith)

-- the last byte of an id is the level
pub level_of_id : (n : ℕ) (c : Cell) → n < 256 → IsCode n c → id_of n c % 256 ≡ length c
level_of_id n c r h = level_from n 0 c (omega arith) h ∙ omega arith

path_back : (l k : ℕ) (c : Cell) → k + l < 256 → IsCode l c → path_from l (length c) (id_from l k c) ≡ c
path_back l k [] r h = refl
path_back zero k (d ∷ ds) r h = absurd h
path_back (suc l) k (d ∷ ds) r h =
    let x = id_room l (suc k) ds (omega arith) h.1 in
    let q = div-mul-add d (weight (suc l)) (id_from l (suc k) ds) x in
    let m = mod-mul-add d (weight (suc l)) (id_from l (suc k) ds) x in
    rw (q, m, path_back l (suc k) ds (omega arith) h.1) refl

pub path_of_id : (n : ℕ) (c : Cell) → n < 256 → IsCode n c → path_of n (id_of n c) ≡ c
path_of_id n c r h = ap (λ m. path_from n m (id_of n c)) (level_of_id n c r h) ∙ path_back n 0 c (omega arith) h

filled_code : (l : ℕ) (c : Cell) → IsCode l c → IsCode l (filled_path l c)
filled_code zero c h = h
filled_code (suc l) [] h = (omega arith, filled_code l [] tt)
filled_code (suc l) (d ∷ ds) h = (h.0, filled_code l ds h.1)

pub last_code : (n : ℕ) (c : Cell) → IsCode n c → IsCode n (last_path n c)
last_code n [] h = tt
last_code n (d ∷ ds) h = filled_code n (d ∷ ds) h

filled_id : (l k : ℕ) (c : Cell) → IsCode l c → id_from l k (filled_path l c) ≡ last_from l k c
filled_id zero k [] h = omega arith
filled_id zero k (d ∷ ds) h = absurd h
filled_id (suc l) k [] h = let ih = filled_id l (suc k) [] tt in omega arith
filled_id (suc l) k (d ∷ ds) h = let ih = filled_id l (suc k) ds h.1 in omega arith

-- the last id below a cell is the id of its last path
pub last_id : (n : ℕ) (c : Cell) → IsCode n c → id_of n (last_path n c) ≡ last_of n c
last_id n [] h = refl
last_id n (d ∷ ds) h = filled_id n 0 (d ∷ ds) h

last_sum : (l k : ℕ) (c : Cell) → IsCode l c → last_from l k c + (k + length c) ≡ id_from l k c + filled (l - length c) + (k + l)
last_sum l k [] h = let e : l - 0 ≡ l = omega arith in rw e (omega arith)
last_sum zero k (d ∷ ds) h = absurd h
last_sum (suc l) k (d ∷ ds) h =
    let ih = last_sum l (suc k) ds h.1 in
    let e : suc l - suc (length ds) ≡ l - length ds = omega arith in
    rw e (omega arith)

pub short_code : (n : ℕ) (c : Cell) → IsCode n c → length c ≤ n
short_code n [] h = omega arith
short_code zero (d ∷ ds) h = absurd h
short_code (suc n) (d ∷ ds) h = let ih = short_code n ds h.1 in omega arith

-- the last id, by the id and its level
pub last_by_level : (n : ℕ) (c : Cell) → IsCode n c → 0 < length c → last_of n c + length c ≡ id_of n c + filled (n - length c) + n
last_by_level n [] h l = absurd (omega arith)
last_by_level n (d ∷ ds) h l = let z = last_sum n 0 (d ∷ ds) h in omega arith
