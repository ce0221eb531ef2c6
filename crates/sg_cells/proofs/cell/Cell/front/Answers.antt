use Rattle.std.proofs.Common.{◌≡◌, ◌≤◌, ◌-◌, ℕ, ◌+◌, ◌*◌, ◌/◌, ◌^◌, ◌∙◌, ap, sym, subst, arith, refl, length}
use Rattle.std.proofs.lemmas.Nat.{div-add-mod'}
use Rattle.sg_cells.specs.Cells.{Cell, IsCode, id_of, path_of, weight, front}
use Rattle.sg_cells.proofs.Counts.{weight_power}
use Rattle.sg_cells.proofs.Fronts.{front_id, front_code}
use Rattle.sg_cells.proofs.Paths.{path_of_id, short_code}
use Rattle.sg_cells.proofs.Children.{id_small}
use Rattle.sg_cells.proofs.cell.Cell.front.Goals as goal

record Made (p : Cell) (places level : ℕ) : Type 0 where
  path : path_of 8 (places + level) ≡ front level p
  code : IsCode 8 (path_of 8 (places + level))
  back : id_of 8 (path_of 8 (places + level)) ≡ places + level

made : (p : Cell) (id shift unit level : ℕ) → IsCode 8 p → id_of 8 p ≡ id → level ≤ length p → shift ≡ 8 * (9 - level) → unit ≡ weight (9 - level) → Made p (id / 2 ^ shift * unit) level
made p id shift unit level h e l s u =
    let a = front_id 8 level p (omega arith) h l in
    let w : 2 ^ shift ≡ weight (9 - level) = ap (λ n. 2 ^ n) s ∙ sym (weight_power (9 - level)) in
    let x : id_of 8 p / weight (9 - level) * weight (9 - level) ≡ id / 2 ^ shift * unit = rw (e, u, w) refl in
    let w : id_of 8 (front level p) ≡ id / 2 ^ shift * unit + level = omega arith in
    let f : path_of 8 (id / 2 ^ shift * unit + level) ≡ front level p = ap (path_of 8) (sym w) ∙ path_of_id 8 (front level p) (omega arith) (front_code 8 level p h) in
    record { path = f; code = subst (IsCode 8) (sym f) (front_code 8 level p h); back = ap (id_of 8) f ∙ w }

pub shift_of-requires-clause-most : goal.shift_of-requires-clause-most
shift_of-requires-clause-most c = let k = short_code 8 c.args.self.now c.in_bytes.ensures.code in let l = c.requires.most in omega arith

pub unit_of-requires-clause-most : goal.unit_of-requires-clause-most
unit_of-requires-clause-most c = let k = short_code 8 c.args.self.now c.in_bytes.ensures.code in let l = c.requires.most in omega arith

-- whole weights are no more than the id
weights : (id shift unit level : ℕ) → shift ≡ 8 * (9 - level) → unit ≡ weight (9 - level) → id / 2 ^ shift * unit ≤ id
weights id shift unit level s u =
    let w : unit ≡ 2 ^ shift = u ∙ (weight_power (9 - level) ∙ ap (λ n. 2 ^ n) (sym s)) in
    let d = div-add-mod' id (2 ^ shift) in
    rw w (omega arith)

pub overflow_mul-places : goal.overflow_mul-places
overflow_mul-places c =
    let w = weights c.id.result c.shift_of.result c.unit_of.result c.args.level c.shift_of.ensures.shift c.unit_of.ensures.unit in
    let s = id_small c.args.self.now c.in_bytes.ensures.code in
    let e = c.id.ensures in
    omega arith

pub overflow_add-places : goal.overflow_add-places
overflow_add-places c =
    let w = weights c.id.result c.shift_of.result c.unit_of.result c.args.level c.shift_of.ensures.shift c.unit_of.ensures.unit in
    let s = id_small c.args.self.now c.in_bytes.ensures.code in
    let e = c.id.ensures in
    let l = c.ranges.level.fits in
    omega arith

pub of-requires-clause-code : goal.of-requires-clause-code
of-requires-clause-code c = (made c.args.self.now c.id.result c.shift_of.result c.unit_of.result c.args.level c.in_bytes.ensures.code (sym c.id.ensures) c.requires.most c.shift_of.ensures.shift c.unit_of.ensures.unit).code

pub of-requires-clause-back : goal.of-requires-clause-back
of-requires-clause-back c = (made c.args.self.now c.id.result c.shift_of.result c.unit_of.result c.args.level c.in_bytes.ensures.code (sym c.id.ensures) c.requires.most c.shift_of.ensures.shift c.unit_of.ensures.unit).back

pub returns : goal.returns
returns c = c.of.ensures ∙ (made c.args.self.now c.id.result c.shift_of.result c.unit_of.result c.args.level c.in_bytes.ensures.code (sym c.id.ensures) c.requires.most c.shift_of.ensures.shift c.unit_of.ensures.unit).path
