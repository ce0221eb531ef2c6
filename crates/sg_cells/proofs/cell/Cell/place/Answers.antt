use Rattle.std.proofs.Common.{◌≡◌, ◌≤◌, ◌-◌, ◌*◌, ◌^◌, ℕ, ◌/◌, ◌%◌, ◌∙◌, ap, sym, arith, length}
use Rattle.std.specs.Prelude.{slice_index}
use Rattle.sg_cells.specs.Cells.{Cell, IsCode, id_of, weight}
use Rattle.sg_cells.proofs.Counts.{weight_power}
use Rattle.sg_cells.proofs.Paths.{short_code}
use Rattle.sg_cells.proofs.Places.{place_of_id}
use Rattle.sg_cells.proofs.cell.Cell.place.Goals as goal

pub shift_of-requires-clause-most : goal.shift_of-requires-clause-most
shift_of-requires-clause-most c =
    let k = short_code 8 c.args.self.now c.in_bytes.ensures.code in
    let l = c.requires.most in
    omega arith

place_is : (p : Cell) (id shift level : ℕ) → IsCode 8 p → id_of 8 p ≡ id → 1 ≤ level → level ≤ length p → shift ≡ 8 * (9 - level) → id / 2 ^ shift % 256 ≡ slice_index p (level - 1)
place_is p id shift level h e o l s =
    let k = short_code 8 p h in
    let a : 8 * (9 - level) ≡ 8 * (8 - (level - 1)) = omega arith in
    let w : 2 ^ shift ≡ weight (8 - (level - 1)) = ap (λ n. 2 ^ n) (s ∙ a) ∙ sym (weight_power (8 - (level - 1))) in
    ap (λ i. i / 2 ^ shift % 256) (sym e) ∙ (ap (λ w. id_of 8 p / w % 256) w ∙ place_of_id 8 (level - 1) p (omega arith) h (omega arith))

pub returns : goal.returns
returns c = place_is c.args.self.now c.id.result c.shift_of.result c.args.level c.in_bytes.ensures.code (sym c.id.ensures) c.requires.least c.requires.most c.shift_of.ensures.shift
