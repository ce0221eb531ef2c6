use Rattle.std.proofs.Common.{◌≡◌, ◌≤◌, ◌-◌, ℕ, suc, ◌+◌, ◌%◌, ◌∙◌, ap, sym, subst, arith, length}
use Rattle.sg_cells.specs.Cells.{Cell, IsCode, id_of, last_of, path_of, last_path, filled, weight}
use Rattle.sg_cells.proofs.Ids.{filled_is}
use Rattle.sg_cells.proofs.Children.{id_small}
use Rattle.sg_cells.proofs.Paths.{last_id, last_code, last_by_level, level_of_id, path_of_id, short_code}
use Rattle.sg_cells.proofs.cell.Cell.last_below.Goals as goal

record Made (p : Cell) (id : ℕ) : Type 0 where
  path : path_of 8 id ≡ last_path 8 p
  code : IsCode 8 (path_of 8 id)
  back : id_of 8 (path_of 8 id) ≡ id

-- the last id by the id, its level and what one place of the level counts
made : (p : Cell) (id unit level : ℕ) → IsCode 8 p → id_of 8 p ≡ id → level ≡ length p → (level ≡ 0 → ⊥) → unit ≡ weight (9 - level) → Made p (id - level + (unit - 256) + 8)
made p id unit level h e l z u =
    let k = short_code 8 p h in
    let a : 9 - level ≡ suc (8 - length p) = omega arith in
    let f : filled (8 - length p) + 256 ≡ unit = filled_is (8 - length p) ∙ sym (u ∙ ap weight a) in
    let s = last_by_level 8 p h (omega arith) in
    let v : id % 256 ≡ length p = ap (λ x. x % 256) (sym e) ∙ level_of_id 8 p (omega arith) h in
    let b : id % 256 ≤ id = omega arith in
    let w : last_of 8 p ≡ id - level + (unit - 256) + 8 = omega arith in
    let t : id_of 8 (last_path 8 p) ≡ id - level + (unit - 256) + 8 = last_id 8 p h ∙ w in
    let q : path_of 8 (id - level + (unit - 256) + 8) ≡ last_path 8 p = ap (path_of 8) (sym t) ∙ path_of_id 8 (last_path 8 p) (omega arith) (last_code 8 p h) in
    record { path = q; code = subst (IsCode 8) (sym q) (last_code 8 p h); back = ap (id_of 8) q ∙ t }

pub overflow_sub-id : goal.overflow_sub-id
overflow_sub-id c =
    let v : c.id.result % 256 ≡ length c.args.self.now = ap (λ x. x % 256) c.id.ensures ∙ level_of_id 8 c.args.self.now (omega arith) c.in_bytes.ensures.code in
    let l = c.level-level.ensures.level in
    omega arith

pub overflow_add-id : goal.overflow_add-id
overflow_add-id c =
    let s = id_small c.args.self.now c.in_bytes.ensures.code in
    let e = c.id.ensures in
    let m = c.unit_of.ensures.most in
    omega arith

pub overflow_add-id-2 : goal.overflow_add-id-2
overflow_add-id-2 c =
    let s = id_small c.args.self.now c.in_bytes.ensures.code in
    let e = c.id.ensures in
    let m = c.unit_of.ensures.most in
    omega arith

pub of-requires-clause-code : goal.of-requires-clause-code
of-requires-clause-code c = (made c.args.self.now c.id.result c.unit_of.result c.level-level.result c.in_bytes.ensures.code (sym c.id.ensures) c.level-level.ensures.level c.if-level-eq0.false c.unit_of.ensures.unit).code

pub of-requires-clause-back : goal.of-requires-clause-back
of-requires-clause-back c = (made c.args.self.now c.id.result c.unit_of.result c.level-level.result c.in_bytes.ensures.code (sym c.id.ensures) c.level-level.ensures.level c.if-level-eq0.false c.unit_of.ensures.unit).back

pub returns-clause-path : goal.returns-clause-path
returns-clause-path c = c.of.ensures ∙ (made c.args.self.now c.id.result c.unit_of.result c.level-level.result c.in_bytes.ensures.code (sym c.id.ensures) c.level-level.ensures.level c.if-level-eq0.false c.unit_of.ensures.unit).path

pub returns-clause-last : goal.returns-clause-last
returns-clause-last c = ap (id_of 8) (c.of.ensures ∙ (made c.args.self.now c.id.result c.unit_of.result c.level-level.result c.in_bytes.ensures.code (sym c.id.ensures) c.level-level.ensures.level c.if-level-eq0.false c.unit_of.ensures.unit).path) ∙ last_id 8 c.args.self.now c.in_bytes.ensures.code
