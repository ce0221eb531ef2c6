use Rattle.std.proofs.Common.{◌≡◌, ℕ, ◌≤◌, ◌<◌, true, false, ◌∙◌, sym, arith, refl}
use Rattle.std.proofs.lemmas.Bool.{le-leb, lt-leb}
use lib.Dec.{leb}
use Rattle.sg_cells.specs.Cells.{Cell, IsCode, id_of, last_of, contains}
use Rattle.sg_cells.proofs.Ids.{contains_interval}
use Rattle.sg_cells.proofs.cell.Cell.contains.Goals as goal

-- the test over ids, where the first part holds or fails
test : (p q : Cell) (x y z : ℕ) → IsCode 8 p → IsCode 8 q → x ≡ id_of 8 p → y ≡ id_of 8 q → z ≡ last_of 8 p → x ≤ y → leb y z ≡ contains p q
test p q x y z hp hq ex ey ez l =
    let e = contains_interval 8 p q (omega arith) hp hq in
    let t : leb (id_of 8 p) (id_of 8 q) ≡ true = le-leb _ _ (omega arith) in
    sym (e ∙ rw (t, sym ey, sym ez) refl)

test_not : (p q : Cell) (x y : ℕ) → IsCode 8 p → IsCode 8 q → x ≡ id_of 8 p → y ≡ id_of 8 q → y < x → leb x y ≡ contains p q
test_not p q x y hp hq ex ey l =
    let e = contains_interval 8 p q (omega arith) hp hq in
    let t : leb (id_of 8 p) (id_of 8 q) ≡ false = lt-leb _ _ (omega arith) in
    lt-leb x y l ∙ sym (e ∙ rw t refl)

pub returns-then-id : goal.returns-then-id
returns-then-id c =
    test c.args.self.now c.args.other c.id.result c.id-then-id.result c.id-then-id-2.result c.in_bytes.ensures.code c.in_bytes-2.ensures.code c.id.ensures c.id-then-id.ensures (c.id-then-id-2.ensures ∙ c.last_below.ensures.last)
    (let h = c.if-id.true in let a = c.id-2.ensures in let b = c.id-then-id.ensures in omega arith)

pub returns-else-id : goal.returns-else-id
returns-else-id c =
    test_not c.args.self.now c.args.other c.id.result c.id-2.result c.in_bytes.ensures.code c.in_bytes-2.ensures.code c.id.ensures c.id-2.ensures (let h = c.if-id.false in omega arith)
