use Rattle.std.proofs.Common.{◌∙◌, sym, arith}
use Rattle.sg_cells.proofs.Children.{id_small, made}
use Rattle.sg_cells.proofs.cell.Cell.with_place.Goals as goal

pub overflow_add-id : goal.overflow_add-id
overflow_add-id c =
    let m = c.unit_of.ensures.most in
    let p = c.ranges.place.fits in
    let q = Rattle.std.proofs.lemmas.Nat.mul-le c.args.place c.unit_of.result 256 18446744073709551616 (omega arith) m in
    let s = id_small c.args.self.now c.in_bytes.ensures.code in
    let e = c.id.ensures in
    omega arith

pub overflow_add-id-2 : goal.overflow_add-id-2
overflow_add-id-2 c =
    let m = c.unit_of.ensures.most in
    let p = c.ranges.place.fits in
    let q = Rattle.std.proofs.lemmas.Nat.mul-le c.args.place c.unit_of.result 256 18446744073709551616 (omega arith) m in
    let s = id_small c.args.self.now c.in_bytes.ensures.code in
    let e = c.id.ensures in
    omega arith

pub of-requires-clause-code : goal.of-requires-clause-code
of-requires-clause-code c = (made c.args.self.now c.id.result c.unit_of.result c.level-level.result c.args.place c.in_bytes.ensures.code (sym c.id.ensures) c.requires c.level-level.ensures.level c.unit_of.ensures.unit (let p = c.ranges.place.fits in omega arith)).code

pub of-requires-clause-back : goal.of-requires-clause-back
of-requires-clause-back c = (made c.args.self.now c.id.result c.unit_of.result c.level-level.result c.args.place c.in_bytes.ensures.code (sym c.id.ensures) c.requires c.level-level.ensures.level c.unit_of.ensures.unit (let p = c.ranges.place.fits in omega arith)).back

pub returns : goal.returns
returns c = c.of.ensures ∙ (made c.args.self.now c.id.result c.unit_of.result c.level-level.result c.args.place c.in_bytes.ensures.code (sym c.id.ensures) c.requires c.level-level.ensures.level c.unit_of.ensures.unit (let p = c.ranges.place.fits in omega arith)).path
