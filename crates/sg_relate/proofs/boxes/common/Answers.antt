use Rattle.std.proofs.Common.{rules, refl, SFits, w32}
use Rattle.std.proofs.lemmas.Int.{to_z-of_z}
use Rattle.sg_relate.proofs.boxes.common.Goals as goal

pub returns : goal.returns
returns c =
    let xmin : SFits w32 c.higher.result = search rules in
    let ymin : SFits w32 c.higher-2.result = search rules in
    let xmax : SFits w32 c.lower.result = search rules in
    let ymax : SFits w32 c.lower-2.result = search rules in
    let ax : SFits w32 c.args.a.xmin = search rules in
    let ay : SFits w32 c.args.a.ymin = search rules in
    let aX : SFits w32 c.args.a.xmax = search rules in
    let aY : SFits w32 c.args.a.ymax = search rules in
    let bx : SFits w32 c.args.b.xmin = search rules in
    let by' : SFits w32 c.args.b.ymin = search rules in
    let bX : SFits w32 c.args.b.xmax = search rules in
    let bY : SFits w32 c.args.b.ymax = search rules in
    rw (to_z-of_z w32 _ xmin, to_z-of_z w32 _ ymin, to_z-of_z w32 _ xmax, to_z-of_z w32 _ ymax)
    (rw (c.higher.ensures, c.higher-2.ensures, c.lower.ensures, c.lower-2.ensures)
    (rw (to_z-of_z w32 _ ax, to_z-of_z w32 _ ay, to_z-of_z w32 _ aX, to_z-of_z w32 _ aY)
    (rw (to_z-of_z w32 _ bx, to_z-of_z w32 _ by', to_z-of_z w32 _ bX, to_z-of_z w32 _ bY) refl)))
