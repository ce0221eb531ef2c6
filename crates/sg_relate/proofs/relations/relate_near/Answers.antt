use Rattle.std.proofs.Common.{◌≡◌, sym, subst}
use Rattle.sg_shape.specs.declared.bounds.Bounds.{Bounds}
use Rattle.sg_shape.specs.declared.shapes.Shape.{Shape}
use Rattle.sg_relate.specs.Boxes.{HasHeights, common}
use Rattle.sg_relate.specs.Deciding.{SpeaksWithin, StandsFor}
use Rattle.sg_relate.proofs.Places.{box_heights, common_heights}
use Rattle.sg_relate.proofs.Speaking.{near_speaks, near_relates}
use Rattle.sg_relate.proofs.relations.relate_near.Goals as goal

-- what was chosen does for the shape in the boxes' common places
stands : (f box shared : Bounds) (k near chosen : Shape) → shared ≡ box → chosen ≡ near → StandsFor f shared k near → StandsFor f box k chosen
stands f box shared k near chosen e g h = subst (λ (n : Shape). StandsFor f box k n) (sym g) (subst (λ (b : Bounds). StandsFor f b k near) e h)

first_stands : (c : goal.After-chosen-2) → StandsFor c.args.first (common c.args.first c.args.second) c.args.a.now c.chosen.result.now
first_stands c = stands c.args.first (common c.args.first c.args.second) c.common-shared.result c.args.a.now _ c.chosen.result.now c.common-shared.ensures c.chosen.ensures c.in_ok-near_first.ensures

second_stands : (c : goal.After-chosen-2) → StandsFor c.args.second (common c.args.first c.args.second) c.args.b.now c.chosen-2.result.now
second_stands c = stands c.args.second (common c.args.first c.args.second) c.common-shared.result c.args.b.now _ c.chosen-2.result.now c.common-shared.ensures c.chosen-2.ensures c.in_ok-near_second.ensures

pub swept-requires-clause-heights : goal.swept-requires-clause-heights
swept-requires-clause-heights c =
    subst HasHeights (sym c.common-shared.ensures)
    (common_heights c.args.pred c.args.first c.args.second (box_heights c.args.a.now c.args.first c.requires.a c.requires.first) (box_heights c.args.b.now c.args.second c.requires.b c.requires.second) c.requires.may)

pub swept-requires-clause-within : goal.swept-requires-clause-within
swept-requires-clause-within c =
    subst (λ (box : Bounds). SpeaksWithin c.args.pred box c.chosen.result.now c.chosen-2.result.now) (sym c.common-shared.ensures)
    (near_speaks c.args.pred c.args.first c.args.second c.args.a.now c.args.b.now c.chosen.result.now c.chosen-2.result.now c.requires.may (first_stands c) (second_stands c))

pub returns : goal.returns
returns c =
    let box = common c.args.first c.args.second in
    let one : StandsFor c.args.first box c.args.a.now c.chosen.result.now = stands c.args.first box c.common-shared.result c.args.a.now _ c.chosen.result.now c.common-shared.ensures c.chosen.ensures c.in_ok-near_first.ensures in
    let two : StandsFor c.args.second box c.args.b.now c.chosen-2.result.now = stands c.args.second box c.common-shared.result c.args.b.now _ c.chosen-2.result.now c.common-shared.ensures c.chosen-2.ensures c.in_ok-near_second.ensures in
    let e = c.in_ok-yes.ensures in
    let f = near_relates c.args.pred c.args.first c.args.second c.args.a.now c.args.b.now c.chosen.result.now c.chosen-2.result.now c.requires.may c.requires.a c.requires.b c.requires.first c.requires.second one two in
    (λ h. f.0 (e.0 h), λ r. e.1 (f.1 r))
