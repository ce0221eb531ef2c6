use Rattle.std.proofs.Common.{rules, arith, ◌≡◌, ◌-◌, ◌∙◌}
use Rattle.sg_wkt.specs.Cursors.{left}
use Rattle.sg_wkt.specs.Grammar.{◌>>=◌, most_spots, spots, step, until_whole}
use Rattle.sg_wkt.proofs.Turns.{spots-turn, spots-none}
use Rattle.sg_wkt.proofs.drafts.spots.Goals as goal

pub returns-in_err-next : goal.returns-in_err-next
returns-in_err-next c =
    let turn : spots most_spots c.args.draft (left c.args.tokens) ≡ (step c.spots.draft (left c.spots.rest) >>= until_whole (λ further rest. spots (c.spots.room - 1) further rest)) =
    c.spots.invariant ∙ spots-turn c.spots.room c.spots.draft (left c.spots.rest) (omega (arith, c.spots-test.true)) in
    rw turn (search rules)

pub returns-in-Whole : goal.returns-in-Whole
returns-in-Whole c =
    let turn : spots most_spots c.args.draft (left c.args.tokens) ≡ (step c.spots.draft (left c.spots.rest) >>= until_whole (λ further rest. spots (c.spots.room - 1) further rest)) =
    c.spots.invariant ∙ spots-turn c.spots.room c.spots.draft (left c.spots.rest) (omega (arith, c.spots-test.true)) in
    rw turn (search rules)

pub spots-preserved : goal.spots-preserved
spots-preserved c =
    let turn : spots most_spots c.args.draft (left c.args.tokens) ≡ (step c.spots.draft (left c.spots.rest) >>= until_whole (λ further rest. spots (c.spots.room - 1) further rest)) =
    c.spots.invariant ∙ spots-turn c.spots.room c.spots.draft (left c.spots.rest) (omega (arith, c.spots-test.true)) in
    rw turn (search rules)

pub returns : goal.returns
returns c = c.spots.invariant ∙ spots-none c.spots.room c.spots.draft (left c.spots.rest) (omega (arith, c.spots-test.false)) ∙ c.no_room.ensures
