use Rattle.std.proofs.Common.{arith, length, ◌≡◌, ◌∙◌}
use Rattle.sg_waits.proofs.Named.{Cleared, Cleared-two, Cleared-NamesOthers, standing-cleared}
use Rattle.sg_waits.proofs.standing.Waits.ended.Goals as goal

pub invariant_of-self : goal.invariant_of-self
invariant_of-self c =
    let sized : length c.self.inside.named ≡ 64 = c.self.invariant.0 in
    let cleared : Cleared c.self.inside.named c.forget.new.named c.args.s = Cleared-two c.self.inside.named c.forget.new.named c.none.result c.index.result c.args.s (omega arith) c.index.ensures.place c.none.ensures c.forget.ensures.length c.forget.ensures.each in
    (cleared.same_length ∙ sized, Cleared-NamesOthers c.self.inside.named c.forget.new.named c.args.s c.self.invariant.1 cleared)

pub returns : goal.returns
returns c =
    let sized : length c.self.inside.named ≡ 64 = c.self.invariant.0 in
    let cleared : Cleared c.self.inside.named c.forget.new.named c.args.s = Cleared-two c.self.inside.named c.forget.new.named c.none.result c.index.result c.args.s (omega arith) c.index.ensures.place c.none.ensures c.forget.ensures.length c.forget.ensures.each in
    rw (← c.self.view_is) (standing-cleared c.self.inside.named c.forget.new.named c.args.s sized c.self.invariant.1 cleared)
