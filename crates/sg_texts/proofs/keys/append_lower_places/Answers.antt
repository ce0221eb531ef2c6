use Rattle.std.proofs.Common.{◌<◌, ℕ, length, subst}
use Rattle.sg_texts.proofs.Lower.{lower_more}
use Rattle.sg_texts.proofs.keys.append_lower_places.Goals as goal

pub loop-level-preserved : goal.loop-level-preserved
loop-level-preserved c =
    let within : c.loop-level.level < length c.args.cell = subst (λ (n : ℕ). c.loop-level.level < n) c.level-level-end.ensures.level c.loop-level-test.true in
    lower_more c.args.cell c.args.out.now.items c.loop-level.out.items c.append_dotted.new.out.items c.loop-level.level c.place.result
    c.loop-level.invariant within c.place.ensures c.place.type_inv c.in_ok-append_dotted.ensures
