use Rattle.std.proofs.Common.{◌≡◌, ap, rules}
use Rattle.sg_program.specs.Calls.{device_of}
use Rattle.sg_program.proofs.CallLemmas.{told_make}
use Rattle.sg_program.proofs.making.make_main.Goals as goal

pub returns : goal.returns
returns g c =
    let same : c.match-end.source ≡ c.args.source.now = search rules in
    told_make _ (device_of g.S.Source.left g.S.Source.faults c.args.source.now c.match-end.source) _ _ c.make_asked-end.result _ _ (ap g.S.Source.left same)
    c.make_asked-end.ensures c.message.ensures c.say.ensures c.status.ensures
