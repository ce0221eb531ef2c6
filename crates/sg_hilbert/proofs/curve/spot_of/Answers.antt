use Rattle.std.proofs.Common.{◌≡◌, ◌<◌, ◌*◌, ◌∙◌, ap, sym, subst}
use Rattle.sg_hilbert.specs.Curve.{doublings, four_to, place_at, spot_at}
use Rattle.sg_hilbert.proofs.Undo.{place_spot}
use Rattle.sg_hilbert.proofs.curve.spot_of.Goals as goal

pub returns-clause-place : goal.returns-clause-place
returns-clause-place c =
    let k = doublings c.args.side in
    let e : c.spot_from.result ≡ spot_at k c.args.place = c.spot_from.ensures.spot ∙ ap (λ k. spot_at k c.args.place) c.doublings.ensures.count in
    let f : four_to k ≡ c.args.side * c.args.side = ap four_to (sym c.doublings.ensures.count) ∙ c.doublings.ensures.places in
    subst (λ s. place_at k s.0 s.1 ≡ c.args.place) (sym e)
    (place_spot k c.args.place (subst (λ n. c.args.place < n) (sym f) c.requires.place))
