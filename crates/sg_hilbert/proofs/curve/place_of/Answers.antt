use Rattle.std.proofs.Common.{◌≡◌, ◌<◌, ◌∙◌, ap, sym, subst}
use Rattle.sg_hilbert.specs.Curve.{doublings, two_to, place_at, spot_at}
use Rattle.sg_hilbert.proofs.Undo.{spot_place, same_spot}
use Rattle.sg_hilbert.proofs.curve.place_of.Goals as goal

pub returns-clause-spot : goal.returns-clause-spot
returns-clause-spot c =
    let x = c.args.x in
    let y = c.args.y in
    let k = doublings c.args.side in
    let e : c.place_from.result ≡ place_at k x y = c.place_from.ensures.place ∙ ap (λ k. place_at k x y) c.doublings.ensures.count in
    let f : c.args.side ≡ two_to k = sym c.doublings.ensures.side ∙ ap two_to c.doublings.ensures.count in
    let w = spot_place k x y (subst (λ n. x < n) f c.requires.column) (subst (λ n. y < n) f c.requires.row) in
    subst (λ d. spot_at k d ≡ (x, y)) (sym e) (same_spot (spot_at k (place_at k x y)) x y w.column w.row)
