use Rattle.std.proofs.Common.{Bool, not, ◌-◌, length, get_or, pos, ◌∙◌, ap, sym}
use Rattle.sg_shape.specs.declared.spots.Spot.{Spot}
use Rattle.sg_shape.proofs.Equal.{same_spot-test}
use Rattle.sg_shape.proofs.RingLemmas.{is_open-at}
use Rattle.sg_wkt.proofs.drafts.is_open.Goals as goal

abbrev origin : Spot
origin = record { x = pos 0; y = pos 0 }

pub returns-in-len2-up : goal.returns-in-len2-up
returns-in-len2-up c =
    let ring = c.args.ring.now in
    c.ne.ensures ∙ ap (λ (t : Bool). not t) (same_spot-test (get_or ring 0 origin) (get_or ring (length ring - 1) origin))
    ∙ sym (is_open-at ring origin c.in-len2-up.len_at_least)
