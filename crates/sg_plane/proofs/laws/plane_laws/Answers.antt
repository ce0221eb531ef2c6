use Rattle.sg_plane.proofs.Decided.{meets-iff, matrix-iff, related-iff, has_points-iff, meets_box-iff, covers_box-iff, leaves_box-iff}
use Rattle.sg_plane.proofs.laws.plane_laws.Goals as goal

pub returns : goal.returns
returns c = record { meets = meets-iff; matrix = matrix-iff; related = related-iff; points = has_points-iff; meets_box = meets_box-iff; covers_box = covers_box-iff; leaves_box = leaves_box-iff }
