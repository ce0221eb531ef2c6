-- The test decides nearness by statuses.
use Rattle.std.proofs.Common.{◌≡◌, sym, ◌∙◌, Bool, true}
use lib.IntN.{ℤ}
use Rattle.sg_distance.proofs.Found.{bound_over}
use Rattle.sg_distance.proofs.EdgeTests.{near_test, near_tested, tested_near}
use Rattle.sg_distance.proofs.Points.{has_status}
use Rattle.sg_shape.specs.Plane.{Point, Parts}
use Rattle.sg_shape.specs.Boxes.{HasPoint}
use Rattle.sg_distance.proofs.Nearness.{NearByEdges, SquareWithin}
use Rattle.sg_distance.specs.Figure.{Sound}

-- some point of the one and some point of the other are near, by their statuses
pub record NearByStatus (strict : Bool) (D : ℤ) (a b : Parts) : Type 0 where
  pub p : Point
  pub q : Point
  pub of_a : HasPoint a p
  pub of_b : HasPoint b q
  pub near : SquareWithin strict D p q

pub test_finds : (strict : Bool) (D : ℤ) (a b : Parts) → Sound a → Sound b → near_test strict D a b ≡ true → NearByStatus strict D a b
test_finds strict D a b sa sb t =
    let n : NearByEdges strict D a b = tested_near strict D a b sa sb t in
    record {
      p = n.p;
      q = n.q;
      near = n.near;
      of_a = sym (has_status a sa n.p) ∙ n.of_a;
      of_b = sym (has_status b sb n.q) ∙ n.of_b;
    }

pub test_misses_none : (strict : Bool) (D : ℤ) (a b : Parts) → Sound a → Sound b → NearByStatus strict D a b → near_test strict D a b ≡ true
test_misses_none strict D a b sa sb n =
    near_tested strict D a b sa sb (bound_over strict D n.p n.q n.near)
    (record {
      p = n.p;
      q = n.q;
      near = n.near;
      of_a = has_status a sa n.p ∙ n.of_a;
      of_b = has_status b sb n.q ∙ n.of_b;
    })
