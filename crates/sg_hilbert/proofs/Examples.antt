-- The definitions at worked rows.
use Rattle.std.proofs.Common.{◌≡◌, refl}
use Rattle.sg_hilbert.specs.Curve.{spot_at, place_at}

-- side 4, a column at a time, from the left and from the bottom
column_0 : (place_at 2 0 0 ≡ 0) × (place_at 2 0 1 ≡ 3) × (place_at 2 0 2 ≡ 4) × (place_at 2 0 3 ≡ 5)
column_0 = (refl, refl, refl, refl)

column_1 : (place_at 2 1 0 ≡ 1) × (place_at 2 1 1 ≡ 2) × (place_at 2 1 2 ≡ 7) × (place_at 2 1 3 ≡ 6)
column_1 = (refl, refl, refl, refl)

column_2 : (place_at 2 2 0 ≡ 14) × (place_at 2 2 1 ≡ 13) × (place_at 2 2 2 ≡ 8) × (place_at 2 2 3 ≡ 9)
column_2 = (refl, refl, refl, refl)

column_3 : (place_at 2 3 0 ≡ 15) × (place_at 2 3 1 ≡ 12) × (place_at 2 3 2 ≡ 11) × (place_at 2 3 3 ≡ 10)
column_3 = (refl, refl, refl, refl)

side_8 : (place_at 3 4 4 ≡ 32) × (place_at 3 1 2 ≡ 13) × (place_at 3 0 4 ≡ 16)
side_8 = (refl, refl, refl)

spots_of_side_8 : (spot_at 3 32 ≡ (4, 4)) × (spot_at 3 13 ≡ (1, 2)) × (spot_at 3 16 ≡ (0, 4))
spots_of_side_8 = (refl, refl, refl)
