-- What sound shapes are, part by part.
use Rattle.std.proofs.Common.{◌≡◌, ℕ, ◌+◌, ◌==◌, nat_lt, Bool, true, false, cond, if◌then◌else◌, not, ◌&&◌, List, [], ◌∷◌, ◌++◌, length, flat_map, refl, Option, Some, None, option_map}
use Rattle.std.specs.List.{position_from}
use Rattle.sg_shape.specs.declared.spots.Spot.{Spot}
use Rattle.sg_shape.specs.declared.shapes.Shape.TheVariants as shapes
use Rattle.sg_shape.specs.declared.shapes.ShapeFault.TheVariants as fault
use Rattle.sg_shape.specs.Sound.{IsSound, coord_ok, is_out, is_open, is_short, or_else}
use Rattle.sg_wkt.proofs.Numerals.{and_left, and_right}

abbrev pub IsWithin : Spot → Type 0
IsWithin s = (coord_ok s.x ≡ true) × (coord_ok s.y ≡ true)

-- what each of some things is
abbrev pub Each : {X : Type 0} → (X → Type 0) → List X → Type 0
Each P [] = Unit {0}
Each P (x ∷ xs) = P x × Each P xs

-- a ring that is closed, of four spots or more
pub record IsRing (ring : List Spot) : Type 0 where
  pub within : Each IsWithin ring
  pub long : is_short ring ≡ false
  pub closed : is_open ring ≡ false

-- what has no fault has none of any kind
no_faults : (t : Bool) (a b c : Option ℕ) →
    (if t then Some fault.TooMany
    else or_else (option_map (λ ring. fault.TooFew ring) a)
    (or_else (option_map (λ ring. fault.RingOpen ring) b) (option_map (λ at. fault.CoordOut at) c))) ≡ None →
    (t ≡ false) × (a ≡ None) × (b ≡ None) × (c ≡ None)
no_faults true a b c e = cc
no_faults false (Some n) b c e = cc
no_faults false None (Some n) c e = cc
no_faults false None None (Some n) e = cc
no_faults false None None None e = (refl, refl, refl, refl)

not_not : (t : Bool) → not t ≡ false → t ≡ true
not_not true e = refl
not_not false e = cc

none_first : {X : Type 0} (p : X → Bool) (t : Bool) (n : ℕ) (o : Option ℕ) → cond t (Some n) o ≡ None → (t ≡ false) × (o ≡ None)
none_first p true n o e = cc
none_first p false n o e = (refl, e)

none_each : {X : Type 0} (p : X → Bool) (n : ℕ) (xs : List X) → position_from p n xs ≡ None → Each (λ x. p x ≡ false) xs
none_each p n [] e = tt
none_each p n (x ∷ xs) e =
    let parts = none_first p (p x) n (position_from p (n + 1) xs) e in
    (parts.0, none_each p (n + 1) xs parts.1)

within : (s : Spot) → is_out s ≡ false → IsWithin s
within s h =
    let both_ok = not_not (coord_ok s.x && coord_ok s.y) h in
    (and_left (coord_ok s.x) (coord_ok s.y) both_ok, and_right (coord_ok s.x) (coord_ok s.y) both_ok)

each_within : (ss : List Spot) → Each (λ s. is_out s ≡ false) ss → Each IsWithin ss
each_within [] h = tt
each_within (s ∷ ss) h = (within s h.0, each_within ss h.1)

each_left : {X : Type 0} (P : X → Type 0) (xs ys : List X) → Each P (xs ++ ys) → Each P xs
each_left P [] ys h = tt
each_left P (x ∷ xs) ys h = (h.0, each_left P xs ys h.1)

each_right : {X : Type 0} (P : X → Type 0) (xs ys : List X) → Each P (xs ++ ys) → Each P ys
each_right P [] ys h = h
each_right P (x ∷ xs) ys h = each_right P xs ys h.1

each_ring : (rings : List (List Spot)) → Each IsWithin (flat_map (λ r. r) rings) → Each (λ r. is_short r ≡ false) rings → Each (λ r. is_open r ≡ false) rings → Each IsRing rings
each_ring [] w l c = tt
each_ring (r ∷ rs) w l c = (
  record { within = each_left IsWithin r (flat_map (λ r. r) rs) w; long = l.0; closed = c.0 },
  each_ring rs (each_right IsWithin r (flat_map (λ r. r) rs) w) l.1 c.1,
)

if_none : (t : Bool) (n : ℕ) (o : Option ℕ) → (if t then Some n else o) ≡ None → (t ≡ false) × (o ≡ None)
if_none true n o e = cc
if_none false n o e = (refl, e)

pub point_within : (s : Spot) → IsSound (shapes.Point s) → IsWithin s
point_within s h =
    let none = no_faults false None None (position_from is_out 0 (s ∷ [])) h in
    within s (none_each is_out 0 (s ∷ []) none.3).0

pub record SoundLine (path : List Spot) : Type 0 where
  pub within : Each IsWithin path
  pub most : nat_lt 2048 (length path) ≡ false
  pub least : nat_lt (length path) 2 ≡ false

pub line_sound : (path : List Spot) → IsSound (shapes.Line path) → SoundLine path
line_sound path h =
    let none = no_faults (nat_lt 2048 (length path)) (if nat_lt (length path) 2 then Some 0 else None) None (position_from is_out 0 path) h in
    record {
      within = each_within path (none_each is_out 0 path none.3);
      most = none.0;
      least = (if_none (nat_lt (length path) 2) 0 None none.1).0;
    }

pub record SoundPolygon (rings : List (List Spot)) : Type 0 where
  pub each : Each IsRing rings
  pub some : (length rings == 0) ≡ false
  pub most : nat_lt 2048 (length (flat_map (λ r. r) rings)) ≡ false

pub polygon_sound : (rings : List (List Spot)) → IsSound (shapes.Polygon rings) → SoundPolygon rings
polygon_sound rings h =
    let none = no_faults (nat_lt 2048 (length (flat_map (λ r. r) rings))) (if length rings == 0 then Some 0 else position_from is_short 0 rings) (position_from is_open 0 rings) (position_from is_out 0 (flat_map (λ r. r) rings)) h in
    let long = if_none (length rings == 0) 0 (position_from is_short 0 rings) none.1 in
    record {
      each = each_ring rings (each_within (flat_map (λ r. r) rings) (none_each is_out 0 (flat_map (λ r. r) rings) none.3)) (none_each is_short 0 rings long.1) (none_each is_open 0 rings none.2);
      some = long.0;
      most = none.0;
    }
