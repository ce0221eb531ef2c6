-- What is read is sound.
use Rattle.std.proofs.Common.{◌≡◌, ℕ, zero, suc, ◌+◌, ◌==◌, nat_lt, Bool, true, false, cond, if◌then◌else◌, not, ◌&&◌, ℤ, List, [], ◌∷◌, ◌++◌, length, flat_map, refl, sym, ap, ◌∙◌, subst, Option, Some, None, option_map, Result, Ok, Err, arith, append_assoc, append-nil, length-append}
use Rattle.std.proofs.lemmas.Bool.Decides.{nat_tests}
use Rattle.std.proofs.lemmas.Grind.{flat_map-append}
use Rattle.std.specs.List.{position_from}
use Rattle.sg_shape.specs.declared.spots.Spot.{Spot}
use Rattle.sg_shape.specs.declared.shapes.Kind.{Kind}
use Rattle.sg_shape.specs.declared.shapes.Kind.TheVariants as kind
use Rattle.sg_shape.specs.declared.shapes.Shape.{Shape}
use Rattle.sg_shape.specs.declared.shapes.Shape.TheVariants as shapes
use Rattle.sg_shape.specs.declared.shapes.ShapeFault.TheVariants as faults
use Rattle.sg_shape.specs.Sound.{IsSound, coord_ok, is_out, is_open, is_short, or_else}
use Rattle.sg_shape.proofs.RingLemmas.{position_from-append_none}
use Rattle.sg_wkt.specs.declared.drafts.Draft.{Draft}
use Rattle.sg_wkt.specs.declared.drafts.Draft.TheVariants as draft
use Rattle.sg_wkt.specs.declared.drafts.Next.{Next}
use Rattle.sg_wkt.specs.declared.drafts.Next.TheVariants as next
use Rattle.sg_wkt.specs.declared.faults.WktFault.{WktFault}
use Rattle.sg_wkt.specs.declared.faults.WktKind.{WktKind}
use Rattle.sg_wkt.specs.declared.faults.WktKind.TheVariants as kinds
use Rattle.sg_wkt.specs.Tokens.{Tokens, Ends, Begins, tokens}
use Rattle.sg_wkt.specs.Numbers.{is_number, are_zeros, after_dot, value, coordinate}
use Rattle.sg_wkt.specs.Grammar.{Reading, ◌>>=◌, fault, first, is_one, mark, separator, placed, number, spot, most_spots, no_room, whole_line, whole_ring, after_line_spot, after_ring, after_ring_spot, after_spot, with_spot, step, until_whole, spots, point_body, line_body, polygon_body, or_empty, after_empty, point, line, polygon, shape, and_nothing, lone_shape}
use Rattle.sg_wkt.specs.Laws.{ReadsSound}

-- where both steps gave a value, so did the first
pub bind_ok : {A B : Type 0} (r : Result A WktFault) (f : A → Result B WktFault) (y : B) → (r >>= f) ≡ Ok y → (x : A) × (r ≡ Ok x) × (f x ≡ Ok y)
bind_ok (Ok x) f y e = (x, refl, e)
bind_ok (Err d) f y e = cc

-- ---- numbers
chosen : (a b c : Bool) (v z : ℤ) → coord_ok v ≡ c →
    cond (not a) (Err kinds.Number) (cond (not b) (Err kinds.Fraction) (cond (not c) (Err kinds.CoordOut) (Ok v))) ≡ Ok z → coord_ok z ≡ true
chosen true true true v z h e = let same : v ≡ z = cc in ap coord_ok (sym same) ∙ h
chosen true true false v z h e = cc
chosen true false c v z h e = cc
chosen false b c v z h e = cc

coordinate_ok : (text : List ℕ) (z : ℤ) → coordinate text ≡ Ok z → coord_ok z ≡ true
coordinate_ok text z e = chosen (is_number text) (are_zeros (after_dot text)) (coord_ok (value text)) (value text) z refl e

placed_ok : (at : ℕ) (rest : Tokens) (r : Result ℤ WktKind) (x : ℤ × Tokens) → placed at rest r ≡ Ok x → r ≡ Ok x.0
placed_ok at rest (Ok z) x e = let same : (z, rest) ≡ x = cc in ap (λ (y : ℤ × Tokens). Ok y.0) same
placed_ok at rest (Err k) x e = cc

number_ok : (ts : Tokens) (x : ℤ × Tokens) → number ts ≡ Ok x → coord_ok x.0 ≡ true
unfolding number
number_ok ts x e =
    let step = bind_ok (first ts) _ x e in
    coordinate_ok step.0.0.bytes x.0 (placed_ok step.0.0.at step.0.1 (coordinate step.0.0.bytes) x step.2)

-- ---- spots
abbrev IsWithin : Spot → Type 0
IsWithin s = (coord_ok s.x && coord_ok s.y) ≡ true

both_ok : (a b : Bool) → a ≡ true → b ≡ true → (a && b) ≡ true
both_ok true b e f = f
both_ok false b e f = cc

pub spot_ok : (ts : Tokens) (s : Spot × Tokens) → spot ts ≡ Ok s → IsWithin s.0
unfolding spot
spot_ok ts s e =
    let a = bind_ok (number ts) _ s e in
    let b = bind_ok (number a.0.1) _ s a.2 in
    let made : Spot = record { x = a.0.0; y = b.0.0 } in
    let same : (made, b.0.1) ≡ s = cc in
    let fits : IsWithin made = both_ok _ _ (number_ok ts a.0 a.1) (number_ok a.0.1 b.0 b.1) in
    subst (λ (x : Spot × Tokens). IsWithin x.0) same fits

-- ---- points
sound_point : (s : Spot) → IsWithin s → IsSound (shapes.Point s)
sound_point s h = ap (λ (t : Bool). option_map (λ at. faults.CoordOut at) (cond (not t) (Some 0) None)) h

abbrev IsSoundReading : Reading Shape → Type 0
IsSoundReading r = (x : Shape × Tokens) → r ≡ Ok x → IsSound x.0

sound_body : (ts : Tokens) → IsSoundReading (point_body ts)
unfolding point_body
sound_body ts x e =
    let opened = bind_ok (mark 40 ts) _ x e in
    let place = bind_ok (spot opened.0) _ x opened.2 in
    let closed = bind_ok (mark 41 place.0.1) _ x place.2 in
    let made : Shape = shapes.Point place.0.0 in
    let same : (made, closed.0) ≡ x = cc in
    subst (λ (y : Shape × Tokens). IsSound y.0) same (sound_point place.0.0 (spot_ok opened.0 place.0 place.1))

-- ---- lines and polygons
-- a draft's spots, with its whole rings' spots first
abbrev pub spots_of : Draft → List Spot
spots_of (draft.Line spots) = spots
spots_of (draft.Polygon rings ring) = flat_map (λ r. r) rings ++ ring

abbrev pub rings_of : Draft → List (List Spot)
rings_of (draft.Line spots) = []
rings_of (draft.Polygon rings ring) = rings

-- a draft that may still become a sound shape, with room for so many spots
record Fits (room : ℕ) (d : Draft) : Type 0 where
  pub count : length (spots_of d) + room ≡ 2048
  pub within : position_from is_out 0 (spots_of d) ≡ None
  pub long : position_from is_short 0 (rings_of d) ≡ None
  pub closed : position_from is_open 0 (rings_of d) ≡ None

Fits-line : Fits 2048 (draft.Line [])
Fits-line = record { count = refl; within = refl; long = refl; closed = refl }

Fits-polygon : Fits 2048 (draft.Polygon [] [])
Fits-polygon = record { count = refl; within = refl; long = refl; closed = refl }

module _ {X : Type 0} (p : X → Bool) where
  none_step : (t : Bool) (n : ℕ) → t ≡ false → cond t (Some n) None ≡ None
  none_step true n e = cc
  none_step false n e = refl

  -- one more, which doesn't pass either
  none_more : (xs : List X) (x : X) → position_from p 0 xs ≡ None → p x ≡ false → position_from p 0 (xs ++ x ∷ []) ≡ None
  none_more xs x h e = position_from-append_none p 0 0 xs (x ∷ []) h ∙ none_step (p x) (0 + length xs) e

not_out : (s : Spot) → IsWithin s → is_out s ≡ false
not_out s h = ap not h

Fits-more : (room : ℕ) (d : Draft) (s : Spot) → IsWithin s → Fits (suc room) d → Fits room (with_spot d s)
Fits-more room (draft.Line spots) s h f = record {
  count = omega (arith, f.count, length-append spots (s ∷ []));
  within = none_more is_out spots s f.within (not_out s h);
  long = refl;
  closed = refl;
}
Fits-more room (draft.Polygon rings ring) s h f = record {
  count = omega (arith, f.count, length-append (flat_map (λ r. r) rings) ring, length-append (flat_map (λ r. r) rings) (ring ++ s ∷ []), length-append ring (s ∷ []));
  within =
      ap (position_from is_out 0) (sym (append_assoc (flat_map (λ r. r) rings) ring (s ∷ [])))
      ∙ none_more is_out (flat_map (λ r. r) rings ++ ring) s f.within (not_out s h);
  long = f.long;
  closed = f.closed;
}

-- the spots of one ring more
ring_spots : (rings : List (List Spot)) (ring : List Spot) → flat_map (λ r. r) (rings ++ ring ∷ []) ≡ flat_map (λ r. r) rings ++ ring
ring_spots rings ring = flat_map-append (λ r. r) rings (ring ∷ []) ∙ ap (λ (xs : List Spot). flat_map (λ r. r) rings ++ xs) (append-nil ring)

Fits-ring : (room : ℕ) (rings : List (List Spot)) (ring : List Spot) → is_short ring ≡ false → is_open ring ≡ false →
    Fits room (draft.Polygon rings ring) → Fits room (draft.Polygon (rings ++ ring ∷ []) [])
Fits-ring room rings ring short open' f =
    let same : flat_map (λ r. r) (rings ++ ring ∷ []) ++ [] ≡ flat_map (λ r. r) rings ++ ring = append-nil _ ∙ ring_spots rings ring in
    record {
      count = ap (λ (xs : List Spot). length xs + room) same ∙ f.count;
      within = ap (position_from is_out 0) same ∙ f.within;
      long = none_more is_short rings ring f.long short;
      closed = none_more is_open rings ring f.closed open';
    }

-- what has no fault of any kind is sound
pub no_fault : (t : Bool) (a b c : Option ℕ) → t ≡ false → a ≡ None → b ≡ None → c ≡ None →
    (if t then Some faults.TooMany
    else or_else (option_map (λ ring. faults.TooFew ring) a)
    (or_else (option_map (λ ring. faults.RingOpen ring) b) (option_map (λ at. faults.CoordOut at) c))) ≡ None
no_fault t a b c e f g h = rw (e, f, g, h) refl

few : (n room : ℕ) → n + room ≡ 2048 → nat_lt 2048 n ≡ false
few n room e = grind (arith, nat_tests)

none_if : (t : Bool) (n : ℕ) → t ≡ false → (if t then Some n else None) ≡ None
none_if t n e = rw e refl

sound_line : (room : ℕ) (spots : List Spot) → Fits room (draft.Line spots) → nat_lt (length spots) 2 ≡ false → IsSound (shapes.Line spots)
sound_line room spots f e =
    no_fault (nat_lt 2048 (length spots)) (if nat_lt (length spots) 2 then Some 0 else None) None (position_from is_out 0 spots)
    (few (length spots) room f.count) (none_if (nat_lt (length spots) 2) 0 e) refl f.within

some_rings : (rings : List (List Spot)) (ring : List Spot) → (length (rings ++ ring ∷ []) == 0) ≡ false
some_rings rings ring = let n = length-append rings (ring ∷ []) in grind (arith, nat_tests)

else_none : (t : Bool) (n : ℕ) (o : Option ℕ) → t ≡ false → o ≡ None → (if t then Some n else o) ≡ None
else_none t n o e f = rw (e, f) refl

sound_polygon : (room : ℕ) (rings : List (List Spot)) → (length rings == 0) ≡ false → Fits room (draft.Polygon rings []) → IsSound (shapes.Polygon rings)
sound_polygon room rings some f =
    let all = flat_map (λ r. r) rings in
    no_fault (nat_lt 2048 (length all)) (if length rings == 0 then Some 0 else position_from is_short 0 rings) (position_from is_open 0 rings) (position_from is_out 0 all)
    (few (length all) room (ap (λ (xs : List Spot). length xs + room) (sym (append-nil all)) ∙ f.count))
    (else_none (length rings == 0) 0 (position_from is_short 0 rings) some f.long)
    f.closed
    (ap (position_from is_out 0) (sym (append-nil all)) ∙ f.within)

-- ---- what stands after a spot
abbrev IsFine : ℕ → Next → Type 0
IsFine room (next.Spot d) = Fits room d
IsFine room (next.Whole s) = IsSound s

abbrev IsFineReading : ℕ → Reading Next → Type 0
IsFineReading room r = (x : Next × Tokens) → r ≡ Ok x → IsFine room x.0

fine_ok : (room : ℕ) (n : Next) (ts : Tokens) → IsFine room n → IsFineReading room (Ok (n, ts))
fine_ok room n ts h x e = let same : (n, ts) ≡ x = cc in subst (λ (y : Next × Tokens). IsFine room y.0) same h

fine_choice : (room : ℕ) (t : Bool) (r q : Reading Next) → (t ≡ true → IsFineReading room r) → (t ≡ false → IsFineReading room q) → IsFineReading room (cond t r q)
fine_choice room true r q h k = h refl
fine_choice room false r q h k = k refl

checked : {X : Type 0} (t : Bool) (f : WktFault) (r : Result X WktFault) (x : X) → cond t (Err f) r ≡ Ok x → (t ≡ false) × (r ≡ Ok x)
checked true f r x e = cc
checked false f r x e = (refl, e)

fine_line : (room : ℕ) (spots : List Spot) (ts : Tokens) → Fits room (draft.Line spots) → IsFineReading room (after_line_spot spots ts)
unfolding after_line_spot
fine_line room spots ts f x e =
    let token = bind_ok (separator ts) _ x e in
    fine_choice room (is_one 44 token.0.0) _ _
    (λ t. fine_ok room (next.Spot (draft.Line spots)) token.0.1 f)
    (λ t y d.
    let whole = bind_ok (whole_line token.0.0.at spots) _ y d in
    let long = checked (nat_lt (length spots) 2) _ _ whole.0 whole.1 in
    let same : shapes.Line spots ≡ whole.0 = (let k = long.1 in cc) in
    fine_ok room (next.Whole whole.0) token.0.1 (subst IsSound same (sound_line room spots f long.0)) y whole.2)
    x token.2

fine_after_ring : (room : ℕ) (rings : List (List Spot)) (ts : Tokens) → (length rings == 0) ≡ false → Fits room (draft.Polygon rings []) →
    IsFineReading room (after_ring rings ts)
unfolding after_ring
fine_after_ring room rings ts some f x e =
    let token = bind_ok (separator ts) _ x e in
    fine_choice room (not (is_one 44 token.0.0)) _ _
    (λ t. fine_ok room (next.Whole (shapes.Polygon rings)) token.0.1 (sound_polygon room rings some f))
    (λ t y d.
    let opened = bind_ok (mark 40 token.0.1) _ y d in
    fine_ok room (next.Spot (draft.Polygon rings [])) opened.0 f y opened.2)
    x token.2

fine_ring : (room : ℕ) (rings : List (List Spot)) (ring : List Spot) (ts : Tokens) → Fits room (draft.Polygon rings ring) → IsFineReading room (after_ring_spot rings ring ts)
unfolding after_ring_spot
fine_ring room rings ring ts f x e =
    let token = bind_ok (separator ts) _ x e in
    fine_choice room (is_one 44 token.0.0) _ _
    (λ t. fine_ok room (next.Spot (draft.Polygon rings ring)) token.0.1 f)
    (λ t y d.
    let whole = bind_ok (whole_ring token.0.0.at ring) _ y d in
    let long = checked (is_short ring) _ _ whole.0 whole.1 in
    let closed = checked (is_open ring) _ _ whole.0 long.1 in
    let same : ring ≡ whole.0 = (let k = closed.1 in cc) in
    fine_after_ring room (rings ++ whole.0 ∷ []) token.0.1 (some_rings rings whole.0)
    (subst (λ (r : List Spot). Fits room (draft.Polygon (rings ++ r ∷ []) [])) same (Fits-ring room rings ring long.0 closed.0 f)) y whole.2)
    x token.2

fine_spot : (room : ℕ) (d : Draft) (ts : Tokens) → Fits room d → IsFineReading room (after_spot d ts)
fine_spot room (draft.Line spots) ts f = fine_line room spots ts f
fine_spot room (draft.Polygon rings ring) ts f = fine_ring room rings ring ts f

fine_step : (room : ℕ) (d : Draft) (ts : Tokens) → Fits (suc room) d → IsFineReading room (step d ts)
unfolding step
fine_step room d ts f x e =
    let s = bind_ok (spot ts) _ x e in
    fine_spot room (with_spot d s.0.0) s.0.1 (Fits-more room d s.0.0 (spot_ok ts s.0 s.1) f) x s.2

sound_until : (room : ℕ) (further : Draft → Tokens → Reading Shape) (n : Next × Tokens) → IsFine room n.0 →
    ((d : Draft) (ts : Tokens) → Fits room d → IsSoundReading (further d ts)) → IsSoundReading (until_whole further n)
sound_until room further (next.Spot d, ts) f h = h d ts f
sound_until room further (next.Whole s, ts) f h = λ x e. let same : (s, ts) ≡ x = cc in subst (λ (y : Shape × Tokens). IsSound y.0) same f

sound_spots : (room : ℕ) (d : Draft) (ts : Tokens) → Fits room d → IsSoundReading (spots room d ts)
unfolding spots no_room
sound_spots zero d ts f x e = let token = bind_ok (first ts) _ x e in (let k = token.2 in cc)
sound_spots (suc room) d ts f x e =
    let n = bind_ok (step d ts) _ x e in
    sound_until room (λ further rest. spots room further rest) n.0 (fine_step room d ts f n.0 n.1) (λ more rest g. sound_spots room more rest g) x n.2

-- ---- whole shapes
sound_or_empty : (k : Kind) (body : Reading Shape) (o : Option Tokens) → IsSoundReading body → IsSoundReading (or_empty k body o)
sound_or_empty k body (Some rest) h x e =
    let made : Shape = shapes.Empty k in
    let same : (made, rest) ≡ x = cc in
    let sound : IsSound made = refl in
    subst (λ (y : Shape × Tokens). IsSound y.0) same sound
sound_or_empty k body None h x e = h x e

sound_choice : (t : Bool) (r q : Reading Shape) → IsSoundReading r → IsSoundReading q → IsSoundReading (cond t r q)
sound_choice true r q h k = h
sound_choice false r q h k = k

sound_fault : (at : ℕ) (kind : WktKind) → IsSoundReading (fault at kind)
sound_fault at kind x e = cc

sound_point_text : (ts : Tokens) → IsSoundReading (point ts)
unfolding point
sound_point_text ts = sound_or_empty kind.Point (point_body ts) (after_empty ts) (sound_body ts)

sound_line_text : (ts : Tokens) → IsSoundReading (line ts)
unfolding line line_body
sound_line_text ts = sound_or_empty kind.Line (line_body ts) (after_empty ts) (λ x e.
    let opened = bind_ok (mark 40 ts) _ x e in
    sound_spots most_spots (draft.Line []) opened.0 Fits-line x opened.2)

sound_polygon_text : (ts : Tokens) → IsSoundReading (polygon ts)
unfolding polygon polygon_body
sound_polygon_text ts = sound_or_empty kind.Polygon (polygon_body ts) (after_empty ts) (λ x e.
    let opened = bind_ok (mark 40 ts) _ x e in
    let ring = bind_ok (mark 40 opened.0) _ x opened.2 in
    sound_spots most_spots (draft.Polygon [] []) ring.0 Fits-polygon x ring.2)

pub sound_shape : (ts : Tokens) → IsSoundReading (shape ts)
unfolding shape
sound_shape ts x e =
    let step = bind_ok (first ts) _ x e in
    sound_choice _ (point step.0.1) _ (sound_point_text step.0.1)
    (sound_choice _ (line step.0.1) _ (sound_line_text step.0.1)
    (sound_choice _ (polygon step.0.1) _ (sound_polygon_text step.0.1) (sound_fault step.0.0.at kinds.Keyword))) x step.2

pub nothing_after : (s : Shape) (ts : Tokens) (t : Shape) → and_nothing s ts ≡ Ok t → s ≡ t
nothing_after s (Ends at) t e = cc
nothing_after s (Begins token rest) t e = cc

pub IsSound-shape_in : ReadsSound
unfolding lone_shape
IsSound-shape_in text s e =
    let step = bind_ok (shape (tokens text)) _ s e in
    subst IsSound (nothing_after step.0.0 step.0.1 s step.2) (sound_shape (tokens text) step.0 step.1)
