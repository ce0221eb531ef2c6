-- From where reading is it can come to a whole shape, where there is room for four more spots.
use Rattle.std.proofs.Common.{◌≡◌, ◌≤◌, ◌<◌, ℕ, zero, suc, ◌+◌, ◌*◌, nat_lt, Bool, true, false, not, List, [], ◌∷◌, ◌++◌, length, codes, ℤ, pos, refl, sym, ap, ◌∙◌, subst, Result, Ok, Err, arith, length-append}
use Rattle.std.proofs.lemmas.Bool.Decides.{nat_tests}
use Rattle.sg_shape.specs.declared.spots.Spot.{Spot}
use Rattle.sg_shape.specs.declared.shapes.Kind.{Kind}
use Rattle.sg_shape.specs.declared.shapes.Kind.TheVariants as kind
use Rattle.sg_shape.specs.declared.shapes.Shape.{Shape}
use Rattle.sg_shape.specs.declared.shapes.Shape.TheVariants as shapes
use Rattle.sg_shape.specs.Plane.{same_spot, last_of}
use Rattle.sg_shape.specs.Sound.{is_open, is_short}
use Rattle.sg_shape.proofs.Equal.{same_spot-Decides}
use Rattle.sg_wkt.specs.declared.drafts.Draft.{Draft}
use Rattle.sg_wkt.specs.declared.drafts.Draft.TheVariants as draft
use Rattle.sg_wkt.specs.Tokens.{Token, Tokens, Ends, Begins}
use Rattle.sg_wkt.specs.Numbers.{coordinate}
use Rattle.sg_wkt.specs.Grammar.{with_spot, and_nothing}
use Rattle.sg_wkt.specs.Spelled.{Texts, Listed, SpellsSpot}
use Rattle.sg_wkt.specs.Faults.{OpenPath}
use Rattle.sg_wkt.proofs.FaultStates.{State, Finishes}
use Rattle.sg_wkt.proofs.FaultPaths.{Opening, Wants, Has}
use Rattle.sg_wkt.proofs.FaultSteps.{Spots, Second, After, AfterRing, Opens, spots-found, second-found, after-comma, line-whole, ring-whole, rings-whole, opens-found}

-- ---- a token more
abbrev word : List ℕ → Token
word w = record { at = 0; bytes = w }

pub by_token : (S S' : State) (token : Token) → ((more : Tokens) → S (Begins token more) ≡ S' more) → Finishes S' → Finishes S
by_token S S' token e (more, s, f) = (Begins token more, s, e more ∙ f)

pub done-finishes : (s : Shape) → Finishes (and_nothing s)
done-finishes s = (Ends 0, s, refl)

-- ---- a spot more
spot-finishes : (room : ℕ) (d : Draft) (s : Spot) (v w : List ℕ) → coordinate v ≡ Ok s.x → coordinate w ≡ Ok s.y → Finishes (After room (with_spot d s)) → Finishes (Spots (suc room) d)
spot-finishes room d s v w e f h =
    by_token (Spots (suc room) d) (Second room d s.x) (word v) (λ more. spots-found room d (word v) more s.x e)
    (by_token (Second room d s.x) (After room (with_spot d s)) (word w) (λ more. second-found room d s.x (word w) more s.y f) h)

second-finishes : (room : ℕ) (d : Draft) (x : ℤ) → Finishes (After room (with_spot d (record { x = x; y = pos 0 }))) → Finishes (Second room d x)
second-finishes room d x h =
    by_token (Second room d x) (After room (with_spot d (record { x = x; y = pos 0 }))) (word (codes "0")) (λ more. second-found room d x (word (codes "0")) more (pos 0) refl) h

comma-finishes : (room : ℕ) (d : Draft) → Finishes (Spots room d) → Finishes (After room d)
comma-finishes room d h = by_token (After room d) (Spots room d) (word (codes ",")) (λ more. after-comma room d (word (codes ",")) more refl) h

-- ---- lines
abbrev origin : Spot
origin = record { x = pos 0; y = pos 0 }

two_more : (spots : List Spot) (a b : Spot) → nat_lt (length ((spots ++ a ∷ []) ++ b ∷ [])) 2 ≡ false
two_more spots a b =
    let m = length-append (spots ++ a ∷ []) (b ∷ []) in
    let n = length-append spots (a ∷ []) in
    let least : 2 ≤ length ((spots ++ a ∷ []) ++ b ∷ []) = omega (arith, m, n) in
    grind (arith, nat_tests)

line-closes : (room : ℕ) (spots : List Spot) → nat_lt (length spots) 2 ≡ false → Finishes (After room (draft.Line spots))
line-closes room spots e =
    by_token (After room (draft.Line spots)) (and_nothing (shapes.Line spots)) (word (codes ")")) (λ more. line-whole room spots (word (codes ")")) more refl refl e)
    (done-finishes (shapes.Line spots))

line-spots : (room : ℕ) (spots : List Spot) → 2 ≤ room → Finishes (Spots room (draft.Line spots))
line-spots zero spots h = absurd (omega (arith, h))
line-spots (suc zero) spots h = absurd (omega (arith, h))
line-spots (suc (suc room)) spots h =
    spot-finishes (suc room) (draft.Line spots) origin (codes "0") (codes "0") refl refl
    (comma-finishes (suc room) (draft.Line (spots ++ origin ∷ []))
    (spot-finishes room (draft.Line (spots ++ origin ∷ [])) origin (codes "0") (codes "0") refl refl
    (line-closes room ((spots ++ origin ∷ []) ++ origin ∷ []) (two_more spots origin origin))))

-- ---- rings
-- the ring has no spot, or begins with this one
abbrev First : List Spot → Spot → Type 0
First [] p = Unit {0}
First (s ∷ ss) p = s ≡ p

first-more : (ring : List Spot) (p : Spot) → First ring p → First (ring ++ p ∷ []) p
first-more [] p h = refl
first-more (s ∷ ss) p h = h

first-other : (ring : List Spot) (p q : Spot) → 1 ≤ length ring → First ring p → First (ring ++ q ∷ []) p
first-other [] p q n h = absurd (omega (arith, n))
first-other (s ∷ ss) p q n h = h

last-more : (s p : Spot) (ss : List Spot) → last_of s (ss ++ p ∷ []) ≡ p
last-more s p [] = refl
last-more s p (t ∷ ts) = last-more t p ts

same_self : (p : Spot) → same_spot p p ≡ true
same_self p = (same_spot-Decides p p).1 refl

closed : (ring : List Spot) (p : Spot) → First ring p → is_open (ring ++ p ∷ []) ≡ false
closed [] p h = ap not (same_self p)
closed (s ∷ ss) p h = ap (λ (q : Spot). not (same_spot s q)) (last-more s p ss) ∙ ap (λ (q : Spot). not (same_spot q p)) h ∙ ap not (same_self p)

four_spots : (ring : List Spot) (p : Spot) → 1 ≤ length ring → is_short (((ring ++ p ∷ []) ++ p ∷ []) ++ p ∷ []) ≡ false
four_spots ring p n =
    let a = length-append ((ring ++ p ∷ []) ++ p ∷ []) (p ∷ []) in
    let b = length-append (ring ++ p ∷ []) (p ∷ []) in
    let c = length-append ring (p ∷ []) in
    let least : 4 ≤ length (((ring ++ p ∷ []) ++ p ∷ []) ++ p ∷ []) = omega (arith, a, b, c, n) in
    grind (arith, nat_tests)

pub rings-finishes : (room : ℕ) (rings : List (List Spot)) → Finishes (AfterRing room rings)
rings-finishes room rings =
    by_token (AfterRing room rings) (and_nothing (shapes.Polygon rings)) (word (codes ")")) (λ more. rings-whole room rings (word (codes ")")) more refl refl)
    (done-finishes (shapes.Polygon rings))

ring-closes : (room : ℕ) (rings : List (List Spot)) (ring : List Spot) → is_short ring ≡ false → is_open ring ≡ false → Finishes (After room (draft.Polygon rings ring))
ring-closes room rings ring e f =
    by_token (After room (draft.Polygon rings ring)) (AfterRing room (rings ++ ring ∷ [])) (word (codes ")")) (λ more. ring-whole room rings ring (word (codes ")")) more refl refl e f)
    (rings-finishes room (rings ++ ring ∷ []))

-- where a ring may begin, and the texts of that spot
record Start (ring : List Spot) : Type 0 where
  pub spot : Spot
  pub x : List ℕ
  pub y : List ℕ
  pub is_x : coordinate x ≡ Ok spot.x
  pub is_y : coordinate y ≡ Ok spot.y
  pub first : First ring spot

listed-start : (ts : Texts) (ring : List Spot) → Listed SpellsSpot ts ring → Start ring
listed-start ts [] h = absurd h
listed-start ts (s ∷ ss) (front, back, e, (v, w, is, f, g), hs) = record { spot = s; x = v; y = w; is_x = f; is_y = g; first = refl }

start-after : (k : Kind) (b : Texts) (ring : List Spot) → OpenPath k b ring → Start ring
start-after k b ring (w, front, inner, e, is, h) = listed-start inner ring h

start-before : (k : Kind) (b : Texts) (ring : List Spot) → Opening k b ring → Start ring
start-before k b [] h = record { spot = origin; x = codes "0"; y = codes "0"; is_x = refl; is_y = refl; first = tt }
start-before k b (s ∷ ss) (w, front, inner, e, is, (ts, f, h)) = listed-start ts (s ∷ ss) h

-- three spots more
three-more : (room : ℕ) (rings : List (List Spot)) (ring : List Spot) → 3 ≤ room → 1 ≤ length ring → Start ring → Finishes (After room (draft.Polygon rings ring))
three-more zero rings ring h n a = absurd (omega (arith, h))
three-more (suc zero) rings ring h n a = absurd (omega (arith, h))
three-more (suc (suc zero)) rings ring h n a = absurd (omega (arith, h))
three-more (suc (suc (suc room))) rings ring h n a =
    let p = a.spot in
    let one : List Spot = ring ++ p ∷ [] in
    let two : List Spot = one ++ p ∷ [] in
    let three : List Spot = two ++ p ∷ [] in
    comma-finishes (suc (suc (suc room))) (draft.Polygon rings ring)
    (spot-finishes (suc (suc room)) (draft.Polygon rings ring) p a.x a.y a.is_x a.is_y
    (comma-finishes (suc (suc room)) (draft.Polygon rings one)
    (spot-finishes (suc room) (draft.Polygon rings one) p a.x a.y a.is_x a.is_y
    (comma-finishes (suc room) (draft.Polygon rings two)
    (spot-finishes room (draft.Polygon rings two) p a.x a.y a.is_x a.is_y
    (ring-closes room rings three (four_spots ring p n) (closed two p (first-more one p (first-more ring p a.first)))))))))

more_than_none : (ring : List Spot) (p : Spot) → 1 ≤ length (ring ++ p ∷ [])
more_than_none ring p = omega (arith, length-append ring (p ∷ []))

ring-spots : (room : ℕ) (rings : List (List Spot)) (ring : List Spot) → 4 ≤ room → Start ring → Finishes (Spots room (draft.Polygon rings ring))
ring-spots zero rings ring h a = absurd (omega (arith, h))
ring-spots (suc room) rings ring h a =
    spot-finishes room (draft.Polygon rings ring) a.spot a.x a.y a.is_x a.is_y
    (three-more room rings (ring ++ a.spot ∷ []) (omega (arith, h)) (more_than_none ring a.spot)
    (record { spot = a.spot; x = a.x; y = a.y; is_x = a.is_x; is_y = a.is_y; first = first-more ring a.spot a.first }))

-- after a spot's first number
ring-second : (room : ℕ) (rings : List (List Spot)) (ring : List Spot) (v : List ℕ) (x : ℤ) → coordinate v ≡ Ok x → 3 ≤ room → Start ring → Finishes (Second room (draft.Polygon rings ring) x)
ring-second room rings [] v x e h a =
    second-finishes room (draft.Polygon rings []) x
    (three-more room rings (record { x = x; y = pos 0 } ∷ []) h (omega arith)
    (record { spot = record { x = x; y = pos 0 }; x = v; y = codes "0"; is_x = e; is_y = refl; first = refl }))
ring-second room rings (s ∷ ss) v x e h a =
    second-finishes room (draft.Polygon rings (s ∷ ss)) x
    (three-more room rings ((s ∷ ss) ++ record { x = x; y = pos 0 } ∷ []) h (more_than_none (s ∷ ss) (record { x = x; y = pos 0 }))
    (record { spot = a.spot; x = a.x; y = a.y; is_x = a.is_x; is_y = a.is_y; first = a.first }))

-- ---- any draft
pub spots-finishes : (room : ℕ) (d : Draft) (b : Texts) → 4 ≤ room → Wants b room d → Finishes (Spots room d)
spots-finishes room (draft.Line spots) b h w = line-spots room spots (omega (arith, h))
spots-finishes room (draft.Polygon rings ring) b h w = ring-spots room rings ring h (start-before kind.Polygon b ring w.path)

pub second-ends : (room : ℕ) (d : Draft) (b : Texts) (v : List ℕ) (x : ℤ) → coordinate v ≡ Ok x → 3 ≤ room → Wants b (suc room) d → Finishes (Second room d x)
second-ends room (draft.Line spots) b v x e h w =
    second-finishes room (draft.Line spots) x (comma-finishes room (draft.Line (spots ++ record { x = x; y = pos 0 } ∷ [])) (line-spots room (spots ++ record { x = x; y = pos 0 } ∷ []) (omega (arith, h))))
second-ends room (draft.Polygon rings ring) b v x e h w = ring-second room rings ring v x e h (start-before kind.Polygon b ring w.path)

some_spot : (k : Kind) (b : Texts) (ring : List Spot) → OpenPath k b ring → 1 ≤ length ring
some_spot k b [] (w, front, inner, e, is, h) = absurd h
some_spot k b (s ∷ ss) h = omega arith

pub after-finishes : (room : ℕ) (d : Draft) (b : Texts) → 3 ≤ room → Has b room d → Finishes (After room d)
after-finishes room (draft.Line spots) b h w = comma-finishes room (draft.Line spots) (line-spots room spots (omega (arith, h)))
after-finishes room (draft.Polygon rings ring) b h w = three-more room rings ring h (some_spot kind.Polygon b ring w.path) (start-after kind.Polygon b ring w.path)

pub opens-finishes : (room : ℕ) (rings : List (List Spot)) → 4 ≤ room → Finishes (Opens room rings)
opens-finishes room rings h =
    by_token (Opens room rings) (Spots room (draft.Polygon rings [])) (word (codes "(")) (λ more. opens-found room rings (word (codes "(")) more refl)
    (ring-spots room rings [] h (record { spot = origin; x = codes "0"; y = codes "0"; is_x = refl; is_y = refl; first = tt }))
