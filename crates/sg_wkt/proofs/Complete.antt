-- Tokens that spell a sound shape are read as that shape.
use Rattle.std.proofs.Common.{◌≡◌, ℕ, zero, suc, ◌+◌, ◌-◌, ◌≤◌, nat_lt, true, false, List, [], ◌∷◌, ◌++◌, length, flat_map, codes, ℤ, refl, sym, ap, ◌∙◌, Ok, arith, append_assoc, append-nil, length-append}
use Rattle.std.specs.Prelude.{bytes_eq}
use Rattle.std.specs.Str.{str_to_ascii_lowercase}
use Rattle.std.proofs.lemmas.Slice.Eq.{bytes_eq-Decides}
use Rattle.std.proofs.lemmas.Bool.Decides.{nat_tests}
use Rattle.sg_shape.specs.declared.spots.Spot.{Spot}
use Rattle.sg_shape.specs.declared.shapes.Kind.{Kind}
use Rattle.sg_shape.specs.declared.shapes.Kind.TheVariants as kind
use Rattle.sg_shape.specs.declared.shapes.Shape.{Shape}
use Rattle.sg_shape.specs.declared.shapes.Shape.TheVariants as shapes
use Rattle.sg_shape.specs.Sound.{IsSound, is_open, is_short}
use Rattle.sg_wkt.specs.declared.drafts.Draft.{Draft}
use Rattle.sg_wkt.specs.declared.drafts.Draft.TheVariants as draft
use Rattle.sg_wkt.specs.declared.drafts.Next.{Next}
use Rattle.sg_wkt.specs.declared.drafts.Next.TheVariants as next
use Rattle.sg_wkt.specs.Tokens.{Tokens, Ends, Begins}
use Rattle.sg_wkt.specs.Numbers.{coordinate}
use Rattle.sg_wkt.specs.Grammar.{Reading, ◌>>=◌, mark, separator, number, spot, most_spots, after_line_spot, after_ring, after_ring_spot, after_spot, with_spot, step, until_whole, spots, point_body, line_body, polygon_body, point, line, polygon, shape, and_nothing, lone_shape, is_word}
use Rattle.sg_wkt.specs.Canonical.{word_of}
use Rattle.sg_wkt.specs.Spelled.{Texts, texts_of, Further, SpellsSpot, SpellsPath, Worded, Spells}
use Rattle.sg_wkt.proofs.Fronts.{at_front}
use Rattle.sg_wkt.proofs.SoundParts.{SoundLine, SoundPolygon, line_sound, polygon_sound, Each, IsRing}

-- ---- tokens by their texts
pub front_of : (ts : Tokens) (b : List ℕ) (bs : Texts) → texts_of ts ≡ b ∷ bs → (at : ℕ) × (rest : Tokens) × (ts ≡ at_front at b rest) × (texts_of rest ≡ bs)
front_of (Ends at) b bs e = cc
front_of (Begins token rest) b bs e =
    let same : token.bytes ≡ b = cc in
    let others : texts_of rest ≡ bs = cc in
    (token.at, rest, ap (λ (x : List ℕ). at_front token.at x rest) same, others)

pub end_of : (ts : Tokens) → texts_of ts ≡ [] → (at : ℕ) × (ts ≡ Ends at)
end_of (Ends at) e = (at, refl)
end_of (Begins token rest) e = cc

-- what gives this, and leaves tokens with these texts
abbrev pub Leads : {X : Type 0} → Reading X → X → Texts → Type 0
Leads r x bs = (rest : Tokens) × (r ≡ Ok (x, rest)) × (texts_of rest ≡ bs)

-- ---- spots
spot-two : (tx ty : List ℕ) (x y : ℤ) (a b : ℕ) (rest : Tokens) → coordinate tx ≡ Ok x → coordinate ty ≡ Ok y →
    spot (at_front a tx (at_front b ty rest)) ≡ Ok (record { x = x; y = y }, rest)
unfolding spot number
spot-two tx ty x y a b rest ex ey = rw (ex, ey) refl

pub spot-leads : (ts : Tokens) (s : Spot) (front bs : Texts) → SpellsSpot front s → texts_of ts ≡ front ++ bs → Leads (spot ts) s bs
spot-leads ts s front bs h e =
    let a = front_of ts h.0 (h.1 ∷ bs) (e ∙ ap (λ (f : Texts). f ++ bs) h.2) in
    let b = front_of a.1 h.1 bs a.3 in
    (b.1, ap spot (a.2 ∙ ap (at_front a.0 h.0) b.2) ∙ spot-two h.0 h.1 s.x s.y a.0 b.0 b.1 h.3 h.4, b.3)

pub step-from : (d : Draft) (ts rest : Tokens) (s : Spot) → spot ts ≡ Ok (s, rest) → step d ts ≡ after_spot (with_spot d s) rest
unfolding step
step-from d ts rest s e = rw e refl

-- ---- what stands after a spot
pub comma_next : (at : ℕ) (d : Draft) (ts : Tokens) → after_spot d (at_front at (codes ",") ts) ≡ Ok (next.Spot d, ts)
unfolding after_line_spot after_ring_spot separator
comma_next at (draft.Line spots) ts = refl
comma_next at (draft.Polygon rings ring) ts = refl

line_ends : (at : ℕ) (spots : List Spot) (ts : Tokens) → nat_lt (length spots) 2 ≡ false →
    after_spot (draft.Line spots) (at_front at (codes ")") ts) ≡ Ok (next.Whole (shapes.Line spots), ts)
unfolding after_line_spot separator
line_ends at spots ts e = rw e refl

ring_ends : (at : ℕ) (rings : List (List Spot)) (ring : List Spot) (ts : Tokens) → is_short ring ≡ false → is_open ring ≡ false →
    after_spot (draft.Polygon rings ring) (at_front at (codes ")") ts) ≡ after_ring (rings ++ ring ∷ []) ts
unfolding after_ring_spot separator
ring_ends at rings ring ts e f = rw (e, f) refl

ring_next : (at bt : ℕ) (rings : List (List Spot)) (ts : Tokens) →
    after_ring rings (at_front at (codes ",") (at_front bt (codes "(") ts)) ≡ Ok (next.Spot (draft.Polygon rings []), ts)
unfolding after_ring separator mark
ring_next at bt rings ts = refl

polygon_ends : (at : ℕ) (rings : List (List Spot)) (ts : Tokens) → after_ring rings (at_front at (codes ")") ts) ≡ Ok (next.Whole (shapes.Polygon rings), ts)
unfolding after_ring separator
polygon_ends at rings ts = refl

-- ---- all spots of a line or a ring
abbrev with_spots : Draft → List Spot → Draft
with_spots d [] = d
with_spots d (s ∷ ss) = with_spots (with_spot d s) ss

abbrev pub go_on : ℕ → Next × Tokens → Reading Shape
go_on room = until_whole (λ further rest. spots room further rest)

pub spots-step : (room : ℕ) (d : Draft) (ts : Tokens) → spots (suc room) d ts ≡ (step d ts >>= go_on room)
unfolding spots
spots-step room d ts = refl

-- after these spots there are tokens with these texts, and the draft goes on with them
abbrev GoesOn : Reading Shape → Draft → ℕ → Texts → Type 0
GoesOn r d k bs = (rest : Tokens) × (texts_of rest ≡ bs) × (r ≡ (after_spot d rest >>= go_on k))

-- the texts of a comma, a spot and the rest
pub unpacked : (front back bs : Texts) (all : Texts) → all ≡ codes "," ∷ (front ++ back) → all ++ bs ≡ codes "," ∷ (front ++ (back ++ bs))
unpacked front back bs all e = ap (λ (f : Texts). f ++ bs) e ∙ ap (λ (f : Texts). codes "," ∷ f) (append_assoc front back bs)

spots-lead : (ss : List Spot) (room k : ℕ) (d : Draft) (s : Spot) (ts : Tokens) (front back bs : Texts) →
    SpellsSpot front s → Further SpellsSpot back ss → texts_of ts ≡ front ++ (back ++ bs) → room ≡ length ss + k →
    GoesOn (spots (suc room) d ts) (with_spots d (s ∷ ss)) k bs
spots-lead [] room k d s ts front back bs h hs e n =
    let same : room ≡ k = omega (arith, n) in
    let read = spot-leads ts s front bs h (e ∙ ap (λ (f : Texts). front ++ (f ++ bs)) hs) in (
      read.0,
      read.2,
      ap (λ (r : ℕ). spots (suc r) d ts) same ∙ spots-step k d ts
          ∙ ap (λ (r : Reading Next). r >>= go_on k) (step-from d ts read.0 s read.1),
    )
spots-lead (t ∷ rest) zero k d s ts front back bs h hs e n = absurd (omega (arith, n))
spots-lead (t ∷ others) (suc room) k d s ts front back bs h hs e n =
    let tail : Texts = hs.0 ++ (hs.1 ++ bs) in
    let read = spot-leads ts s front (codes "," ∷ tail) h (e ∙ ap (λ (f : Texts). front ++ f) (unpacked hs.0 hs.1 bs back hs.2)) in
    let comma = front_of read.0 (codes ",") tail read.2 in
    let more = spots-lead others room k (with_spot d s) t comma.1 hs.0 hs.1 bs hs.3 hs.4 comma.3 (omega (arith, n)) in (
      more.0,
      more.1,
      spots-step (suc room) d ts
          ∙ ap (λ (r : Reading Next). r >>= go_on (suc room)) (step-from d ts read.0 s read.1 ∙ ap (after_spot (with_spot d s)) comma.2 ∙ comma_next comma.0 (with_spot d s) comma.1)
          ∙ more.2,
    )

line-with : (ss done : List Spot) → with_spots (draft.Line done) ss ≡ draft.Line (done ++ ss)
line-with [] done = ap draft.Line (sym (append-nil done))
line-with (s ∷ ss) done = line-with ss (done ++ s ∷ []) ∙ ap draft.Line (append_assoc done (s ∷ []) ss)

ring-with : (rings : List (List Spot)) (ss done : List Spot) → with_spots (draft.Polygon rings done) ss ≡ draft.Polygon rings (done ++ ss)
ring-with rings [] done = ap (draft.Polygon rings) (sym (append-nil done))
ring-with rings (s ∷ ss) done = ring-with rings ss (done ++ s ∷ []) ∙ ap (draft.Polygon rings) (append_assoc done (s ∷ []) ss)

-- ---- lines
-- what gives this shape and leaves no token
abbrev ReadsTo : Reading Shape → Shape → Type 0
ReadsTo r s = (end : ℕ) × (r ≡ Ok (s, Ends end))

line-lead : (s : Spot) (ss : List Spot) (ts : Tokens) (front back : Texts) → SpellsSpot front s → Further SpellsSpot back ss →
    texts_of ts ≡ front ++ (back ++ codes ")" ∷ []) → nat_lt 2048 (length (s ∷ ss)) ≡ false → nat_lt (length (s ∷ ss)) 2 ≡ false →
    ReadsTo (spots most_spots (draft.Line []) ts) (shapes.Line (s ∷ ss))
line-lead s ss ts front back h hs e most least =
    let few : 2047 ≡ length ss + (2047 - length ss) = grind (arith, nat_tests) in
    let read = spots-lead ss 2047 (2047 - length ss) (draft.Line []) s ts front back (codes ")" ∷ []) h hs e few in
    let close = front_of read.0 (codes ")") [] read.1 in
    let end = end_of close.1 close.3 in (
      end.0,
      read.2
          ∙ ap (λ (d : Draft). after_spot d read.0 >>= go_on (2047 - length ss)) (line-with (s ∷ ss) [])
          ∙ ap (λ (r : Reading Next). r >>= go_on (2047 - length ss))
          (ap (after_spot (draft.Line (s ∷ ss))) close.2 ∙ line_ends close.0 (s ∷ ss) close.1 least ∙ ap (λ (ts : Tokens). Ok (next.Whole (shapes.Line (s ∷ ss)), ts)) end.1),
    )

-- ---- polygons
-- one ring after its bracket, up to what stands after it
ring-lead : (s : Spot) (ss : List Spot) (before : List (List Spot)) (ts : Tokens) (room k : ℕ) (front back bs : Texts) →
    SpellsSpot front s → Further SpellsSpot back ss → texts_of ts ≡ front ++ (back ++ codes ")" ∷ bs) → IsRing (s ∷ ss) → room ≡ length ss + k →
    (rest : Tokens) × (texts_of rest ≡ bs) × (spots (suc room) (draft.Polygon before []) ts ≡ (after_ring (before ++ (s ∷ ss) ∷ []) rest >>= go_on k))
ring-lead s ss before ts room k front back bs h hs e ring n =
    let read = spots-lead ss room k (draft.Polygon before []) s ts front back (codes ")" ∷ bs) h hs e n in
    let close = front_of read.0 (codes ")") bs read.1 in (
      close.1,
      close.3,
      read.2
          ∙ ap (λ (d : Draft). after_spot d read.0 >>= go_on k) (ring-with before (s ∷ ss) [])
          ∙ ap (λ (r : Reading Next). r >>= go_on k)
          (ap (after_spot (draft.Polygon before (s ∷ ss))) close.2 ∙ ring_ends close.0 before (s ∷ ss) close.1 ring.long ring.closed),
    )

-- a comma, a bracket and the texts of a further ring
ring-opened : (rings : List (List Spot)) (ts : Tokens) (bs : Texts) (k : ℕ) → texts_of ts ≡ codes "," ∷ codes "(" ∷ bs →
    (rest : Tokens) × (texts_of rest ≡ bs) × ((after_ring rings ts >>= go_on k) ≡ spots k (draft.Polygon rings []) rest)
ring-opened rings ts bs k e =
    let comma = front_of ts (codes ",") (codes "(" ∷ bs) e in
    let bracket = front_of comma.1 (codes "(") bs comma.3 in (
      bracket.1,
      bracket.3,
      ap (λ (r : Reading Next). r >>= go_on k)
          (ap (after_ring rings) (comma.2 ∙ ap (at_front comma.0 (codes ",")) bracket.2) ∙ ring_next comma.0 bracket.0 rings bracket.1),
    )

-- the texts after a ring that is followed by another
pub another : (all inner front back more : Texts) → all ≡ codes "," ∷ (front ++ more) → front ≡ codes "(" ∷ (inner ++ codes ")" ∷ []) →
    all ++ back ≡ codes "," ∷ codes "(" ∷ (inner ++ codes ")" ∷ (more ++ back))
another all inner front back more e f =
    unpacked front more back all e
    ∙ ap (λ (xs : Texts). codes "," ∷ (xs ++ (more ++ back))) f
    ∙ ap (λ (xs : Texts). codes "," ∷ codes "(" ∷ xs) (append_assoc inner (codes ")" ∷ []) (more ++ back))

pub inner_texts : (inner front back bs : Texts) → inner ≡ front ++ back → inner ++ bs ≡ front ++ (back ++ bs)
inner_texts inner front back bs e = ap (λ (xs : Texts). xs ++ bs) e ∙ append_assoc front back bs

rings-lead : (more before : List (List Spot)) (s : Spot) (ss : List Spot) (ts : Tokens) (room : ℕ) (front back bs : Texts) →
    SpellsSpot front s → Further SpellsSpot back ss → Further SpellsPath bs more → texts_of ts ≡ front ++ (back ++ codes ")" ∷ (bs ++ codes ")" ∷ [])) →
    IsRing (s ∷ ss) → Each IsRing more → length ss + length (flat_map (λ r. r) more) ≤ room →
    ReadsTo (spots (suc room) (draft.Polygon before []) ts) (shapes.Polygon (before ++ (s ∷ ss) ∷ more))
rings-lead [] before s ss ts room front back bs h hs hr e ring rings few =
    let read = ring-lead s ss before ts room (room - length ss) front back (bs ++ codes ")" ∷ []) h hs e ring (omega (arith, few)) in
    let close = front_of read.0 (codes ")") [] (read.1 ∙ ap (λ (xs : Texts). xs ++ codes ")" ∷ []) hr) in
    let end = end_of close.1 close.3 in (
      end.0,
      read.2
          ∙ ap (λ (r : Reading Next). r >>= go_on (room - length ss))
          (ap (after_ring (before ++ (s ∷ ss) ∷ [])) close.2 ∙ polygon_ends close.0 (before ++ (s ∷ ss) ∷ []) close.1
          ∙ ap (λ (ts : Tokens). Ok (next.Whole (shapes.Polygon (before ++ (s ∷ ss) ∷ [])), ts)) end.1),
    )
rings-lead ([] ∷ more) before s ss ts room front back bs h hs hr e ring rings few = let long = rings.0.long in cc
rings-lead ((t ∷ others) ∷ more) before s ss ts room front back bs h hs hr e ring rings few =
    let path = hr.3 in
    let total = length-append (t ∷ others) (flat_map (λ r. r) more) in
    let read = ring-lead s ss before ts room (suc (room - length ss - 1)) front back (bs ++ codes ")" ∷ []) h hs e ring (omega (arith, few, total)) in
    let opened = ring-opened (before ++ (s ∷ ss) ∷ []) read.0 (path.0 ++ codes ")" ∷ (hr.1 ++ codes ")" ∷ [])) (suc (room - length ss - 1))
    (read.1 ∙ another bs path.0 hr.0 (codes ")" ∷ []) hr.1 hr.2 path.1) in
    let further = rings-lead more (before ++ (s ∷ ss) ∷ []) t others opened.0 (room - length ss - 1) path.2.0 path.2.1 hr.1 path.2.3 path.2.4 hr.4
    (opened.1 ∙ inner_texts path.0 path.2.0 path.2.1 (codes ")" ∷ (hr.1 ++ codes ")" ∷ [])) path.2.2) rings.0 rings.1 (omega (arith, few, total)) in (
      further.0,
      read.2 ∙ opened.2 ∙ further.1
          ∙ ap (λ (rs : List (List Spot)). Ok (shapes.Polygon rs, Ends further.0)) (append_assoc before ((s ∷ ss) ∷ []) ((t ∷ others) ∷ more)),
    )

-- ---- whole shapes
alone : (r : Reading Shape) (s : Shape) → ReadsTo r s → (r >>= (λ x. and_nothing x.0 x.1)) ≡ Ok s
alone r s h = rw h.1 refl

-- a word that is one is no other
other_word : (word other w : List ℕ) → is_word word w ≡ true → is_word other w ≡ bytes_eq (str_to_ascii_lowercase word) (str_to_ascii_lowercase other)
other_word word other w h =
    ap (λ (x : List ℕ). bytes_eq x (str_to_ascii_lowercase other)) ((bytes_eq-Decides (str_to_ascii_lowercase w) (str_to_ascii_lowercase word)).0 h)

lone_shape-point : (at : ℕ) (w : List ℕ) (ts : Tokens) → is_word (codes "POINT") w ≡ true → lone_shape (at_front at w ts) ≡ (point ts >>= (λ x. and_nothing x.0 x.1))
unfolding lone_shape shape
lone_shape-point at w ts e = rw e refl

pub lone_shape-line : (at : ℕ) (w : List ℕ) (ts : Tokens) → is_word (codes "LINESTRING") w ≡ true → lone_shape (at_front at w ts) ≡ (line ts >>= (λ x. and_nothing x.0 x.1))
unfolding lone_shape shape
lone_shape-line at w ts e =
    let point' : is_word (codes "POINT") w ≡ false = other_word (codes "LINESTRING") (codes "POINT") w e in
    rw (point', e) refl

pub lone_shape-polygon : (at : ℕ) (w : List ℕ) (ts : Tokens) → is_word (codes "POLYGON") w ≡ true → lone_shape (at_front at w ts) ≡ (polygon ts >>= (λ x. and_nothing x.0 x.1))
unfolding lone_shape shape
lone_shape-polygon at w ts e =
    let point' : is_word (codes "POINT") w ≡ false = other_word (codes "POLYGON") (codes "POINT") w e in
    let line' : is_word (codes "LINESTRING") w ≡ false = other_word (codes "POLYGON") (codes "LINESTRING") w e in
    rw (point', line', e) refl

point-empty : (at end : ℕ) (w : List ℕ) → is_word (codes "EMPTY") w ≡ true → point (at_front at w (Ends end)) ≡ Ok (shapes.Empty kind.Point, Ends end)
unfolding point
point-empty at end w e = rw e refl

line-empty : (at end : ℕ) (w : List ℕ) → is_word (codes "EMPTY") w ≡ true → line (at_front at w (Ends end)) ≡ Ok (shapes.Empty kind.Line, Ends end)
unfolding line
line-empty at end w e = rw e refl

polygon-empty : (at end : ℕ) (w : List ℕ) → is_word (codes "EMPTY") w ≡ true → polygon (at_front at w (Ends end)) ≡ Ok (shapes.Empty kind.Polygon, Ends end)
unfolding polygon
polygon-empty at end w e = rw e refl

-- "(" spot ")", where the spot is read
point-bracket : (at bt : ℕ) (ts : Tokens) (s : Spot) (end : ℕ) → spot ts ≡ Ok (s, at_front bt (codes ")") (Ends end)) →
    point (at_front at (codes "(") ts) ≡ Ok (shapes.Point s, Ends end)
unfolding point point_body mark
point-bracket at bt ts s end e = rw e refl

pub line-bracket : (at : ℕ) (ts : Tokens) → line (at_front at (codes "(") ts) ≡ spots most_spots (draft.Line []) ts
unfolding line line_body mark
line-bracket at ts = refl

pub polygon-bracket : (at bt : ℕ) (ts : Tokens) → polygon (at_front at (codes "(") (at_front bt (codes "(") ts)) ≡ spots most_spots (draft.Polygon [] []) ts
unfolding polygon polygon_body mark
polygon-bracket at bt ts = refl

-- a word and EMPTY
pub record TwoWords (word : List ℕ) (ts : Tokens) : Type 0 where
  pub at : ℕ
  pub w : List ℕ
  pub bt : ℕ
  pub v : List ℕ
  pub end : ℕ
  pub is : ts ≡ at_front at w (at_front bt v (Ends end))
  pub first : is_word word w ≡ true
  pub second : is_word (codes "EMPTY") v ≡ true

two_words : (word : List ℕ) (ts : Tokens) → Worded word (λ rest. Worded (codes "EMPTY") (λ none. none ≡ []) rest) (texts_of ts) → TwoWords word ts
two_words word ts h =
    let a = front_of ts h.0 h.1 h.2 in
    let empty = h.4 in
    let b = front_of a.1 empty.0 empty.1 (a.3 ∙ empty.2) in
    let c = end_of b.1 (b.3 ∙ empty.4) in
    record {
      at = a.0;
      w = h.0;
      bt = b.0;
      v = empty.0;
      end = c.0;
      is = a.2 ∙ ap (at_front a.0 h.0) (b.2 ∙ ap (at_front b.0 empty.0) c.1);
      first = h.3;
      second = empty.3;
    }

pub empty-read : (k : Kind) (ts : Tokens) → Spells (texts_of ts) (shapes.Empty k) → lone_shape ts ≡ Ok (shapes.Empty k)
empty-read kind.Point ts h =
    let t = two_words (word_of kind.Point) ts h in
    ap lone_shape t.is ∙ lone_shape-point t.at t.w (at_front t.bt t.v (Ends t.end)) t.first ∙ alone _ _ (t.end, point-empty t.bt t.end t.v t.second)
empty-read kind.Line ts h =
    let t = two_words (word_of kind.Line) ts h in
    ap lone_shape t.is ∙ lone_shape-line t.at t.w (at_front t.bt t.v (Ends t.end)) t.first ∙ alone _ _ (t.end, line-empty t.bt t.end t.v t.second)
empty-read kind.Polygon ts h =
    let t = two_words (word_of kind.Polygon) ts h in
    ap lone_shape t.is ∙ lone_shape-polygon t.at t.w (at_front t.bt t.v (Ends t.end)) t.first ∙ alone _ _ (t.end, polygon-empty t.bt t.end t.v t.second)

pub point-read : (s : Spot) (ts : Tokens) → Spells (texts_of ts) (shapes.Point s) → lone_shape ts ≡ Ok (shapes.Point s)
point-read s ts h =
    let inner = h.4 in
    let a = front_of ts h.0 h.1 h.2 in
    let b = front_of a.1 (codes "(") (inner.0 ++ codes ")" ∷ []) (a.3 ∙ inner.1) in
    let read = spot-leads b.1 s inner.0 (codes ")" ∷ []) inner.2 b.3 in
    let close = front_of read.0 (codes ")") [] read.2 in
    let end = end_of close.1 close.3 in
    let rest : read.0 ≡ at_front close.0 (codes ")") (Ends end.0) = close.2 ∙ ap (at_front close.0 (codes ")")) end.1 in
    ap lone_shape a.2 ∙ lone_shape-point a.0 h.0 a.1 h.3
    ∙ alone _ _ (end.0, ap point b.2 ∙ point-bracket b.0 close.0 b.1 s end.0 (read.1 ∙ ap (λ (t : Tokens). Ok (s, t)) rest))

line-read : (path : List Spot) (ts : Tokens) → Spells (texts_of ts) (shapes.Line path) → SoundLine path → lone_shape ts ≡ Ok (shapes.Line path)
line-read [] ts h sound = absurd h.4.2
line-read (s ∷ ss) ts h sound =
    let inner = h.4 in
    let spots' = inner.2 in
    let a = front_of ts h.0 h.1 h.2 in
    let b = front_of a.1 (codes "(") (inner.0 ++ codes ")" ∷ []) (a.3 ∙ inner.1) in
    let read = line-lead s ss b.1 spots'.0 spots'.1 spots'.3 spots'.4 (b.3 ∙ inner_texts inner.0 spots'.0 spots'.1 (codes ")" ∷ []) spots'.2) sound.most sound.least in
    ap lone_shape a.2 ∙ lone_shape-line a.0 h.0 a.1 h.3
    ∙ alone _ _ (read.0, ap line b.2 ∙ line-bracket b.0 b.1 ∙ read.1)

-- the texts of a polygon's first ring and the others
pub first_ring : (all inner front back : Texts) → all ≡ front ++ back → front ≡ codes "(" ∷ (inner ++ codes ")" ∷ []) →
    all ++ codes ")" ∷ [] ≡ codes "(" ∷ (inner ++ codes ")" ∷ (back ++ codes ")" ∷ []))
first_ring all inner front back e f =
    inner_texts all front back (codes ")" ∷ []) e
    ∙ ap (λ (xs : Texts). xs ++ (back ++ codes ")" ∷ [])) f
    ∙ ap (λ (xs : Texts). codes "(" ∷ xs) (append_assoc inner (codes ")" ∷ []) (back ++ codes ")" ∷ []))

polygon-read : (rings : List (List Spot)) (ts : Tokens) → Spells (texts_of ts) (shapes.Polygon rings) → SoundPolygon rings → lone_shape ts ≡ Ok (shapes.Polygon rings)
polygon-read [] ts h sound = absurd h.4.2
polygon-read ([] ∷ more) ts h sound = let long = sound.each.0.long in cc
polygon-read ((s ∷ ss) ∷ more) ts h sound =
    let all = h.4 in
    let listed = all.2 in
    let path = listed.3 in
    let spots' = path.2 in
    let total = length-append (s ∷ ss) (flat_map (λ r. r) more) in
    let most = sound.most in
    let few : length ss + length (flat_map (λ r. r) more) ≤ 2047 = grind (arith, nat_tests) in
    let a = front_of ts h.0 h.1 h.2 in
    let b = front_of a.1 (codes "(") (all.0 ++ codes ")" ∷ []) (a.3 ∙ all.1) in
    let c = front_of b.1 (codes "(") (path.0 ++ codes ")" ∷ (listed.1 ++ codes ")" ∷ []))
    (b.3 ∙ first_ring all.0 path.0 listed.0 listed.1 listed.2 path.1) in
    let read = rings-lead more [] s ss c.1 2047 spots'.0 spots'.1 listed.1 spots'.3 spots'.4 listed.4
    (c.3 ∙ inner_texts path.0 spots'.0 spots'.1 (codes ")" ∷ (listed.1 ++ codes ")" ∷ [])) spots'.2) sound.each.0 sound.each.1 few in
    ap lone_shape a.2 ∙ lone_shape-polygon a.0 h.0 a.1 h.3
    ∙ alone _ _ (read.0, ap polygon (b.2 ∙ ap (at_front b.0 (codes "(")) c.2) ∙ polygon-bracket b.0 c.0 c.1 ∙ read.1)

-- tokens that spell a sound shape
pub lone_shape-Spells : (ts : Tokens) (s : Shape) → Spells (texts_of ts) s → IsSound s → lone_shape ts ≡ Ok s
lone_shape-Spells ts (shapes.Empty k) h sound = empty-read k ts h
lone_shape-Spells ts (shapes.Point s) h sound = point-read s ts h
lone_shape-Spells ts (shapes.Line path) h sound = line-read path ts h (line_sound path sound)
lone_shape-Spells ts (shapes.Polygon rings) h sound = polygon-read rings ts h (polygon_sound rings sound)
