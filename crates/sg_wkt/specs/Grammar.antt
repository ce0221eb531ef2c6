-- The grammar: what a text spells, or its first fault from the left. Each production takes the tokens that are left,
-- and gives what it reads and the tokens after it.
use Rattle.std.specs.Prelude.{◌≡◌, ℕ, zero, suc, Bool, not, ◌||◌, if◌then◌else◌, nat_lt, List, [], ◌∷◌, ◌++◌, length, ℤ, Option, Some, None, Result, Ok, Err, codes, bytes_eq}
use Rattle.std.specs.Str.{str_eq_ignore_ascii_case}
use Rattle.sg_shape.specs.declared.spots.Spot.{Spot}
use Rattle.sg_shape.specs.declared.shapes.Kind.{Kind}
use Rattle.sg_shape.specs.declared.shapes.Kind.TheVariants as kind
use Rattle.sg_shape.specs.declared.shapes.Shape.{Shape}
use Rattle.sg_shape.specs.declared.shapes.Shape.TheVariants as shapes
use Rattle.sg_shape.specs.Sound.{is_open, is_short}
use Rattle.sg_wkt.specs.declared.drafts.Draft.{Draft}
use Rattle.sg_wkt.specs.declared.drafts.Draft.TheVariants as draft
use Rattle.sg_wkt.specs.declared.drafts.Next.{Next}
use Rattle.sg_wkt.specs.declared.drafts.Next.TheVariants as next
use Rattle.sg_wkt.specs.declared.faults.WktFault.{WktFault}
use Rattle.sg_wkt.specs.declared.faults.WktKind.{WktKind}
use Rattle.sg_wkt.specs.declared.faults.ReadShape.{ReadShape}
use Rattle.sg_wkt.specs.declared.faults.ReadShape.TheVariants as errors
use Rattle.sg_wkt.specs.declared.faults.WktKind.TheVariants as kinds
use Rattle.sg_wkt.specs.Tokens.{Token, Tokens, Ends, Begins, tokens}
use Rattle.sg_wkt.specs.Numbers.{coordinate}

-- ---- reading from left to right
-- what a production gives, and the tokens after it, or the first fault
abbrev pub Reading : Type 0 → Type 0
Reading X = Result (X × Tokens) WktFault

infixl 10 ◌>>=◌
abbrev pub ◌>>=◌ : {A B : Type 0} → Result A WktFault → (A → Result B WktFault) → Result B WktFault
(Ok x) >>= f = f x
(Err e) >>= f = Err e

abbrev pub fault : {X : Type 0} → ℕ → WktKind → Result X WktFault
fault at kind = Err (record { at = at; kind = kind })

-- ---- tokens
-- a token, which must stand here
abbrev pub first : Tokens → Reading Token
first (Ends at) = fault at kinds.End
first (Begins token rest) = Ok (token, rest)

-- the token is this word, in either case
abbrev pub is_word : List ℕ → List ℕ → Bool
is_word word token = str_eq_ignore_ascii_case token word

-- the token is this bracket or comma
abbrev pub is_one : ℕ → Token → Bool
is_one byte token = bytes_eq token.bytes (byte ∷ [])

-- the tokens after this bracket or comma, which must stand here
unfoldable pub mark : ℕ → Tokens → Result Tokens WktFault
mark byte ts = do
  token ← first ts
  if is_one byte token.0 then Ok token.1 else fault token.0.at kinds.Punctuation

-- "," or ")", which must stand here
unfoldable pub separator : Tokens → Reading Token
separator ts = do
  token ← first ts
  if is_one 44 token.0 || is_one 41 token.0 then Ok token else fault token.0.at kinds.Punctuation

-- a number, at the token at this place, before these tokens
abbrev pub placed : {X : Type 0} → ℕ → Tokens → Result X WktKind → Reading X
placed at rest (Ok x) = Ok (x, rest)
placed at rest (Err kind) = fault at kind

unfoldable pub number : Tokens → Reading ℤ
number ts = do
  token ← first ts
  placed token.0.at token.1 (coordinate token.0.bytes)

-- ---- spots
-- spot = number number
unfoldable pub spot : Tokens → Reading Spot
spot ts = do
  x ← number ts
  y ← number x.1
  Ok (record { x = x.0; y = y.0 }, y.1)

-- the most spots of a shape, all rings together
abbrev pub most_spots : ℕ
most_spots = 2048

-- no spot may stand here any more
unfoldable pub no_room : Tokens → Reading Shape
no_room ts = do
  token ← first ts
  fault token.0.at kinds.TooMany

-- a line whose bracket is the token at this place
abbrev pub whole_line : ℕ → List Spot → Result Shape WktFault
whole_line at spots = if nat_lt (length spots) 2 then fault at kinds.TooFew else Ok (shapes.Line spots)

-- a ring whose bracket is the token at this place
abbrev pub whole_ring : ℕ → List Spot → Result (List Spot) WktFault
whole_ring at ring =
    if is_short ring then fault at kinds.TooFew
    else (if is_open ring then fault at kinds.RingOpen else Ok ring)

-- after a line's spot: "," and a further spot, or ")"
unfoldable pub after_line_spot : List Spot → Tokens → Reading Next
after_line_spot spots ts = do
  token ← separator ts
  if is_one 44 token.0 then Ok (next.Spot (draft.Line spots), token.1) else (do
    line ← whole_line token.0.at spots
    Ok (next.Whole line, token.1))

-- after a ring: "," "(" and the first spot of a further ring, or ")"
unfoldable pub after_ring : List (List Spot) → Tokens → Reading Next
after_ring rings ts = do
  token ← separator ts
  if not (is_one 44 token.0) then Ok (next.Whole (shapes.Polygon rings), token.1) else (do
    opened ← mark 40 token.1
    Ok (next.Spot (draft.Polygon rings []), opened))

-- after a ring's spot: "," and a further spot, or ")" and what stands after a ring
unfoldable pub after_ring_spot : List (List Spot) → List Spot → Tokens → Reading Next
after_ring_spot rings ring ts = do
  token ← separator ts
  if is_one 44 token.0 then Ok (next.Spot (draft.Polygon rings ring), token.1) else (do
    whole ← whole_ring token.0.at ring
    after_ring (rings ++ whole ∷ []) token.1)

abbrev pub after_spot : Draft → Tokens → Reading Next
after_spot (draft.Line spots) ts = after_line_spot spots ts
after_spot (draft.Polygon rings ring) ts = after_ring_spot rings ring ts

-- with the spot that was read
abbrev pub with_spot : Draft → Spot → Draft
with_spot (draft.Line spots) s = draft.Line (spots ++ s ∷ [])
with_spot (draft.Polygon rings ring) s = draft.Polygon rings (ring ++ s ∷ [])

-- a spot, and what stands after it
unfoldable pub step : Draft → Tokens → Reading Next
step d ts = do
  s ← spot ts
  after_spot (with_spot d s.0) s.1

-- where the shape is whole, no further spot
abbrev pub until_whole : (Draft → Tokens → Reading Shape) → Next × Tokens → Reading Shape
until_whole further (next.Spot d, ts) = further d ts
until_whole further (next.Whole s, ts) = Ok (s, ts)

-- The spots of a shape from here on, of which there may be this many, and what stands after them.
unfoldable pub spots : ℕ → Draft → Tokens → Reading Shape
spots zero d ts = no_room ts
spots (suc room) d ts = do
  n ← step d ts
  until_whole (λ further rest. spots room further rest) n

-- ---- shapes
-- the tokens after EMPTY, where that is next
abbrev pub after_empty : Tokens → Option Tokens
after_empty (Ends at) = None
after_empty (Begins token rest) = if is_word (codes "EMPTY") token.bytes then Some rest else None

-- EMPTY, or else a body
abbrev pub or_empty : Kind → Reading Shape → Option Tokens → Reading Shape
or_empty kind body (Some rest) = Ok (shapes.Empty kind, rest)
or_empty kind body None = body

-- "(" spot ")"
unfoldable pub point_body : Tokens → Reading Shape
point_body ts = do
  opened ← mark 40 ts
  place ← spot opened
  closed ← mark 41 place.1
  Ok (shapes.Point place.0, closed)

-- "(" spot { "," spot } ")"
unfoldable pub line_body : Tokens → Reading Shape
line_body ts = do
  opened ← mark 40 ts
  spots most_spots (draft.Line []) opened

-- "(" ring { "," ring } ")", where ring = "(" spot { "," spot } ")"
unfoldable pub polygon_body : Tokens → Reading Shape
polygon_body ts = do
  opened ← mark 40 ts
  ring ← mark 40 opened
  spots most_spots (draft.Polygon [] []) ring

-- what stands after a shape's word
unfoldable pub point : Tokens → Reading Shape
point ts = or_empty kind.Point (point_body ts) (after_empty ts)

unfoldable pub line : Tokens → Reading Shape
line ts = or_empty kind.Line (line_body ts) (after_empty ts)

unfoldable pub polygon : Tokens → Reading Shape
polygon ts = or_empty kind.Polygon (polygon_body ts) (after_empty ts)

-- shape = POINT ( EMPTY | point_body ) | LINESTRING ( EMPTY | line_body ) | POLYGON ( EMPTY | polygon_body )
unfoldable pub shape : Tokens → Reading Shape
shape ts = do
  token ← first ts
  if is_word (codes "POINT") token.0.bytes then point token.1
      else (if is_word (codes "LINESTRING") token.0.bytes then line token.1
      else (if is_word (codes "POLYGON") token.0.bytes then polygon token.1 else fault token.0.at kinds.Keyword))

-- no token stands after the shape
abbrev pub and_nothing : Shape → Tokens → Result Shape WktFault
and_nothing s (Ends at) = Ok s
and_nothing s (Begins token rest) = fault token.at kinds.After

-- a shape, and nothing after it
unfoldable pub lone_shape : Tokens → Result Shape WktFault
lone_shape ts = do
  s ← shape ts
  and_nothing s.0 s.1

-- The shape that a whole text spells, or the text's first fault.
abbrev pub shape_in : List ℕ → Result Shape WktFault
shape_in text = lone_shape (tokens text)

-- A call's answer is what the text says, unless memory ran out: so the shape comes only where the text spells it,
-- and a fault only where it is the text's first one.
abbrev pub Answers : Result Shape ReadShape → Result Shape WktFault → Type 0
Answers (Ok s) read = read ≡ Ok s
Answers (Err (errors.Fault f)) read = read ≡ Err f
Answers (Err errors.OutOfMemory) read = Unit {0}
