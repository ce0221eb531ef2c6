-- Where reading can be within a path, and what it does there with the next token.
use Rattle.std.proofs.Common.{◌≡◌, ◌≤◌, ◌<◌, ℕ, zero, suc, ◌+◌, ◌*◌, nat_lt, Bool, true, false, cond, not, ◌||◌, ◌⊎◌, inl, inr, List, [], ◌∷◌, ◌++◌, length, codes, ℤ, pos, refl, sym, ap, ◌∙◌, subst, Result, Ok, Err, arith}
use Rattle.std.proofs.lemmas.Bool.Decides.{nat_tests}
use Rattle.sg_shape.specs.declared.spots.Spot.{Spot}
use Rattle.sg_shape.specs.declared.shapes.Kind.{Kind}
use Rattle.sg_shape.specs.declared.shapes.Kind.TheVariants as kind
use Rattle.sg_shape.specs.declared.shapes.Shape.{Shape}
use Rattle.sg_shape.specs.declared.shapes.Shape.TheVariants as shapes
use Rattle.sg_shape.specs.Sound.{is_open, is_short}
use Rattle.sg_wkt.specs.declared.drafts.Draft.{Draft}
use Rattle.sg_wkt.specs.declared.drafts.Draft.TheVariants as draft
use Rattle.sg_wkt.specs.declared.drafts.Next.{Next}
use Rattle.sg_wkt.specs.declared.drafts.Next.TheVariants as next
use Rattle.sg_wkt.specs.declared.faults.WktFault.{WktFault}
use Rattle.sg_wkt.specs.declared.faults.WktKind.{WktKind}
use Rattle.sg_wkt.specs.declared.faults.WktKind.TheVariants as kinds
use Rattle.sg_wkt.specs.Tokens.{Token, Tokens, Ends, Begins}
use Rattle.sg_wkt.specs.Numbers.{coordinate}
use Rattle.sg_wkt.specs.Grammar.{Reading, ◌>>=◌, fault, is_one, mark, separator, number, spot, no_room, after_line_spot, after_ring, after_ring_spot, after_spot, with_spot, step, until_whole, spots, and_nothing}
use Rattle.sg_wkt.specs.Spelled.{Texts}
use Rattle.sg_wkt.proofs.FaultStates.{State}

-- ---- the states within a path
abbrev pub finish : Reading Shape → Result Shape WktFault
finish r = r >>= (λ x. and_nothing x.0 x.1)

abbrev pub go_on : ℕ → Next × Tokens → Reading Shape
go_on room = until_whole (λ further rest. spots room further rest)

abbrev pub Spots : ℕ → Draft → State
Spots room d ts = finish (spots room d ts)

-- the spot of two numbers
abbrev pub placed_at : ℤ → ℤ × Tokens → Reading Spot
placed_at x y = Ok (record { x = x; y = y.0 }, y.1)

-- after the first number of a spot
abbrev pub Second : ℕ → Draft → ℤ → State
Second room d x ts =
    finish (((number ts >>= placed_at x) >>= (λ s. after_spot (with_spot d s.0) s.1)) >>= go_on room)

abbrev pub After : ℕ → Draft → State
After room d ts = finish (after_spot d ts >>= go_on room)

abbrev pub AfterRing : ℕ → List (List Spot) → State
AfterRing room rings ts = finish (after_ring rings ts >>= go_on room)

-- after the comma that follows a ring
abbrev pub Opens : ℕ → List (List Spot) → State
Opens room rings ts = finish ((mark 40 ts >>= (λ opened. Ok (next.Spot (draft.Polygon rings []), opened))) >>= go_on room)

-- ---- what each does with the next token
pub spots-end : (room : ℕ) (d : Draft) (end : ℕ) → Spots (suc room) d (Ends end) ≡ fault end kinds.End
unfolding spots step spot number
spots-end room d end = refl

pub spots-found : (room : ℕ) (d : Draft) (token : Token) (more : Tokens) (z : ℤ) → coordinate token.bytes ≡ Ok z → Spots (suc room) d (Begins token more) ≡ Second room d z more
unfolding spots step spot number
spots-found room d token more z e = rw e refl

pub spots-wrong : (room : ℕ) (d : Draft) (token : Token) (more : Tokens) (k : WktKind) → coordinate token.bytes ≡ Err k → Spots (suc room) d (Begins token more) ≡ fault token.at k
unfolding spots step spot number
spots-wrong room d token more k e = rw e refl

pub none-end : (d : Draft) (end : ℕ) → Spots zero d (Ends end) ≡ fault end kinds.End
unfolding spots no_room
none-end d end = refl

pub none-left : (d : Draft) (token : Token) (more : Tokens) → Spots zero d (Begins token more) ≡ fault token.at kinds.TooMany
unfolding spots no_room
none-left d token more = refl

pub second-end : (room : ℕ) (d : Draft) (x : ℤ) (end : ℕ) → Second room d x (Ends end) ≡ fault end kinds.End
unfolding number
second-end room d x end = refl

pub second-found : (room : ℕ) (d : Draft) (x : ℤ) (token : Token) (more : Tokens) (z : ℤ) → coordinate token.bytes ≡ Ok z →
    Second room d x (Begins token more) ≡ After room (with_spot d (record { x = x; y = z })) more
unfolding number
second-found room d x token more z e = rw e refl

pub second-wrong : (room : ℕ) (d : Draft) (x : ℤ) (token : Token) (more : Tokens) (k : WktKind) → coordinate token.bytes ≡ Err k →
    Second room d x (Begins token more) ≡ fault token.at k
unfolding number
second-wrong room d x token more k e = rw e refl

pub after-end : (room : ℕ) (d : Draft) (end : ℕ) → After room d (Ends end) ≡ fault end kinds.End
unfolding after_line_spot after_ring_spot separator
after-end room (draft.Line spots) end = refl
after-end room (draft.Polygon rings ring) end = refl

pub after-comma : (room : ℕ) (d : Draft) (token : Token) (more : Tokens) → is_one 44 token ≡ true → After room d (Begins token more) ≡ Spots room d more
unfolding after_line_spot after_ring_spot separator
after-comma room (draft.Line spots) token more e = rw (e, e) refl
after-comma room (draft.Polygon rings ring) token more e = rw (e, e) refl

pub after-wrong : (room : ℕ) (d : Draft) (token : Token) (more : Tokens) → is_one 44 token ≡ false → is_one 41 token ≡ false →
    After room d (Begins token more) ≡ fault token.at kinds.Punctuation
unfolding after_line_spot after_ring_spot separator
after-wrong room (draft.Line spots) token more e f = rw (e, f) refl
after-wrong room (draft.Polygon rings ring) token more e f = rw (e, f) refl

pub line-few : (room : ℕ) (spots : List Spot) (token : Token) (more : Tokens) → is_one 44 token ≡ false → is_one 41 token ≡ true → nat_lt (length spots) 2 ≡ true →
    After room (draft.Line spots) (Begins token more) ≡ fault token.at kinds.TooFew
unfolding after_line_spot separator
line-few room spots token more e f g = rw (e, f, e, g) refl

pub line-whole : (room : ℕ) (spots : List Spot) (token : Token) (more : Tokens) → is_one 44 token ≡ false → is_one 41 token ≡ true → nat_lt (length spots) 2 ≡ false →
    After room (draft.Line spots) (Begins token more) ≡ and_nothing (shapes.Line spots) more
unfolding after_line_spot separator
line-whole room spots token more e f g = rw (e, f, e, g) refl

pub ring-few : (room : ℕ) (rings : List (List Spot)) (ring : List Spot) (token : Token) (more : Tokens) → is_one 44 token ≡ false → is_one 41 token ≡ true → is_short ring ≡ true →
    After room (draft.Polygon rings ring) (Begins token more) ≡ fault token.at kinds.TooFew
unfolding after_ring_spot separator
ring-few room rings ring token more e f g = rw (e, f, e, g) refl

pub ring-open : (room : ℕ) (rings : List (List Spot)) (ring : List Spot) (token : Token) (more : Tokens) → is_one 44 token ≡ false → is_one 41 token ≡ true → is_short ring ≡ false → is_open ring ≡ true →
    After room (draft.Polygon rings ring) (Begins token more) ≡ fault token.at kinds.RingOpen
unfolding after_ring_spot separator
ring-open room rings ring token more e f g h = rw (e, f, e, g, h) refl

pub ring-whole : (room : ℕ) (rings : List (List Spot)) (ring : List Spot) (token : Token) (more : Tokens) → is_one 44 token ≡ false → is_one 41 token ≡ true → is_short ring ≡ false → is_open ring ≡ false →
    After room (draft.Polygon rings ring) (Begins token more) ≡ AfterRing room (rings ++ ring ∷ []) more
unfolding after_ring_spot separator
ring-whole room rings ring token more e f g h = rw (e, f, e, g, h) refl

pub rings-end : (room : ℕ) (rings : List (List Spot)) (end : ℕ) → AfterRing room rings (Ends end) ≡ fault end kinds.End
unfolding after_ring separator
rings-end room rings end = refl

pub rings-comma : (room : ℕ) (rings : List (List Spot)) (token : Token) (more : Tokens) → is_one 44 token ≡ true → AfterRing room rings (Begins token more) ≡ Opens room rings more
unfolding after_ring separator
rings-comma room rings token more e = rw (e, e) refl

pub rings-whole : (room : ℕ) (rings : List (List Spot)) (token : Token) (more : Tokens) → is_one 44 token ≡ false → is_one 41 token ≡ true →
    AfterRing room rings (Begins token more) ≡ and_nothing (shapes.Polygon rings) more
unfolding after_ring separator
rings-whole room rings token more e f = rw (e, f, e) refl

pub rings-wrong : (room : ℕ) (rings : List (List Spot)) (token : Token) (more : Tokens) → is_one 44 token ≡ false → is_one 41 token ≡ false →
    AfterRing room rings (Begins token more) ≡ fault token.at kinds.Punctuation
unfolding after_ring separator
rings-wrong room rings token more e f = rw (e, f) refl

pub opens-end : (room : ℕ) (rings : List (List Spot)) (end : ℕ) → Opens room rings (Ends end) ≡ fault end kinds.End
unfolding mark
opens-end room rings end = refl

pub opens-found : (room : ℕ) (rings : List (List Spot)) (token : Token) (more : Tokens) → is_one 40 token ≡ true → Opens room rings (Begins token more) ≡ Spots room (draft.Polygon rings []) more
unfolding mark
opens-found room rings token more e = rw e refl

pub opens-wrong : (room : ℕ) (rings : List (List Spot)) (token : Token) (more : Tokens) → is_one 40 token ≡ false → Opens room rings (Begins token more) ≡ fault token.at kinds.Punctuation
unfolding mark
opens-wrong room rings token more e = rw e refl
