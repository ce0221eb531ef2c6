-- The tokens that reading takes spell the shape that it gives.
use Rattle.std.proofs.Common.{◌≡◌, ℕ, zero, suc, Bool, true, false, cond, not, ◌||◌, nat_lt, List, [], ◌∷◌, ◌++◌, length, codes, ℤ, ◌⊎◌, inl, inr, ⊎_elim, refl, sym, ap, ◌∙◌, subst, Option, Some, None, Result, Ok, Err, append_assoc, append-nil}
use Rattle.std.proofs.lemmas.Slice.Eq.{bytes_eq-Decides}
use Rattle.sg_shape.specs.declared.spots.Spot.{Spot}
use Rattle.sg_shape.specs.declared.shapes.Kind.{Kind}
use Rattle.sg_shape.specs.declared.shapes.Kind.TheVariants as kind
use Rattle.sg_shape.specs.declared.shapes.Shape.{Shape}
use Rattle.sg_shape.specs.declared.shapes.Shape.TheVariants as shapes
use Rattle.sg_shape.specs.Sound.{is_open, is_short}
use Rattle.sg_wkt.specs.declared.drafts.Draft.{Draft}
use Rattle.sg_wkt.specs.declared.drafts.Draft.TheVariants as draft
use Rattle.sg_wkt.specs.declared.drafts.Next.{Next}
use Rattle.sg_wkt.specs.declared.drafts.Next.TheVariants as next
use Rattle.sg_wkt.specs.declared.faults.WktFault.{WktFault}
use Rattle.sg_wkt.specs.declared.faults.WktKind.{WktKind}
use Rattle.sg_wkt.specs.declared.faults.WktKind.TheVariants as kinds
use Rattle.sg_wkt.specs.Tokens.{Token, Tokens, Ends, Begins}
use Rattle.sg_wkt.specs.Numbers.{coordinate}
use Rattle.sg_wkt.specs.Grammar.{Reading, fault, first, is_one, is_word, mark, separator, placed, number, spot, most_spots, no_room, whole_line, whole_ring, after_line_spot, after_ring, after_ring_spot, after_spot, with_spot, step, until_whole, spots, point_body, line_body, polygon_body, or_empty, after_empty, point, line, polygon, shape, and_nothing, lone_shape}
use Rattle.sg_wkt.specs.Spelled.{Texts, texts_of, Further, Listed, Bracketed, SpellsSpot, SpellsPath, Spells}
use Rattle.sg_wkt.proofs.Sound.{bind_ok}

-- What was read, with the texts that were taken for it.
abbrev pub Uses : {X : Type 0} → (Texts → X → Type 0) → Tokens → X × Tokens → Type 0
Uses P ts x = (used : Texts) × (texts_of ts ≡ used ++ texts_of x.1) × P used x.0

choice : {X : Type 0} (t : Bool) (r q : Result X WktFault) (x : X) → cond t r q ≡ Ok x → ((t ≡ true) × (r ≡ Ok x)) ⊎ ((t ≡ false) × (q ≡ Ok x))
choice true r q x e = inl (refl, e)
choice false r q x e = inr (refl, e)

-- ---- tokens
first-uses : (ts : Tokens) (x : Token × Tokens) → first ts ≡ Ok x → texts_of ts ≡ x.0.bytes ∷ texts_of x.1
first-uses (Ends at) x e = cc
first-uses (Begins token rest) x e = let same : (token, rest) ≡ x = cc in ap (λ (y : Token × Tokens). y.0.bytes ∷ texts_of y.1) same

pub is_byte : (byte : ℕ) (token : Token) → is_one byte token ≡ true → token.bytes ≡ byte ∷ []
is_byte byte token e = (bytes_eq-Decides token.bytes (byte ∷ [])).0 e

mark-uses : (byte : ℕ) (ts rest : Tokens) → mark byte ts ≡ Ok rest → texts_of ts ≡ (byte ∷ []) ∷ texts_of rest
unfolding mark
mark-uses byte ts rest e =
    let token = bind_ok (first ts) _ rest e in
    ⊎_elim (λ c. let same : token.0.1 ≡ rest = (let k = c.1 in cc) in
    first-uses ts token.0 token.1 ∙ ap (λ (b : List ℕ). b ∷ texts_of token.0.1) (is_byte byte token.0.0 c.0) ∙ ap (λ (t : Tokens). (byte ∷ []) ∷ texts_of t) same)
    (λ c. let k = c.1 in cc)
    (choice (is_one byte token.0.0) (Ok token.0.1) (fault token.0.0.at kinds.Punctuation) rest token.2)

pub either_one : (a b : Bool) → (a || b) ≡ true → a ≡ false → b ≡ true
either_one true b e f = cc
either_one false b e f = e

-- a comma or a bracket, and what it is where it isn't a comma
separator-uses : (ts : Tokens) (x : Token × Tokens) → separator ts ≡ Ok x →
    (texts_of ts ≡ x.0.bytes ∷ texts_of x.1) × (is_one 44 x.0 ≡ false → x.0.bytes ≡ codes ")")
unfolding separator
separator-uses ts x e =
    let token = bind_ok (first ts) _ x e in
    ⊎_elim (λ c. let same : token.0 ≡ x = (let k = c.1 in cc) in
    subst (λ (y : Token × Tokens). (texts_of ts ≡ y.0.bytes ∷ texts_of y.1) × (is_one 44 y.0 ≡ false → y.0.bytes ≡ codes ")")) same
    (first-uses ts token.0 token.1, λ f. is_byte 41 token.0.0 (either_one (is_one 44 token.0.0) (is_one 41 token.0.0) c.0 f)))
    (λ c. let k = c.1 in cc)
    (choice (is_one 44 token.0.0 || is_one 41 token.0.0) (Ok token.0) (fault token.0.0.at kinds.Punctuation) x token.2)

-- ---- spots
placed-uses : (at : ℕ) (rest : Tokens) (r : Result ℤ WktKind) (x : ℤ × Tokens) → placed at rest r ≡ Ok x → (r ≡ Ok x.0) × (rest ≡ x.1)
placed-uses at rest (Ok z) x e =
    let same : (z, rest) ≡ x = cc in
    (ap (λ (y : ℤ × Tokens). Ok y.0) same, ap (λ (y : ℤ × Tokens). y.1) same)
placed-uses at rest (Err k) x e = cc

number-uses : (ts : Tokens) (x : ℤ × Tokens) → number ts ≡ Ok x → (w : List ℕ) × (texts_of ts ≡ w ∷ texts_of x.1) × (coordinate w ≡ Ok x.0)
unfolding number
number-uses ts x e =
    let token = bind_ok (first ts) _ x e in
    let value = placed-uses token.0.0.at token.0.1 (coordinate token.0.0.bytes) x token.2 in
    (token.0.0.bytes, first-uses ts token.0 token.1 ∙ ap (λ (t : Tokens). token.0.0.bytes ∷ texts_of t) value.1, value.0)

spot-uses : (ts : Tokens) (x : Spot × Tokens) → spot ts ≡ Ok x → Uses SpellsSpot ts x
unfolding spot
spot-uses ts x e =
    let a = bind_ok (number ts) _ x e in
    let b = bind_ok (number a.0.1) _ x a.2 in
    let made : Spot = record { x = a.0.0; y = b.0.0 } in
    let same : (made, b.0.1) ≡ x = (let k = b.2 in cc) in
    let p = number-uses ts a.0 a.1 in
    let q = number-uses a.0.1 b.0 b.1 in
    subst (λ (y : Spot × Tokens). Uses SpellsSpot ts y) same
    (p.0 ∷ q.0 ∷ [], p.1 ∙ ap (λ (f : Texts). p.0 ∷ f) q.1, (p.0, q.0, refl, p.2, q.2))

-- ---- what completes a draft
-- these texts complete the draft to this shape: its spots go on as said here, and the brackets and further rings follow
abbrev pub Completes : (Texts → List Spot → Type 0) → Draft → Texts → Shape → Type 0
Completes On (draft.Line done) used s =
    (more : List Spot) × (inner : Texts) × (used ≡ inner ++ codes ")" ∷ []) × On inner more × (s ≡ shapes.Line (done ++ more))
Completes On (draft.Polygon rings done) used s =
    (more : List Spot) × (others : List (List Spot)) × (inner back : Texts) × (used ≡ inner ++ codes ")" ∷ (back ++ codes ")" ∷ []))
    × On inner more × Further SpellsPath back others × (s ≡ shapes.Polygon (rings ++ (done ++ more) ∷ others))

-- beginning with a spot, and after one
abbrev pub FromSpot : Draft → Texts → Shape → Type 0
FromSpot = Completes (Listed SpellsSpot)

abbrev pub AfterSpot : Draft → Texts → Shape → Type 0
AfterSpot = Completes (Further SpellsSpot)

-- a spot of the draft, before what comes after it
pub spot-completes : (d : Draft) (x : Spot) (front used : Texts) (s : Shape) → SpellsSpot front x → AfterSpot (with_spot d x) used s → FromSpot d (front ++ used) s
spot-completes (draft.Line done) x front used s h (more, inner, e, on, is) = (
  x ∷ more,
  front ++ inner,
  ap (λ (t : Texts). front ++ t) e ∙ sym (append_assoc front inner (codes ")" ∷ [])),
  (front, inner, refl, h, on),
  is ∙ ap shapes.Line (append_assoc done (x ∷ []) more),
)
spot-completes (draft.Polygon rings done) x front used s h (more, others, inner, back, e, on, rest, is) = (
  x ∷ more,
  others,
  front ++ inner,
  back,
  ap (λ (t : Texts). front ++ t) e ∙ sym (append_assoc front inner (codes ")" ∷ (back ++ codes ")" ∷ []))),
  (front, inner, refl, h, on),
  rest,
  is ∙ ap (λ (r : List Spot). shapes.Polygon (rings ++ r ∷ others)) (append_assoc done (x ∷ []) more),
)

-- a comma, and a further spot
listed-further : (inner : Texts) (more : List Spot) → Listed SpellsSpot inner more → Further SpellsSpot (codes "," ∷ inner) more
listed-further inner [] on = absurd on
listed-further inner (x ∷ xs) (front, back, e, h, hs) = (front, back, ap (λ (t : Texts). codes "," ∷ t) e, h, hs)

pub comma-completes : (d : Draft) (used : Texts) (s : Shape) → FromSpot d used s → AfterSpot d (codes "," ∷ used) s
comma-completes (draft.Line done) used s (more, inner, e, on, is) =
    (more, codes "," ∷ inner, ap (λ (t : Texts). codes "," ∷ t) e, listed-further inner more on, is)
comma-completes (draft.Polygon rings done) used s (more, others, inner, back, e, on, rest, is) =
    (more, others, codes "," ∷ inner, back, ap (λ (t : Texts). codes "," ∷ t) e, listed-further inner more on, rest, is)

pub line-closes : (done : List Spot) → AfterSpot (draft.Line done) (codes ")" ∷ []) (shapes.Line done)
line-closes done = ([], [], refl, refl, ap shapes.Line (sym (append-nil done)))

-- a ring's bracket, and the polygon's
pub polygon-closes : (rings : List (List Spot)) (ring : List Spot) → AfterSpot (draft.Polygon rings ring) (codes ")" ∷ codes ")" ∷ []) (shapes.Polygon (rings ++ ring ∷ []))
polygon-closes rings ring =
    ([], [], [], [], refl, refl, refl, ap (λ (r : List Spot). shapes.Polygon (rings ++ r ∷ [])) (sym (append-nil ring)))

-- a ring's bracket, a comma, a bracket, and a further ring
pub ring-completes : (rings : List (List Spot)) (ring : List Spot) (used : Texts) (s : Shape) → FromSpot (draft.Polygon (rings ++ ring ∷ []) []) used s →
    AfterSpot (draft.Polygon rings ring) (codes ")" ∷ codes "," ∷ codes "(" ∷ used) s
ring-completes rings ring used s (more, others, inner, back, e, on, rest, is) = (
  [],
  more ∷ others,
  [],
  codes "," ∷ ((codes "(" ∷ (inner ++ codes ")" ∷ [])) ++ back),
  ap (λ (t : Texts). codes ")" ∷ codes "," ∷ codes "(" ∷ t)
      (e ∙ sym (append_assoc inner (codes ")" ∷ []) (back ++ codes ")" ∷ [])) ∙ sym (append_assoc (inner ++ codes ")" ∷ []) back (codes ")" ∷ []))),
  refl,
  (codes "(" ∷ (inner ++ codes ")" ∷ []), back, refl, (inner, refl, on), rest),
  is ∙ ap shapes.Polygon (append_assoc rings (ring ∷ []) (more ∷ others))
      ∙ ap (λ (r : List Spot). shapes.Polygon (rings ++ r ∷ more ∷ others)) (sym (append-nil ring)),
)

-- ---- steps
-- texts that lead to what is next, from a draft that these complete
abbrev Leads : (Draft → Texts → Shape → Type 0) → Draft → Texts → Next → Type 0
Leads Done d used (next.Whole s) = Done d used s
Leads Done d used (next.Spot e) = (more : Texts) (s : Shape) → FromSpot e more s → Done d (used ++ more) s

checked : {X : Type 0} (t : Bool) (f : WktFault) (r : Result X WktFault) (x : X) → cond t (Err f) r ≡ Ok x → r ≡ Ok x
checked true f r x e = cc
checked false f r x e = e

-- what is given at once
given : (P : Texts → Next → Type 0) (ts rest : Tokens) (used : Texts) (n : Next) (x : Next × Tokens) → (n, rest) ≡ x → texts_of ts ≡ used ++ texts_of rest → P used n → Uses P ts x
given P ts rest used n x same e h = subst (λ (y : Next × Tokens). Uses P ts y) same (used, e, h)

comma-used : (ts : Tokens) (token : Token) (rest : Tokens) → texts_of ts ≡ token.bytes ∷ texts_of rest → is_one 44 token ≡ true → texts_of ts ≡ codes "," ∷ texts_of rest
comma-used ts token rest e c = e ∙ ap (λ (b : List ℕ). b ∷ texts_of rest) (is_byte 44 token c)

bracket-used : (ts : Tokens) (token : Token) (rest : Tokens) → texts_of ts ≡ token.bytes ∷ texts_of rest → token.bytes ≡ codes ")" → texts_of ts ≡ codes ")" ∷ texts_of rest
bracket-used ts token rest e c = e ∙ ap (λ (b : List ℕ). b ∷ texts_of rest) c

line-step : (done : List Spot) (ts : Tokens) (x : Next × Tokens) → after_line_spot done ts ≡ Ok x → Uses (Leads AfterSpot (draft.Line done)) ts x
unfolding after_line_spot
line-step done ts x e =
    let token = bind_ok (separator ts) _ x e in
    let used = separator-uses ts token.0 token.1 in
    ⊎_elim (λ c. let same : (next.Spot (draft.Line done), token.0.1) ≡ x = (let k = c.1 in cc) in
    given (Leads AfterSpot (draft.Line done)) ts token.0.1 (codes "," ∷ []) (next.Spot (draft.Line done)) x same (comma-used ts token.0.0 token.0.1 used.0 c.0)
    (λ more s h. comma-completes (draft.Line done) more s h))
    (λ c. let whole = bind_ok (whole_line token.0.0.at done) _ x c.1 in
    let line' : shapes.Line done ≡ whole.0 = (let k = checked (nat_lt (length done) 2) _ _ whole.0 whole.1 in cc) in
    let same : (next.Whole whole.0, token.0.1) ≡ x = (let k = whole.2 in cc) in
    given (Leads AfterSpot (draft.Line done)) ts token.0.1 (codes ")" ∷ []) (next.Whole whole.0) x same (bracket-used ts token.0.0 token.0.1 used.0 (used.1 c.0))
    (subst (λ (s : Shape). AfterSpot (draft.Line done) (codes ")" ∷ []) s) line' (line-closes done)))
    (choice (is_one 44 token.0.0) _ _ x token.2)

not_true : (t : Bool) → not t ≡ true → t ≡ false
not_true true e = cc
not_true false e = refl

not_false : (t : Bool) → not t ≡ false → t ≡ true
not_false true e = refl
not_false false e = cc

-- what may stand after a ring, which this bracket ended
ring-step : (rings : List (List Spot)) (ring : List Spot) (before ts : Tokens) (x : Next × Tokens) → texts_of before ≡ codes ")" ∷ texts_of ts →
    after_ring (rings ++ ring ∷ []) ts ≡ Ok x → Uses (Leads AfterSpot (draft.Polygon rings ring)) before x
unfolding after_ring
ring-step rings ring before ts x b e =
    let token = bind_ok (separator ts) _ x e in
    let used = separator-uses ts token.0 token.1 in
    ⊎_elim (λ c. let same : (next.Whole (shapes.Polygon (rings ++ ring ∷ [])), token.0.1) ≡ x = (let k = c.1 in cc) in
    given (Leads AfterSpot (draft.Polygon rings ring)) before token.0.1 (codes ")" ∷ codes ")" ∷ []) (next.Whole (shapes.Polygon (rings ++ ring ∷ []))) x same
    (b ∙ ap (λ (t : Texts). codes ")" ∷ t) (bracket-used ts token.0.0 token.0.1 used.0 (used.1 (not_true (is_one 44 token.0.0) c.0))))
    (polygon-closes rings ring))
    (λ c. let opened = bind_ok (mark 40 token.0.1) _ x c.1 in
    let same : (next.Spot (draft.Polygon (rings ++ ring ∷ []) []), opened.0) ≡ x = (let k = opened.2 in cc) in
    given (Leads AfterSpot (draft.Polygon rings ring)) before opened.0 (codes ")" ∷ codes "," ∷ codes "(" ∷ []) (next.Spot (draft.Polygon (rings ++ ring ∷ []) [])) x same
    (b ∙ ap (λ (t : Texts). codes ")" ∷ t)
    (comma-used ts token.0.0 token.0.1 used.0 (not_false (is_one 44 token.0.0) c.0) ∙ ap (λ (t : Texts). codes "," ∷ t) (mark-uses 40 token.0.1 opened.0 opened.1)))
    (λ more s h. ring-completes rings ring more s h))
    (choice (not (is_one 44 token.0.0)) _ _ x token.2)

polygon-step : (rings : List (List Spot)) (ring : List Spot) (ts : Tokens) (x : Next × Tokens) → after_ring_spot rings ring ts ≡ Ok x → Uses (Leads AfterSpot (draft.Polygon rings ring)) ts x
unfolding after_ring_spot
polygon-step rings ring ts x e =
    let token = bind_ok (separator ts) _ x e in
    let used = separator-uses ts token.0 token.1 in
    ⊎_elim (λ c. let same : (next.Spot (draft.Polygon rings ring), token.0.1) ≡ x = (let k = c.1 in cc) in
    given (Leads AfterSpot (draft.Polygon rings ring)) ts token.0.1 (codes "," ∷ []) (next.Spot (draft.Polygon rings ring)) x same (comma-used ts token.0.0 token.0.1 used.0 c.0)
    (λ more s h. comma-completes (draft.Polygon rings ring) more s h))
    (λ c. let whole = bind_ok (whole_ring token.0.0.at ring) _ x c.1 in
    let ring' : ring ≡ whole.0 = (let k = checked (is_open ring) _ _ whole.0 (checked (is_short ring) _ _ whole.0 whole.1) in cc) in
    ring-step rings ring ts token.0.1 x (bracket-used ts token.0.0 token.0.1 used.0 (used.1 c.0))
    (ap (λ (r : List Spot). after_ring (rings ++ r ∷ []) token.0.1) ring' ∙ whole.2))
    (choice (is_one 44 token.0.0) _ _ x token.2)

after-uses : (d : Draft) (ts : Tokens) (x : Next × Tokens) → after_spot d ts ≡ Ok x → Uses (Leads AfterSpot d) ts x
after-uses (draft.Line done) ts x e = line-step done ts x e
after-uses (draft.Polygon rings ring) ts x e = polygon-step rings ring ts x e

spot-first : (d : Draft) (p : Spot) (front used : Texts) (n : Next) → SpellsSpot front p → Leads AfterSpot (with_spot d p) used n → Leads FromSpot d (front ++ used) n
spot-first d p front used (next.Whole s) h leads = spot-completes d p front used s h leads
spot-first d p front used (next.Spot e) h leads = λ more s from.
    subst (λ (t : Texts). FromSpot d t s) (sym (append_assoc front used more)) (spot-completes d p front (used ++ more) s h (leads more s from))

step-uses : (d : Draft) (ts : Tokens) (x : Next × Tokens) → step d ts ≡ Ok x → Uses (Leads FromSpot d) ts x
unfolding step
step-uses d ts x e =
    let s = bind_ok (spot ts) _ x e in
    let p = spot-uses ts s.0 s.1 in
    let q = after-uses (with_spot d s.0.0) s.0.1 x s.2 in
    (p.0 ++ q.0, p.1 ∙ ap (λ (t : Texts). p.0 ++ t) q.1 ∙ sym (append_assoc p.0 q.0 (texts_of x.1)), spot-first d s.0.0 p.0 q.0 x.0 p.2 q.2)

until-uses : (d : Draft) (ts : Tokens) (further : Draft → Tokens → Reading Shape) (n : Next × Tokens) (x : Shape × Tokens) → Uses (Leads FromSpot d) ts n →
    ((e : Draft) (rest : Tokens) → further e rest ≡ Ok x → Uses (FromSpot e) rest x) → until_whole further n ≡ Ok x → Uses (FromSpot d) ts x
until-uses d ts further (next.Spot more, rest) x u h e =
    let v = h more rest e in
    (u.0 ++ v.0, u.1 ∙ ap (λ (t : Texts). u.0 ++ t) v.1 ∙ sym (append_assoc u.0 v.0 (texts_of x.1)), u.2 v.0 x.0 v.2)
until-uses d ts further (next.Whole s, rest) x u h e =
    let same : (s, rest) ≡ x = cc in
    subst (λ (y : Shape × Tokens). Uses (FromSpot d) ts y) same u

spots-uses : (room : ℕ) (d : Draft) (ts : Tokens) (x : Shape × Tokens) → spots room d ts ≡ Ok x → Uses (FromSpot d) ts x
unfolding spots no_room
spots-uses zero d ts x e = let token = bind_ok (first ts) _ x e in (let k = token.2 in cc)
spots-uses (suc room) d ts x e =
    let n = bind_ok (step d ts) _ x e in
    until-uses d ts (λ further rest. spots room further rest) n.0 x (step-uses d ts n.0 n.1) (λ more rest f. spots-uses room more rest x f) n.2

-- ---- whole shapes
-- after a word, EMPTY or a body
abbrev AfterWord : Kind → (Texts → Shape → Type 0) → Texts → Shape → Type 0
AfterWord k Body used s = ((s ≡ shapes.Empty k) × ((w : List ℕ) × (used ≡ w ∷ []) × (is_word (codes "EMPTY") w ≡ true))) ⊎ Body used s

empty-uses : (ts rest : Tokens) → after_empty ts ≡ Some rest → (w : List ℕ) × (texts_of ts ≡ w ∷ texts_of rest) × (is_word (codes "EMPTY") w ≡ true)
empty-uses (Ends at) rest e = cc
empty-uses (Begins token more) rest e = taken (is_word (codes "EMPTY") token.bytes) refl e
  where
    taken : (t : Bool) → is_word (codes "EMPTY") token.bytes ≡ t → cond t (Some more) None ≡ Some rest →
        (w : List ℕ) × (token.bytes ∷ texts_of more ≡ w ∷ texts_of rest) × (is_word (codes "EMPTY") w ≡ true)
    taken true is f = let same : more ≡ rest = cc in (token.bytes, ap (λ (t : Tokens). token.bytes ∷ texts_of t) same, is)
    taken false is f = cc

word-uses : (k : Kind) (Body : Texts → Shape → Type 0) (body : Reading Shape) (o : Option Tokens) (ts : Tokens) (x : Shape × Tokens) → after_empty ts ≡ o →
    (body ≡ Ok x → Uses Body ts x) → or_empty k body o ≡ Ok x → Uses (AfterWord k Body) ts x
word-uses k Body body (Some rest) ts x o h e =
    let u = empty-uses ts rest o in
    let same : (shapes.Empty k, rest) ≡ x = cc in
    subst (λ (y : Shape × Tokens). Uses (AfterWord k Body) ts y) same (u.0 ∷ [], u.1, inl (refl, (u.0, refl, u.2)))
word-uses k Body body None ts x o h e = let u = h e in (u.0, u.1, inr u.2)

-- bodies
PointBody : Texts → Shape → Type 0
PointBody used s = (p : Spot) × (s ≡ shapes.Point p) × Bracketed SpellsSpot used p

LineBody : Texts → Shape → Type 0
LineBody used s = (path : List Spot) × (s ≡ shapes.Line path) × SpellsPath used path

PolygonBody : Texts → Shape → Type 0
PolygonBody used s = (rings : List (List Spot)) × (s ≡ shapes.Polygon rings) × Bracketed (Listed SpellsPath) used rings

point-uses : (ts : Tokens) (x : Shape × Tokens) → point_body ts ≡ Ok x → Uses PointBody ts x
unfolding point_body PointBody
point-uses ts x e =
    let opened = bind_ok (mark 40 ts) _ x e in
    let place = bind_ok (spot opened.0) _ x opened.2 in
    let closed = bind_ok (mark 41 place.0.1) _ x place.2 in
    let same : (shapes.Point place.0.0, closed.0) ≡ x = (let k = closed.2 in cc) in
    let p = spot-uses opened.0 place.0 place.1 in
    subst (λ (y : Shape × Tokens). Uses PointBody ts y) same (
      codes "(" ∷ (p.0 ++ codes ")" ∷ []),
      mark-uses 40 ts opened.0 opened.1
          ∙ ap (λ (t : Texts). codes "(" ∷ t)
          (p.1 ∙ ap (λ (t : Texts). p.0 ++ t) (mark-uses 41 place.0.1 closed.0 closed.1) ∙ sym (append_assoc p.0 (codes ")" ∷ []) (texts_of closed.0))),
      (place.0.0, refl, (p.0, refl, p.2)),
    )

line-uses : (ts : Tokens) (x : Shape × Tokens) → line_body ts ≡ Ok x → Uses LineBody ts x
unfolding line_body LineBody
line-uses ts x e =
    let opened = bind_ok (mark 40 ts) _ x e in
    let u = spots-uses most_spots (draft.Line []) opened.0 x opened.2 in (
      codes "(" ∷ u.0,
      mark-uses 40 ts opened.0 opened.1 ∙ ap (λ (t : Texts). codes "(" ∷ t) u.1,
      line_part u.0 x.0 u.2,
    )
  where
    line_part : (used : Texts) (s : Shape) → FromSpot (draft.Line []) used s → (path : List Spot) × (s ≡ shapes.Line path) × SpellsPath (codes "(" ∷ used) path
    line_part used s (more, inner, e, on, is) = (more, is, (inner, ap (λ (t : Texts). codes "(" ∷ t) e, on))

polygon-uses : (ts : Tokens) (x : Shape × Tokens) → polygon_body ts ≡ Ok x → Uses PolygonBody ts x
unfolding polygon_body PolygonBody
polygon-uses ts x e =
    let opened = bind_ok (mark 40 ts) _ x e in
    let ring = bind_ok (mark 40 opened.0) _ x opened.2 in
    let u = spots-uses most_spots (draft.Polygon [] []) ring.0 x ring.2 in (
      codes "(" ∷ codes "(" ∷ u.0,
      mark-uses 40 ts opened.0 opened.1 ∙ ap (λ (t : Texts). codes "(" ∷ t) (mark-uses 40 opened.0 ring.0 ring.1 ∙ ap (λ (t : Texts). codes "(" ∷ t) u.1),
      polygon_part u.0 x.0 u.2,
    )
  where
    polygon_part : (used : Texts) (s : Shape) → FromSpot (draft.Polygon [] []) used s →
        (rings : List (List Spot)) × (s ≡ shapes.Polygon rings) × Bracketed (Listed SpellsPath) (codes "(" ∷ codes "(" ∷ used) rings
    polygon_part used s (more, others, inner, back, e, on, rest, is) = (
      more ∷ others,
      is,
      (
        (codes "(" ∷ (inner ++ codes ")" ∷ [])) ++ back,
        ap (λ (t : Texts). codes "(" ∷ codes "(" ∷ t)
            (e ∙ sym (append_assoc inner (codes ")" ∷ []) (back ++ codes ")" ∷ [])) ∙ sym (append_assoc (inner ++ codes ")" ∷ []) back (codes ")" ∷ []))),
        (codes "(" ∷ (inner ++ codes ")" ∷ []), back, refl, (inner, refl, on), rest),
      ),
    )

-- each word with what stands after it
spells-point : (w : List ℕ) (used : Texts) (s : Shape) → is_word (codes "POINT") w ≡ true → AfterWord kind.Point PointBody used s → Spells (w ∷ used) s
unfolding PointBody
spells-point w used s is (inl (e, v)) = rw (e, v.1) (w, v.0 ∷ [], refl, is, (v.0, [], refl, v.2, refl))
spells-point w used s is (inr b) = rw b.1 (w, used, refl, is, b.2)

spells-line : (w : List ℕ) (used : Texts) (s : Shape) → is_word (codes "LINESTRING") w ≡ true → AfterWord kind.Line LineBody used s → Spells (w ∷ used) s
unfolding LineBody
spells-line w used s is (inl (e, v)) = rw (e, v.1) (w, v.0 ∷ [], refl, is, (v.0, [], refl, v.2, refl))
spells-line w used s is (inr b) = rw b.1 (w, used, refl, is, b.2)

spells-polygon : (w : List ℕ) (used : Texts) (s : Shape) → is_word (codes "POLYGON") w ≡ true → AfterWord kind.Polygon PolygonBody used s → Spells (w ∷ used) s
unfolding PolygonBody
spells-polygon w used s is (inl (e, v)) = rw (e, v.1) (w, v.0 ∷ [], refl, is, (v.0, [], refl, v.2, refl))
spells-polygon w used s is (inr b) = rw b.1 (w, used, refl, is, b.2)

with_word : (P Q : Texts → Shape → Type 0) (w : List ℕ) (ts rest : Tokens) (x : Shape × Tokens) → texts_of ts ≡ w ∷ texts_of rest → ((used : Texts) → P used x.0 → Q (w ∷ used) x.0) → Uses P rest x → Uses Q ts x
with_word P Q w ts rest x e f u = (w ∷ u.0, e ∙ ap (λ (t : Texts). w ∷ t) u.1, f u.0 u.2)

shape-uses : (ts : Tokens) (x : Shape × Tokens) → shape ts ≡ Ok x → Uses Spells ts x
unfolding shape point line polygon
shape-uses ts x e =
    let token = bind_ok (first ts) _ x e in
    let w = token.0.0.bytes in
    let rest = token.0.1 in
    let front = first-uses ts token.0 token.1 in
    ⊎_elim (λ c. with_word (AfterWord kind.Point PointBody) Spells w ts rest x front (λ used. spells-point w used x.0 c.0) (word-uses kind.Point PointBody (point_body rest) (after_empty rest) rest x refl (point-uses rest x) c.1))
    (λ n. ⊎_elim (λ c. with_word (AfterWord kind.Line LineBody) Spells w ts rest x front (λ used. spells-line w used x.0 c.0) (word-uses kind.Line LineBody (line_body rest) (after_empty rest) rest x refl (line-uses rest x) c.1))
    (λ m. ⊎_elim (λ c. with_word (AfterWord kind.Polygon PolygonBody) Spells w ts rest x front (λ used. spells-polygon w used x.0 c.0) (word-uses kind.Polygon PolygonBody (polygon_body rest) (after_empty rest) rest x refl (polygon-uses rest x) c.1))
    (λ c. let k = c.1 in cc)
    (choice (is_word (codes "POLYGON") w) (polygon rest) _ x m.1))
    (choice (is_word (codes "LINESTRING") w) (line rest) _ x n.1))
    (choice (is_word (codes "POINT") w) (point rest) _ x token.2)

nothing_left : (s : Shape) (ts : Tokens) (t : Shape) → and_nothing s ts ≡ Ok t → (texts_of ts ≡ []) × (s ≡ t)
nothing_left s (Ends at) t e = (refl, cc)
nothing_left s (Begins token rest) t e = cc

-- what is read is what the tokens spell
pub Spells-lone_shape : (ts : Tokens) (s : Shape) → lone_shape ts ≡ Ok s → Spells (texts_of ts) s
unfolding lone_shape
Spells-lone_shape ts s e =
    let x = bind_ok (shape ts) _ s e in
    let u = shape-uses ts x.0 x.1 in
    let end = nothing_left x.0.0 x.0.1 s x.2 in
    let all : texts_of ts ≡ u.0 = u.1 ∙ ap (λ (t : Texts). u.0 ++ t) end.0 ∙ append-nil u.0 in
    rw all (subst (Spells u.0) end.1 u.2)
