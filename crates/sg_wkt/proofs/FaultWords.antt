-- Reading tells its faults in their own words: from the shape's word to its first path, and points.
use Rattle.std.proofs.Common.{◌≡◌, ◌≤◌, ◌<◌, ℕ, zero, suc, ◌+◌, ◌*◌, ◌==◌, nat_lt, take, Bool, true, false, cond, if◌then◌else◌, ◌&&◌, ◌⊎◌, inl, inr, List, [], ◌∷◌, ◌++◌, codes, ℤ, pos, refl, sym, ap, ◌∙◌, subst, Result, Ok, Err, arith, append_assoc}
use Rattle.std.proofs.lemmas.Slice.Eq.{bytes_eq-Decides}
use Rattle.std.proofs.lemmas.Bool.Decides.{nat_tests}
use Rattle.std.proofs.lemmas.Str.Ascii.{lowercase_is}
use Rattle.std.proofs.lemmas.Str.Parse.{tells_all_ascii_digits}
use Rattle.std.specs.Char.{to_ascii_lowercase}
use Rattle.std.specs.List.{position_or_len}
use Rattle.std.specs.Str.{str_to_ascii_lowercase, all_ascii_digits}
use Rattle.std.specs.Str.Parse.{without_leading_sign}
use Rattle.sg_shape.specs.declared.spots.Spot.{Spot}
use Rattle.sg_shape.specs.declared.shapes.Kind.{Kind}
use Rattle.sg_shape.specs.declared.shapes.Kind.TheVariants as kind
use Rattle.sg_shape.specs.declared.shapes.Shape.{Shape}
use Rattle.sg_shape.specs.declared.shapes.Shape.TheVariants as shapes
use Rattle.sg_wkt.specs.declared.drafts.Draft.TheVariants as draft
use Rattle.sg_wkt.specs.declared.faults.WktFault.{WktFault}
use Rattle.sg_wkt.specs.declared.faults.WktKind.{WktKind}
use Rattle.sg_wkt.specs.declared.faults.WktKind.TheVariants as kinds
use Rattle.sg_wkt.specs.Tokens.{Token, Tokens, Ends, Begins, is_mark}
use Rattle.sg_wkt.specs.Numbers.{is_dot, before_dot, after_dot, are_digits, is_number, coordinate}
use Rattle.sg_wkt.specs.Grammar.{Reading, ◌>>=◌, fault, is_one, is_word, mark, number, spot, spots, most_spots, point_body, line_body, polygon_body, point, line, polygon, shape, and_nothing, lone_shape}
use Rattle.sg_wkt.specs.Spelled.{Texts, Further, Listed, Bracketed, SpellsSpot, SpellsPath, Spells}
use Rattle.sg_wkt.specs.Canonical.{word_of}
use Rattle.sg_wkt.specs.Faults.{numbers, CanGoOn, MayStand, WantsNumber, HasRoom}
use Rattle.sg_wkt.proofs.Numerals.{dot_step}
use Rattle.sg_wkt.proofs.Consumed.{FromSpot, is_byte}
use Rattle.sg_wkt.proofs.FaultStates.{State, Comes, Finishes, Goal, Tells, told-next, fault-here, end-here, mark-told, number-told, done-told}
use Rattle.sg_wkt.proofs.FaultPaths.{Wants, wants-first, zero_spot, spells-zero, numbers-more}
use Rattle.sg_wkt.proofs.FaultSteps.{finish, placed_at, Spots}
use Rattle.sg_wkt.proofs.FaultEnds.{by_token, done-finishes, spots-finishes}
use Rattle.sg_wkt.proofs.FaultTold.{spots-told}

-- ---- words are no numbers
lowered : (word w : List ℕ) → is_word word w ≡ true → str_to_ascii_lowercase w ≡ str_to_ascii_lowercase word
lowered word w h = (bytes_eq-Decides (str_to_ascii_lowercase w) (str_to_ascii_lowercase word)).0 h

not_digits : (d : ℕ) (xs : List ℕ) → 57 < d → (t : Bool) → all_ascii_digits (d ∷ xs) ≡ t → t ≡ false
not_digits d xs h true e = absurd (omega (arith, h, (tells_all_ascii_digits.parts d xs e).0.1))
not_digits d xs h false e = refl

and_false : (a b : Bool) → a ≡ false → (a && b) ≡ false
and_false true b e = cc
and_false false b e = refl

-- a text whose first byte is above the digits
letter_first : (d : ℕ) (ds : List ℕ) → 57 < d → is_number (d ∷ ds) ≡ false
letter_first d ds h =
    let no_dot : is_dot d ≡ false = grind (arith, nat_tests) in
    let no_minus : (d == 45) ≡ false = grind (arith, nat_tests) in
    let no_plus : (d == 43) ≡ false = grind (arith, nat_tests) in
    let xs : List ℕ = take (position_or_len is_dot ds) ds in
    let front : before_dot (d ∷ ds) ≡ d ∷ xs = ap (λ (n : ℕ). take n (d ∷ ds)) (dot_step (is_dot d) (position_or_len is_dot ds) no_dot) in
    let bare : without_leading_sign (d ∷ xs) ≡ d ∷ xs = rw (no_minus, no_plus) refl in
    let digits : are_digits (d ∷ xs) ≡ false = not_digits d xs h (all_ascii_digits (d ∷ xs)) refl in
    and_false (are_digits (without_leading_sign (before_dot (d ∷ ds)))) (all_ascii_digits (after_dot (d ∷ ds)))
    (ap (λ (ys : List ℕ). are_digits (without_leading_sign ys)) front ∙ ap are_digits bare ∙ digits)

above : (d c : ℕ) → to_ascii_lowercase d ≡ c → 97 ≤ c → (t : Bool) → nat_lt 57 d ≡ t → 57 < d
above d c e h true f = grind (arith, nat_tests)
above d c e h false f =
    let low : d < 65 = grind (arith, nat_tests) in
    absurd (omega (arith, (lowercase_is d).1 low, low, e, h))

first_letter : (w : List ℕ) (c : ℕ) (cs : List ℕ) → str_to_ascii_lowercase w ≡ c ∷ cs → 97 ≤ c → is_number w ≡ false
first_letter [] c cs e h = cc
first_letter (d ∷ ds) c cs e h = let same : to_ascii_lowercase d ≡ c = cc in letter_first d ds (above d c same h (nat_lt 57 d) refl)

word_number : (k : Kind) (w : List ℕ) → is_word (word_of k) w ≡ true → is_number w ≡ false
word_number kind.Point w h = first_letter w 112 (codes "oint") (lowered (codes "POINT") w h) (omega arith)
word_number kind.Line w h = first_letter w 108 (codes "inestring") (lowered (codes "LINESTRING") w h) (omega arith)
word_number kind.Polygon w h = first_letter w 112 (codes "olygon") (lowered (codes "POLYGON") w h) (omega arith)

-- ---- the states
-- after a word, by its kind
abbrev Worded : Kind → State
Worded kind.Point ts = finish (point ts)
Worded kind.Line ts = finish (line ts)
Worded kind.Polygon ts = finish (polygon ts)

-- after the first bracket
abbrev Body : Kind → State
Body kind.Point ts = finish (spot ts >>= (λ place. mark 41 place.1 >>= (λ closed. Ok (shapes.Point place.0, closed))))
Body kind.Line ts = Spots most_spots (draft.Line []) ts
Body kind.Polygon ts = finish (mark 40 ts >>= (λ ring. spots most_spots (draft.Polygon [] []) ring))

abbrev PointSecond : ℤ → State
PointSecond x ts =
    finish ((number ts >>= placed_at x) >>= (λ place. mark 41 place.1 >>= (λ closed. Ok (shapes.Point place.0, closed))))

abbrev PointClose : Spot → State
PointClose s ts = finish (mark 41 ts >>= (λ closed. Ok (shapes.Point s, closed)))

-- ---- what each does with the next token
lone-end : (end : ℕ) → lone_shape (Ends end) ≡ fault end kinds.End
unfolding lone_shape shape
lone-end end = refl

lone-none : (token : Token) (more : Tokens) → is_word (codes "POINT") token.bytes ≡ false → is_word (codes "LINESTRING") token.bytes ≡ false → is_word (codes "POLYGON") token.bytes ≡ false →
    lone_shape (Begins token more) ≡ fault token.at kinds.Keyword
unfolding lone_shape shape
lone-none token more e f g = rw (e, f, g) refl

lone-point : (token : Token) (more : Tokens) → is_word (codes "POINT") token.bytes ≡ true → lone_shape (Begins token more) ≡ Worded kind.Point more
unfolding lone_shape shape
lone-point token more e = rw e refl

lone-line : (token : Token) (more : Tokens) → is_word (codes "POINT") token.bytes ≡ false → is_word (codes "LINESTRING") token.bytes ≡ true → lone_shape (Begins token more) ≡ Worded kind.Line more
unfolding lone_shape shape
lone-line token more e f = rw (e, f) refl

lone-polygon : (token : Token) (more : Tokens) → is_word (codes "POINT") token.bytes ≡ false → is_word (codes "LINESTRING") token.bytes ≡ false → is_word (codes "POLYGON") token.bytes ≡ true →
    lone_shape (Begins token more) ≡ Worded kind.Polygon more
unfolding lone_shape shape
lone-polygon token more e f g = rw (e, f, g) refl

worded-end : (k : Kind) (end : ℕ) → Worded k (Ends end) ≡ fault end kinds.End
unfolding point line polygon point_body line_body polygon_body mark
worded-end kind.Point end = refl
worded-end kind.Line end = refl
worded-end kind.Polygon end = refl

worded-empty : (k : Kind) (token : Token) (more : Tokens) → is_word (codes "EMPTY") token.bytes ≡ true → Worded k (Begins token more) ≡ and_nothing (shapes.Empty k) more
unfolding point line polygon
worded-empty kind.Point token more e = rw e refl
worded-empty kind.Line token more e = rw e refl
worded-empty kind.Polygon token more e = rw e refl

worded-opened : (k : Kind) (token : Token) (more : Tokens) → is_word (codes "EMPTY") token.bytes ≡ false → is_one 40 token ≡ true → Worded k (Begins token more) ≡ Body k more
unfolding point line polygon point_body line_body polygon_body mark
worded-opened kind.Point token more e f = rw (e, f) refl
worded-opened kind.Line token more e f = rw (e, f) refl
worded-opened kind.Polygon token more e f = rw (e, f) refl

worded-wrong : (k : Kind) (token : Token) (more : Tokens) → is_word (codes "EMPTY") token.bytes ≡ false → is_one 40 token ≡ false → Worded k (Begins token more) ≡ fault token.at kinds.Punctuation
unfolding point line polygon point_body line_body polygon_body mark
worded-wrong kind.Point token more e f = rw (e, f) refl
worded-wrong kind.Line token more e f = rw (e, f) refl
worded-wrong kind.Polygon token more e f = rw (e, f) refl

point-end : (end : ℕ) → Body kind.Point (Ends end) ≡ fault end kinds.End
unfolding spot number
point-end end = refl

point-found : (token : Token) (more : Tokens) (z : ℤ) → coordinate token.bytes ≡ Ok z → Body kind.Point (Begins token more) ≡ PointSecond z more
unfolding spot number
point-found token more z e = rw e refl

point-wrong : (token : Token) (more : Tokens) (k : WktKind) → coordinate token.bytes ≡ Err k → Body kind.Point (Begins token more) ≡ fault token.at k
unfolding spot number
point-wrong token more k e = rw e refl

second-end : (x : ℤ) (end : ℕ) → PointSecond x (Ends end) ≡ fault end kinds.End
unfolding number
second-end x end = refl

second-found : (x : ℤ) (token : Token) (more : Tokens) (z : ℤ) → coordinate token.bytes ≡ Ok z → PointSecond x (Begins token more) ≡ PointClose (record { x = x; y = z }) more
unfolding number
second-found x token more z e = rw e refl

second-wrong : (x : ℤ) (token : Token) (more : Tokens) (k : WktKind) → coordinate token.bytes ≡ Err k → PointSecond x (Begins token more) ≡ fault token.at k
unfolding number
second-wrong x token more k e = rw e refl

close-end : (s : Spot) (end : ℕ) → PointClose s (Ends end) ≡ fault end kinds.End
unfolding mark
close-end s end = refl

close-found : (s : Spot) (token : Token) (more : Tokens) → is_one 41 token ≡ true → PointClose s (Begins token more) ≡ and_nothing (shapes.Point s) more
unfolding mark
close-found s token more e = rw e refl

close-wrong : (s : Spot) (token : Token) (more : Tokens) → is_one 41 token ≡ false → PointClose s (Begins token more) ≡ fault token.at kinds.Punctuation
unfolding mark
close-wrong s token more e = rw e refl

polygon-end : (end : ℕ) → Body kind.Polygon (Ends end) ≡ fault end kinds.End
unfolding mark
polygon-end end = refl

polygon-found : (token : Token) (more : Tokens) → is_one 40 token ≡ true → Body kind.Polygon (Begins token more) ≡ Spots most_spots (draft.Polygon [] []) more
unfolding mark
polygon-found token more e = rw e refl

polygon-wrong : (token : Token) (more : Tokens) → is_one 40 token ≡ false → Body kind.Polygon (Begins token more) ≡ fault token.at kinds.Punctuation
unfolding mark
polygon-wrong token more e = rw e refl

-- ---- each leads to a shape
abbrev word : List ℕ → Token
word w = record { at = 0; bytes = w }

close-finishes : (s : Spot) → Finishes (PointClose s)
close-finishes s = by_token (PointClose s) (and_nothing (shapes.Point s)) (word (codes ")")) (λ more. close-found s (word (codes ")")) more refl) (done-finishes (shapes.Point s))

second-finishes : (x : ℤ) → Finishes (PointSecond x)
second-finishes x =
    by_token (PointSecond x) (PointClose (record { x = x; y = pos 0 })) (word (codes "0")) (λ more. second-found x (word (codes "0")) more (pos 0) refl)
    (close-finishes (record { x = x; y = pos 0 }))

point-finishes : Finishes (Body kind.Point)
point-finishes = by_token (Body kind.Point) (PointSecond (pos 0)) (word (codes "0")) (λ more. point-found (word (codes "0")) more (pos 0) refl) (second-finishes (pos 0))

worded-finishes : (k : Kind) → Finishes (Worded k)
worded-finishes k = by_token (Worded k) (and_nothing (shapes.Empty k)) (word (codes "EMPTY")) (λ more. worded-empty k (word (codes "EMPTY")) more refl) (done-finishes (shapes.Empty k))

lone-finishes : Finishes lone_shape
lone-finishes = by_token lone_shape (Worded kind.Point) (word (codes "POINT")) (λ more. lone-point (word (codes "POINT")) more refl) (worded-finishes kind.Point)

-- ---- points
no_numbers : (t : Bool) → t ≡ false → (if t then 1 + 0 else 0) ≡ 0
no_numbers true e = cc
no_numbers false e = refl

point-spelled : (w v u : List ℕ) (x y : ℤ) → is_word (codes "POINT") w ≡ true → coordinate v ≡ Ok x → coordinate u ≡ Ok y →
    Spells (w ∷ codes "(" ∷ v ∷ u ∷ codes ")" ∷ []) (shapes.Point (record { x = x; y = y }))
point-spelled w v u x y is e f = (w, codes "(" ∷ v ∷ u ∷ codes ")" ∷ [], refl, is, (v ∷ u ∷ [], refl, (v, u, refl, e, f)))

few : (n : ℕ) → n ≡ 0 → n < 4096
few n e = omega (arith, e)

few_more : (m n : ℕ) → m ≡ n + 1 → n ≡ 0 → m < 4096
few_more m n e f = omega (arith, e, f)

word_numbers : (k : Kind) (w : List ℕ) → is_word (word_of k) w ≡ true → numbers (w ∷ codes "(" ∷ []) ≡ 0
word_numbers k w is = no_numbers (is_number w) (word_number k w is)

point-told : (w : List ℕ) → is_word (codes "POINT") w ≡ true → Tells (w ∷ codes "(" ∷ []) (Body kind.Point)
point-told w is =
    let front : Texts = w ∷ codes "(" ∷ [] in
    number-told front (Body kind.Point) PointSecond point-end point-found point-wrong
    ((codes "0" ∷ codes ")" ∷ [], shapes.Point (record { x = pos 0; y = pos 0 }), point-spelled w (codes "0") (codes "0") (pos 0) (pos 0) is refl refl), few (numbers front) (word_numbers kind.Point w is)) (λ four. point-finishes)
    (λ v x e.
    number-told (w ∷ codes "(" ∷ v ∷ []) (PointSecond x) (λ y. PointClose (record { x = x; y = y })) (second-end x) (second-found x) (second-wrong x)
    ((codes ")" ∷ [], shapes.Point (record { x = x; y = pos 0 }), point-spelled w v (codes "0") x (pos 0) is e refl), few_more (numbers (front ++ v ∷ [])) (numbers front) (numbers-more front v x e) (word_numbers kind.Point w is)) (λ four. second-finishes x)
    (λ u y f.
    mark-told 41 (w ∷ codes "(" ∷ v ∷ u ∷ []) (PointClose (record { x = x; y = y })) (and_nothing (shapes.Point (record { x = x; y = y })))
    (close-end (record { x = x; y = y })) (close-found (record { x = x; y = y })) (close-wrong (record { x = x; y = y })) refl
    ([], shapes.Point (record { x = x; y = y }), point-spelled w v u x y is e f) (λ four. close-finishes (record { x = x; y = y }))
    (done-told (w ∷ codes "(" ∷ v ∷ u ∷ codes ")" ∷ []) (shapes.Point (record { x = x; y = y })))))

-- ---- the first path
line-wants : (w : List ℕ) → is_word (codes "LINESTRING") w ≡ true → Wants (w ∷ codes "(" ∷ []) most_spots (draft.Line [])
line-wants w isw = record {
  leads = led;
  count = ap (λ (n : ℕ). n + 4096) (word_numbers kind.Line w isw);
  path = (w, [], [], refl, isw, refl);
}
  where
    led : (more : Texts) (s : Shape) → FromSpot (draft.Line []) more s → Spells (w ∷ codes "(" ∷ more) s
    led used s (more, inner, e, on, is) = rw is (w, codes "(" ∷ used, refl, isw, (inner, ap (λ (t : Texts). codes "(" ∷ t) e, on))

polygon-wants : (w : List ℕ) → is_word (codes "POLYGON") w ≡ true → Wants (w ∷ codes "(" ∷ codes "(" ∷ []) most_spots (draft.Polygon [] [])
polygon-wants w isw = record {
  leads = led;
  count = ap (λ (n : ℕ). n + 4096) (word_numbers kind.Polygon w isw);
  path = (w, codes "(" ∷ [], [], refl, isw, refl);
}
  where
    led : (more : Texts) (s : Shape) → FromSpot (draft.Polygon [] []) more s → Spells (w ∷ codes "(" ∷ codes "(" ∷ more) s
    led used s (more, others, inner, back, e, on, rest, is) = rw is (
      w,
      codes "(" ∷ codes "(" ∷ used,
      refl,
      isw,
      (
        (codes "(" ∷ (inner ++ codes ")" ∷ [])) ++ back,
        ap (λ (t : Texts). codes "(" ∷ codes "(" ∷ t)
            (e ∙ sym (append_assoc inner (codes ")" ∷ []) (back ++ codes ")" ∷ [])) ∙ sym (append_assoc (inner ++ codes ")" ∷ []) back (codes ")" ∷ []))),
        (codes "(" ∷ (inner ++ codes ")" ∷ []), back, refl, (inner, refl, on), rest),
      ),
    )

polygon-finishes : (w : List ℕ) → is_word (codes "POLYGON") w ≡ true → Finishes (Body kind.Polygon)
polygon-finishes w is =
    by_token (Body kind.Polygon) (Spots most_spots (draft.Polygon [] [])) (word (codes "(")) (λ more. polygon-found (word (codes "(")) more refl)
    (spots-finishes most_spots (draft.Polygon [] []) (w ∷ codes "(" ∷ codes "(" ∷ []) (omega arith) (polygon-wants w is))

-- after the first bracket
body-told : (k : Kind) (w : List ℕ) → is_word (word_of k) w ≡ true → Tells (w ∷ codes "(" ∷ []) (Body k)
body-told kind.Point w is = point-told w is
body-told kind.Line w is = spots-told most_spots (draft.Line []) (w ∷ codes "(" ∷ []) (line-wants w is)
body-told kind.Polygon w is =
    let next = wants-first (w ∷ codes "(" ∷ codes "(" ∷ []) most_spots (draft.Polygon [] []) (polygon-wants w is) in
    mark-told 40 (w ∷ codes "(" ∷ []) (Body kind.Polygon) (Spots most_spots (draft.Polygon [] [])) polygon-end polygon-found polygon-wrong refl
    (codes "0" ∷ next.0, next.1, next.2) (λ four. polygon-finishes w is)
    (spots-told most_spots (draft.Polygon [] []) (w ∷ codes "(" ∷ codes "(" ∷ []) (polygon-wants w is))

may-open : (k : Kind) (w : List ℕ) → is_word (word_of k) w ≡ true → MayStand (w ∷ []) (codes "(")
may-open kind.Point w is = (codes "0" ∷ codes "0" ∷ codes ")" ∷ [], shapes.Point (record { x = pos 0; y = pos 0 }), point-spelled w (codes "0") (codes "0") (pos 0) (pos 0) is refl refl)
may-open kind.Line w is =
    let next = wants-first (w ∷ codes "(" ∷ []) most_spots (draft.Line []) (line-wants w is) in
    (codes "0" ∷ next.0, next.1, next.2)
may-open kind.Polygon w is =
    let next = wants-first (w ∷ codes "(" ∷ codes "(" ∷ []) most_spots (draft.Polygon [] []) (polygon-wants w is) in
    (codes "(" ∷ codes "0" ∷ next.0, next.1, next.2)

empty-spelled : (k : Kind) (w : List ℕ) → is_word (word_of k) w ≡ true → Spells (w ∷ codes "EMPTY" ∷ []) (shapes.Empty k)
empty-spelled k w is = (w, codes "EMPTY" ∷ [], refl, is, (codes "EMPTY", [], refl, refl, refl))

worded-told : (k : Kind) (w : List ℕ) → is_word (word_of k) w ≡ true → Tells (w ∷ []) (Worded k)
worded-told k w is before at (Ends end) =
    end-here before (w ∷ []) (Worded k) end at (worded-end k end) (codes "EMPTY" ∷ [], shapes.Empty k, empty-spelled k w is) (λ four. worded-finishes k)
worded-told k w is before at (Begins token rest) = choose (is_word (codes "EMPTY") token.bytes) (is_one 40 token) refl refl
  where
    choose : (c e : Bool) → is_word (codes "EMPTY") token.bytes ≡ c → is_one 40 token ≡ e → Goal before (Worded k) (Begins token rest)
    choose true e x y =
        told-next before (w ∷ []) token.bytes (Worded k) (and_nothing (shapes.Empty k)) token rest at refl (λ more. worded-empty k token more x)
        (done-told (w ∷ token.bytes ∷ []) (shapes.Empty k))
    choose false true x y =
        told-next before (w ∷ []) (codes "(") (Worded k) (Body k) token rest at (is_byte 40 token y) (λ more. worded-opened k token more x y) (body-told k w is)
    choose false false x y =
        fault-here before (w ∷ []) (Worded k) token rest kinds.Punctuation at (λ more. worded-wrong k token more x y) (40, refl, may-open k w is) (λ four. worded-finishes k)

-- ---- the first token
none_of : (w : List ℕ) → is_word (codes "POINT") w ≡ false → is_word (codes "LINESTRING") w ≡ false → is_word (codes "POLYGON") w ≡ false → (k : Kind) → is_word (word_of k) w ≡ false
none_of w e f g kind.Point = e
none_of w e f g kind.Line = f
none_of w e f g kind.Polygon = g

pub lone_shape-told : Tells [] lone_shape
lone_shape-told before at (Ends end) =
    end-here before [] lone_shape end at (lone-end end) (codes "POINT" ∷ codes "EMPTY" ∷ [], shapes.Empty kind.Point, empty-spelled kind.Point (codes "POINT") refl) (λ four. lone-finishes)
lone_shape-told before at (Begins token rest) =
    choose (is_word (codes "POINT") token.bytes) (is_word (codes "LINESTRING") token.bytes) (is_word (codes "POLYGON") token.bytes) refl refl refl
  where
    next : (k : Kind) → is_word (word_of k) token.bytes ≡ true → ((more : Tokens) → lone_shape (Begins token more) ≡ Worded k more) → Goal before lone_shape (Begins token rest)
    next k is e = told-next before [] token.bytes lone_shape (Worded k) token rest at refl e (worded-told k token.bytes is)

    choose : (p l g : Bool) → is_word (codes "POINT") token.bytes ≡ p → is_word (codes "LINESTRING") token.bytes ≡ l → is_word (codes "POLYGON") token.bytes ≡ g →
        Goal before lone_shape (Begins token rest)
    choose true l g x y z = next kind.Point x (λ more. lone-point token more x)
    choose false true g x y z = next kind.Line y (λ more. lone-line token more x y)
    choose false false true x y z = next kind.Polygon z (λ more. lone-polygon token more x y z)
    choose false false false x y z =
        fault-here before [] lone_shape token rest kinds.Keyword at (λ more. lone-none token more x y z) (refl, none_of token.bytes x y z) (λ four. lone-finishes)
