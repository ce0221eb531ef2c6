-- The tokens of a canonical text spell its shape.
use Rattle.std.proofs.Common.{◌≡◌, ℕ, ◌+◌, ◌<◌, suc, Bool, true, false, not, ◌&&◌, ◌||◌, List, [], ◌∷◌, ◌++◌, length, flat_map, codes, ℤ, pos, negsuc, refl, sym, ap, ◌∙◌, arith, append_assoc, append-nil}
use Rattle.std.proofs.lemmas.Str.Parse.{tells_all_ascii_digits}
use Rattle.std.proofs.lemmas.Fmt.{digits_decimal, decimal_nonempty}
use Rattle.std.specs.Fmt.{decimal, signed_decimal}
use Rattle.std.specs.List.{list_all}
use Rattle.std.specs.Str.{all_ascii_digits}
use Rattle.sg_shape.specs.declared.spots.Spot.{Spot}
use Rattle.sg_shape.specs.declared.shapes.Kind.TheVariants as kind
use Rattle.sg_shape.specs.declared.shapes.Shape.{Shape}
use Rattle.sg_shape.specs.declared.shapes.Shape.TheVariants as shapes
use Rattle.sg_shape.specs.Sound.{IsSound, coord_ok}
use Rattle.sg_wkt.specs.Tokens.{is_blank, is_mark, is_plain, begins_plain, lengthened, tokens_from, tokens}
use Rattle.sg_wkt.specs.Canonical.{canonical, listed, path_text, spot_text}
use Rattle.sg_wkt.specs.Spelled.{Texts, texts_of, Further, Listed, SpellsSpot, SpellsPath, Spells}
use Rattle.sg_wkt.proofs.Digits.{own}
use Rattle.sg_wkt.proofs.Fronts.{at_front, both_false, goes_further, not_either, right_true, stops_here}
use Rattle.sg_wkt.proofs.Numerals.{and_left, and_right, is_plain-number, small_above, small_below, coordinate-signed_decimal}
use Rattle.sg_wkt.proofs.SoundParts.{Each, IsRing, IsWithin, point_within, line_sound, polygon_sound}

-- ---- a word is one token
-- bytes that aren't blank and no marks, and then a blank, a mark or the end
pub tokens_from-word : (at : ℕ) (w rest : List ℕ) → list_all is_plain w ≡ true → begins_plain rest ≡ false → 0 < length w →
    tokens_from at (w ++ rest) ≡ at_front at w (tokens_from (at + length w) rest)
tokens_from-word at [] rest all stop some = absurd (omega arith)
tokens_from-word at (b ∷ []) rest all stop some =
    let bare = not_either (is_blank b) (is_mark b) (and_left (is_plain b) true all) in
    stops_here (is_blank b) (is_mark b || not (begins_plain rest)) _ _ _ bare.0 (right_true _ _ (ap not stop))
tokens_from-word at (b ∷ c ∷ cs) rest all stop some =
    let bare = not_either (is_blank b) (is_mark b) (and_left (is_plain b) (list_all is_plain (c ∷ cs)) all) in
    let others : list_all is_plain (c ∷ cs) ≡ true = and_right (is_plain b) (list_all is_plain (c ∷ cs)) all in
    let sum : at + 1 + suc (length cs) ≡ at + suc (suc (length cs)) = omega arith in
    goes_further (is_blank b) (is_mark b || not (is_plain c)) _ _ _ bare.0
    (both_false _ _ bare.1 (and_left (is_plain c) (list_all is_plain cs) others))
    ∙ ap (lengthened at b) (tokens_from-word (at + 1) (c ∷ cs) rest others stop (omega arith))
    ∙ ap (λ (n : ℕ). at_front at (b ∷ c ∷ cs) (tokens_from n rest)) sum

-- ---- numbers are words
pub both : (a b : Bool) → a ≡ true → b ≡ true → (a && b) ≡ true
both true b e f = f
both false b e f = cc

digits_plain : (ds : List ℕ) → all_ascii_digits ds ≡ true → list_all is_plain ds ≡ true
digits_plain [] e = refl
digits_plain (d ∷ ds) e =
    let parts = tells_all_ascii_digits.parts d ds e in
    both (is_plain d) (list_all is_plain ds) (is_plain-number d (omega (arith, parts.0.0)) parts.0.1) (digits_plain ds parts.1)

pub signed_plain : (z : ℤ) → coord_ok z ≡ true → list_all is_plain (signed_decimal z) ≡ true
signed_plain (pos n) h = digits_plain (decimal n) (digits_decimal own n (small_above n h))
signed_plain (negsuc n) h = digits_plain (decimal (suc n)) (digits_decimal own (suc n) (small_below n h))

pub signed_some : (z : ℤ) → coord_ok z ≡ true → 0 < length (signed_decimal z)
signed_some (pos n) h = decimal_nonempty n (small_above n h)
signed_some (negsuc n) h = omega arith

-- ---- spots
-- where the text of a spot ends
abbrev after : ℕ → Spot → ℕ
after at s = at + length (signed_decimal s.x) + 1 + length (signed_decimal s.y)

-- the texts of the two numbers
abbrev numbers : Spot → Texts
numbers s = signed_decimal s.x ∷ signed_decimal s.y ∷ []

numbers-spell : (s : Spot) → IsWithin s → SpellsSpot (numbers s) s
numbers-spell s h = (signed_decimal s.x, signed_decimal s.y, refl, coordinate-signed_decimal s.x h.0, coordinate-signed_decimal s.y h.1)

texts-spot : (at : ℕ) (s : Spot) (rest : List ℕ) → IsWithin s → begins_plain rest ≡ false →
    texts_of (tokens_from at (spot_text s ++ rest)) ≡ numbers s ++ texts_of (tokens_from (after at s) rest)
texts-spot at s rest h stop =
    ap texts_of
    (ap (tokens_from at) (append_assoc (signed_decimal s.x) (32 ∷ signed_decimal s.y) rest)
    ∙ tokens_from-word at (signed_decimal s.x) ((32 ∷ signed_decimal s.y) ++ rest) (signed_plain s.x h.0) refl (signed_some s.x h.0)
    ∙ ap (at_front at (signed_decimal s.x))
    (tokens_from-word (at + length (signed_decimal s.x) + 1) (signed_decimal s.y) rest (signed_plain s.y h.1) stop (signed_some s.y h.1)))

-- ---- things with commas between them
-- From this text on, the tokens up to the rest spell this; they end somewhere.
pub record TextSpells {X : Type 0} (Thing : Texts → X → Type 0) (x : X) (text rest : List ℕ) (at : ℕ) : Type 0 where
  pub end : ℕ
  pub front : Texts
  pub spells : Thing front x
  pub same : texts_of (tokens_from at text) ≡ front ++ texts_of (tokens_from end rest)

module _ {X : Type 0} (Thing : Texts → X → Type 0) (text : X → List ℕ) (Fits : X → Type 0)
    (each : (at : ℕ) (x : X) (rest : List ℕ) → Fits x → begins_plain rest ≡ false → TextSpells Thing x (text x ++ rest) rest at) where
  abbrev further : List X → List ℕ
  further xs = flat_map (λ x. codes ", " ++ text x) xs

  stops : (xs : List X) (rest : List ℕ) → begins_plain rest ≡ false → begins_plain (further xs ++ rest) ≡ false
  stops [] rest e = e
  stops (x ∷ xs) rest e = refl

  further-text : (xs : List X) (at : ℕ) (rest : List ℕ) → Each Fits xs → begins_plain rest ≡ false → TextSpells (Further Thing) xs (further xs ++ rest) rest at
  further-text [] at rest h stop = record { end = at; front = []; spells = refl; same = refl }
  further-text (x ∷ xs) at rest h stop =
      let one = each (at + 1 + 1) x (further xs ++ rest) h.0 (stops xs rest stop) in
      let more = further-text xs one.end rest h.1 stop in
      record {
        end = more.end;
        front = codes "," ∷ (one.front ++ more.front);
        spells = (one.front, more.front, refl, one.spells, more.spells);
        same =
            ap (λ (t : List ℕ). texts_of (tokens_from at (44 ∷ 32 ∷ t))) (append_assoc (text x) (further xs) rest)
            ∙ ap (λ (t : Texts). codes "," ∷ t) (one.same ∙ ap (λ (t : Texts). one.front ++ t) more.same ∙ sym (append_assoc one.front more.front _));
      }

  pub listed-text : (x : X) (xs : List X) (at : ℕ) (rest : List ℕ) → Fits x → Each Fits xs → begins_plain rest ≡ false →
      TextSpells (Listed Thing) (x ∷ xs) (listed text (x ∷ xs) ++ rest) rest at
  listed-text x xs at rest h hs stop =
      let one = each at x (further xs ++ rest) h (stops xs rest stop) in
      let more = further-text xs one.end rest hs stop in
      record {
        end = more.end;
        front = one.front ++ more.front;
        spells = (one.front, more.front, refl, one.spells, more.spells);
        same =
            ap (λ (t : List ℕ). texts_of (tokens_from at t)) (append_assoc (text x) (further xs) rest)
            ∙ one.same ∙ ap (λ (t : Texts). one.front ++ t) more.same ∙ sym (append_assoc one.front more.front _);
      }

spot-text : (at : ℕ) (s : Spot) (rest : List ℕ) → IsWithin s → begins_plain rest ≡ false → TextSpells SpellsSpot s (spot_text s ++ rest) rest at
spot-text at s rest h stop = record { end = after at s; front = numbers s; spells = numbers-spell s h; same = texts-spot at s rest h stop }

-- a bracket after some tokens
closed : (front more : Texts) (end : ℕ) (rest : List ℕ) → more ≡ front ++ texts_of (tokens_from end (41 ∷ rest)) →
    codes "(" ∷ more ≡ (codes "(" ∷ (front ++ codes ")" ∷ [])) ++ texts_of (tokens_from (end + 1) rest)
closed front more end rest e =
    ap (λ (t : Texts). codes "(" ∷ t) (e ∙ sym (append_assoc front (codes ")" ∷ []) (texts_of (tokens_from (end + 1) rest))))

-- a line's or a ring's spots, of which there are some
IsPath : List Spot → Type 0
IsPath [] = ⊥
IsPath (s ∷ ss) = IsWithin s × Each IsWithin ss

path-text : (at : ℕ) (path : List Spot) (rest : List ℕ) → IsPath path → TextSpells SpellsPath path (path_text path ++ rest) rest at
unfolding IsPath
path-text at [] rest h = absurd h
path-text at (s ∷ ss) rest h =
    let all = listed-text SpellsSpot spot_text IsWithin spot-text s ss (at + 1) (41 ∷ rest) h.0 h.1 refl in
    record {
      end = all.end + 1;
      front = codes "(" ∷ (all.front ++ codes ")" ∷ []);
      spells = (all.front, refl, all.spells);
      same =
          ap (λ (t : List ℕ). texts_of (tokens_from at (40 ∷ t))) (append_assoc (listed spot_text (s ∷ ss)) (41 ∷ []) rest)
          ∙ closed all.front _ all.end rest all.same;
    }

-- ---- whole texts
point-spelled : (s : Spot) → IsWithin s → Spells (texts_of (tokens (canonical (shapes.Point s)))) (shapes.Point s)
point-spelled s h =
    let all = spot-text 7 s (41 ∷ []) h refl in (
      codes "POINT",
      codes "(" ∷ (all.front ++ codes ")" ∷ []),
      ap (λ (t : Texts). codes "POINT" ∷ codes "(" ∷ t) all.same,
      refl,
      (all.front, refl, all.spells),
    )

some_path : (s : Spot) (ss : List Spot) → Each IsWithin (s ∷ ss) → IsPath (s ∷ ss)
unfolding IsPath
some_path s ss h = (h.0, h.1)

line-spelled : (path : List Spot) → IsPath path → Spells (texts_of (tokens (canonical (shapes.Line path)))) (shapes.Line path)
line-spelled path h =
    let all = path-text 11 path [] h in (
      codes "LINESTRING",
      all.front,
      ap (λ (t : Texts). codes "LINESTRING" ∷ t)
          (ap (λ (t : List ℕ). texts_of (tokens_from 11 t)) (sym (append-nil (path_text path))) ∙ all.same ∙ append-nil all.front),
      refl,
      all.spells,
    )

polygon-spelled : (ring : List Spot) (rings : List (List Spot)) → IsPath ring → Each IsPath rings →
    Spells (texts_of (tokens (canonical (shapes.Polygon (ring ∷ rings))))) (shapes.Polygon (ring ∷ rings))
polygon-spelled ring rings h hs =
    let all = listed-text SpellsPath path_text IsPath (λ at path rest fits stop. path-text at path rest fits) ring rings 9 (41 ∷ []) h hs refl in (
      codes "POLYGON",
      codes "(" ∷ (all.front ++ codes ")" ∷ []),
      ap (λ (t : Texts). codes "POLYGON" ∷ codes "(" ∷ t) all.same,
      refl,
      (all.front, refl, all.spells),
    )

ring_path : (ring : List Spot) → IsRing ring → IsPath ring
ring_path [] h = let long = h.long in cc
ring_path (s ∷ ss) h = some_path s ss h.within

rings_paths : (rings : List (List Spot)) → Each IsRing rings → Each IsPath rings
rings_paths [] h = tt
rings_paths (r ∷ rs) h = (ring_path r h.0, rings_paths rs h.1)

line_path : (path : List Spot) → IsSound (shapes.Line path) → IsPath path
line_path [] h = let least = (line_sound [] h).least in cc
line_path (s ∷ ss) h = some_path s ss (line_sound (s ∷ ss) h).within

pub Spells-canonical : (s : Shape) → IsSound s → Spells (texts_of (tokens (canonical s))) s
Spells-canonical (shapes.Empty kind.Point) h = (codes "POINT", codes "EMPTY" ∷ [], refl, refl, (codes "EMPTY", [], refl, refl, refl))
Spells-canonical (shapes.Empty kind.Line) h = (codes "LINESTRING", codes "EMPTY" ∷ [], refl, refl, (codes "EMPTY", [], refl, refl, refl))
Spells-canonical (shapes.Empty kind.Polygon) h = (codes "POLYGON", codes "EMPTY" ∷ [], refl, refl, (codes "EMPTY", [], refl, refl, refl))
Spells-canonical (shapes.Point s) h = point-spelled s (point_within s h)
Spells-canonical (shapes.Line path) h = line-spelled path (line_path path h)
Spells-canonical (shapes.Polygon []) h = let some = (polygon_sound [] h).some in cc
Spells-canonical (shapes.Polygon (r ∷ rs)) h = let each = (polygon_sound (r ∷ rs) h).each in polygon-spelled r rs (ring_path r each.0) (rings_paths rs each.1)
