-- What holds between reading and writing.
use Rattle.std.proofs.Common.{◌≡◌, ℕ, suc, ◌≤◌, true, List, [], ◌∷◌, ◌++◌, flat_map, codes, ℤ, pos, negsuc, refl, sym, ap, ◌∙◌, Result, Ok, arith}
use Rattle.std.proofs.lemmas.Bool.{true≢false}
use Rattle.std.proofs.lemmas.Bool.Decides.{nat_tests}
use Rattle.std.proofs.lemmas.List.Folds.{list_all-append}
use Rattle.std.proofs.lemmas.List.Sums.{AllPass-from_list_all}
use Rattle.std.proofs.lemmas.Str.Parse.{tells_all_ascii_digits}
use Rattle.std.proofs.lemmas.Fmt.{digits_decimal}
use Rattle.std.specs.Fmt.{decimal, signed_decimal}
use Rattle.std.specs.List.{list_all}
use Rattle.std.specs.Str.{all_ascii_digits}
use Rattle.sg_shape.specs.declared.spots.Spot.{Spot}
use Rattle.sg_shape.specs.declared.shapes.Kind.TheVariants as kind
use Rattle.sg_shape.specs.declared.shapes.Shape.{Shape}
use Rattle.sg_shape.specs.declared.shapes.Shape.TheVariants as shapes
use Rattle.sg_shape.specs.Sound.{coord_ok}
use Rattle.sg_wkt.specs.declared.faults.WktFault.{WktFault}
use Rattle.sg_wkt.specs.Grammar.{shape_in}
use Rattle.sg_wkt.specs.Canonical.{canonical, listed, path_text, spot_text}
use Rattle.sg_wkt.specs.Laws.{ReadsBack, ReadsExactly, TellsApart, IsPrintable, IsOneLine, is_printable}
use Rattle.sg_wkt.proofs.Digits.{own}
use Rattle.sg_wkt.proofs.Numerals.{small_above, small_below}
use Rattle.sg_wkt.proofs.SoundParts.{Each, IsRing, IsWithin, point_within, line_sound, polygon_sound}
use Rattle.sg_wkt.proofs.Complete.{lone_shape-Spells}
use Rattle.sg_wkt.proofs.Consumed.{Spells-lone_shape}
use Rattle.sg_wkt.proofs.Sound.{IsSound-shape_in}
use Rattle.sg_wkt.proofs.Written.{both, Spells-canonical}
use Rattle.sg_wkt.specs.Tokens.{tokens}

-- ---- reading what was written
pub shape_in-canonical : ReadsBack
shape_in-canonical s sound = lone_shape-Spells (tokens (canonical s)) s (Spells-canonical s sound) sound

-- ---- what is read is what the tokens spell
pub shape_in-exactly : ReadsExactly
shape_in-exactly text s =
    (λ e. (Spells-lone_shape (tokens text) s e, IsSound-shape_in text s e), λ h. lone_shape-Spells (tokens text) s h.0 h.1)

-- ---- two shapes have two texts
okay : Shape → Result Shape WktFault
okay s = Ok s

pub canonical-injective : TellsApart
unfolding okay
canonical-injective s t hs ht e =
    let same : okay s ≡ okay t = sym (shape_in-canonical s hs) ∙ ap shape_in e ∙ shape_in-canonical t ht in
    cc

-- ---- printable
digits_printable : (ds : List ℕ) → all_ascii_digits ds ≡ true → list_all is_printable ds ≡ true
digits_printable [] e = refl
digits_printable (d ∷ ds) e =
    let parts = tells_all_ascii_digits.parts d ds e in
    both (is_printable d) (list_all is_printable ds) (printable_digit d parts.0.0 parts.0.1) (digits_printable ds parts.1)
  where
    printable_digit : (d : ℕ) → 48 ≤ d → d ≤ 57 → is_printable d ≡ true
    printable_digit d low high = grind (arith, nat_tests)

signed_printable : (z : ℤ) → coord_ok z ≡ true → list_all is_printable (signed_decimal z) ≡ true
signed_printable (pos n) h = digits_printable (decimal n) (digits_decimal own n (small_above n h))
signed_printable (negsuc n) h = digits_printable (decimal (suc n)) (digits_decimal own (suc n) (small_below n h))

joined : (xs ys : List ℕ) → list_all is_printable xs ≡ true → list_all is_printable ys ≡ true → list_all is_printable (xs ++ ys) ≡ true
joined xs ys h k = list_all-append is_printable xs ys ∙ both _ _ h k

-- things whose texts are printable, with commas between them
further_printable : {X : Type 0} (text : X → List ℕ) (xs : List X) → Each (λ x. list_all is_printable (text x) ≡ true) xs → list_all is_printable (flat_map (λ x. codes ", " ++ text x) xs) ≡ true
further_printable text [] h = refl
further_printable text (x ∷ xs) h = joined (codes ", " ++ text x) (flat_map (λ y. codes ", " ++ text y) xs) h.0 (further_printable text xs h.1)

listed_printable : {X : Type 0} (text : X → List ℕ) (xs : List X) → Each (λ x. list_all is_printable (text x) ≡ true) xs → list_all is_printable (listed text xs) ≡ true
listed_printable text [] h = refl
listed_printable text (x ∷ xs) h = joined (text x) (flat_map (λ y. codes ", " ++ text y) xs) h.0 (further_printable text xs h.1)

spot_printable : (s : Spot) → IsWithin s → list_all is_printable (spot_text s) ≡ true
spot_printable s h = joined (signed_decimal s.x) (32 ∷ signed_decimal s.y) (signed_printable s.x h.0) (signed_printable s.y h.1)

spots_printable : (ss : List Spot) → Each IsWithin ss → Each (λ s. list_all is_printable (spot_text s) ≡ true) ss
spots_printable [] h = tt
spots_printable (s ∷ ss) h = (spot_printable s h.0, spots_printable ss h.1)

path_printable : (ss : List Spot) → Each IsWithin ss → list_all is_printable (path_text ss) ≡ true
path_printable ss h = joined (listed spot_text ss) (codes ")") (listed_printable spot_text ss (spots_printable ss h)) refl

rings_printable : (rings : List (List Spot)) → Each IsRing rings → Each (λ r. list_all is_printable (path_text r) ≡ true) rings
rings_printable [] h = tt
rings_printable (r ∷ rs) h = (path_printable r h.0.within, rings_printable rs h.1)

pub canonical-printable : IsPrintable
canonical-printable (shapes.Empty kind.Point) h = refl
canonical-printable (shapes.Empty kind.Line) h = refl
canonical-printable (shapes.Empty kind.Polygon) h = refl
canonical-printable (shapes.Point s) h = joined (spot_text s) (codes ")") (spot_printable s (point_within s h)) refl
canonical-printable (shapes.Line path) h = path_printable path (line_sound path h).within
canonical-printable (shapes.Polygon rings) h =
    joined (listed path_text rings) (codes ")") (listed_printable path_text rings (rings_printable rings (polygon_sound rings h).each)) refl

-- no line feed is printable
pub canonical-one_line : IsOneLine
canonical-one_line s h = λ found.
    let pass = AllPass-from_list_all is_printable (canonical s) (canonical-printable s h) found.0 10 found.1 in
    true≢false (sym pass ∙ ap is_printable found.2)
