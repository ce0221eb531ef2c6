-- The grammar at worked examples.
use Rattle.std.proofs.Common.{◌≡◌, ℕ, [], ◌∷◌, ◌++◌, List, ℤ, pos, neg_ℤ, refl, Result, Ok, codes}
use Rattle.sg_shape.specs.declared.spots.Spot.{Spot}
use Rattle.sg_shape.specs.declared.shapes.Kind.TheVariants as kind
use Rattle.sg_shape.specs.declared.shapes.Shape.{Shape}
use Rattle.sg_shape.specs.declared.shapes.Shape.TheVariants as shapes
use Rattle.sg_wkt.specs.declared.drafts.Draft.TheVariants as draft
use Rattle.sg_wkt.specs.declared.faults.WktFault.{WktFault}
use Rattle.sg_wkt.specs.declared.faults.WktKind.TheVariants.{Keyword, Number, Fraction, Punctuation, CoordOut, TooMany, TooFew, RingOpen, End, After}
use Rattle.sg_wkt.specs.Tokens.{tokens}
use Rattle.sg_wkt.specs.Grammar.{Reading, fault, mark, separator, number, spot, no_room, after_line_spot, after_ring, after_ring_spot, step, spots, point_body, line_body, polygon_body, point, line, polygon, shape, lone_shape, shape_in}

abbrev point_at : ℤ → ℤ → Result Shape WktFault
point_at x y = Ok (shapes.Point (record { x = x; y = y }))

abbrev minus : ℕ → ℤ
minus n = neg_ℤ (pos n)

-- ---- what is read
plain : shape_in (codes "POINT (3 4)") ≡ point_at (pos 3) (pos 4)
unfolding lone_shape shape point point_body spot number mark
plain = refl

lower_case : shape_in (codes "point(3.0 -0)") ≡ point_at (pos 3) (pos 0)
unfolding lone_shape shape point point_body spot number mark
lower_case = refl

mixed_case : shape_in (codes "pOiNt (1 2)") ≡ point_at (pos 1) (pos 2)
unfolding lone_shape shape point point_body spot number mark
mixed_case = refl

with_signs : shape_in (codes "POINT (+5 -7)") ≡ point_at (pos 5) (minus 7)
unfolding lone_shape shape point point_body spot number mark
with_signs = refl

dot_alone : shape_in (codes "POINT (5. 6.000)") ≡ point_at (pos 5) (pos 6)
unfolding lone_shape shape point point_body spot number mark
dot_alone = refl

at_the_limits : shape_in (codes "POINT (16000000 -16000000.0)") ≡ point_at (pos 16000000) (minus 16000000)
unfolding lone_shape shape point point_body spot number mark
at_the_limits = refl

leading_zeros : shape_in (codes "POINT (0000000000000000000000000000000000000000000000000016 -0004)") ≡ point_at (pos 16) (minus 4)
unfolding lone_shape shape point point_body spot number mark
leading_zeros = refl

blanks : shape_in (9 ∷ 13 ∷ 10 ∷ 32 ∷ codes "POINT" ++ 10 ∷ 40 ∷ 9 ∷ 51 ∷ 13 ∷ 52 ∷ 32 ∷ 41 ∷ 32 ∷ 10 ∷ []) ≡ point_at (pos 3) (pos 4)
unfolding lone_shape shape point point_body spot number mark
blanks = refl

empty : shape_in (codes "POINT EMPTY") ≡ Ok (shapes.Empty kind.Point)
unfolding lone_shape shape point point_body spot number mark
empty = refl

empty_lower_case : shape_in (codes " point  empty ") ≡ Ok (shapes.Empty kind.Point)
unfolding lone_shape shape point point_body spot number mark
empty_lower_case = refl

-- ---- keyword
other_word : shape_in (codes "CIRCLE (0 0)") ≡ fault 0 Keyword
unfolding lone_shape shape point point_body spot number mark
other_word = refl

longer_word : shape_in (codes "  POINTS (3 4)") ≡ fault 2 Keyword
unfolding lone_shape shape point point_body spot number mark
longer_word = refl

bracket_first : shape_in (codes "(3 4)") ≡ fault 0 Keyword
unfolding lone_shape shape point point_body spot number mark
bracket_first = refl

word_in_a_run : shape_in (codes "POINT3 4)") ≡ fault 0 Keyword
unfolding lone_shape shape point point_body spot number mark
word_in_a_run = refl

-- ---- punctuation
no_bracket : shape_in (codes "POINT 3 4") ≡ fault 6 Punctuation
unfolding lone_shape shape point point_body spot number mark
no_bracket = refl

closed_at_once : shape_in (codes "POINT ) 4") ≡ fault 6 Punctuation
unfolding lone_shape shape point point_body spot number mark
closed_at_once = refl

a_comma_for_a_bracket : shape_in (codes "POINT (3 4,") ≡ fault 10 Punctuation
unfolding lone_shape shape point point_body spot number mark
a_comma_for_a_bracket = refl

a_third_number : shape_in (codes "POINT (3 4 5)") ≡ fault 11 Punctuation
unfolding lone_shape shape point point_body spot number mark
a_third_number = refl

bracket_twice : shape_in (codes "POINT ((3 4))") ≡ fault 7 Number
unfolding lone_shape shape point point_body spot number mark
bracket_twice = refl

-- ---- numbers
no_number : shape_in (codes "POINT ()") ≡ fault 7 Number
unfolding lone_shape shape point point_body spot number mark
no_number = refl

one_number : shape_in (codes "POINT (3)") ≡ fault 8 Number
unfolding lone_shape shape point point_body spot number mark
one_number = refl

comma_between : shape_in (codes "POINT (3, 4)") ≡ fault 8 Number
unfolding lone_shape shape point point_body spot number mark
comma_between = refl

no_digit_before_the_dot : shape_in (codes "POINT (.5 0)") ≡ fault 7 Number
unfolding lone_shape shape point point_body spot number mark
no_digit_before_the_dot = refl

two_signs : shape_in (codes "POINT (--5 0)") ≡ fault 7 Number
unfolding lone_shape shape point point_body spot number mark
two_signs = refl

sign_alone : shape_in (codes "POINT (- 5)") ≡ fault 7 Number
unfolding lone_shape shape point point_body spot number mark
sign_alone = refl

no_digits_after_the_dot : shape_in (codes "POINT (5.x 0)") ≡ fault 7 Number
unfolding lone_shape shape point point_body spot number mark
no_digits_after_the_dot = refl

two_dots : shape_in (codes "POINT (5.0.0 0)") ≡ fault 7 Number
unfolding lone_shape shape point point_body spot number mark
two_dots = refl

an_exponent : shape_in (codes "POINT (3 1e3)") ≡ fault 9 Number
unfolding lone_shape shape point point_body spot number mark
an_exponent = refl

empty_in_brackets : shape_in (codes "POINT (EMPTY)") ≡ fault 7 Number
unfolding lone_shape shape point point_body spot number mark
empty_in_brackets = refl

a_half : shape_in (codes "POINT (3.5 0)") ≡ fault 7 Fraction
unfolding lone_shape shape point point_body spot number mark
a_half = refl

a_fraction_far_behind : shape_in (codes "POINT (3 0.000000000000000000000001)") ≡ fault 9 Fraction
unfolding lone_shape shape point point_body spot number mark
a_fraction_far_behind = refl

out : shape_in (codes "POINT (16000001 0)") ≡ fault 7 CoordOut
unfolding lone_shape shape point point_body spot number mark
out = refl

out_below : shape_in (codes "POINT (0 -16000001)") ≡ fault 9 CoordOut
unfolding lone_shape shape point point_body spot number mark
out_below = refl

out_with_a_dot : shape_in (codes "POINT (16000001.0 0)") ≡ fault 7 CoordOut
unfolding lone_shape shape point point_body spot number mark
out_with_a_dot = refl

out_and_no_whole_number : shape_in (codes "POINT (16000001.5 0)") ≡ fault 7 Fraction
unfolding lone_shape shape point point_body spot number mark
out_and_no_whole_number = refl

nineteen_digits : shape_in (codes "POINT (9223372036854775808 0)") ≡ fault 7 CoordOut
unfolding lone_shape shape point point_body spot number mark
nineteen_digits = refl

twenty_digits : shape_in (codes "POINT (0 -18446744073709551617)") ≡ fault 9 CoordOut
unfolding lone_shape shape point point_body spot number mark
twenty_digits = refl

-- ---- end and after
nothing : shape_in ([]) ≡ fault 0 End
unfolding lone_shape shape point point_body spot number mark
nothing = refl

blanks_alone : shape_in (32 ∷ 9 ∷ 13 ∷ 10 ∷ []) ≡ fault 4 End
unfolding lone_shape shape point point_body spot number mark
blanks_alone = refl

word_alone : shape_in (codes "POINT") ≡ fault 5 End
unfolding lone_shape shape point point_body spot number mark
word_alone = refl

cut_off_in_brackets : shape_in (codes "POINT (") ≡ fault 7 End
unfolding lone_shape shape point point_body spot number mark
cut_off_in_brackets = refl

cut_off_before_blanks : shape_in (codes "POINT (0 " ++ 9 ∷ 13 ∷ []) ≡ fault 11 End
unfolding lone_shape shape point point_body spot number mark
cut_off_before_blanks = refl

not_closed : shape_in (codes "POINT (0 0") ≡ fault 10 End
unfolding lone_shape shape point point_body spot number mark
not_closed = refl

a_number_after : shape_in (codes "POINT (3 4) 5") ≡ fault 12 After
unfolding lone_shape shape point point_body spot number mark
a_number_after = refl

a_bracket_after : shape_in (codes "POINT (3 4))") ≡ fault 11 After
unfolding lone_shape shape point point_body spot number mark
a_bracket_after = refl

after_empty : shape_in (codes "POINT EMPTY (3 4)") ≡ fault 12 After
unfolding lone_shape shape point point_body spot number mark
after_empty = refl

-- ---- the first fault counts
two_numbers_out : shape_in (codes "POINT (3.5 16000001") ≡ fault 7 Fraction
unfolding lone_shape shape point point_body spot number mark
two_numbers_out = refl

out_before_the_end : shape_in (codes "POINT (16000001") ≡ fault 7 CoordOut
unfolding lone_shape shape point point_body spot number mark
out_before_the_end = refl

-- ---- lines
abbrev at : ℕ → ℕ → Spot
at x y = record { x = pos x; y = pos y }

abbrev line_of : List Spot → Result Shape WktFault
line_of spots = Ok (shapes.Line spots)

a_line : shape_in (codes "LINESTRING (0 0, 3 4)") ≡ line_of (at 0 0 ∷ at 3 4 ∷ [])
unfolding lone_shape shape line line_body spots step after_line_spot separator spot number mark
a_line = refl

a_line_without_blanks : shape_in (codes "linestring(0 0,+3 04.0,3 4)") ≡ line_of (at 0 0 ∷ at 3 4 ∷ at 3 4 ∷ [])
unfolding lone_shape shape line line_body spots step after_line_spot separator spot number mark
a_line_without_blanks = refl

an_empty_line : shape_in (codes "LineString Empty") ≡ Ok (shapes.Empty kind.Line)
unfolding lone_shape shape line line_body spots step after_line_spot separator spot number mark
an_empty_line = refl

a_line_of_one : shape_in (codes "LINESTRING (0 0)") ≡ fault 15 TooFew
unfolding lone_shape shape line line_body spots step after_line_spot separator spot number mark
a_line_of_one = refl

a_line_of_none : shape_in (codes "LINESTRING ()") ≡ fault 12 Number
unfolding lone_shape shape line line_body spots step after_line_spot separator spot number mark
a_line_of_none = refl

a_line_without_a_bracket : shape_in (codes "LINESTRING 0 0, 1 1)") ≡ fault 11 Punctuation
unfolding lone_shape shape line line_body spots step after_line_spot separator spot number mark
a_line_without_a_bracket = refl

a_line_without_a_comma : shape_in (codes "LINESTRING (0 0 1 1)") ≡ fault 16 Punctuation
unfolding lone_shape shape line line_body spots step after_line_spot separator spot number mark
a_line_without_a_comma = refl

a_line_with_two_commas : shape_in (codes "LINESTRING (0 0,, 1 1)") ≡ fault 16 Number
unfolding lone_shape shape line line_body spots step after_line_spot separator spot number mark
a_line_with_two_commas = refl

a_line_with_a_comma_at_its_end : shape_in (codes "LINESTRING (0 0, 1 1, )") ≡ fault 22 Number
unfolding lone_shape shape line line_body spots step after_line_spot separator spot number mark
a_line_with_a_comma_at_its_end = refl

a_line_of_half_a_spot : shape_in (codes "LINESTRING (0 0, 1)") ≡ fault 18 Number
unfolding lone_shape shape line line_body spots step after_line_spot separator spot number mark
a_line_of_half_a_spot = refl

a_line_in_two_brackets : shape_in (codes "LINESTRING ((0 0, 1 1))") ≡ fault 12 Number
unfolding lone_shape shape line line_body spots step after_line_spot separator spot number mark
a_line_in_two_brackets = refl

a_line_far_out : shape_in (codes "LINESTRING (0 0, 16000001 1.5)") ≡ fault 17 CoordOut
unfolding lone_shape shape line line_body spots step after_line_spot separator spot number mark
a_line_far_out = refl

a_line_cut_off : shape_in (codes "LINESTRING (0 0,") ≡ fault 16 End
unfolding lone_shape shape line line_body spots step after_line_spot separator spot number mark
a_line_cut_off = refl

a_line_after_a_line : shape_in (codes "LINESTRING (0 0, 1 1) LINESTRING (0 0, 1 1)") ≡ fault 22 After
unfolding lone_shape shape line line_body spots step after_line_spot separator spot number mark
a_line_after_a_line = refl

-- ---- polygons
abbrev polygon_of : List (List Spot) → Result Shape WktFault
polygon_of rings = Ok (shapes.Polygon rings)

a_polygon : shape_in (codes "POLYGON ((0 0, 4 0, 4 4, 0 0))") ≡ polygon_of ((at 0 0 ∷ at 4 0 ∷ at 4 4 ∷ at 0 0 ∷ []) ∷ [])
unfolding lone_shape shape polygon polygon_body spots step after_ring_spot after_ring separator spot number mark
a_polygon = refl

a_polygon_with_a_hole : shape_in (codes "polygon((0 0,4 0,4 4,0 0),(1 1,2 1,2 2,1 1))") ≡ polygon_of ((at 0 0 ∷ at 4 0 ∷ at 4 4 ∷ at 0 0 ∷ []) ∷ (at 1 1 ∷ at 2 1 ∷ at 2 2 ∷ at 1 1 ∷ []) ∷ [])
unfolding lone_shape shape polygon polygon_body spots step after_ring_spot after_ring separator spot number mark
a_polygon_with_a_hole = refl

a_polygon_closed_by_another_spelling : shape_in (codes "POLYGON ((0 0, 4 0, 4 4, -0 +0.0))") ≡ polygon_of ((at 0 0 ∷ at 4 0 ∷ at 4 4 ∷ at 0 0 ∷ []) ∷ [])
unfolding lone_shape shape polygon polygon_body spots step after_ring_spot after_ring separator spot number mark
a_polygon_closed_by_another_spelling = refl

an_empty_polygon : shape_in (codes "POLYGON EMPTY") ≡ Ok (shapes.Empty kind.Polygon)
unfolding lone_shape shape polygon polygon_body spots step after_ring_spot after_ring separator spot number mark
an_empty_polygon = refl

a_polygon_of_none : shape_in (codes "POLYGON ()") ≡ fault 9 Punctuation
unfolding lone_shape shape polygon polygon_body spots step after_ring_spot after_ring separator spot number mark
a_polygon_of_none = refl

a_polygon_of_one_bracket : shape_in (codes "POLYGON (0 0, 4 0, 4 4, 0 0)") ≡ fault 9 Punctuation
unfolding lone_shape shape polygon polygon_body spots step after_ring_spot after_ring separator spot number mark
a_polygon_of_one_bracket = refl

a_ring_of_none : shape_in (codes "POLYGON (())") ≡ fault 10 Number
unfolding lone_shape shape polygon polygon_body spots step after_ring_spot after_ring separator spot number mark
a_ring_of_none = refl

an_empty_ring : shape_in (codes "POLYGON (EMPTY)") ≡ fault 9 Punctuation
unfolding lone_shape shape polygon polygon_body spots step after_ring_spot after_ring separator spot number mark
an_empty_ring = refl

a_ring_of_three : shape_in (codes "POLYGON ((0 0, 4 0, 0 0))") ≡ fault 23 TooFew
unfolding lone_shape shape polygon polygon_body spots step after_ring_spot after_ring separator spot number mark
a_ring_of_three = refl

an_open_ring_of_three : shape_in (codes "POLYGON ((0 0, 4 0, 4 4))") ≡ fault 23 TooFew
unfolding lone_shape shape polygon polygon_body spots step after_ring_spot after_ring separator spot number mark
an_open_ring_of_three = refl

an_open_ring : shape_in (codes "POLYGON ((0 0, 4 0, 4 4, 0 1))") ≡ fault 28 RingOpen
unfolding lone_shape shape polygon polygon_body spots step after_ring_spot after_ring separator spot number mark
an_open_ring = refl

a_second_ring_of_three : shape_in (codes "POLYGON ((0 0, 4 0, 4 4, 0 0), (1 1, 2 1, 1 1))") ≡ fault 45 TooFew
unfolding lone_shape shape polygon polygon_body spots step after_ring_spot after_ring separator spot number mark
a_second_ring_of_three = refl

no_bracket_after_a_comma : shape_in (codes "POLYGON ((0 0, 4 0, 4 4, 0 0), 5 5") ≡ fault 31 Punctuation
unfolding lone_shape shape polygon polygon_body spots step after_ring_spot after_ring separator spot number mark
no_bracket_after_a_comma = refl

no_comma_between_rings : shape_in (codes "POLYGON ((0 0, 4 0, 4 4, 0 0) (1 1") ≡ fault 30 Punctuation
unfolding lone_shape shape polygon polygon_body spots step after_ring_spot after_ring separator spot number mark
no_comma_between_rings = refl

a_polygon_cut_off : shape_in (codes "POLYGON ((0 0, 4 0") ≡ fault 18 End
unfolding lone_shape shape polygon polygon_body spots step after_ring_spot after_ring separator spot number mark
a_polygon_cut_off = refl

a_polygon_not_closed : shape_in (codes "POLYGON ((0 0, 4 0, 4 4, 0 0)") ≡ fault 29 End
unfolding lone_shape shape polygon polygon_body spots step after_ring_spot after_ring separator spot number mark
a_polygon_not_closed = refl

a_bracket_after_a_polygon : shape_in (codes "POLYGON ((0 0, 4 0, 4 4, 0 0)))") ≡ fault 30 After
unfolding lone_shape shape polygon polygon_body spots step after_ring_spot after_ring separator spot number mark
a_bracket_after_a_polygon = refl

-- ---- where there is room for one spot, or for none
abbrev line_from : ℕ → List ℕ → Reading Shape
line_from room text = spots room (draft.Line (at 0 0 ∷ [])) (tokens text)

abbrev ring_from : ℕ → List ℕ → Reading Shape
ring_from room text = spots room (draft.Polygon [] (at 0 0 ∷ at 4 0 ∷ at 4 4 ∷ [])) (tokens text)

one_too_many : line_from 1 (codes "1 1, 2 2)") ≡ fault 5 TooMany
unfolding spots no_room step after_line_spot separator spot number mark
one_too_many = refl

too_many_before_no_number : line_from 1 (codes "1 1, x") ≡ fault 5 TooMany
unfolding spots no_room step after_line_spot separator spot number mark
too_many_before_no_number = refl

too_many_at_a_bracket : line_from 1 (codes "1 1, )") ≡ fault 5 TooMany
unfolding spots no_room step after_line_spot separator spot number mark
too_many_at_a_bracket = refl

the_end_after_the_last_comma : line_from 1 (codes "1 1, ") ≡ fault 5 End
unfolding spots no_room step after_line_spot separator spot number mark
the_end_after_the_last_comma = refl

no_fault_before_the_last_spot : line_from 1 (codes "1.5 1, 2 2)") ≡ fault 0 Fraction
unfolding spots no_room step after_line_spot separator spot number mark
no_fault_before_the_last_spot = refl

too_many_in_another_ring : ring_from 1 (codes "0 0), (1 1") ≡ fault 7 TooMany
unfolding spots no_room step after_ring_spot after_ring separator spot number mark
too_many_in_another_ring = refl

no_bracket_in_another_ring : ring_from 1 (codes "0 0), 1 1") ≡ fault 6 Punctuation
unfolding spots no_room step after_ring_spot after_ring separator spot number mark
no_bracket_in_another_ring = refl

the_end_in_another_ring : ring_from 1 (codes "0 0), (") ≡ fault 7 End
unfolding spots no_room step after_ring_spot after_ring separator spot number mark
the_end_in_another_ring = refl
