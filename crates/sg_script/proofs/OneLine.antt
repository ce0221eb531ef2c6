-- What stands in a line that was written is no line feed, so the lines of the text are those that were written.
use Rattle.std.proofs.Common.{◌≡◌, ℕ, suc, ◌≤◌, ◌<◌, ◌^◌, ◌==◌, Bool, true, false, not, ◌&&◌, if◌then◌else◌, List, [], ◌∷◌, ◌++◌, map, ℤ, pos, negsuc, nat_abs, All, refl, ap, ◌∙◌, arith}
use Rattle.std.proofs.lemmas.Bool.Decides.{nat_tests}
use Rattle.std.proofs.lemmas.List.Elements.{All-head, All-tail}
use Rattle.std.proofs.lemmas.List.Folds.{list_all-append}
use Rattle.std.proofs.lemmas.Str.Parse.{IsNumeralModel, numerals_by_value, tells_all_ascii_digits}
use Rattle.std.proofs.lemmas.Fmt.{digits_decimal}
use Rattle.std.specs.Fmt.{decimal, signed_decimal}
use Rattle.std.specs.List.{list_all}
use Rattle.std.specs.Str.{all_ascii_digits}
use Rattle.std.specs.Str.Parse.{digits_value}
use Rattle.sg_shape.specs.declared.shapes.Shape.{Shape}
use Rattle.sg_shape.specs.Sound.{IsSound}
use Rattle.sg_wkt.specs.Canonical.{canonical}
use Rattle.sg_wkt.specs.Laws.{is_printable}
use Rattle.sg_wkt.proofs.LawProofs.{canonical-printable}
use Rattle.sg_wkt.proofs.Written.{both}
use Rattle.sg_script.specs.declared.words.Line.{Line}
use Rattle.sg_script.specs.Canonical.{line_text, lines_text}
use Rattle.sg_script.specs.Lines.{lines, longer}

abbrev pub is_inner : ℕ → Bool
is_inner b = not (b == 10)

-- no byte is a line feed
pub record IsOneLine (text : List ℕ) : Type 0 where
  pub inner : list_all is_inner text ≡ true

-- ---- the lines of a text
head_inner : (b : ℕ) (bs : List ℕ) → list_all is_inner (b ∷ bs) ≡ true → (b == 10) ≡ false
head_inner b bs h = go (b == 10) h
  where
    go : (t : Bool) → (not t && list_all is_inner bs) ≡ true → t ≡ false
    go false e = refl
    go true e = cc

tail_inner : (b : ℕ) (bs : List ℕ) → list_all is_inner (b ∷ bs) ≡ true → list_all is_inner bs ≡ true
tail_inner b bs h = go (b == 10) h
  where
    go : (t : Bool) → (not t && list_all is_inner bs) ≡ true → list_all is_inner bs ≡ true
    go false e = e
    go true e = cc

pub first_of : (text rest : List ℕ) → list_all is_inner text ≡ true → lines (text ++ 10 ∷ rest) ≡ text ∷ lines rest
first_of [] rest h = refl
first_of (b ∷ bs) rest h =
    ap (λ (t : Bool). if t then ([] ∷ lines (bs ++ 10 ∷ rest)) else longer b (lines (bs ++ 10 ∷ rest))) (head_inner b bs h)
    ∙ ap (longer b) (first_of bs rest (tail_inner b bs h))

pub ended : (text rest : List ℕ) → (text ++ 10 ∷ []) ++ rest ≡ text ++ 10 ∷ rest
ended [] rest = refl
ended (b ∷ bs) rest = ap (λ (t : List ℕ). b ∷ t) (ended bs rest)

pub lines-text : (ls : List Line) → All (λ l. IsOneLine (line_text l)) ls → lines (lines_text ls) ≡ map line_text ls
lines-text [] h = refl
lines-text (l ∷ ls) h =
    ap lines (ended (line_text l) (lines_text ls))
    ∙ (first_of (line_text l) (lines_text ls) (All-head (λ l. IsOneLine (line_text l)) l ls h).inner
    ∙ ap (λ (ts : List (List ℕ)). line_text l ∷ ts) (lines-text ls (All-tail (λ l. IsOneLine (line_text l)) l ls h)))

-- ---- parts of a line
pub one_line-append : (xs ys : List ℕ) → IsOneLine xs → IsOneLine ys → IsOneLine (xs ++ ys)
one_line-append xs ys h k = record { inner = list_all-append is_inner xs ys ∙ both (list_all is_inner xs) (list_all is_inner ys) h.inner k.inner }

pub one_line-spaced : (xs : List ℕ) → IsOneLine xs → IsOneLine (32 ∷ xs)
one_line-spaced xs h = record { inner = h.inner }

own : IsNumeralModel (λ ds. all_ascii_digits ds ≡ true) (digits_value 10)
own = numerals_by_value _ tells_all_ascii_digits

inner_above : (c : ℕ) → 11 ≤ c → is_inner c ≡ true
inner_above c low = grind (arith, nat_tests)

inner_digits : (ds : List ℕ) → all_ascii_digits ds ≡ true → list_all is_inner ds ≡ true
inner_digits [] e = refl
inner_digits (d ∷ ds) e =
    let parts = tells_all_ascii_digits.parts d ds e in
    let low : 48 ≤ d = parts.0.0 in
    both (is_inner d) (list_all is_inner ds) (inner_above d (omega arith)) (inner_digits ds parts.1)

pub one_line-decimal : (n : ℕ) → n < 2 ^ 64 → IsOneLine (decimal n)
one_line-decimal n h = record { inner = inner_digits (decimal n) (digits_decimal own n h) }

pub one_line-signed : (z : ℤ) → nat_abs z < 10 ^ 18 → IsOneLine (signed_decimal z)
one_line-signed (pos n) h = one_line-decimal n (omega arith)
one_line-signed (negsuc n) h = let k : IsOneLine (decimal (suc n)) = one_line-decimal (suc n) (omega arith) in record { inner = k.inner }

inner_printable : (text : List ℕ) → list_all is_printable text ≡ true → list_all is_inner text ≡ true
inner_printable [] h = refl
inner_printable (b ∷ bs) h = both (is_inner b) (list_all is_inner bs) (inner_one b (first h)) (inner_printable bs (rest h))
  where
    first : (is_printable b && list_all is_printable bs) ≡ true → is_printable b ≡ true
    first e = go (is_printable b) e
      where
        go : (t : Bool) → (t && list_all is_printable bs) ≡ true → t ≡ true
        go true e = refl
        go false e = cc

    rest : (is_printable b && list_all is_printable bs) ≡ true → list_all is_printable bs ≡ true
    rest e = go (is_printable b) e
      where
        go : (t : Bool) → (t && list_all is_printable bs) ≡ true → list_all is_printable bs ≡ true
        go true e = e
        go false e = cc

    inner_one : (b : ℕ) → is_printable b ≡ true → is_inner b ≡ true
    inner_one b e = grind (arith, nat_tests)

pub one_line-shape : (s : Shape) → IsSound s → IsOneLine (canonical s)
one_line-shape s h = record { inner = inner_printable (canonical s) (canonical-printable s h) }
