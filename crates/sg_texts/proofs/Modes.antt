-- The texts of cells, keys and modes: where one ends, and what it tells.
use Rattle.std.proofs.Common.{◌≡◌, ℕ, ◌+◌, ◌*◌, ◌^◌, ◌<◌, true, false, cond, ◌==◌, List, [], ◌∷◌, ◌++◌, length, get_or, codes, refl, arith, sym, ap, ◌∙◌}
use Rattle.std.proofs.lemmas.List.{append_cancel_left}
use Rattle.std.proofs.lemmas.Fmt.{decimal_nonempty}
use Rattle.std.specs.Char.{is_ascii_digit}
use Rattle.std.specs.Fmt.{decimal}
use Rattle.std.specs.List.{flat_map, list_all}
use Rattle.sg_cells.specs.Cells.{Cell as Path}
use Rattle.sg_cells.specs.declared.keys.Key.{Key}
use Rattle.sg_cells.specs.declared.keys.Key.TheVariants.{Row, RowEnd, Cell, CellEnd}
use Rattle.sg_modes.specs.declared.modes.Mode.{Mode}
use Rattle.sg_modes.specs.declared.modes.Mode.TheVariants.{S, U, X, RangeSS, RangeSU, RangeIN, RangeXX}
use Rattle.sg_texts.specs.Fitting.{IsCell, IsKey}
use Rattle.sg_texts.specs.Labels.{dotted, cell_text, key_text, mode_text, lock_text}
use Rattle.sg_texts.specs.Laws.{AreKeys}
use Rattle.sg_texts.proofs.Splits.{Stops, left_of, all_digits, split_number}
use Rattle.sg_texts.proofs.Pieces.{by_two, by_three, by_four, first, first_of_all, rest_of_all, unequal, short, numbers_tell}

-- ---- a number doesn't begin like a word
digits_first : (ds xs : List ℕ) → list_all is_ascii_digit ds ≡ true → 0 < length ds → is_ascii_digit (first (ds ++ xs)) ≡ true
digits_first [] xs h some = absurd (omega arith)
digits_first (d ∷ ds) xs h some = left_of (is_ascii_digit d) (list_all is_ascii_digit ds) h

pub no_word : (n : ℕ) (xs ys : List ℕ) → n < 2 ^ 64 → is_ascii_digit (first ys) ≡ false → decimal n ++ xs ≡ ys → ⊥
no_word n xs ys small h e =
    let digit : is_ascii_digit (first (decimal n ++ xs)) ≡ true = digits_first (decimal n) xs (all_digits n) (decimal_nonempty n small) in
    let clash : true ≡ false = sym digit ∙ ap (λ text. is_ascii_digit (first text)) e ∙ h in
    cc

-- ---- cells, to a space
small_place : (n : ℕ) → n < 256 → n < 2 ^ 64
small_place n h = omega arith

cell_keys : (cell : Path) → IsCell cell → AreKeys cell
cell_keys cell h k d within = let byte = h k d within in omega arith

cell_tells : (c d : Path) (xs ys : List ℕ) → IsCell c → IsCell d → cell_text c ++ 32 ∷ xs ≡ cell_text d ++ 32 ∷ ys → (c ≡ d) × (xs ≡ ys)
cell_tells [] [] xs ys hc hd e = (refl, append_cancel_left (codes "out ") xs ys e)
cell_tells [] (p ∷ ps) xs ys hc hd e =
    absurd (no_word p (flat_map dotted ps ++ 32 ∷ ys) (codes "out" ++ 32 ∷ xs) (small_place p (first_of_all (λ (n : ℕ). n < 256) p ps hd)) refl
    (sym (by_two (decimal p) (flat_map dotted ps) (32 ∷ ys)) ∙ sym e))
cell_tells (p ∷ ps) [] xs ys hc hd e =
    absurd (no_word p (flat_map dotted ps ++ 32 ∷ xs) (codes "out" ++ 32 ∷ ys) (small_place p (first_of_all (λ (n : ℕ). n < 256) p ps hc)) refl
    (sym (by_two (decimal p) (flat_map dotted ps) (32 ∷ xs)) ∙ e))
cell_tells (p ∷ ps) (q ∷ qs) xs ys hc hd e =
    let line = sym (by_two (decimal p) (flat_map dotted ps) (32 ∷ xs)) ∙ e ∙ by_two (decimal q) (flat_map dotted qs) (32 ∷ ys) in
    let one = split_number p q (flat_map dotted ps ++ 32 ∷ xs) (flat_map dotted qs ++ 32 ∷ ys)
    (small_place p (first_of_all (λ (n : ℕ). n < 256) p ps hc)) (small_place q (first_of_all (λ (n : ℕ). n < 256) q qs hd)) (stops ps xs) (stops qs ys) line in
    let rest = numbers_tell 46 refl ps qs (32 ∷ xs) (32 ∷ ys) (cell_keys ps (rest_of_all (λ (n : ℕ). n < 256) p ps hc)) (cell_keys qs (rest_of_all (λ (n : ℕ). n < 256) q qs hd))
    refl refl (unequal 32 46 refl) (unequal 32 46 refl) one.1 in
    let head : p ≡ q = one.0 in
    let tail : ps ≡ qs = rest.0 in
    (cc, append_cancel_left (32 ∷ []) xs ys rest.1)
  where
    stops : (ds zs : List ℕ) → Stops is_ascii_digit (flat_map dotted ds ++ 32 ∷ zs)
    stops [] zs = refl
    stops (d ∷ ds) zs = refl

-- ---- keys, to a space
row_key_tells : (k l : ℕ) (xs ys : List ℕ) → k < 2 ^ 32 → l < 2 ^ 32 → decimal k ++ 32 ∷ xs ≡ decimal l ++ 32 ∷ ys → (k ≡ l) × (xs ≡ ys)
row_key_tells k l xs ys hk hl e =
    let parts = split_number k l (32 ∷ xs) (32 ∷ ys) (short k hk) (short l hl) refl refl e in
    (parts.0, append_cancel_left (32 ∷ []) xs ys parts.1)

cell_grouped : (c : Path) (k : ℕ) (xs : List ℕ) → key_text (Cell c k) ++ 32 ∷ xs ≡ codes "cell " ++ (cell_text c ++ (codes " row " ++ (decimal k ++ 32 ∷ xs)))
cell_grouped c k xs = by_four (codes "cell ") (cell_text c) (codes " row ") (decimal k) (32 ∷ xs)

no_cell_end : (c : Path) (xs ys : List ℕ) → IsCell c → cell_text c ++ xs ≡ codes "end" ++ ys → ⊥
no_cell_end [] xs ys h e = unequal 111 101 refl (ap first e)
no_cell_end (p ∷ ps) xs ys h e =
    no_word p (flat_map dotted ps ++ xs) (codes "end" ++ ys) (small_place p (first_of_all (λ (n : ℕ). n < 256) p ps h)) refl (sym (by_two (decimal p) (flat_map dotted ps) xs) ∙ e)

key_tells : (k l : Key) (xs ys : List ℕ) → IsKey k → IsKey l → key_text k ++ 32 ∷ xs ≡ key_text l ++ 32 ∷ ys → (k ≡ l) × (xs ≡ ys)
key_tells (Row k) (Row l) xs ys hk hl e =
    let row = codes "row " in
    let parts = row_key_tells k l xs ys hk hl
    (append_cancel_left row (decimal k ++ 32 ∷ xs) (decimal l ++ 32 ∷ ys) (sym (by_two row (decimal k) (32 ∷ xs)) ∙ e ∙ by_two row (decimal l) (32 ∷ ys))) in
    (ap Row parts.0, parts.1)
key_tells RowEnd RowEnd xs ys hk hl e = (refl, append_cancel_left (codes "row end ") xs ys e)
key_tells (Cell c k) (Cell d l) xs ys hk hl e =
    let line = sym (cell_grouped c k xs) ∙ e ∙ cell_grouped d l ys in
    let one = cell_tells c d (codes "row " ++ (decimal k ++ 32 ∷ xs)) (codes "row " ++ (decimal l ++ 32 ∷ ys)) hk.0 hl.0
    (append_cancel_left (codes "cell ") (cell_text c ++ (codes " row " ++ (decimal k ++ 32 ∷ xs))) (cell_text d ++ (codes " row " ++ (decimal l ++ 32 ∷ ys))) line) in
    let two = row_key_tells k l xs ys hk.1 hl.1 (append_cancel_left (codes "row ") (decimal k ++ 32 ∷ xs) (decimal l ++ 32 ∷ ys) one.1) in
    let cell : c ≡ d = one.0 in
    let row : k ≡ l = two.0 in
    (cc, two.1)
key_tells CellEnd CellEnd xs ys hk hl e = (refl, append_cancel_left (codes "cell end ") xs ys e)
key_tells (Row k) RowEnd xs ys hk hl e =
    absurd (no_word k (32 ∷ xs) (codes "end" ++ 32 ∷ ys) (short k hk) refl
    (append_cancel_left (codes "row ") (decimal k ++ 32 ∷ xs) (codes "end" ++ 32 ∷ ys) (sym (by_two (codes "row ") (decimal k) (32 ∷ xs)) ∙ e)))
key_tells RowEnd (Row l) xs ys hk hl e =
    absurd (no_word l (32 ∷ ys) (codes "end" ++ 32 ∷ xs) (short l hl) refl
    (append_cancel_left (codes "row ") (decimal l ++ 32 ∷ ys) (codes "end" ++ 32 ∷ xs) (sym (by_two (codes "row ") (decimal l) (32 ∷ ys)) ∙ sym e)))
key_tells (Cell c k) CellEnd xs ys hk hl e =
    absurd (no_cell_end c (codes " row " ++ (decimal k ++ 32 ∷ xs)) (32 ∷ ys) hk.0
    (append_cancel_left (codes "cell ") (cell_text c ++ (codes " row " ++ (decimal k ++ 32 ∷ xs))) (codes "end" ++ 32 ∷ ys) (sym (cell_grouped c k xs) ∙ e)))
key_tells CellEnd (Cell d l) xs ys hk hl e =
    absurd (no_cell_end d (codes " row " ++ (decimal l ++ 32 ∷ ys)) (32 ∷ xs) hl.0
    (append_cancel_left (codes "cell ") (cell_text d ++ (codes " row " ++ (decimal l ++ 32 ∷ ys))) (codes "end" ++ 32 ∷ xs) (sym (cell_grouped d l ys) ∙ sym e)))
key_tells k l xs ys hk hl e = let clash : first (key_text k ++ 32 ∷ xs) ≡ first (key_text l ++ 32 ∷ ys) = ap first e in absurd (omega arith)

-- ---- modes
-- its first byte, and of a range mode the sixth and the eighth
mark : List ℕ → ℕ
mark text = cond (get_or text 0 0 == 82) (1000 + get_or text 5 0 * 256 + get_or text 7 0) (get_or text 0 0)

mode_tells : (m n : Mode) (xs ys : List ℕ) → mode_text m ++ xs ≡ mode_text n ++ ys → (m ≡ n) × (xs ≡ ys)
unfolding mark
mode_tells S S xs ys e = (refl, append_cancel_left (codes "S") xs ys e)
mode_tells U U xs ys e = (refl, append_cancel_left (codes "U") xs ys e)
mode_tells X X xs ys e = (refl, append_cancel_left (codes "X") xs ys e)
mode_tells RangeSS RangeSS xs ys e = (refl, append_cancel_left (codes "RangeS-S") xs ys e)
mode_tells RangeSU RangeSU xs ys e = (refl, append_cancel_left (codes "RangeS-U") xs ys e)
mode_tells RangeIN RangeIN xs ys e = (refl, append_cancel_left (codes "RangeI-N") xs ys e)
mode_tells RangeXX RangeXX xs ys e = (refl, append_cancel_left (codes "RangeX-X") xs ys e)
mode_tells m n xs ys e = let clash : mark (mode_text m ++ xs) ≡ mark (mode_text n ++ ys) = ap mark e in absurd (omega arith)

-- ---- a key with a mode
pub record SameLock (k : Key) (m : Mode) (l : Key) (n : Mode) (xs ys : List ℕ) : Type 0 where
  pub key : k ≡ l
  pub mode : m ≡ n
  pub rest : xs ≡ ys

lock_grouped : (k : Key) (m : Mode) (xs : List ℕ) → lock_text k m ++ xs ≡ key_text k ++ 32 ∷ (mode_text m ++ xs)
lock_grouped k m xs = by_three (key_text k) (codes " ") (mode_text m) xs

pub lock_tells : (k l : Key) (m n : Mode) (xs ys : List ℕ) → IsKey k → IsKey l → lock_text k m ++ xs ≡ lock_text l n ++ ys → SameLock k m l n xs ys
lock_tells k l m n xs ys hk hl e =
    let one = key_tells k l (mode_text m ++ xs) (mode_text n ++ ys) hk hl (sym (lock_grouped k m xs) ∙ e ∙ lock_grouped l n ys) in
    let two = mode_tells m n xs ys one.1 in
    record { key = one.0; mode = two.0; rest = two.1 }
