-- What the rounds keep: the cells hold each point of the shape once, are met and marked, and lie in order and apart.
use Rattle.std.proofs.Common.{ℕ, zero, suc, ◌≡◌, ◌+◌, ◌-◌, ◌<◌, ◌≤◌, arith, refl, ap, ◌∙◌, Bool, true, false, not, cond, eqb, List, [], ◌∷◌, ◌++◌, length}
use Rattle.std.proofs.lemmas.Bool.{false_from_ne_true, eqb-true, leb-true}
use Rattle.std.proofs.lemmas.List.{length-append}
use Rattle.std.proofs.lemmas.Nat.{mul-le}
use Rattle.sg_algebra.proofs.Comparisons.{left_true, right_true}
use Rattle.sg_cells.proofs.Ids.{more, filled_is, id-le-last, four_small}
use Rattle.sg_cells.proofs.Split.{children_split, box_hits-append}
use Rattle.sg_hilbert.specs.Curve.{four_to}
use Rattle.sg_cells.specs.Cells.{Grid, Cell, IsPath, AreSides, box_of, split_of, weight, id_from, last_from, id_of, last_of}
use Rattle.sg_cells.specs.Tess.{Look, Entry, is_cover, marked, met, children, kids, splits, round, rounds}
use Rattle.sg_cells.specs.Ranges.{cells_of}
use Rattle.sg_cells.specs.Laws.{ind, box_hits, children_of, Spread, IsDeep, AllEntries}
use Rattle.sg_cells.specs.Tess.{Sees}
use Rattle.sg_shape.specs.Boxes.{in_box, has_point}
use Rattle.sg_shape.specs.Plane.{Point, Parts}

pub cells_of-append : (xs ys : List Entry) → cells_of (xs ++ ys) ≡ cells_of xs ++ cells_of ys
cells_of-append [] ys = refl
cells_of-append (x ∷ xs) ys = ap (λ cs. x.0 ∷ cs) (cells_of-append xs ys)

-- ---- each point of the shape is held once
unfoldable pub tally : Grid → Point → List Entry → ℕ
tally g p es = box_hits g p (cells_of es)

pub tally-append : (g : Grid) (p : Point) (xs ys : List Entry) → tally g p (xs ++ ys) ≡ tally g p xs + tally g p ys
unfolding tally
tally-append g p xs ys = ap (box_hits g p) (cells_of-append xs ys) ∙ box_hits-append g p (cells_of xs) (cells_of ys)

pub tally-one : (g : Grid) (p : Point) (e : Entry) (es : List Entry) → tally g p (e ∷ es) ≡ ind (in_box (box_of g e.0) p) + tally g p es
unfolding tally
tally-one g p e es = refl

unmet : (g : Grid) (f : Parts) (j : Look) (p : Point) (c : Cell) → Sees f j → has_point f p ≡ true → j.meets (box_of g c) ≡ false → in_box (box_of g c) p ≡ false
unmet g f j p c s h e = false_from_ne_true (in_box (box_of g c) p) (λ t. let z = (s.meets (box_of g c)).1 (p, h, t) in differ _ z e)
  where
    differ : (b : Bool) → b ≡ true → b ≡ false → ⊥
    differ b u v = cc

met_tally : (g : Grid) (f : Parts) (j : Look) (p : Point) (cs : List Cell) → Sees f j → has_point f p ≡ true → tally g p (met g j cs) ≡ box_hits g p cs
unfolding tally
met_tally g f j p [] s h = refl
met_tally g f j p (c ∷ cs) s h = go (met_tally g f j p cs s h) (j.meets (box_of g c)) refl
  where
    go : box_hits g p (cells_of (met g j cs)) ≡ box_hits g p cs → (b : Bool) → j.meets (box_of g c) ≡ b → box_hits g p (cells_of (cond b (marked g j c ∷ met g j cs) (met g j cs))) ≡ ind (in_box (box_of g c) p) + box_hits g p cs
    go ih true e = ap (λ n. ind (in_box (box_of g c) p) + n) ih
    go ih false e = rw (unmet g f j p c s h e) (omega arith)

pub kids_tally : (g : Grid) (f : Parts) (j : Look) (p : Point) (c : Cell) → Sees f j → has_point f p ≡ true → tally g p (kids g j c) ≡ ind (in_box (box_of g c) p)
kids_tally g f j p c s h = met_tally g f j p (children_of g c) s h ∙ children_split g c p

round_tally : (g : Grid) (f : Parts) (j : Look) (p : Point) (limit level count : ℕ) (es : List Entry) → Sees f j → has_point f p ≡ true → tally g p (round g j limit level count es) ≡ tally g p es
round_tally g f j p limit level count [] s h = refl
round_tally g f j p limit level count (e ∷ es) s h =
    go (splits limit level count e (kids g j e.0)) (round_tally g f j p limit level (count - 1 + length (kids g j e.0)) es s h) (round_tally g f j p limit level count es s h)
  where
    go : (b : Bool)
        → tally g p (round g j limit level (count - 1 + length (kids g j e.0)) es) ≡ tally g p es
        → tally g p (round g j limit level count es) ≡ tally g p es
        → tally g p (cond b (kids g j e.0 ++ round g j limit level (count - 1 + length (kids g j e.0)) es) (e ∷ round g j limit level count es)) ≡ tally g p (e ∷ es)
    go true u v =
        let a = tally-append g p (kids g j e.0) (round g j limit level (count - 1 + length (kids g j e.0)) es) in
        let k = kids_tally g f j p e.0 s h in
        let o = tally-one g p e es in
        omega arith
    go false u v =
        let o = tally-one g p e es in
        let q = tally-one g p e (round g j limit level count es) in
        omega arith

pub rounds_tally : (g : Grid) (f : Parts) (j : Look) (p : Point) (limit level n : ℕ) (es : List Entry) → Sees f j → has_point f p ≡ true → tally g p (rounds g j limit level n es) ≡ tally g p es
rounds_tally g f j p limit level zero es s h = refl
rounds_tally g f j p limit level (suc n) es s h =
    rounds_tally g f j p limit (suc level) n (round g j limit level (length es) es) s h ∙ round_tally g f j p limit level (length es) es s h

-- ---- each entry is a cell of the grid, met and marked
pub entries-append : (g : Grid) (j : Look) (xs ys : List Entry) → AllEntries g j xs → AllEntries g j ys → AllEntries g j (xs ++ ys)
entries-append g j [] ys a b = b
entries-append g j (x ∷ xs) ys a b = (a.0, entries-append g j xs ys a.1 b)

pub path_child : (ks : List ℕ) (c : Cell) (d : ℕ) → IsPath ks c → length c < length ks → d < four_to (split_of ks c) → IsPath ks (c ++ d ∷ [])
path_child [] c d h l m = absurd (omega arith)
path_child (k ∷ ks) [] d h l m = (m, tt)
path_child (k ∷ ks) (e ∷ es) d h l m = (h.0, path_child ks es d h.1 (omega arith) m)

deep_child : (c : Cell) (d : ℕ) → IsDeep (c ++ d ∷ [])
deep_child [] d = tt
deep_child (e ∷ es) d = tt

met_entries : (g : Grid) (j : Look) (c : Cell) (d n : ℕ) → IsPath g.sides c → length c < length g.sides → d + n ≤ four_to (split_of g.sides c) → AllEntries g j (met g j (children c d n))
met_entries g j c d zero h l m = tt
met_entries g j c d (suc n) h l m = go (met_entries g j c (suc d) n h l (omega arith)) (j.meets (box_of g (c ++ d ∷ []))) refl
  where
    go : AllEntries g j (met g j (children c (suc d) n)) → (b : Bool) → j.meets (box_of g (c ++ d ∷ [])) ≡ b → AllEntries g j (cond b (marked g j (c ++ d ∷ []) ∷ met g j (children c (suc d) n)) (met g j (children c (suc d) n)))
    go ih true e = (record { is_deep = deep_child c d; path = path_child g.sides c d h l (omega arith); met = e; mark = refl }, ih)
    go ih false e = ih

pub kids_entries : (g : Grid) (j : Look) (c : Cell) → IsPath g.sides c → length c < length g.sides → AllEntries g j (kids g j c)
kids_entries g j c h l = met_entries g j c 0 (four_to (split_of g.sides c)) h l (omega arith)

splits_level : (limit level count : ℕ) (e : Entry) (cs : List Entry) → splits limit level count e cs ≡ true → length e.0 ≡ level
splits_level limit level count e cs h = eqb-true (length e.0) level (left_true _ _ h)

round_entries : (g : Grid) (j : Look) (limit level count : ℕ) (es : List Entry) → level < length g.sides → AllEntries g j es → AllEntries g j (round g j limit level count es)
round_entries g j limit level count [] l a = tt
round_entries g j limit level count (e ∷ es) l a =
    go (splits limit level count e (kids g j e.0)) refl (round_entries g j limit level (count - 1 + length (kids g j e.0)) es l a.1) (round_entries g j limit level count es l a.1)
  where
    go : (b : Bool) → splits limit level count e (kids g j e.0) ≡ b
        → AllEntries g j (round g j limit level (count - 1 + length (kids g j e.0)) es)
        → AllEntries g j (round g j limit level count es)
        → AllEntries g j (cond b (kids g j e.0 ++ round g j limit level (count - 1 + length (kids g j e.0)) es) (e ∷ round g j limit level count es))
    go true q u v = entries-append g j (kids g j e.0) _ (kids_entries g j e.0 a.0.path (let z = splits_level limit level count e (kids g j e.0) q in omega arith)) u
    go false q u v = (a.0, v)

pub rounds_entries : (g : Grid) (j : Look) (limit level n : ℕ) (es : List Entry) → level + n ≤ length g.sides → AllEntries g j es → AllEntries g j (rounds g j limit level n es)
rounds_entries g j limit level zero es l a = a
rounds_entries g j limit level (suc n) es l a = rounds_entries g j limit (suc level) n _ (omega arith) (round_entries g j limit level (length es) es (omega arith) a)

-- ---- the ids
child_least : (l k : ℕ) (c : Cell) (d : ℕ) → length c < l → id_from l k c ≤ id_from l k (c ++ d ∷ [])
child_least zero k c d h = absurd (omega arith)
child_least (suc l) k [] d h = omega arith
child_least (suc l) k (e ∷ es) d h = let ih = child_least l (suc k) es d (omega arith) in omega arith

child_most : (l k : ℕ) (c : Cell) (d : ℕ) → length c < l → d < 256 → last_from l k (c ++ d ∷ []) ≤ last_from l k c
child_most zero k c d h m = absurd (omega arith)
child_most (suc l) k [] d h m = let q = mul-le d (weight (suc l)) 255 (weight (suc l)) (omega arith) (omega arith) in omega arith
child_most (suc l) k (e ∷ es) d h m = let ih = child_most l (suc k) es d (omega arith) m in omega arith

child_next : (l k : ℕ) (c : Cell) (d : ℕ) → length c < l → k + l < 256 → last_from l k (c ++ d ∷ []) < id_from l k (c ++ suc d ∷ [])
child_next zero k c d h r = absurd (omega arith)
child_next (suc l) k [] d h r = let f = filled_is l in let q = more d (suc d) (weight (suc l)) (omega arith) in omega arith
child_next (suc l) k (e ∷ es) d h r = let ih = child_next l (suc k) es d (omega arith) (omega arith) in omega arith

last_child : (n : ℕ) (c : Cell) (d : ℕ) → last_of n (c ++ d ∷ []) ≡ last_from n 0 (c ++ d ∷ [])
last_child n [] d = refl
last_child n (e ∷ es) d = refl

last_deep : (n : ℕ) (c : Cell) → IsDeep c → last_of n c ≡ last_from n 0 c
last_deep n [] h = absurd h
last_deep n (d ∷ ds) h = refl

pub id-le-last_of : (n : ℕ) (c : Cell) → id_of n c ≤ last_of n c
id-le-last_of n [] = omega arith
id-le-last_of n (d ∷ ds) = id-le-last n 0 (d ∷ ds)

pub spread_lower : (n lo lo' hi : ℕ) (cs : List Cell) → lo ≤ lo' → Spread n lo' hi cs → Spread n lo hi cs
spread_lower n lo lo' hi [] l h = tt
spread_lower n lo lo' hi (c ∷ cs) l h = (let z = h.0 in omega arith, h.1)

spread-append : (n lo m hi : ℕ) (xs ys : List Cell) → m ≤ hi → lo ≤ suc m → Spread n lo m xs → Spread n (suc m) hi ys → Spread n lo hi (xs ++ ys)
spread-append n lo m hi [] ys l k a b = spread_lower n lo (suc m) hi ys k b
spread-append n lo m hi (x ∷ xs) ys l k a b = (a.0, (let z = a.1.0 in omega arith, spread-append n (suc (last_of n x)) m hi xs ys l (let z = a.1.0 in omega arith) a.1.1 b))

children_spread : (n : ℕ) (c : Cell) (lo d m : ℕ) → n < 256 → length c < n → d + m ≤ 256 → lo ≤ id_of n (c ++ d ∷ []) → Spread n lo (last_from n 0 c) (children c d m)
children_spread n c lo d zero r l k h = tt
children_spread n c lo d (suc m) r l k h =
    let e = last_child n c d in
    let a = child_most n 0 c d l (omega arith) in
    let b = child_next n 0 c d l (omega arith) in (h, (omega arith, children_spread n c (suc (last_of n (c ++ d ∷ []))) (suc d) m r l (omega arith) (omega arith)))

met_spread : (g : Grid) (j : Look) (n lo hi : ℕ) (cs : List Cell) → Spread n lo hi cs → Spread n lo hi (cells_of (met g j cs))
met_spread g j n lo hi [] h = tt
met_spread g j n lo hi (c ∷ cs) h = go (j.meets (box_of g c)) (met_spread g j n (suc (last_of n c)) hi cs h.1.1)
  where
    go : (b : Bool) → Spread n (suc (last_of n c)) hi (cells_of (met g j cs)) → Spread n lo hi (cells_of (cond b (marked g j c ∷ met g j cs) (met g j cs)))
    go true ih = (h.0, (h.1.0, ih))
    go false ih = spread_lower n lo (suc (last_of n c)) hi _ (let z = id-le-last_of n c in let y = h.0 in omega arith) ih

split_small : (ks : List ℕ) (c : Cell) → AreSides ks → four_to (split_of ks c) ≤ 256
split_small [] ds s = omega arith
split_small (k ∷ ks) [] s = four_small k s.0
split_small (k ∷ ks) (d ∷ ds) s = split_small ks ds s.1

pub kids_spread : (n : ℕ) (g : Grid) (j : Look) (c : Cell) (lo : ℕ) → AreSides g.sides → n < 256 → length c < n → lo ≤ id_of n (c ++ 0 ∷ []) → Spread n lo (last_from n 0 c) (cells_of (kids g j c))
kids_spread n g j c lo s r l h = met_spread g j n lo (last_from n 0 c) (children_of g c) (children_spread n c lo 0 (four_to (split_of g.sides c)) r l (let z = split_small g.sides c s in omega arith) h)

round_spread : (n : ℕ) (g : Grid) (j : Look) (limit level count lo hi : ℕ) (es : List Entry) → AreSides g.sides → n < 256 → level < n → AllEntries g j es → Spread n lo hi (cells_of es) → Spread n lo hi (cells_of (round g j limit level count es))
round_spread n g j limit level count lo hi [] s r l a h = tt
round_spread n g j limit level count lo hi (e ∷ es) s r l a h =
    go (splits limit level count e (kids g j e.0)) refl
    (round_spread n g j limit level (count - 1 + length (kids g j e.0)) (suc (last_of n e.0)) hi es s r l a.1 h.1.1)
    (round_spread n g j limit level count (suc (last_of n e.0)) hi es s r l a.1 h.1.1)
  where
    go : (b : Bool) → splits limit level count e (kids g j e.0) ≡ b
        → Spread n (suc (last_of n e.0)) hi (cells_of (round g j limit level (count - 1 + length (kids g j e.0)) es))
        → Spread n (suc (last_of n e.0)) hi (cells_of (round g j limit level count es))
        → Spread n lo hi (cells_of (cond b (kids g j e.0 ++ round g j limit level (count - 1 + length (kids g j e.0)) es) (e ∷ round g j limit level count es)))
    go true q u v =
        let z = splits_level limit level count e (kids g j e.0) q in
        let x = last_deep n e.0 a.0.is_deep in
        let i = id-le-last_of n e.0 in
        let y = h.0 in
        let w = h.1.0 in
        let c = child_least n 0 e.0 0 (omega arith) in
        rw (cells_of-append (kids g j e.0) (round g j limit level (count - 1 + length (kids g j e.0)) es))
        (spread-append n lo (last_of n e.0) hi (cells_of (kids g j e.0)) _ w (omega arith)
        (rw x (kids_spread n g j e.0 lo s r (omega arith) (omega arith))) u)
    go false q u v = (h.0, (h.1.0, v))

pub rounds_spread : (n : ℕ) (g : Grid) (j : Look) (limit level m lo hi : ℕ) (es : List Entry) → AreSides g.sides → n < 256 → length g.sides ≤ n → level + m ≤ length g.sides → AllEntries g j es → Spread n lo hi (cells_of es) → Spread n lo hi (cells_of (rounds g j limit level m es))
rounds_spread n g j limit level zero lo hi es s r f l a h = h
rounds_spread n g j limit level (suc m) lo hi es s r f l a h =
    rounds_spread n g j limit (suc level) m lo hi _ s r f (omega arith) (round_entries g j limit level (length es) es (omega arith) a) (round_spread n g j limit level (length es) lo hi es s r (omega arith) a h)

-- ---- the count: `others` cells stand before the list
round_count : (g : Grid) (j : Look) (limit level count others most : ℕ) (es : List Entry) → others + length es ≡ count → count ≤ most → limit ≤ most → others + length (round g j limit level count es) ≤ most
round_count g j limit level count others most [] e c l = omega arith
round_count g j limit level count others most (x ∷ es) e c l =
    go (splits limit level count x ks) refl (λ m o q w. round_count g j limit level m o most es q w l)
  where
    ks : List Entry
    ks = kids g j x.0

    Later : Type 0
    Later = (m o : ℕ) → o + length es ≡ m → m ≤ most → o + length (round g j limit level m es) ≤ most

    stays : Later → others + suc (length (round g j limit level count es)) ≤ most
    stays r = let ih = r count (suc others) (omega arith) c in omega arith

    goes : Later → count - 1 + length ks ≤ limit → others + length (ks ++ round g j limit level (count - 1 + length ks) es) ≤ most
    goes r q =
        let ih = r (count - 1 + length ks) (others + length ks) (omega arith) (omega arith) in
        let a = length-append ks (round g j limit level (count - 1 + length ks) es) in
        omega arith

    go : (b : Bool) → splits limit level count x ks ≡ b → Later → others + length (cond b (ks ++ round g j limit level (count - 1 + length ks) es) (x ∷ round g j limit level count es)) ≤ most
    go true q r = goes r (leb-true _ _ (right_true (not (is_cover x.1)) _ (right_true (eqb (length x.0) level) _ q)))
    go false q r = stays r

pub rounds_count : (g : Grid) (j : Look) (limit level n most : ℕ) (es : List Entry) → length es ≤ most → limit ≤ most → length (rounds g j limit level n es) ≤ most
rounds_count g j limit level zero most es c l = c
rounds_count g j limit level (suc n) most es c l =
    rounds_count g j limit (suc level) n most (round g j limit level (length es) es) (let z = round_count g j limit level (length es) 0 most es (omega arith) c l in omega arith) l
