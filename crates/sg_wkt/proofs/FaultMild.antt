-- Texts that spell a shape by the grammar alone are refused for the number of their spots and for open rings alone.
use Rattle.std.proofs.Common.{◌≡◌, ℕ, zero, suc, nat_lt, Bool, true, false, List, [], ◌∷◌, ◌++◌, length, codes, refl, sym, ap, ◌∙◌, subst, Result, Ok, Err, append_assoc}
use Rattle.sg_shape.specs.declared.spots.Spot.{Spot}
use Rattle.sg_shape.specs.declared.shapes.Kind.{Kind}
use Rattle.sg_shape.specs.declared.shapes.Kind.TheVariants as kind
use Rattle.sg_shape.specs.declared.shapes.Shape.{Shape}
use Rattle.sg_shape.specs.declared.shapes.Shape.TheVariants as shapes
use Rattle.sg_shape.specs.Sound.{is_open, is_short}
use Rattle.sg_wkt.specs.declared.drafts.Draft.{Draft}
use Rattle.sg_wkt.specs.declared.drafts.Draft.TheVariants as draft
use Rattle.sg_wkt.specs.declared.drafts.Next.{Next}
use Rattle.sg_wkt.specs.declared.faults.WktFault.{WktFault}
use Rattle.sg_wkt.specs.declared.faults.WktKind.{WktKind}
use Rattle.sg_wkt.specs.declared.faults.WktKind.TheVariants as kinds
use Rattle.sg_wkt.specs.Tokens.{Token, Tokens, Ends, Begins}
use Rattle.sg_wkt.specs.Grammar.{Reading, ◌>>=◌, most_spots, after_spot, with_spot, spots, point, line, polygon, and_nothing, lone_shape}
use Rattle.sg_wkt.specs.Spelled.{Texts, texts_of, Further, SpellsSpot, SpellsPath, Spells}
use Rattle.sg_wkt.proofs.Fronts.{at_front}
use Rattle.sg_wkt.proofs.Complete.{front_of, end_of, spot-leads, spots-step, step-from, comma_next, unpacked, inner_texts, another, first_ring, point-read, empty-read, lone_shape-line, lone_shape-polygon, line-bracket, polygon-bracket, go_on}
use Rattle.sg_wkt.proofs.FaultPaths.{kind_of}
use Rattle.sg_wkt.proofs.FaultSteps.{finish, Spots, After, AfterRing, Opens, none-left, after-comma, line-few, line-whole, ring-few, ring-open, ring-whole, rings-comma, rings-whole, opens-found}

-- the number of spots, too few of them in a path, or an open ring
abbrev pub IsLimit : WktKind → Type 0
IsLimit kinds.TooMany = Unit {0}
IsLimit kinds.TooFew = Unit {0}
IsLimit kinds.RingOpen = Unit {0}
IsLimit k = ⊥

abbrev pub Mild : Result Shape WktFault → Type 0
Mild (Ok s) = Unit {0}
Mild (Err f) = IsLimit f.kind

mild_as : (r q : Result Shape WktFault) → r ≡ q → Mild q → Mild r
mild_as r q e h = rw e h

-- ---- spots
kind_with : (d : Draft) (s : Spot) → kind_of (with_spot d s) ≡ kind_of d
kind_with (draft.Line spots) s = refl
kind_with (draft.Polygon rings ring) s = refl

-- what follows a path, from any draft of this kind
abbrev Follows : Kind → Texts → Type 0
Follows k bs = (room : ℕ) (d : Draft) (rest : Tokens) → kind_of d ≡ k → texts_of rest ≡ bs → Mild (After room d rest)

stepped : (room : ℕ) (d : Draft) (ts rest : Tokens) (s : Spot) → spots (suc room) d ts ≡ (after_spot (with_spot d s) rest >>= go_on room) →
    Spots (suc room) d ts ≡ After room (with_spot d s) rest
stepped room d ts rest s e = ap finish e

spots-mild : (ss : List Spot) (room : ℕ) (d : Draft) (s : Spot) (ts : Tokens) (k : Kind) (front back bs : Texts) →
    SpellsSpot front s → Further SpellsSpot back ss → texts_of ts ≡ front ++ (back ++ bs) → kind_of d ≡ k → Follows k bs → Mild (Spots room d ts)
spots-mild ss zero d s ts k front back bs h hs e is follows =
    let f = front_of ts h.0 (h.1 ∷ (back ++ bs)) (e ∙ ap (λ (x : Texts). x ++ (back ++ bs)) h.2) in
    mild_as (Spots zero d ts) _ (ap (Spots zero d) f.2 ∙ none-left d (record { at = f.0; bytes = h.0 }) f.1) tt
spots-mild [] (suc room) d s ts k front back bs h hs e is follows =
    let read = spot-leads ts s front bs h (e ∙ ap (λ (f : Texts). front ++ (f ++ bs)) hs) in
    let next = stepped room d ts read.0 s (spots-step room d ts ∙ ap (λ (r : Reading Next). r >>= go_on room) (step-from d ts read.0 s read.1)) in
    mild_as (Spots (suc room) d ts) (After room (with_spot d s) read.0) next (follows room (with_spot d s) read.0 (kind_with d s ∙ is) read.2)
spots-mild (t ∷ others) (suc room) d s ts k front back bs h hs e is follows =
    let tail : Texts = hs.0 ++ (hs.1 ++ bs) in
    let read = spot-leads ts s front (codes "," ∷ tail) h (e ∙ ap (λ (f : Texts). front ++ f) (unpacked hs.0 hs.1 bs back hs.2)) in
    let comma = front_of read.0 (codes ",") tail read.2 in
    let next = stepped room d ts read.0 s (spots-step room d ts ∙ ap (λ (r : Reading Next). r >>= go_on room) (step-from d ts read.0 s read.1)) in
    let further = after-comma room (with_spot d s) (record { at = comma.0; bytes = codes "," }) comma.1 refl in
    mild_as (Spots (suc room) d ts) (Spots room (with_spot d s) comma.1) (next ∙ ap (After room (with_spot d s)) comma.2 ∙ further)
    (spots-mild others room (with_spot d s) t comma.1 k hs.0 hs.1 bs hs.3 hs.4 comma.3 (kind_with d s ∙ is) follows)

-- ---- lines
abbrev bracket : ℕ → Token
bracket at = record { at = at; bytes = codes ")" }

line-closes : (room : ℕ) (done : List Spot) (ts : Tokens) → texts_of ts ≡ codes ")" ∷ [] → Mild (After room (draft.Line done) ts)
line-closes room done ts e =
    let close = front_of ts (codes ")") [] e in
    let end = end_of close.1 close.3 in
    let is : ts ≡ Begins (bracket close.0) (Ends end.0) = close.2 ∙ ap (at_front close.0 (codes ")")) end.1 in
    choose close.0 end.0 is (nat_lt (length done) 2) refl
  where
    choose : (at end : ℕ) → ts ≡ Begins (bracket at) (Ends end) → (t : Bool) → nat_lt (length done) 2 ≡ t → Mild (After room (draft.Line done) ts)
    choose at end is true f = mild_as (After room (draft.Line done) ts) _ (ap (After room (draft.Line done)) is ∙ line-few room done (bracket at) (Ends end) refl refl f) tt
    choose at end is false f = mild_as (After room (draft.Line done) ts) _ (ap (After room (draft.Line done)) is ∙ line-whole room done (bracket at) (Ends end) refl refl f) tt

line-follows : Follows kind.Line (codes ")" ∷ [])
line-follows room (draft.Line done) rest is e = line-closes room done rest e
line-follows room (draft.Polygon rings ring) rest is e = cc

-- ---- polygons
-- after a ring's bracket: further rings, and the last bracket
abbrev Rings : List (List Spot) → Texts → Type 0
Rings more bs = (room : ℕ) (rings : List (List Spot)) (rest : Tokens) → texts_of rest ≡ bs → Mild (AfterRing room rings rest)

ring-closes : (room : ℕ) (rings : List (List Spot)) (ring : List Spot) (ts : Tokens) (more : List (List Spot)) (bs : Texts) →
    texts_of ts ≡ codes ")" ∷ bs → Rings more bs → Mild (After room (draft.Polygon rings ring) ts)
ring-closes room rings ring ts more bs e further =
    let close = front_of ts (codes ")") bs e in
    choose close.0 close.1 close.2 close.3 (is_short ring) (is_open ring) refl refl
  where
    choose : (at : ℕ) (rest : Tokens) → ts ≡ Begins (bracket at) rest → texts_of rest ≡ bs → (t o : Bool) → is_short ring ≡ t → is_open ring ≡ o →
        Mild (After room (draft.Polygon rings ring) ts)
    choose at rest is b true o f g =
        mild_as (After room (draft.Polygon rings ring) ts) _ (ap (After room (draft.Polygon rings ring)) is ∙ ring-few room rings ring (bracket at) rest refl refl f) tt
    choose at rest is b false true f g =
        mild_as (After room (draft.Polygon rings ring) ts) _ (ap (After room (draft.Polygon rings ring)) is ∙ ring-open room rings ring (bracket at) rest refl refl f g) tt
    choose at rest is b false false f g =
        mild_as (After room (draft.Polygon rings ring) ts) _ (ap (After room (draft.Polygon rings ring)) is ∙ ring-whole room rings ring (bracket at) rest refl refl f g)
        (further room (rings ++ ring ∷ []) rest b)

polygon-follows : (more : List (List Spot)) (bs : Texts) → Rings more bs → Follows kind.Polygon (codes ")" ∷ bs)
polygon-follows more bs further room (draft.Line done) rest is e = cc
polygon-follows more bs further room (draft.Polygon rings ring) rest is e = ring-closes room rings ring rest more bs e further

rings-mild : (more : List (List Spot)) (bs : Texts) → Further SpellsPath bs more → Rings more (bs ++ codes ")" ∷ [])
rings-mild [] bs h room rings rest e =
    let close = front_of rest (codes ")") [] (e ∙ ap (λ (x : Texts). x ++ codes ")" ∷ []) h) in
    let end = end_of close.1 close.3 in
    mild_as (AfterRing room rings rest) _
    (ap (AfterRing room rings) (close.2 ∙ ap (at_front close.0 (codes ")")) end.1) ∙ rings-whole room rings (bracket close.0) (Ends end.0) refl refl) tt
rings-mild ([] ∷ more) bs h room rings rest e = absurd h.3.2
rings-mild ((s ∷ ss) ∷ more) bs h room rings rest e =
    let path = h.3 in
    let spots' = path.2 in
    let tail : Texts = h.1 ++ codes ")" ∷ [] in
    let comma = front_of rest (codes ",") (codes "(" ∷ (path.0 ++ codes ")" ∷ tail)) (e ∙ another bs path.0 h.0 (codes ")" ∷ []) h.1 h.2 path.1) in
    let open' = front_of comma.1 (codes "(") (path.0 ++ codes ")" ∷ tail) comma.3 in
    let first = rings-comma room rings (record { at = comma.0; bytes = codes "," }) comma.1 refl in
    let second = opens-found room rings (record { at = open'.0; bytes = codes "(" }) open'.1 refl in
    mild_as (AfterRing room rings rest) (Spots room (draft.Polygon rings []) open'.1)
    (ap (AfterRing room rings) comma.2 ∙ first ∙ ap (Opens room rings) open'.2 ∙ second)
    (spots-mild ss room (draft.Polygon rings []) s open'.1 kind.Polygon spots'.0 spots'.1 (codes ")" ∷ tail) spots'.3 spots'.4
    (open'.3 ∙ inner_texts path.0 spots'.0 spots'.1 (codes ")" ∷ tail) spots'.2) refl
    (polygon-follows more tail (rings-mild more h.1 h.4)))

-- ---- whole shapes
read-mild : (ts : Tokens) (s : Shape) → lone_shape ts ≡ Ok s → Mild (lone_shape ts)
read-mild ts s e = mild_as (lone_shape ts) (Ok s) e tt

line-mild : (path : List Spot) (ts : Tokens) → Spells (texts_of ts) (shapes.Line path) → Mild (lone_shape ts)
line-mild [] ts h = absurd h.4.2
line-mild (s ∷ ss) ts h =
    let inner = h.4 in
    let spots' = inner.2 in
    let a = front_of ts h.0 h.1 h.2 in
    let b = front_of a.1 (codes "(") (inner.0 ++ codes ")" ∷ []) (a.3 ∙ inner.1) in
    mild_as (lone_shape ts) (Spots most_spots (draft.Line []) b.1)
    (ap lone_shape a.2 ∙ lone_shape-line a.0 h.0 a.1 h.3 ∙ ap (λ (t : Tokens). finish (line t)) b.2 ∙ ap finish (line-bracket b.0 b.1))
    (spots-mild ss most_spots (draft.Line []) s b.1 kind.Line spots'.0 spots'.1 (codes ")" ∷ []) spots'.3 spots'.4
    (b.3 ∙ inner_texts inner.0 spots'.0 spots'.1 (codes ")" ∷ []) spots'.2) refl line-follows)

polygon-mild : (rings : List (List Spot)) (ts : Tokens) → Spells (texts_of ts) (shapes.Polygon rings) → Mild (lone_shape ts)
polygon-mild [] ts h = absurd h.4.2
polygon-mild ([] ∷ more) ts h = absurd h.4.2.3.2
polygon-mild ((s ∷ ss) ∷ more) ts h =
    let all = h.4 in
    let listed = all.2 in
    let path = listed.3 in
    let spots' = path.2 in
    let tail : Texts = listed.1 ++ codes ")" ∷ [] in
    let a = front_of ts h.0 h.1 h.2 in
    let b = front_of a.1 (codes "(") (all.0 ++ codes ")" ∷ []) (a.3 ∙ all.1) in
    let c = front_of b.1 (codes "(") (path.0 ++ codes ")" ∷ tail) (b.3 ∙ first_ring all.0 path.0 listed.0 listed.1 listed.2 path.1) in
    mild_as (lone_shape ts) (Spots most_spots (draft.Polygon [] []) c.1)
    (ap lone_shape a.2 ∙ lone_shape-polygon a.0 h.0 a.1 h.3 ∙ ap (λ (t : Tokens). finish (polygon t)) (b.2 ∙ ap (at_front b.0 (codes "(")) c.2) ∙ ap finish (polygon-bracket b.0 c.0 c.1))
    (spots-mild ss most_spots (draft.Polygon [] []) s c.1 kind.Polygon spots'.0 spots'.1 (codes ")" ∷ tail) spots'.3 spots'.4
    (c.3 ∙ inner_texts path.0 spots'.0 spots'.1 (codes ")" ∷ tail) spots'.2) refl
    (polygon-follows more tail (rings-mild more listed.1 listed.4)))

pub lone_shape-mild : (ts : Tokens) (s : Shape) → Spells (texts_of ts) s → Mild (lone_shape ts)
lone_shape-mild ts (shapes.Empty k) h = read-mild ts (shapes.Empty k) (empty-read k ts h)
lone_shape-mild ts (shapes.Point s) h = read-mild ts (shapes.Point s) (point-read s ts h)
lone_shape-mild ts (shapes.Line path) h = line-mild path ts h
lone_shape-mild ts (shapes.Polygon rings) h = polygon-mild rings ts h
