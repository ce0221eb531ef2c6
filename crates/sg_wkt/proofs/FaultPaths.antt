-- Lines and polygons on the way: which texts stand before a spot, and after one.
use Rattle.std.proofs.Common.{◌≡◌, ◌≤◌, ◌<◌, ℕ, zero, suc, ◌+◌, ◌*◌, Bool, true, false, if◌then◌else◌, List, [], ◌∷◌, ◌++◌, codes, ℤ, pos, refl, sym, ap, ◌∙◌, subst, Ok, arith, append_assoc, append-nil}
use Rattle.sg_shape.specs.declared.spots.Spot.{Spot}
use Rattle.sg_shape.specs.declared.shapes.Kind.{Kind}
use Rattle.sg_shape.specs.declared.shapes.Kind.TheVariants as kind
use Rattle.sg_shape.specs.declared.shapes.Shape.{Shape}
use Rattle.sg_shape.specs.declared.shapes.Shape.TheVariants as shapes
use Rattle.sg_wkt.specs.declared.drafts.Draft.{Draft}
use Rattle.sg_wkt.specs.declared.drafts.Draft.TheVariants as draft
use Rattle.sg_wkt.specs.Numbers.{is_number, coordinate}
use Rattle.sg_wkt.specs.Grammar.{is_word, with_spot}
use Rattle.sg_wkt.specs.Spelled.{Texts, Further, Listed, SpellsSpot, Spells}
use Rattle.sg_wkt.specs.Canonical.{word_of}
use Rattle.sg_wkt.specs.Faults.{numbers, MayStand, WantsNumber, OpenPath}
use Rattle.sg_wkt.proofs.Consumed.{FromSpot, AfterSpot, spot-completes, comma-completes, line-closes, polygon-closes, ring-completes}
use Rattle.sg_wkt.proofs.FaultStates.{coordinate-is_number}

-- ---- how many numbers
count_step : (t : Bool) (n m k : ℕ) → n ≡ m + k → (if t then 1 + n else n) ≡ (if t then 1 + m else m) + k
count_step true n m k e = omega (arith, e)
count_step false n m k e = e

numbers-append : (xs ys : Texts) → numbers (xs ++ ys) ≡ numbers xs + numbers ys
numbers-append [] ys = omega arith
numbers-append (x ∷ xs) ys = count_step (is_number x) (numbers (xs ++ ys)) (numbers xs) (numbers ys) (numbers-append xs ys)

one_number : (t : Bool) → t ≡ true → (if t then 1 + 0 else 0) ≡ 1
one_number true e = refl
one_number false e = cc

no_number : (t : Bool) → t ≡ false → (if t then 1 + 0 else 0) ≡ 0
no_number true e = cc
no_number false e = refl

pub numbers-more : (b : Texts) (w : List ℕ) (z : ℤ) → coordinate w ≡ Ok z → numbers (b ++ w ∷ []) ≡ numbers b + 1
numbers-more b w z e =
    numbers-append b (w ∷ []) ∙ ap (λ (n : ℕ). numbers b + n) (one_number (is_number w) (coordinate-is_number w z e))

pub numbers-same : (b : Texts) (w : List ℕ) → is_number w ≡ false → numbers (b ++ w ∷ []) ≡ numbers b
numbers-same b w e =
    let none : numbers b + 0 ≡ numbers b = omega arith in
    numbers-append b (w ∷ []) ∙ ap (λ (n : ℕ). numbers b + n) (no_number (is_number w) e) ∙ none

-- ---- texts one after another
pub one : (b : Texts) (w : List ℕ) (more : Texts) → (b ++ w ∷ []) ++ more ≡ b ++ w ∷ more
one b w more = append_assoc b (w ∷ []) more

pub two : (b : Texts) (v w : List ℕ) (more : Texts) → ((b ++ v ∷ []) ++ w ∷ []) ++ more ≡ b ++ v ∷ w ∷ more
two b v w more = one (b ++ v ∷ []) w more ∙ one b v (w ∷ more)

pub three : (b : Texts) (u v w : List ℕ) (more : Texts) → (((b ++ u ∷ []) ++ v ∷ []) ++ w ∷ []) ++ more ≡ b ++ u ∷ v ∷ w ∷ more
three b u v w more = one ((b ++ u ∷ []) ++ v ∷ []) w more ∙ two b u v (w ∷ more)

-- ---- the open path
abbrev pub kind_of : Draft → Kind
kind_of (draft.Line spots) = kind.Line
kind_of (draft.Polygon rings ring) = kind.Polygon

abbrev pub path_of : Draft → List Spot
path_of (draft.Line spots) = spots
path_of (draft.Polygon rings ring) = ring

-- these spots, each with a comma after it
abbrev Before : Texts → List Spot → Type 0
Before inner [] = inner ≡ []
Before inner (s ∷ ss) = (ts : Texts) × (inner ≡ ts ++ codes "," ∷ []) × Listed SpellsSpot ts (s ∷ ss)

abbrev pub Opening : Kind → Texts → List Spot → Type 0
Opening k b spots =
    (w : List ℕ) × (front inner : Texts) × (b ≡ w ∷ (front ++ codes "(" ∷ inner)) × (is_word (word_of k) w ≡ true) × Before inner spots

further-more : (back sp : Texts) (ss : List Spot) (s : Spot) → Further SpellsSpot back ss → SpellsSpot sp s → Further SpellsSpot (back ++ codes "," ∷ sp) (ss ++ s ∷ [])
further-more back sp [] s hs h =
    subst (λ (x : Texts). Further SpellsSpot (x ++ codes "," ∷ sp) (s ∷ [])) (sym hs) (sp, [], ap (λ (t : Texts). codes "," ∷ t) (sym (append-nil sp)), h, refl)
further-more back sp (t ∷ ts) s (front, rest, e, h0, hs) h = (
  front,
  rest ++ codes "," ∷ sp,
  ap (λ (x : Texts). x ++ codes "," ∷ sp) e ∙ ap (λ (x : Texts). codes "," ∷ x) (append_assoc front rest (codes "," ∷ sp)),
  h0,
  further-more rest sp ts s hs h,
)

listed-more : (inner sp : Texts) (spots : List Spot) (s : Spot) → Before inner spots → SpellsSpot sp s → Listed SpellsSpot (inner ++ sp) (spots ++ s ∷ [])
listed-more inner sp [] s e h =
    subst (λ (x : Texts). Listed SpellsSpot (x ++ sp) (s ∷ [])) (sym e) (sp, [], sym (append-nil sp), h, refl)
listed-more inner sp (t ∷ ts) s (xs, e, (front, rest, f, h0, hs)) h = (
  front,
  rest ++ codes "," ∷ sp,
  ap (λ (x : Texts). x ++ sp) e ∙ append_assoc xs (codes "," ∷ []) sp ∙ ap (λ (x : Texts). x ++ codes "," ∷ sp) f ∙ append_assoc front rest (codes "," ∷ sp),
  h0,
  further-more rest sp ts s hs h,
)

spot-path : (k : Kind) (b sp : Texts) (spots : List Spot) (s : Spot) → Opening k b spots → SpellsSpot sp s → OpenPath k (b ++ sp) (spots ++ s ∷ [])
spot-path k b sp spots s (w, front, inner, e, is, h) hs = (
  w,
  front,
  inner ++ sp,
  ap (λ (x : Texts). x ++ sp) e ∙ ap (λ (x : Texts). w ∷ x) (append_assoc front (codes "(" ∷ inner) sp),
  is,
  listed-more inner sp spots s h hs,
)

draft-path : (d : Draft) (b sp : Texts) (s : Spot) → Opening (kind_of d) b (path_of d) → SpellsSpot sp s → OpenPath (kind_of (with_spot d s)) (b ++ sp) (path_of (with_spot d s))
draft-path (draft.Line spots) b sp s h hs = spot-path kind.Line b sp spots s h hs
draft-path (draft.Polygon rings ring) b sp s h hs = spot-path kind.Polygon b sp ring s h hs

comma-path : (k : Kind) (b : Texts) (spots : List Spot) → OpenPath k b spots → Opening k (b ++ codes "," ∷ []) spots
comma-path k b [] (w, front, inner, e, is, h) = absurd h
comma-path k b (s ∷ ss) (w, front, inner, e, is, h) = (
  w,
  front,
  inner ++ codes "," ∷ [],
  ap (λ (x : Texts). x ++ codes "," ∷ []) e ∙ ap (λ (x : Texts). w ∷ x) (append_assoc front (codes "(" ∷ inner) (codes "," ∷ [])),
  is,
  (inner, refl, h),
)

ring-path : (k : Kind) (b : Texts) (spots : List Spot) → OpenPath k b spots → Opening k (((b ++ codes ")" ∷ []) ++ codes "," ∷ []) ++ codes "(" ∷ []) []
ring-path k b spots (w, front, inner, e, is, h) = (
  w,
  ((front ++ codes "(" ∷ inner) ++ codes ")" ∷ []) ++ codes "," ∷ [],
  [],
  ap (λ (x : Texts). ((x ++ codes ")" ∷ []) ++ codes "," ∷ []) ++ codes "(" ∷ []) e,
  is,
  refl,
)

-- ---- before a spot, for which and whose followers there is this room
pub record Wants (b : Texts) (room : ℕ) (d : Draft) : Type 0 where
  pub leads : (more : Texts) (s : Shape) → FromSpot d more s → Spells (b ++ more) s
  pub count : numbers b + 2 * room ≡ 4096
  pub path : Opening (kind_of d) b (path_of d)

-- ---- after a spot, with this room for further ones
pub record Has (b : Texts) (room : ℕ) (d : Draft) : Type 0 where
  pub leads : (more : Texts) (s : Shape) → AfterSpot d more s → Spells (b ++ more) s
  pub count : numbers b + 2 * room ≡ 4096
  pub path : OpenPath (kind_of d) b (path_of d)

-- what ends a draft after a spot
closing : (d : Draft) → (used : Texts) × (s : Shape) × AfterSpot d used s
closing (draft.Line spots) = (codes ")" ∷ [], shapes.Line spots, line-closes spots)
closing (draft.Polygon rings ring) = (codes ")" ∷ codes ")" ∷ [], shapes.Polygon (rings ++ ring ∷ []), polygon-closes rings ring)

pub may-close : (b : Texts) (room : ℕ) (d : Draft) → Has b room d → MayStand b (codes ")")
may-close b room (draft.Line spots) h = ([], shapes.Line spots, h.leads (codes ")" ∷ []) (shapes.Line spots) (line-closes spots))
may-close b room (draft.Polygon rings ring) h =
    (codes ")" ∷ [], shapes.Polygon (rings ++ ring ∷ []), h.leads (codes ")" ∷ codes ")" ∷ []) (shapes.Polygon (rings ++ ring ∷ [])) (polygon-closes rings ring))

abbrev pub zero_spot : ℤ → Spot
zero_spot x = record { x = x; y = pos 0 }

pub spells-zero : (w : List ℕ) (x : ℤ) → coordinate w ≡ Ok x → SpellsSpot (w ∷ codes "0" ∷ []) (zero_spot x)
spells-zero w x e = (w, codes "0", refl, e, refl)

-- a spot may be next, and then its second number
wants-spot : (b : Texts) (room : ℕ) (d : Draft) (w : List ℕ) (x : ℤ) → coordinate w ≡ Ok x → Wants b room d → (rest : Texts) × (s : Shape) × Spells (b ++ w ∷ codes "0" ∷ rest) s
wants-spot b room d w x e h =
    let end = closing (with_spot d (zero_spot x)) in
    (end.0, end.1, h.leads (w ∷ codes "0" ∷ end.0) end.1 (spot-completes d (zero_spot x) (w ∷ codes "0" ∷ []) end.0 end.1 (spells-zero w x e) end.2))

pub wants-first : (b : Texts) (room : ℕ) (d : Draft) → Wants b room d → WantsNumber b
wants-first b room d h = let next = wants-spot b room d (codes "0") (pos 0) refl h in (codes "0" ∷ next.0, next.1, next.2)

pub wants-second : (b : Texts) (room : ℕ) (d : Draft) (w : List ℕ) (x : ℤ) → coordinate w ≡ Ok x → Wants b room d → WantsNumber (b ++ w ∷ [])
wants-second b room d w x e h =
    let next = wants-spot b room d w x e h in
    (next.0, next.1, subst (λ (t : Texts). Spells t next.1) (sym (one b w (codes "0" ∷ next.0))) next.2)

-- ---- from one to the other
pub has-spot : (b : Texts) (room : ℕ) (d : Draft) (v w : List ℕ) (s : Spot) → coordinate v ≡ Ok s.x → coordinate w ≡ Ok s.y →
    Wants b (suc room) d → Has ((b ++ v ∷ []) ++ w ∷ []) room (with_spot d s)
has-spot b room d v w s e f h =
    let spelled : SpellsSpot (v ∷ w ∷ []) s = (v, w, refl, e, f) in
    record {
      leads = λ more t g. subst (λ (x : Texts). Spells x t) (sym (two b v w more)) (h.leads (v ∷ w ∷ more) t (spot-completes d s (v ∷ w ∷ []) more t spelled g));
      count = omega (arith, h.count, numbers-more b v s.x e, numbers-more (b ++ v ∷ []) w s.y f);
      path = subst (λ (x : Texts). OpenPath (kind_of (with_spot d s)) x (path_of (with_spot d s))) (sym (one b v (w ∷ []))) (draft-path d b (v ∷ w ∷ []) s h.path spelled);
    }

pub wants-comma : (b : Texts) (room : ℕ) (d : Draft) → Has b room d → Wants (b ++ codes "," ∷ []) room d
wants-comma b room d h = record {
  leads = λ more t g. subst (λ (x : Texts). Spells x t) (sym (one b (codes ",") more)) (h.leads (codes "," ∷ more) t (comma-completes d more t g));
  count = ap (λ (n : ℕ). n + 2 * room) (numbers-same b (codes ",") refl) ∙ h.count;
  path = comma-path (kind_of d) b (path_of d) h.path;
}

pub wants-ring : (b : Texts) (room : ℕ) (rings : List (List Spot)) (ring : List Spot) → Has b room (draft.Polygon rings ring) →
    Wants (((b ++ codes ")" ∷ []) ++ codes "," ∷ []) ++ codes "(" ∷ []) room (draft.Polygon (rings ++ ring ∷ []) [])
wants-ring b room rings ring h = record {
  leads = λ more t g. subst (λ (x : Texts). Spells x t) (sym (three b (codes ")") (codes ",") (codes "(") more))
      (h.leads (codes ")" ∷ codes "," ∷ codes "(" ∷ more) t (ring-completes rings ring more t g));
  count =
      ap (λ (n : ℕ). n + 2 * room)
      (numbers-same ((b ++ codes ")" ∷ []) ++ codes "," ∷ []) (codes "(") refl ∙ numbers-same (b ++ codes ")" ∷ []) (codes ",") refl ∙ numbers-same b (codes ")") refl)
      ∙ h.count;
  path = ring-path kind.Polygon b ring h.path;
}

-- after a ring's bracket: the polygon's, or a comma and the bracket of a further ring
pub closed-last : (b : Texts) (room : ℕ) (rings : List (List Spot)) (ring : List Spot) → Has b room (draft.Polygon rings ring) → MayStand (b ++ codes ")" ∷ []) (codes ")")
closed-last b room rings ring h =
    let all : Shape = shapes.Polygon (rings ++ ring ∷ []) in
    ([], all, subst (λ (x : Texts). Spells x all) (sym (one b (codes ")") (codes ")" ∷ []))) (h.leads (codes ")" ∷ codes ")" ∷ []) all (polygon-closes rings ring)))

pub closed-open : (b : Texts) (room : ℕ) (rings : List (List Spot)) (ring : List Spot) → Has b room (draft.Polygon rings ring) → MayStand ((b ++ codes ")" ∷ []) ++ codes "," ∷ []) (codes "(")
closed-open b room rings ring h =
    let next = wants-first (((b ++ codes ")" ∷ []) ++ codes "," ∷ []) ++ codes "(" ∷ []) room (draft.Polygon (rings ++ ring ∷ []) []) (wants-ring b room rings ring h) in
    (codes "0" ∷ next.0, next.1, subst (λ (x : Texts). Spells x next.1) (one ((b ++ codes ")" ∷ []) ++ codes "," ∷ []) (codes "(") (codes "0" ∷ next.0)) next.2)
