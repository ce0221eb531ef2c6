-- What it is to spell a shape, said of whole lists of tokens:
--
--   shape   = point | line | polygon
--   point   = POINT ( EMPTY | "(" spot ")" )
--   line    = LINESTRING ( EMPTY | "(" spot { "," spot } ")" )
--   polygon = POLYGON ( EMPTY | "(" ring { "," ring } ")" )
--   ring    = "(" spot { "," spot } ")"
--   spot    = number number
use Rattle.std.specs.Prelude.{◌≡◌, ℕ, IsTrue, List, [], ◌∷◌, ◌++◌, Ok, codes}
use Rattle.sg_shape.specs.declared.spots.Spot.{Spot}
use Rattle.sg_shape.specs.declared.shapes.Shape.{Shape}
use Rattle.sg_shape.specs.declared.shapes.Shape.TheVariants as shapes
use Rattle.sg_wkt.specs.Tokens.{Tokens, Ends, Begins}
use Rattle.sg_wkt.specs.Numbers.{coordinate}
use Rattle.sg_wkt.specs.Grammar.{is_word}
use Rattle.sg_wkt.specs.Canonical.{word_of}

-- the bytes of tokens, one list for each
abbrev pub Texts : Type 0
Texts = List (List ℕ)

abbrev pub texts_of : Tokens → Texts
texts_of (Ends at) = []
texts_of (Begins token rest) = token.bytes ∷ texts_of rest

-- { "," thing }
abbrev pub Further : {X : Type 0} → (Texts → X → Type 0) → Texts → List X → Type 0
Further Thing ts [] = ts ≡ []
Further Thing ts (x ∷ xs) = (front back : Texts) × (ts ≡ codes "," ∷ (front ++ back)) × Thing front x × Further Thing back xs

-- thing { "," thing }
abbrev pub Listed : {X : Type 0} → (Texts → X → Type 0) → Texts → List X → Type 0
Listed Thing ts [] = ⊥
Listed Thing ts (x ∷ xs) = (front back : Texts) × (ts ≡ front ++ back) × Thing front x × Further Thing back xs

-- "(" thing ")"
abbrev pub Bracketed : {X : Type 0} → (Texts → X → Type 0) → Texts → X → Type 0
Bracketed Thing ts x = (inner : Texts) × (ts ≡ codes "(" ∷ (inner ++ codes ")" ∷ [])) × Thing inner x

-- number number
abbrev pub SpellsSpot : Texts → Spot → Type 0
SpellsSpot ts s = (x y : List ℕ) × (ts ≡ x ∷ y ∷ []) × (coordinate x ≡ Ok s.x) × (coordinate y ≡ Ok s.y)

-- "(" spot { "," spot } ")"
abbrev pub SpellsPath : Texts → List Spot → Type 0
SpellsPath ts spots = Bracketed (Listed SpellsSpot) ts spots

-- a word, in either case, and then the rest
abbrev pub Worded : List ℕ → (Texts → Type 0) → Texts → Type 0
Worded word Rest ts = (w : List ℕ) × (rest : Texts) × (ts ≡ w ∷ rest) × IsTrue (is_word word w) × Rest rest

abbrev pub Spells : Texts → Shape → Type 0
Spells ts (shapes.Empty kind) = Worded (word_of kind) (λ rest. Worded (codes "EMPTY") (λ none. none ≡ []) rest) ts
Spells ts (shapes.Point spot) = Worded (codes "POINT") (λ rest. Bracketed SpellsSpot rest spot) ts
Spells ts (shapes.Line path) = Worded (codes "LINESTRING") (λ rest. SpellsPath rest path) ts
Spells ts (shapes.Polygon rings) = Worded (codes "POLYGON") (λ rest. Bracketed (Listed SpellsPath) rest rings) ts
