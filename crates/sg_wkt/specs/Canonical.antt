-- The canonical text of each shape.
use Rattle.std.specs.Prelude.{ℕ, List, [], ◌∷◌, ◌++◌, flat_map, codes}
use Rattle.std.specs.Fmt.{signed_decimal}
use Rattle.sg_shape.specs.declared.spots.Spot.{Spot}
use Rattle.sg_shape.specs.declared.shapes.Kind.{Kind}
use Rattle.sg_shape.specs.declared.shapes.Kind.TheVariants as kind
use Rattle.sg_shape.specs.declared.shapes.Shape.{Shape}
use Rattle.sg_shape.specs.declared.shapes.Shape.TheVariants as shapes

-- the shape words
abbrev pub word_of : Kind → List ℕ
word_of kind.Point = codes "POINT"
word_of kind.Line = codes "LINESTRING"
word_of kind.Polygon = codes "POLYGON"

-- the texts of things, with a comma and a space between them
abbrev pub listed : {X : Type 0} → (X → List ℕ) → List X → List ℕ
listed text [] = []
listed text (x ∷ xs) = text x ++ flat_map (λ y. codes ", " ++ text y) xs

-- the numbers of a spot, with a space between them
abbrev pub spot_text : Spot → List ℕ
spot_text s = signed_decimal s.x ++ 32 ∷ signed_decimal s.y

-- spots in brackets
abbrev pub path_text : List Spot → List ℕ
path_text spots = codes "(" ++ listed spot_text spots ++ codes ")"

abbrev pub canonical : Shape → List ℕ
canonical (shapes.Empty kind) = word_of kind ++ codes " EMPTY"
canonical (shapes.Point spot) = codes "POINT (" ++ spot_text spot ++ codes ")"
canonical (shapes.Line path) = codes "LINESTRING " ++ path_text path
canonical (shapes.Polygon rings) = codes "POLYGON (" ++ listed path_text rings ++ codes ")"
