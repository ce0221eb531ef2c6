-- Faults in their own words, said of whole lists of tokens, with no word of how a text is read: what stands before a
-- token, and the token, decide what is wrong there.
use Rattle.std.specs.Prelude.{◌≡◌, ◌↔◌, ◌⊎◌, ℕ, ◌+◌, ◌*◌, ◌≤◌, ◌<◌, IsTrue, IsFalse, if◌then◌else◌, List, [], ◌∷◌, ◌++◌, length, take, drop, Result, Ok, Err, codes}
use Rattle.sg_shape.specs.declared.spots.Spot.{Spot}
use Rattle.sg_shape.specs.declared.shapes.Kind.{Kind}
use Rattle.sg_shape.specs.declared.shapes.Kind.TheVariants as kind
use Rattle.sg_shape.specs.declared.shapes.Shape.{Shape}
use Rattle.sg_shape.specs.Sound.{IsSound, coord_ok, is_open}
use Rattle.sg_wkt.specs.declared.faults.ReadShape.{ReadShape}
use Rattle.sg_wkt.specs.declared.faults.ReadShape.TheVariants as errors
use Rattle.sg_wkt.specs.declared.faults.WktFault.{WktFault}
use Rattle.sg_wkt.specs.declared.faults.WktKind.{WktKind}
use Rattle.sg_wkt.specs.declared.faults.WktKind.TheVariants as kinds
use Rattle.sg_wkt.specs.Tokens.{Token, Tokens, Ends, Begins, is_mark, tokens}
use Rattle.sg_wkt.specs.Numbers.{is_number, are_zeros, after_dot, value}
use Rattle.sg_wkt.specs.Grammar.{is_word, most_spots, shape_in}
use Rattle.sg_wkt.specs.Spelled.{Texts, Listed, SpellsSpot, Spells}
use Rattle.sg_wkt.specs.Canonical.{word_of}

-- ---- lists of tokens
-- these tokens, and then the rest
abbrev pub led_by : List Token → Tokens → Tokens
led_by [] rest = rest
led_by (t ∷ ts) rest = Begins t (led_by ts rest)

-- their bytes
abbrev pub bytes_of : List Token → Texts
bytes_of [] = []
bytes_of (t ∷ ts) = t.bytes ∷ bytes_of ts

-- how many of them are numbers
abbrev pub numbers : Texts → ℕ
numbers [] = 0
numbers (t ∷ ts) = if is_number t then 1 + numbers ts else numbers ts

-- ---- what may stand at a token, by the grammar alone: any number of spots, and open rings
-- texts that can be completed to ones that spell a shape
abbrev pub CanGoOn : Texts → Type 0
CanGoOn before = (rest : Texts) × (s : Shape) × Spells (before ++ rest) s

-- with this token next
abbrev pub MayStand : Texts → List ℕ → Type 0
MayStand before token = (rest : Texts) × (s : Shape) × Spells (before ++ token ∷ rest) s

-- a number may stand next; where one may, only a number may
abbrev pub WantsNumber : Texts → Type 0
WantsNumber before = MayStand before (codes "0")

-- a bracket or a comma may stand next
abbrev pub WantsMark : Texts → Type 0
WantsMark before = (byte : ℕ) × IsTrue (is_mark byte) × MayStand before (byte ∷ [])

-- texts that are read as a shape
abbrev pub AreRead : Texts → Type 0
AreRead ts = (s : Shape) × Spells ts s × IsSound s

-- texts that can be completed to ones that are read
abbrev pub CanBeRead : Texts → Type 0
CanBeRead before = (rest : Texts) × AreRead (before ++ rest)

-- There is room for four spots, as a ring needs, a half one included: fewer than 2,045 whole spots stand before.
abbrev pub HasFour : Texts → Type 0
HasFour before = numbers before < 2 * 2045

-- ---- the path that is open
-- The word of this kind stands first, and these spots stand after the last bracket.
abbrev pub OpenPath : Kind → Texts → List Spot → Type 0
OpenPath k before spots =
    (w : List ℕ) × (front inner : Texts) × (before ≡ w ∷ (front ++ codes "(" ∷ inner)) × IsTrue (is_word (word_of k) w)
    × Listed SpellsSpot inner spots

-- the fewest spots of a line, and of a ring
abbrev pub fewest : Kind → ℕ
fewest kind.Point = 1
fewest kind.Line = 2
fewest kind.Polygon = 4

-- ---- what is wrong with a token, after these texts
-- A number must stand, and there is room for one: fewer than 4,096 stand before.
abbrev pub HasRoom : Texts → Type 0
HasRoom before = WantsNumber before × (numbers before < 2 * most_spots)

abbrev pub Applies : WktKind → Texts → List ℕ → Type 0
-- first, and none of the shape words
Applies kinds.Keyword before token = (before ≡ []) × ((k : Kind) → IsFalse (is_word (word_of k) token))
-- where a number must stand, and none
Applies kinds.Number before token = HasRoom before × IsFalse (is_number token)
-- a number with a digit other than 0 after its dot
Applies kinds.Fraction before token = HasRoom before × IsTrue (is_number token) × IsFalse (are_zeros (after_dot token))
-- a whole number outside the limits of coordinates
Applies kinds.CoordOut before token =
    HasRoom before × IsTrue (is_number token) × IsTrue (are_zeros (after_dot token)) × IsFalse (coord_ok (value token))
-- whatever it is, where a number must stand and 4,096 stand before
Applies kinds.TooMany before token = WantsNumber before × (numbers before ≡ 2 * most_spots)
-- where a bracket or a comma may stand, and nothing that may
Applies kinds.Punctuation before token = WantsMark before × ¬ MayStand before token
-- the bracket that ends a line or a ring of fewer spots than it needs
Applies kinds.TooFew before token =
    (token ≡ codes ")") × MayStand before token × (k : Kind) × (spots : List Spot) × OpenPath k before spots × (length spots < fewest k)
-- the bracket that ends a ring of enough spots, of which the last isn't the first
Applies kinds.RingOpen before token =
    (token ≡ codes ")") × MayStand before token × (spots : List Spot) × OpenPath kind.Polygon before spots
    × (fewest kind.Polygon ≤ length spots) × IsTrue (is_open spots)
-- after texts that are a whole shape
Applies kinds.After before token = AreRead before
-- no token is missing where there is one
Applies kinds.End before token = ⊥

-- A token decides: what stands behind it changes nothing, and no text is read in which it stands after these.
pub record Decides (before : List Token) (token : Token) (f : WktFault) : Type 0 where
  pub behind : (text : List ℕ) (more : Tokens) → tokens text ≡ led_by before (Begins token more) → shape_in text ≡ Err f
  pub refused : (more : Texts) → ¬ AreRead (bytes_of before ++ token.bytes ∷ more)

-- The fault stands at a token, at its first byte; what is wrong is said there of it, and it decides.
pub record IsAtToken (text : List ℕ) (f : WktFault) : Type 0 where
  pub before : List Token
  pub token : Token
  pub rest : Tokens
  pub splits : tokens text ≡ led_by before (Begins token rest)
  pub place : f.at ≡ token.at
  -- the token's bytes stand there, one or more
  pub bytes : take (length token.bytes) (drop f.at text) ≡ token.bytes
  pub some : 1 ≤ length token.bytes
  pub applies : Applies f.kind (bytes_of before) token.bytes
  pub completed : HasFour (bytes_of before) → CanBeRead (bytes_of before)
  pub decides : Decides before token f

-- The text ends where a token must stand: its tokens can be gone on with, and spell no shape as they are.
pub record IsAtEnd (text : List ℕ) (f : WktFault) : Type 0 where
  pub before : List Token
  pub splits : tokens text ≡ led_by before (Ends (length text))
  pub place : f.at ≡ length text
  pub end : f.kind ≡ kinds.End
  pub goes_on : CanGoOn (bytes_of before)
  pub completed : HasFour (bytes_of before) → CanBeRead (bytes_of before)
  pub spells_none : (s : Shape) → ¬ Spells (bytes_of before) s

abbrev pub IsFault : List ℕ → WktFault → Type 0
IsFault text f = IsAtToken text f ⊎ IsAtEnd text f

-- Where a call's answer is a fault, it is this.
abbrev pub OnFault : Result Shape ReadShape → (WktFault → Type 0) → Type 0
OnFault (Ok s) P = Unit {0}
OnFault (Err (errors.Fault f)) P = P f
OnFault (Err errors.OutOfMemory) P = Unit {0}
