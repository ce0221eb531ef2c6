-- What holds between reading and writing.
use Rattle.std.specs.Prelude.{◌≡◌, ◌↔◌, ℕ, nat_le, Bool, ◌&&◌, IsTrue, List, Ok, Err, Contains}
use Rattle.std.specs.List.{list_all}
use Rattle.sg_shape.specs.declared.shapes.Shape.{Shape}
use Rattle.sg_shape.specs.Sound.{IsSound}
use Rattle.sg_wkt.specs.Tokens.{tokens}
use Rattle.sg_wkt.specs.Grammar.{shape_in}
use Rattle.sg_wkt.specs.Spelled.{Spells, texts_of}
use Rattle.sg_wkt.specs.Canonical.{canonical}
use Rattle.sg_wkt.specs.declared.faults.WktFault.{WktFault}
use Rattle.sg_wkt.specs.Faults.{IsFault}

-- what was written is read as the same shape
abbrev pub ReadsBack : Type 0
ReadsBack = (s : Shape) → IsSound s → shape_in (canonical s) ≡ Ok s

-- two shapes have two texts
abbrev pub TellsApart : Type 0
TellsApart = (s t : Shape) → IsSound s → IsSound t → canonical s ≡ canonical t → s ≡ t

-- printable ASCII
abbrev pub is_printable : ℕ → Bool
is_printable b = nat_le 32 b && nat_le b 126

-- a canonical text is printable ASCII, with no blank but the space
abbrev pub IsPrintable : Type 0
IsPrintable = (s : Shape) → IsSound s → IsTrue (list_all is_printable (canonical s))

-- and has no line feed
abbrev pub IsOneLine : Type 0
IsOneLine = (s : Shape) → IsSound s → ¬ Contains (canonical s) 10

-- what is read is sound
abbrev pub ReadsSound : Type 0
ReadsSound = (text : List ℕ) (s : Shape) → shape_in text ≡ Ok s → IsSound s

-- a text is read exactly where its tokens spell a sound shape, and as that shape
abbrev pub ReadsExactly : Type 0
ReadsExactly = (text : List ℕ) (s : Shape) → shape_in text ≡ Ok s ↔ (Spells (texts_of (tokens text)) s × IsSound s)

-- the fault of a text, by its own words
abbrev pub TellsFaults : Type 0
TellsFaults = (text : List ℕ) (f : WktFault) → shape_in text ≡ Err f → IsFault text f
