-- What the code sees of a text: the tokens that are left at a cursor, and what a call that reads them gives.
use Rattle.std.specs.Prelude.{◌≡◌, drop, Result, Ok, Err}
use Rattle.sg_wkt.specs.declared.faults.ReadShape.{ReadShape}
use Rattle.sg_wkt.specs.declared.faults.ReadShape.TheVariants as errors
use Rattle.sg_wkt.specs.declared.faults.WktFault.{WktFault}
use Rattle.sg_wkt.specs.declared.tokens.Cursor.{Cursor}
use Rattle.sg_wkt.specs.declared.tokens.Span.{Span}
use Rattle.sg_wkt.specs.Tokens.{Token, Tokens, tokens_from}

-- the tokens that are left
abbrev pub left : Cursor → Tokens
left c = tokens_from c.at (drop c.at c.text.now)

-- a token as the code has it
abbrev pub seen : Span → Token
seen s = record { at = s.at; bytes = s.bytes.now }

-- What a call returned, seen by view, is what reading gives.
abbrev pub Gives : {X Y : Type 0} → (X → Y) → Result X WktFault → Result Y WktFault → Type 0
Gives view (Ok x) read = read ≡ Ok (view x)
Gives view (Err e) read = read ≡ Err e

-- The same for a call that takes memory, unless that ran out.
abbrev pub Reads : {X Y : Type 0} → (X → Y) → Result X ReadShape → Result Y WktFault → Type 0
Reads view (Ok x) read = read ≡ Ok (view x)
Reads view (Err (errors.Fault f)) read = read ≡ Err f
Reads view (Err errors.OutOfMemory) read = Unit {0}
