use Rattle.std.proofs.Common.{◌≡◌, ◌≤◌, ◌+◌, ◌-◌, ◌++◌, List, ℕ, min, take, length, arith, length-append, length-take}
use Rattle.std.proofs.KnownBytes.{Consumes-trans}
use Rattle.sg_io.proofs.reading.read_all.Goals as goal

-- the bytes that were kept and those of one read more are at most one past the limit
length-one_read_more : (kept piece into : List ℕ) (len room count limit : ℕ) → len ≡ length kept → len ≤ limit → room ≡ min 8192 (limit + 1 - len) →
    length into ≡ length (take room piece) → count ≤ length into → length (kept ++ take count into) ≤ limit + 1
length-one_read_more kept piece into len room count limit is_len before least same within =
    omega (arith, length-append kept (take count into), length-take room piece, length-take count into)

pub returns-in_err-map_err-clause-prefix : goal.returns-in_err-map_err-clause-prefix
returns-in_err-map_err-clause-prefix g c = (
  c.pieces.bytes.items ++ take c.in-Ok.count c.read.new.into,
  Consumes-trans _ (g.S.Source.left c.pieces.source) _ _ _ c.pieces.invariant.so_far c.in-Ok.ensures.bytes.0,
  length-one_read_more c.pieces.bytes.items c.pieces.piece c.read.new.into c.pieces.bytes.len c.min-room.result c.in-Ok.count 67108864
      c.pieces.bytes.ok.0 c.pieces.invariant.within (rw c.len.ensures at c.min-room.ensures) c.read.auto.into c.in-Ok.ensures.bound.0,
)
