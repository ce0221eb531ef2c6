use Rattle.std.proofs.Common.{length}
use Rattle.sg_io.proofs.Pieces.{drop-piece, drop-end}
use Rattle.sg_io.proofs.memory_source.MemorySourceSource.read.Goals as goal

pub returns-clause-bytes : goal.returns-clause-bytes
returns-clause-bytes c =
    let bytes = rw c.as_slice.ensures.value at c.copy_front-count.ensures.bytes in
    let count = rw c.as_slice.ensures.value at c.copy_front-count.ensures.count in
    rw (← c.self.view_is) (
      drop-piece c.self.inside.bytes.items c.copy_front-count.new.into c.self.inside.given c.copy_front-count.result bytes,
      λ none some. drop-end c.self.inside.bytes.items c.self.inside.given c.self.inside.piece (length c.args.into.now) c.copy_front-count.result c.self.invariant.0 c.requires count none,
    )
