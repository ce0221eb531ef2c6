-- Ranks of sessions.
use Rattle.std.specs.Prelude.{ℕ, zero, suc, pos, List, slice_index_or}
use Rattle.sg_waits.specs.declared.ranks.Rank.{Rank}

abbrev pub no_rank : Rank
no_rank = record { priority = pos 0; cost = 0 }

-- the rank of a session, in a list of ranks from session 1 on
abbrev pub rank_of : List Rank → ℕ → Rank
rank_of rs zero = no_rank
rank_of rs (suc i) = slice_index_or rs i no_rank
