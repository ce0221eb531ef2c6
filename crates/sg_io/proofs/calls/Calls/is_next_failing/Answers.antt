use Rattle.sg_io.proofs.Numbering.{Contains-raised}
use Rattle.sg_io.proofs.calls.Calls.is_next_failing.Goals as goal

pub returns-clause-listed : goal.returns-clause-listed
returns-clause-listed c =
    let small = rw c.as_slice.ensures.value at c.is_listed.ensures.small in
    let listed = rw (c.as_slice.ensures.value, c.saturating_add-self.ensures) at c.is_listed.ensures.listed in
    let same = Contains-raised c.args.self.now.fails.items c.args.self.now.made small in
    (λ t. same.0 (listed.0 t), λ h. listed.1 (same.1 h))
