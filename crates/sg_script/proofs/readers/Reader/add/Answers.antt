use Rattle.std.proofs.Common.{sym, subst}
use Rattle.sg_script.specs.declared.words.Line.{Line}
use Rattle.sg_script.specs.declared.words.Line.TheVariants as line
use Rattle.sg_script.specs.Fits.{Fits}
use Rattle.sg_script.specs.Grammar.{Draft, place_of}
use Rattle.sg_script.specs.Plans.{IsOrderOf, numbers_of}
use Rattle.sg_script.proofs.readers.Reader.add.Goals as goal

pub add_turns-requires : goal.add_turns-requires
add_turns-requires c =
    let fits : Fits (place_of c.args.self.now) c.args.self.now.plan (line.Schedule c.in-Schedule.turns) =
    subst (λ (l : Line). Fits (place_of c.args.self.now) c.args.self.now.plan l) c.in-Schedule.is c.requires in
    subst (λ (d : Draft). IsOrderOf (numbers_of d.plan.sessions) c.in-Schedule.turns) (sym c.self.view_is) fits
