use Rattle.std.proofs.Common.{◌∙◌, map}
use Rattle.clap.specs.Words.{app_of, found_of, rows_of}
use Rattle.sg_command.proofs.Told.{found_none, found_ok, simple, told}
use Rattle.sg_command.proofs.usage.parsed.Goals as goal

pub returns-in-Ok : goal.returns-in-Ok
returns-in-Ok c = found_ok (app_of c.args.command) (map (λ word. word.now) c.args.words.now) (rows_of (found_of c.in-Ok.matches))
    (c.in-Ok.ensures.matches (simple (app_of c.args.command) c.requires)).0 (c.in-Ok.ensures.kinds (told (app_of c.args.command) c.requires))

pub returns : goal.returns
returns c = found_none (app_of c.args.command) (map (λ word. word.now) c.args.words.now) c.in-Err.error
    (c.in-Err.ensures.kinds (told (app_of c.args.command) c.requires)) (λ m. c.in_default.not-OutOfMemory (c.kind.ensures ∙ m))
