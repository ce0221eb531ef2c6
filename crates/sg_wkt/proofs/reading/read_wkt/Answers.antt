use Rattle.std.proofs.Common.{subst, List, ℕ, Result, Ok, Err}
use Rattle.std.specs.Prelude.{IfOk}
use Rattle.sg_shape.specs.Sound.{IsSound}
use Rattle.sg_shape.specs.declared.shapes.Shape.{Shape}
use Rattle.sg_wkt.specs.declared.faults.ReadShape.{ReadShape}
use Rattle.sg_wkt.specs.Grammar.{Answers, lone_shape, shape_in}
use Rattle.sg_wkt.specs.Tokens.{Tokens}
use Rattle.sg_wkt.specs.declared.faults.ReadShape.TheVariants as errors
use Rattle.sg_wkt.specs.Faults.{IsFault, OnFault}
use Rattle.sg_wkt.proofs.FaultLaws.{shape_in-faults}
use Rattle.sg_wkt.proofs.Sound.{IsSound-shape_in}
use Rattle.sg_wkt.proofs.reading.read_wkt.Goals as goal

sound_answer : (text : List ℕ) (r : Result Shape ReadShape) → Answers r (shape_in text) → IfOk r IsSound
sound_answer text (Ok s) h = IsSound-shape_in text s h
sound_answer text (Err e) h = tt

pub returns-clause-sound : goal.returns-clause-sound
returns-clause-sound c = sound_answer c.args.text.now c.lone_shape.result
    (subst (λ (ts : Tokens). Answers c.lone_shape.result (lone_shape ts)) c.new.ensures c.lone_shape.ensures)

fault_answer : (text : List ℕ) (r : Result Shape ReadShape) → Answers r (shape_in text) → OnFault r (IsFault text)
fault_answer text (Ok s) h = tt
fault_answer text (Err (errors.Fault f)) h = shape_in-faults text f h
fault_answer text (Err errors.OutOfMemory) h = tt

pub returns-clause-fault : goal.returns-clause-fault
returns-clause-fault c = fault_answer c.args.text.now c.lone_shape.result
    (subst (λ (ts : Tokens). Answers c.lone_shape.result (lone_shape ts)) c.new.ensures c.lone_shape.ensures)
