-- What a call of the program has done at each of its ends, before it tells of it.
use Rattle.std.specs.Prelude.{◌≡◌, true, false, Option, None}
use Rattle.sg_command.specs.declared.forms.Form.{Form}
use Rattle.sg_program.specs.Asked.{reads_script}
use Rattle.sg_program.specs.Calls.{Device, HasFailed, IsCutShort, IsDone, IsUntouched}
use Rattle.sg_program.specs.Runs.{IsRefused, IsTooLong}
use Rattle.sg_program.specs.declared.status.Exit.{Exit}
use Rattle.sg_program.specs.declared.status.Exit.TheVariants.{Done, Usage, Refused, TooLong, ReadFault, WriteFault, OutOfMemory}

abbrev pub EndsAs : Option Form → Device → Device → Exit → Type 0
EndsAs form source out Done = IsDone form source out
EndsAs form source out Usage = (form ≡ None) × IsUntouched out
EndsAs form source out (Refused line) = (reads_script form ≡ true) × IsRefused source.before source.after line.items × IsUntouched out
EndsAs form source out TooLong = (reads_script form ≡ true) × IsTooLong source.before source.after × IsUntouched out
EndsAs form source out ReadFault = (reads_script form ≡ true) × HasFailed source × IsUntouched out
EndsAs form source out WriteFault = HasFailed out × IsCutShort form source out
EndsAs form source out OutOfMemory = IsUntouched out

pub record IsEnd (form : Option Form) (source out : Device) (end : Exit) : Type 0 where
  pub ended : EndsAs form source out end
  pub unread : reads_script form ≡ false → IsUntouched source
