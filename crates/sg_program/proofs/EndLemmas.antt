-- From what reading and printing answered to the end of the call.
use Rattle.std.proofs.Common.{◌≡◌, ◌⊎◌, inl, inr, ℕ, ◌<◌, Bool, true, List, length, take, Option, Some, refl, sym, subst}
use Rattle.std.specs.Prelude.{IfSome}
use Rattle.std.specs.Io.KnownBytes.{Appends}
use Rattle.sg_command.specs.declared.forms.Form.{Form}
use Rattle.sg_command.specs.declared.forms.Form.TheVariants.{Replay, Threads, Make}
use Rattle.sg_script.specs.Plans.{Plan}
use Rattle.sg_program.specs.Asked.{as_make, reads_script}
use Rattle.sg_program.specs.Calls.{Device, HasFailed, IsCutShort, IsDone, IsUntouched}
use Rattle.sg_program.specs.Ends.{EndsAs, IsEnd}
use Rattle.sg_program.specs.Makes.{IsMadeText}
use Rattle.sg_program.specs.Runs.{GaveScript, IsRefused, IsRunText, IsTooLong}
use Rattle.sg_program.specs.Statuses.{is_of_reading, refusal_in}
use Rattle.sg_program.specs.Threaded.{IsThreadText}
use Rattle.sg_program.specs.declared.status.Exit.{Exit}
use Rattle.sg_program.specs.declared.status.Exit.TheVariants as ending

-- there was no script to be had
pub unread_end : (form : Option Form) (source out : Device) (end : Exit) → reads_script form ≡ true → IsUntouched out → is_of_reading end ≡ true
    → IfSome (refusal_in end) (IsRefused source.before source.after) → (end ≡ ending.TooLong → IsTooLong source.before source.after)
    → (end ≡ ending.ReadFault → HasFailed source) → EndsAs form source out end
unread_end form source out ending.Done reads out_same only refused too_long read = absurd (cc)
unread_end form source out ending.Usage reads out_same only refused too_long read = absurd (cc)
unread_end form source out (ending.Refused line) reads out_same only refused too_long read = (reads, refused, out_same)
unread_end form source out ending.TooLong reads out_same only refused too_long read = (reads, too_long refl, out_same)
unread_end form source out ending.ReadFault reads out_same only refused too_long read = (reads, read refl, out_same)
unread_end form source out ending.WriteFault reads out_same only refused too_long read = absurd (cc)
unread_end form source out ending.OutOfMemory reads out_same only refused too_long read = out_same

-- the front of the text, and not all of it
abbrev pub HasFront : Device → List ℕ → Type 0
HasFront out text = (sent : ℕ) × (sent < length text) × Appends out.before out.after (take sent text)

-- it was printed, or the front of it
pub printed_end : (form : Option Form) (source out : Device) (text : List ℕ) (end : Exit) → (end ≡ ending.Done) ⊎ (end ≡ ending.WriteFault)
    → (end ≡ ending.Done → Appends out.before out.after text) → (end ≡ ending.WriteFault → HasFailed out) → (end ≡ ending.WriteFault → HasFront out text)
    → (Appends out.before out.after text → IsDone form source out) → (HasFront out text → IsCutShort form source out) → EndsAs form source out end
printed_end form source out text end only done write cut all front = elim only [
  | inl d ↦ subst (EndsAs form source out) (sym d) (all (done d))
  | inr w ↦ subst (EndsAs form source out) (sym w) (write w, front (cut w))
]

-- ---- what was printed
module _ (source out : Device) (plan : Plan) (text : List ℕ) (given : GaveScript source.before source.after plan) where
  pub replay_done : (workers : ℕ) (labels : Bool) → IsRunText plan labels text → Appends out.before out.after text → IsDone (Some (Replay workers labels)) source out
  replay_done workers labels run printed = record {
    bytes = given.bytes;
    plan = plan;
    told = run.told;
    given = given.given;
    script = given.script;
    run = run.run;
    fits = run.fits;
    printed = subst (λ (t : List ℕ). Appends out.before out.after t) run.is printed;
  }

  pub replay_cut : (workers : ℕ) (labels : Bool) → IsRunText plan labels text → HasFront out text → IsCutShort (Some (Replay workers labels)) source out
  replay_cut workers labels run front = record {
    bytes = given.bytes;
    plan = plan;
    told = run.told;
    sent = front.0;
    given = given.given;
    script = given.script;
    run = run.run;
    fits = run.fits;
    short = subst (λ (t : List ℕ). front.0 < length t) run.is front.1;
    printed = subst (λ (t : List ℕ). Appends out.before out.after (take front.0 t)) run.is front.2;
  }

  pub threads_done : (workers : ℕ) (labels trace : Bool) → IsThreadText plan labels trace text → Appends out.before out.after text → IsDone (Some (Threads workers labels trace)) source out
  threads_done workers labels trace run printed = record { plan = plan; text = text; given = given; text_is = run; printed = printed }

  pub threads_cut : (workers : ℕ) (labels trace : Bool) → IsThreadText plan labels trace text → HasFront out text → IsCutShort (Some (Threads workers labels trace)) source out
  threads_cut workers labels trace run front = record { plan = plan; text = text; sent = front.0; given = given; text_is = run; short = front.1; printed = front.2 }

module _ (source out : Device) (seed rows sessions : ℕ) (text : List ℕ) (made : IsMadeText seed rows sessions text) where
  pub make_done : Appends out.before out.after text → IsDone (Some (Make seed rows sessions)) source out
  make_done printed = record { text = text; made = made; printed = printed }

  pub make_cut : HasFront out text → IsCutShort (Some (Make seed rows sessions)) source out
  make_cut front = record { text = text; sent = front.0; made = made; short = front.1; printed = front.2 }

-- ---- a script that was made without a look at the source
pub made_end : (form : Option Form) (seed rows sessions : ℕ) (source out : Device) (end : Exit) → IsUntouched source → Some (Make seed rows sessions) ≡ form
    → ((s : Device) → EndsAs (Some (Make seed rows sessions)) s out end) → IsEnd form source out end
made_end form seed rows sessions source out end same asked ended =
    subst (λ (f : Option Form). IsEnd f source out end) asked (record { ended = ended source; unread = λ e. same })

pub made_asked : (form : Option Form) (seed rows sessions : ℕ) (out : Device) (end : Exit) → Some (Make seed rows sessions) ≡ form
    → ((s : Device) → EndsAs (Some (Make seed rows sessions)) s out end) → (s : Device) → EndsAs (as_make form) s out end
made_asked form seed rows sessions out end asked ended s = subst (λ (f : Option Form). EndsAs (as_make f) s out end) asked (ended s)
