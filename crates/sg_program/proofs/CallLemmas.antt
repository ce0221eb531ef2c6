-- What a call's end says of its status, once it has told of it.
use Rattle.std.proofs.Common.{◌≡◌, ◌≢◌, inl, inr, ℕ, List, [], true, Option, Some, None, refl, sym, subst, ap, ◌∙◌}
use Rattle.sg_command.specs.declared.forms.Form.{Form}
use Rattle.sg_command.specs.declared.forms.Form.TheVariants.{Replay, Threads, Make}
use Rattle.sg_script.specs.Plans.{Plan}
use Rattle.sg_program.specs.Asked.{is_make, reads_script}
use Rattle.sg_program.specs.Calls.{Device, IsCall, IsCutShort, IsDone, IsSaid, IsUntouched}
use Rattle.sg_program.specs.Ends.{EndsAs, IsEnd}
use Rattle.sg_program.specs.Runs.{GaveScript}
use Rattle.sg_program.specs.Statuses.{message_of, status_of}
use Rattle.sg_program.specs.declared.status.Exit.{Exit}
use Rattle.sg_program.specs.declared.status.Exit.TheVariants as ending
use Rattle.sg_program.specs.declared.status.Status.{Status}
use Rattle.sg_program.specs.declared.status.Status.TheVariants.{Done, Usage, Script, ReadFault, WriteFault, OutOfMemory}
use Rattle.sg_program.proofs.CauseLemmas.{gave_none, refused_script, long_script}

-- ---- one message a status, but for scripts that are refused
abbrev message_by : Status → List ℕ
message_by Done = message_of ending.Done
message_by Usage = message_of ending.Usage
message_by Script = []
message_by ReadFault = message_of ending.ReadFault
message_by WriteFault = message_of ending.WriteFault
message_by OutOfMemory = message_of ending.OutOfMemory

by_status : (end : Exit) → status_of end ≢ Script → message_of end ≡ message_by (status_of end)
by_status ending.Done n = refl
by_status ending.Usage n = refl
by_status (ending.Refused line) n = absurd (n refl)
by_status ending.TooLong n = absurd (n refl)
by_status ending.ReadFault n = refl
by_status ending.WriteFault n = refl
by_status ending.OutOfMemory n = refl

one_message : (end other : Exit) → status_of end ≡ status_of other → status_of end ≢ Script → message_of end ≡ message_of other
one_message end other same n =
    by_status end n ∙ (ap message_by same ∙ sym (by_status other (λ e. n (same ∙ e))))

-- ---- what was asked for
unasked : (form : Option Form) → form ≡ None → reads_script form ≡ true → ⊥
unasked form none reads = let e = subst (λ (f : Option Form). reads_script f ≡ true) none reads in absurd (cc)

unmade : (form : Option Form) → form ≡ None → is_make form ≡ true → ⊥
unmade form none makes = let e = subst (λ (f : Option Form). is_make f ≡ true) none makes in absurd (cc)

either : (form : Option Form) → reads_script form ≡ true → is_make form ≡ true → ⊥
either None reads makes = absurd (cc)
either (Some (Replay workers labels)) reads makes = absurd (cc)
either (Some (Threads workers labels trace)) reads makes = absurd (cc)
either (Some (Make seed rows sessions)) reads makes = absurd (cc)

-- a script was given where one was asked for and text was printed
done_gave : (form : Option Form) (source out : Device) → reads_script form ≡ true → IsDone form source out → (plan : Plan) × GaveScript source.before source.after plan
done_gave None source out reads d = absurd d
done_gave (Some (Replay workers labels)) source out reads d = (d.plan, record { bytes = d.bytes; given = d.given; script = d.script })
done_gave (Some (Threads workers labels trace)) source out reads d = (d.plan, d.given)
done_gave (Some (Make seed rows sessions)) source out reads d = absurd (cc)

cut_gave : (form : Option Form) (source out : Device) → reads_script form ≡ true → IsCutShort form source out → (plan : Plan) × GaveScript source.before source.after plan
cut_gave None source out reads d = absurd d
cut_gave (Some (Replay workers labels)) source out reads d = (d.plan, record { bytes = d.bytes; given = d.given; script = d.script })
cut_gave (Some (Threads workers labels trace)) source out reads d = (d.plan, d.given)
cut_gave (Some (Make seed rows sessions)) source out reads d = absurd (cc)

-- ---- the whole
call_of : (form : Option Form) (source out err : Device) (end : Exit) → IsEnd form source out end → IsSaid err (message_of end) → IsCall form source out err (status_of end)
call_of form source out err ending.Done h told = record {
  done = λ e. h.ended;
  usage = λ e. absurd (cc);
  misuse = λ none. absurd (subst (λ (f : Option Form). IsDone f source out) none h.ended);
  script = λ e. absurd (cc);
  read = λ e. absurd (cc);
  write = λ e. absurd (cc);
  cut = λ e. absurd (cc);
  nothing = λ n m. absurd (n refl);
  unread = h.unread;
  said = λ other same n. subst (IsSaid err) (one_message ending.Done other same n) told;
  complete = λ reads holds calm quiet. inl refl;
  refuses = λ reads holds calm. let g = done_gave form source out reads h.ended in absurd (gave_none source.before source.after g.1.bytes g.0 holds g.1.given g.1.script);
  makes = λ makes quiet. inl refl;
}
call_of form source out err ending.Usage h told = record {
  done = λ e. absurd (cc);
  usage = λ e. h.ended.0;
  misuse = λ none. inl refl;
  script = λ e. absurd (cc);
  read = λ e. absurd (cc);
  write = λ e. absurd (cc);
  cut = λ e. absurd (cc);
  nothing = λ n m. h.ended.1;
  unread = h.unread;
  said = λ other same n. subst (IsSaid err) (one_message ending.Usage other same n) told;
  complete = λ reads holds calm quiet. absurd (unasked form h.ended.0 reads);
  refuses = λ reads holds calm. absurd (unasked form h.ended.0 reads);
  makes = λ makes quiet. absurd (unmade form h.ended.0 makes);
}
call_of form source out err (ending.Refused line) h told = record {
  done = λ e. absurd (cc);
  usage = λ e. absurd (cc);
  misuse = λ none. absurd (unasked form none h.ended.0);
  script = λ e. (h.ended.0, inl (line.items, h.ended.1, told));
  read = λ e. absurd (cc);
  write = λ e. absurd (cc);
  cut = λ e. absurd (cc);
  nothing = λ n m. h.ended.2;
  unread = h.unread;
  said = λ other same n. absurd (n refl);
  complete = λ reads holds calm quiet. absurd (refused_script source.before source.after line.items holds h.ended.1);
  refuses = λ reads holds calm. inl refl;
  makes = λ makes quiet. absurd (either form h.ended.0 makes);
}
call_of form source out err ending.TooLong h told = record {
  done = λ e. absurd (cc);
  usage = λ e. absurd (cc);
  misuse = λ none. absurd (unasked form none h.ended.0);
  script = λ e. (h.ended.0, inr (h.ended.1, told));
  read = λ e. absurd (cc);
  write = λ e. absurd (cc);
  cut = λ e. absurd (cc);
  nothing = λ n m. h.ended.2;
  unread = h.unread;
  said = λ other same n. absurd (n refl);
  complete = λ reads holds calm quiet. absurd (long_script source.before source.after holds h.ended.1);
  refuses = λ reads holds calm. inl refl;
  makes = λ makes quiet. absurd (either form h.ended.0 makes);
}
call_of form source out err ending.ReadFault h told = record {
  done = λ e. absurd (cc);
  usage = λ e. absurd (cc);
  misuse = λ none. absurd (unasked form none h.ended.0);
  script = λ e. absurd (cc);
  read = λ e. (h.ended.0, h.ended.1);
  write = λ e. absurd (cc);
  cut = λ e. absurd (cc);
  nothing = λ n m. h.ended.2;
  unread = h.unread;
  said = λ other same n. subst (IsSaid err) (one_message ending.ReadFault other same n) told;
  complete = λ reads holds calm quiet. absurd (calm h.ended.1);
  refuses = λ reads holds calm. absurd (calm h.ended.1);
  makes = λ makes quiet. absurd (either form h.ended.0 makes);
}
call_of form source out err ending.WriteFault h told = record {
  done = λ e. absurd (cc);
  usage = λ e. absurd (cc);
  misuse = λ none. absurd (subst (λ (f : Option Form). IsCutShort f source out) none h.ended.1);
  script = λ e. absurd (cc);
  read = λ e. absurd (cc);
  write = λ e. h.ended.0;
  cut = λ e. h.ended.1;
  nothing = λ n m. absurd (m refl);
  unread = h.unread;
  said = λ other same n. subst (IsSaid err) (one_message ending.WriteFault other same n) told;
  complete = λ reads holds calm quiet. absurd (quiet h.ended.0);
  refuses = λ reads holds calm. let g = cut_gave form source out reads h.ended.1 in absurd (gave_none source.before source.after g.1.bytes g.0 holds g.1.given g.1.script);
  makes = λ makes quiet. absurd (quiet h.ended.0);
}
call_of form source out err ending.OutOfMemory h told = record {
  done = λ e. absurd (cc);
  usage = λ e. absurd (cc);
  misuse = λ none. inr refl;
  script = λ e. absurd (cc);
  read = λ e. absurd (cc);
  write = λ e. absurd (cc);
  cut = λ e. absurd (cc);
  nothing = λ n m. h.ended;
  unread = h.unread;
  said = λ other same n. subst (IsSaid err) (one_message ending.OutOfMemory other same n) told;
  complete = λ reads holds calm quiet. inr refl;
  refuses = λ reads holds calm. inr refl;
  makes = λ makes quiet. inr refl;
}

-- the end, what was said of it, and the status that came of it
pub told_call : (form : Option Form) (source out err : Device) (end : Exit) (message : List ℕ) (status : Status) → IsEnd form source out end → message ≡ message_of end
    → IsSaid err message → status ≡ status_of end → IsCall form source out err status
told_call form source out err end message status ended is said same =
    subst (IsCall form source out err) (sym same) (call_of form source out err end ended (subst (IsSaid err) is said))

-- the same where nobody looked at the source
pub told_make : (form : Option Form) (source out err : Device) (end : Exit) (message : List ℕ) (status : Status) → IsUntouched source → ((s : Device) → EndsAs form s out end)
    → message ≡ message_of end → IsSaid err message → status ≡ status_of end → IsCall form source out err status
told_make form source out err end message status untouched ended is said same =
    told_call form source out err end message status (record { ended = ended source; unread = λ e. untouched }) is said same
