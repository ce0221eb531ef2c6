-- The events of a trace, told by a script and its labels.
use Rattle.std.specs.Prelude.{◌≡◌, List, [], ◌∷◌, ◌++◌, unwrap_or, refl}
use Rattle.std.proofs.Common.{ap, ◌∙◌}
use Rattle.sg_plain.specs.declared.statements.Statement.TheVariants.{Delete}
use Rattle.sg_trace.specs.declared.labels.Label.{Label}
use Rattle.sg_trace.specs.declared.labels.Label.TheVariants as label
use Rattle.sg_trace.specs.Traces.{Stage, State, Event, Begin, Ask, Take, Put, Wait, Victim, Answered, Commit, Rollback, state, label_of, labels_of}
use Rattle.sg_trace.specs.Scripts.{Script, IsDue, Follows, upcoming}

-- the event of a label, where the state is this
abbrev event_by : Script → State → Label → Event
event_by ps z (label.Begin s t) = Begin s t
event_by ps z (label.Ask s n) = Ask s n (unwrap_or (upcoming ps (z.of s) s) (Delete 0))
event_by ps z (label.Take s k m) = Take s k m
event_by ps z (label.Put s k m) = Put s k m
event_by ps z (label.Wait s k m b) = Wait s k m b
event_by ps z (label.Victim s c) = Victim s c
event_by ps z (label.Answer s a) = Answered s a
event_by ps z (label.Commit s p) = Commit s p
event_by ps z (label.Rollback s c) = Rollback s c

-- the events of labels, on top of these
abbrev told_on : Script → Stage → List Event → List Label → List Event
told_on ps w es [] = es
told_on ps w es (l ∷ ls) = told_on ps w (event_by ps (state w es) l ∷ es) ls

abbrev pub told : Script → Stage → List Label → List Event
told ps w ls = told_on ps w [] ls

event_is : (ps : Script) (z : State) (e : Event) → IsDue ps z e → event_by ps z (label_of e) ≡ e
event_is ps z (Begin s t) d = refl
event_is ps z (Ask s n st) d = ap (λ o. Ask s n (unwrap_or o (Delete 0))) d
event_is ps z (Take s k m) d = refl
event_is ps z (Put s k m) d = refl
event_is ps z (Wait s k m b) d = refl
event_is ps z (Victim s c) d = refl
event_is ps z (Answered s a) d = refl
event_is ps z (Commit s p) d = refl
event_is ps z (Rollback s c) d = refl

told_more : (ps : Script) (w : Stage) (es : List Event) (ls : List Label) (l : Label) → told_on ps w es (ls ++ l ∷ []) ≡ event_by ps (state w (told_on ps w es ls)) l ∷ told_on ps w es ls
told_more ps w es [] l = refl
told_more ps w es (k ∷ ls) l = told_more ps w (event_by ps (state w es) k ∷ es) ls l

-- a script's trace is told by its labels
pub told_is : (ps : Script) (w : Stage) (es : List Event) → Follows ps w es → told ps w (labels_of es) ≡ es
told_is ps w [] f = refl
told_is ps w (e ∷ es) f =
    let ih = told_is ps w es f.0 in
    told_more ps w [] (labels_of es) (label_of e)
    ∙ (ap (λ (xs : List Event). event_by ps (state w xs) (label_of e) ∷ xs) ih ∙ ap (λ (x : Event). x ∷ es) (event_is ps (state w es) e f.1))
