-- What the engine's new labels tell.
use Rattle.std.proofs.Common.{◌≡◌, ◌≢◌, ℕ, ◌-◌, ◌<◌, ◌≤◌, ◌^◌, List, [], ◌∷◌, ◌++◌, length, take, drop, refl, sym, ap, ◌∙◌, subst, arith, append_assoc, append-nil, length-append}
use Rattle.std.proofs.lemmas.List.{take_all, length-drop}
use Rattle.atomic_table.specs.Seated.{TableId}
use Rattle.sg_plain.specs.declared.statements.Statement.{Statement}
use Rattle.sg_trace.specs.declared.labels.Label.{Label}
use Rattle.sg_trace.specs.Traces.{Stage, Event, Begin, Ask, Take, Put, Wait, Victim, Answered, Commit, Rollback, state, label_of, labels_of}
use Rattle.sg_trace.specs.Legal.{IsStage, IsLegal, journal}
use Rattle.sg_engine.specs.Shown.{Shown, Seated, seat_in, seated, IsRunOf, Appends}
use Rattle.sg_engine.specs.Steps.{IsSameRun}
use Rattle.sg_history.specs.Histories.{IsHistory}
use Rattle.sg_history.specs.Views.{Known}
use Rattle.sg_history.specs.Openings.{Held}
use Rattle.sg_history.specs.Writes.{event_of, events_of, history_of, IsResting, AreOf, MayWrite, HasWritten, HasMore}
use Rattle.sg_history.proofs.Scripts.{is_history}
use Rattle.sg_history.proofs.Writing.{events_last}
use Rattle.sg_db.specs.Locks.{IsLocked, IsSeatOf, MayTell, HasDone}
use Rattle.sg_db.specs.Events.{AskOnly}

-- ---- labels of events
pub labels_append : (more es : List Event) → labels_of (more ++ es) ≡ labels_of es ++ labels_of more
labels_append [] es = sym (append-nil (labels_of es))
labels_append (e ∷ more) es = ap (λ (ls : List Label). ls ++ label_of e ∷ []) (labels_append more es) ∙ append_assoc (labels_of es) (labels_of more) (label_of e ∷ [])

pub length_labels : (es : List Event) → length (labels_of es) ≡ length es
length_labels [] = refl
length_labels (e ∷ es) = let a = length_labels es in let b = length-append (labels_of es) (label_of e ∷ []) in omega arith

drop_front : (xs ys : List Label) → drop (length xs) (xs ++ ys) ≡ ys
drop_front [] ys = refl
drop_front (x ∷ xs) ys = drop_front xs ys

event_back : (st : Statement) (e : Event) (es : List Event) → AskOnly st (e ∷ es) → (event_of st (label_of e) ≡ e) × AskOnly st es
event_back st (Ask s n asked) es h = (ap (λ (x : Statement). Ask s n x) (sym h.0), h.1)
event_back st (Begin s t) es h = (refl, h)
event_back st (Take s k m) es h = (refl, h)
event_back st (Put s k m) es h = (refl, h)
event_back st (Wait s k m b) es h = (refl, h)
event_back st (Victim s c) es h = (refl, h)
event_back st (Answered s a) es h = (refl, h)
event_back st (Commit s p) es h = (refl, h)
event_back st (Rollback s c) es h = (refl, h)

-- the labels of events in which this alone is asked for tell these events
pub events_back : (st : Statement) (es : List Event) → AskOnly st es → events_of st (labels_of es) ≡ es
events_back st [] h = refl
events_back st (e ∷ es) h =
    let b = event_back st e es h in
    events_last st (labels_of es) (label_of e) ∙ (ap (λ (d : Event). d ∷ events_of st (labels_of es)) b.0 ∙ ap (λ (ds : List Event). e ∷ ds) (events_back st es b.1))

-- the labels from this place on are those of the events that were appended
pub told : (st : Statement) (es history : List Event) (old new : Shown) → IsRunOf history old → IsRunOf (es ++ history) new → AskOnly st es → events_of st (drop (length old.labels) new.labels) ≡ es
told st es history old new was now asks =
    let front : labels_of history ≡ old.labels = sym was.shows.labels in
    let all : new.labels ≡ labels_of history ++ labels_of es = now.shows.labels ∙ labels_append es history in
    ap (events_of st) (ap (λ (ls : List Label). drop (length old.labels) ls) all ∙ (ap (λ (ls : List Label). drop (length ls) (labels_of history ++ labels_of es)) (sym front) ∙ drop_front (labels_of history) (labels_of es))) ∙ events_back st es asks

pub longer : (es history : List Event) (old new : Shown) → IsRunOf history old → IsRunOf (es ++ history) new → length old.labels ≤ length new.labels
longer es history old new was now =
    let a = ap length was.shows.labels in
    let b = ap length (now.shows.labels ∙ labels_append es history) in
    let c = length-append (labels_of history) (labels_of es) in
    omega arith

-- ---- the write
pub may_write : (st : Statement) (from : ℕ) (engine : Shown) (pen v : Known) (items : List Label) → items ≡ engine.labels → length items < 2 ^ 64 → MayTell st from engine pen v → MayWrite pen v (events_of st (take (length items - from) (drop from items)))
may_write st from engine pen v items is fits may =
    let all : take (length items - from) (drop from items) ≡ drop from engine.labels = take_all (length items - from) (drop from items) (let d = length-drop from items in omega arith) ∙ ap (drop from) is in
    subst (λ (ls : List Label). MayWrite pen v (events_of st ls)) (sym all) (record {
      rests = may.rests;
      caller = may.caller;
      penless = may.penless;
      whose = may.whose;
      legal = subst (λ (w : Stage). IsHistory w (events_of st (drop from engine.labels) ++ history_of pen)) (sym may.stage) (is_history engine.stage (events_of st (drop from engine.labels) ++ history_of pen) may.staged may.run.legal);
      room =
          let a : length engine.labels ≡ length (events_of st (drop from engine.labels) ++ history_of pen) = ap length may.run.shows.labels ∙ length_labels (events_of st (drop from engine.labels) ++ history_of pen) in
          let b : length items ≡ length engine.labels = ap length is in
          omega arith;
    })

pub not_zero : (s : ℕ) (v : Known) → IsSeatOf s v → v.session ≢ 0
not_zero s v h e = let a = h.caller.0 in let b = h.session in omega arith

-- before the write, after a call of the engine
pub may_tell : (st : Statement) (es : List Event) (s : ℕ) (t : TableId) (old new : Shown) (pen : Held) (v : Known) → IsLocked t old pen → Appends es old new → IsSeatOf s v → AskOnly st es → AreOf s es → MayTell st (length old.labels) new pen.known v
may_tell st es s t old new pen v locked appends seat asks whose =
    let now = appends.runs (history_of pen.known) locked.run in
    let is = told st es (history_of pen.known) old new locked.run now asks in
    record {
      stage = locked.stage ∙ sym appends.stage;
      rests = locked.rests;
      run = subst (λ (ds : List Event). IsRunOf (ds ++ history_of pen.known) new) (sym is) now;
      staged = subst IsStage (sym appends.stage) locked.staged;
      caller = not_zero s v seat;
      penless = seat.penless;
      whose = subst (λ (ds : List Event). AreOf v.session ds) (sym is) (subst (λ u. AreOf u es) (sym seat.session) whose);
    }

-- and after it: the value is whole again
pub locked_again : (st : Statement) (es : List Event) (t : TableId) (old new : Shown) (pen pen' : Held) → IsLocked t old pen → Appends es old new → AskOnly st es → pen'.table ≡ pen.table → HasMore (events_of st (drop (length old.labels) new.labels)) pen.known pen'.known → IsLocked t new pen'
locked_again st es t old new pen pen' locked appends asks table more =
    let now = appends.runs (history_of pen.known) locked.run in
    let is = told st es (history_of pen.known) old new locked.run now asks in
    let m : HasMore es pen.known pen'.known = subst (λ (ds : List Event). HasMore ds pen.known pen'.known) is more in
    let history : history_of pen'.known ≡ es ++ history_of pen.known = ap history_of m.pen.1 in
    record {
      table = table ∙ locked.table;
      stage = m.stage ∙ (locked.stage ∙ sym appends.stage);
      rests = subst (IsResting pen'.known) (sym history) m.pen;
      run = subst (λ (ds : List Event). IsRunOf ds new) (sym history) now;
      staged = subst IsStage (sym appends.stage) locked.staged;
    }

pub has_done : (st : Statement) (es : List Event) (t : TableId) (old new : Shown) (pen pen' : Held) (v w : Known) → IsLocked t old pen → Appends es old new → AskOnly st es → HasMore (events_of st (drop (length old.labels) new.labels)) pen.known pen'.known → v.stage ≡ pen.known.stage
    → HasWritten (events_of st (drop (length old.labels) new.labels)) (history_of pen.known) v w
    → HasDone es (record { engine = old; history = history_of pen.known }) (record { engine = new; history = history_of pen'.known }) v w
has_done st es t old new pen pen' v w locked appends asks more stage written =
    let now = appends.runs (history_of pen.known) locked.run in
    let is = told st es (history_of pen.known) old new locked.run now asks in
    let m : HasMore es pen.known pen'.known = subst (λ (ds : List Event). HasMore ds pen.known pen'.known) is more in
    let history : history_of pen'.known ≡ es ++ history_of pen.known = ap history_of m.pen.1 in
    record {
      was = locked.run;
      now = subst (λ (ds : List Event). IsRunOf ds new) (sym history) now;
      opened = appends.stage;
      history = history;
      stage = stage ∙ locked.stage;
      written = subst (λ (ds : List Event). HasWritten ds (history_of pen.known) v w) is written;
    }

-- ---- nothing appended
pub appends_none : (old new : Shown) → new ≡ old → Appends [] old new
appends_none old new e = record { stage = ap (λ (v : Shown). v.stage) e; runs = λ es r. subst (IsRunOf es) (sym e) r }

pub appends_same : (old new : Shown) → IsSameRun old new → Appends [] old new
appends_same old new h = record {
  stage = h.stage;
  runs = λ es r. record {
    shows = record {
      labels = h.labels ∙ r.shows.labels;
      journal = h.journal ∙ (r.shows.journal ∙ ap (λ (w : Stage). journal w es) (sym h.stage));
      seats = λ s is. ap (λ (seats : List Seated). seat_in seats s) h.seats ∙ (r.shows.seats s is ∙ ap (λ (w : Stage). seated ((state w es).of s)) (sym h.stage));
    };
    legal = subst (λ (w : Stage). IsLegal w es) (sym h.stage) r.legal;
    settled = r.settled;
  };
}
