-- Several events added one by one.
use Rattle.std.proofs.Common.{◌≡◌, ℕ, suc, ◌+◌, ◌<◌, ◌^◌, Bool, true, false, cond, ◌⊎◌, List, [], ◌∷◌, ◌++◌, length, Option, Some, None, refl, sym, ap, ◌∙◌, subst, arith, append_assoc, append-nil, length-append, take, drop, get_or}
use Rattle.std.proofs.Math.Seq.{take-suc}
use Rattle.std.proofs.lemmas.List.{take-append-drop}
use Rattle.sg_plain.specs.declared.statements.Statement.{Statement}
use Rattle.sg_trace.specs.declared.labels.Label.{Label}
use Rattle.sg_trace.specs.Traces.{Stage, Event, session_of}
use Rattle.sg_trace.specs.Legal.{IsLegal}
use Rattle.sg_trace.specs.Scripts.{is_victim}
use Rattle.sg_history.specs.Histories.{Begins, own, is_own, IsHistory}
use Rattle.sg_history.specs.Views.{Pen, Known, pen_of, without_pen, with_pen}
use Rattle.sg_history.specs.Steps.{HasPen, Looks, MayAdd, pen_with, added}
use Rattle.sg_history.specs.Writes.{event_of, events_of, history_of, AreOf, MayWrite, HasWritten, HasMore, pens_with, all_added, MayAddAll}
use Rattle.sg_history.specs.Openings.{Held}
use Rattle.sg_history.proofs.Scripts.{is_history}

-- the front of a legal history is one
pub legal_front : (w : Stage) (more es : List Event) → IsLegal w (more ++ es) → IsLegal w es
legal_front w [] es l = l
legal_front w (e ∷ more) es l = legal_front w more es l.0

pub history_front : (w : Stage) (more es : List Event) → IsHistory w (more ++ es) → IsHistory w es
history_front w more es h = is_history w es h.stage (legal_front w more es h.legal)

-- ---- one event more on top of several
own_more : (b : Bool) (e : Event) (xs ys : List Event) → cond b (e ∷ (xs ++ ys)) (xs ++ ys) ≡ cond b (e ∷ xs) xs ++ ys
own_more true e xs ys = refl
own_more false e xs ys = refl

pens_more : (e : Event) (es : List Event) (o : Option Pen) → pen_with e (pens_with es o) ≡ pens_with (e ∷ es) o
pens_more e es None = refl
pens_more e es (Some p) = refl

pub added_more : (e : Event) (es : List Event) (v : Known) → added e (all_added es v) ≡ all_added (e ∷ es) v
added_more e es v = λ i. record v { seen = e ∷ (es ++ v.seen); mine = own_more (is_own v.session e) e (own v.session es) v.mine i; pen = pens_more e es v.pen i }

pens_none : (o : Option Pen) → pens_with [] o ≡ o
pens_none None = refl
pens_none (Some p) = refl

pub added_none : (v : Known) → all_added [] v ≡ v
added_none v = λ i. record v { pen = pens_none v.pen i }

whose_last : (s : ℕ) (more : List Event) (e : Event) (es : List Event) → AreOf s (more ++ e ∷ es) → (session_of e ≡ s) ⊎ (is_victim e ≡ true)
whose_last s [] e es h = h.0
whose_last s (d ∷ more) e es h = whose_last s more e es h.1

-- the event that comes next, where all may be added
pub may_next : (v : Known) (more : List Event) (e : Event) (es : List Event) → MayAddAll v (more ++ e ∷ es) → MayAdd (all_added es v) e
may_next v more e es h = record {
  pen = (h.seats, ap (pens_with es) h.pen);
  caller = h.caller;
  whose = whose_last v.session more e es h.whose;
  legal = history_front v.stage more (e ∷ (es ++ v.seen)) (subst (IsHistory v.stage) (append_assoc more (e ∷ es) v.seen) h.legal);
  room = let r = h.room in let a = ap length (append_assoc more (e ∷ es) v.seen) in let b = length-append more (e ∷ (es ++ v.seen)) in omega arith;
}

-- ---- events of labels
pub events_more : (st : Statement) (ls ms : List Label) → events_of st (ls ++ ms) ≡ events_of st ms ++ events_of st ls
events_more st [] ms = sym (append-nil (events_of st ms))
events_more st (l ∷ ls) ms = ap (λ es. es ++ event_of st l ∷ []) (events_more st ls ms) ∙ append_assoc (events_of st ms) (events_of st ls) (event_of st l ∷ [])

pub events_last : (st : Statement) (ls : List Label) (l : Label) → events_of st (ls ++ l ∷ []) ≡ event_of st l ∷ events_of st ls
events_last st ls l = events_more st ls (l ∷ [])

-- ---- under the lock
-- what the caller knows once it has the pen and has looked
pub may_all : (pen v w : Known) (found : ℕ) (es : List Event) → MayWrite pen v es → Looks (with_pen v pen) found w → MayAddAll w es
may_all pen v w found es may looks =
    let has : HasPen (with_pen v pen) pen.stage (history_of pen) = (may.rests.0, ap (λ (u : Known). u.pen) may.rests.1) in
    let is = looks.pen pen.stage (history_of pen) has in
    let stage : w.stage ≡ pen.stage = ap (λ (u : Known). u.stage) looks.same ∙ is.0 in
    let session : w.session ≡ v.session = ap (λ (u : Known). u.session) looks.same in
    record {
      seats = may.rests.0;
      pen = ap (λ (u : Known). u.pen) looks.same ∙ (ap (λ (u : Known). u.pen) may.rests.1 ∙ λ i. Some (record { stage = sym stage i; history = sym is.1 i; seats = may.rests.0 }));
      caller = λ e. may.caller (sym session ∙ e);
      whose = subst (λ s. AreOf s es) (sym session) may.whose;
      legal = subst (λ (u : Stage). IsHistory u (es ++ w.seen)) (sym stage) (subst (λ (xs : List Event). IsHistory pen.stage (es ++ xs)) (sym is.1) may.legal);
      room = subst (λ (xs : List Event). length (es ++ xs) < 2 ^ 64) (sym is.1) may.room;
    }

-- and once it has added the events and given the pen back
pub has_written : (pen v w : Known) (found : ℕ) (es : List Event) → MayWrite pen v es → Looks (with_pen v pen) found w → HasWritten es (history_of pen) v (without_pen (all_added es w))
has_written pen v w found es may looks =
    let has : HasPen (with_pen v pen) pen.stage (history_of pen) = (may.rests.0, ap (λ (u : Known). u.pen) may.rests.1) in
    let is = looks.pen pen.stage (history_of pen) has in
    record {
      same = λ i. record {
        stage = (looks.same i).stage;
        session = (looks.same i).session;
        seen = es ++ is.1 i;
        kept = (looks.same i).kept;
        mine = own (looks.same i).session es ++ (looks.same i).mine;
        pen = sym may.penless i;
        spent = (looks.same i).spent;
      };
      seen = subst (λ (xs : List Event). Begins v.seen xs) is.1 looks.seen;
      kept = subst (λ (xs : List Event). Begins v.kept xs) is.1 looks.kept;
      mine = looks.mine may.caller ∙ ap (own v.session) is.1;
      legal = subst (λ (u : Stage). IsHistory u (es ++ history_of pen)) (sym is.0) may.legal;
    }

-- all views are of one table, opened in one way
pub one_stage : (pen v w : Known) (found : ℕ) (es : List Event) → MayWrite pen v es → Looks (with_pen v pen) found w → v.stage ≡ pen.stage
one_stage pen v w found es may looks = (looks.pen pen.stage (history_of pen) (may.rests.0, ap (λ (u : Known). u.pen) may.rests.1)).0

pub has_more : (pen v w : Known) (found : ℕ) (es : List Event) → v.spent ≡ false → MayWrite pen v es → Looks (with_pen v pen) found w → HasMore es pen (pen_of (all_added es w))
has_more pen v w found es live may looks =
    let has : HasPen (with_pen v pen) pen.stage (history_of pen) = (may.rests.0, ap (λ (u : Known). u.pen) may.rests.1) in
    let is = looks.pen pen.stage (history_of pen) has in
    let stage : w.stage ≡ pen.stage = ap (λ (u : Known). u.stage) looks.same ∙ is.0 in
    record {
      stage = stage;
      pen = (
        may.rests.0,
        λ i. record {
          stage = w.stage;
          session = 0;
          seen = [];
          kept = [];
          mine = [];
          pen = (ap (pens_with es) (ap (λ (u : Known). u.pen) looks.same ∙ ap (λ (u : Known). u.pen) may.rests.1) ∙ λ j. Some (record { stage = sym stage j; history = es ++ history_of pen; seats = may.rests.0 })) i;
          spent = (ap (λ (u : Known). u.spent) looks.same ∙ live) i;
        },
      );
    }

-- ---- one label after another
next_labels : (ls : List Label) (i : ℕ) (l : Label) → i < length ls → l ≡ get_or ls i l → take (i + 1) ls ≡ take i ls ++ l ∷ []
next_labels ls i l lt is = let e : i + 1 ≡ suc i = omega arith in ap (λ n. take n ls) e ∙ (take-suc ls i l lt ∙ ap (λ (x : Label). take i ls ++ x ∷ []) (sym is))

events_split : (st : Statement) (ls : List Label) (i : ℕ) (l : Label) → i < length ls → l ≡ get_or ls i l → events_of st ls ≡ events_of st (drop (i + 1) ls) ++ event_of st l ∷ events_of st (take i ls)
events_split st ls i l lt is =
    ap (events_of st) (sym (take-append-drop (i + 1) ls)) ∙ (events_more st (take (i + 1) ls) (drop (i + 1) ls)
    ∙ ap (λ (es : List Event). events_of st (drop (i + 1) ls) ++ es) (ap (events_of st) (next_labels ls i l lt is) ∙ events_last st (take i ls) l))

pub next_may : (st : Statement) (ls : List Label) (i : ℕ) (l : Label) → i < length ls → l ≡ get_or ls i l → (v : Known) → MayAddAll v (events_of st ls) → MayAdd (all_added (events_of st (take i ls)) v) (event_of st l)
next_may st ls i l lt is v may = may_next v (events_of st (drop (i + 1) ls)) (event_of st l) (events_of st (take i ls)) (subst (MayAddAll v) (events_split st ls i l lt is) may)

abbrev put : Rattle.atomic_table.specs.Seated.TableId → Known → Held
put t v = record { table = t; known = v }

pub next_added : (st : Statement) (ls : List Label) (i : ℕ) (l : Label) → i < length ls → l ≡ get_or ls i l → (old now : Held) → now ≡ record { table = old.table; known = all_added (events_of st (take i ls)) old.known }
    → ◌≡◌ {A = Held} (record { table = now.table; known = added (event_of st l) now.known }) (record { table = old.table; known = all_added (events_of st (take (i + 1) ls)) old.known })
next_added st ls i l lt is old now e =
    ap (λ (h : Held). put h.table (added (event_of st l) h.known)) e
    ∙ ap (put old.table) (added_more (event_of st l) (events_of st (take i ls)) old.known ∙ ap (λ es. all_added es old.known) (sym (ap (events_of st) (next_labels ls i l lt is) ∙ events_last st (take i ls) l)))
