-- A journal's entries are taken in one after another, and published.
use Rattle.std.proofs.Common.{◌≡◌, ◌⊎◌, inl, inr, ℕ, ◌+◌, ◌≤◌, ◌<◌, List, [], ◌∷◌, ◌++◌, length, take, drop, get_or, fold, Option, None, Some, Ok, Err, refl, sym, ap, ◌∙◌, subst, arith, take_all, take-append-drop, length-append}
use Rattle.std.specs.Prelude.{OnErr}
use Rattle.std.specs.declared.result.Result.{Result}
use Rattle.std.proofs.lemmas.List.{take_more}
use Rattle.sg_plain.specs.Serial.{Entry}
use Rattle.sg_fronts.specs.Journals.{Known, BeginsWith}
use Rattle.sg_copies.specs.Copied.{Copied, Noted, with_entry}
use Rattle.sg_copies.specs.Views.{IsWhole}
use Rattle.sg_copies.proofs.Steps.{begins_itself, begins_more}
use Rattle.sg_replica.specs.Queues.{IsReady, IsDesk, IsHistory, IsPublisher, TakesOne, Taken, Brought, MayPublish, all_of, entries_of, journal_of, publisher_value, shown_in}
use Rattle.sg_replica.specs.Values.{PublisherValue}

fold_snoc : (copy : Copied) (xs : List Noted) (x : Noted) → fold with_entry copy (xs ++ x ∷ []) ≡ with_entry (fold with_entry copy xs) x
fold_snoc copy [] x = refl
fold_snoc copy (y ∷ xs) x = fold_snoc (with_entry copy y) xs x

append_assoc : (xs ys zs : List Entry) → (xs ++ ys) ++ zs ≡ xs ++ (ys ++ zs)
append_assoc [] ys zs = refl
append_assoc (x ∷ xs) ys zs = ap (λ t. x ∷ t) (append_assoc xs ys zs)

append_none : (xs : List Entry) → xs ++ [] ≡ xs
append_none [] = refl
append_none (x ∷ xs) = ap (λ t. x ∷ t) (append_none xs)

pub entries_after : (copy : Copied) (xs : List Noted) → (fold with_entry copy xs).entries ≡ copy.entries ++ entries_of xs
entries_after copy [] = sym (append_none copy.entries)
entries_after copy (x ∷ xs) = entries_after (with_entry copy x) xs ∙ append_assoc copy.entries (x.entry ∷ []) (entries_of xs)

-- what is published and what is on its way are what was recorded
pub recorded_is : (copy : Copied) (all : List Noted) (recorded : Known) → IsReady copy all recorded → copy.entries ++ entries_of all ≡ recorded.entries
recorded_is copy all recorded ready = sym (entries_after copy all) ∙ ap (λ (c : Copied). c.entries) ready

pub ready_more : (copy : Copied) (entry : Entry) (old new : Known) (before after : List Noted) → IsReady copy before old → TakesOne entry old new before after → IsReady copy after new
ready_more copy entry old new before after ready one =
    let noted : Noted = record { entry = entry; front = new } in
    ap (fold with_entry copy) one.all ∙ fold_snoc copy before noted ∙ ap (λ (c : Copied). with_entry c noted) ready
    ∙ ap (λ (es : List Entry). record { opening = copy.opening; entries = es; front = new }) (sym one.entries)

-- ---- the loop
-- the first entries of the journal were taken in
pub record Taking (copy : Copied) (journal : List Entry) (start recorded : Known) (place : ℕ) (queue : List Noted) : Type 0 where
  pub book : recorded.book ≡ start.book
  pub entries : recorded.entries ≡ take place journal
  pub grows : BeginsWith recorded.entries start.entries
  pub ready : IsReady copy queue recorded

front_is : (journal front : List Entry) → BeginsWith journal front → front ≡ take (length front) journal
front_is journal [] begins = refl
front_is [] (x ∷ front) begins = absurd (cc (begins.1))
front_is (y ∷ journal) (x ∷ front) begins =
    let first : x ≡ y = cc (begins.1) in
    let rest = front_is journal front (begins.0, cc (begins.1)) in cc (first, rest)

pub begins_shorter : (journal front : List Entry) → BeginsWith journal front → length front ≤ length journal
begins_shorter journal front begins = omega (arith, ap (λ (t : List Entry). length t) begins.1, length-append front begins.0)

pub taking_start : (copy : Copied) (journal : List Entry) (start : Known) (queue : List Noted) (place : ℕ) → BeginsWith journal start.entries → place ≡ length start.entries → IsReady copy queue start → Taking copy journal start start place queue
taking_start copy journal start queue place begins is ready = record {
  book = refl;
  entries = rw is (front_is journal start.entries begins);
  grows = begins_itself start.entries;
  ready = ready;
}

begins_snoc : (xs ys start : List Entry) (x : Entry) → ys ≡ xs ++ x ∷ [] → BeginsWith xs start → BeginsWith ys start
begins_snoc xs ys start x is begins = begins_more xs ys start (x ∷ [], is) begins

pub taking_more : (copy : Copied) (journal : List Entry) (start recorded new : Known) (place : ℕ) (entry : Entry) (queue after : List Noted) → place < length journal → entry ≡ get_or journal place entry →
    TakesOne entry recorded new queue after → Taking copy journal start recorded place queue → Taking copy journal start new (place + 1) after
taking_more copy journal start recorded new place entry queue after within is one taking =
    let ahead : take (place + 1) journal ≡ take place journal ++ entry ∷ [] = take_more journal place entry within ∙ ap (λ (x : Entry). take place journal ++ x ∷ []) (sym is) in
    record {
      book = one.book ∙ taking.book;
      entries = one.entries ∙ ap (λ (es : List Entry). es ++ entry ∷ []) taking.entries ∙ sym ahead;
      grows = begins_snoc recorded.entries new.entries start.entries entry one.entries taking.grows;
      ready = ready_more copy entry recorded new queue after taking.ready one;
    }

-- wherever it ends
pub taken_by : (copy : Copied) (journal : List Entry) (start recorded : Known) (place : ℕ) (queue : List Noted) → Taking copy journal start recorded place queue → Taken copy journal start recorded queue
taken_by copy journal start recorded place queue taking = record {
  book = taking.book;
  grows = taking.grows;
  begins = (drop place journal, sym (take-append-drop place journal) ∙ ap (λ (es : List Entry). es ++ drop place journal) (sym taking.entries));
  ready = taking.ready;
}

pub all_taken : (copy : Copied) (journal : List Entry) (start recorded : Known) (place : ℕ) (queue : List Noted) → length journal ≤ place → Taking copy journal start recorded place queue → recorded.entries ≡ journal
all_taken copy journal start recorded place queue over taking = taking.entries ∙ take_all place journal over

-- ---- the whole journal may be published
pub may_publish : (known : Option Copied) (shown : Copied) (all queue : List Noted) (old new : Known) (journal : List Entry) → IsDesk known shown all old → Taken shown journal old new queue → new.entries ≡ journal → IsHistory shown.opening journal →
    MayPublish shown (fold with_entry shown queue)
may_publish known shown all queue old new journal desk taken whole history =
    let next : Copied = record { opening = shown.opening; entries = new.entries; front = new } in
    let begins : BeginsWith new.entries shown.entries = (entries_of queue, sym (recorded_is shown queue new taken.ready)) in
    let may : MayPublish shown next = record {
      goes_on = record { opening = refl; book = taken.book ∙ sym desk.book; entries = begins };
      whole = λ before. record { serial = subst (IsHistory shown.opening) (sym whole) history; front = refl };
    } in
    subst (MayPublish shown) (sym taken.ready) may

-- where the next entry found no memory
pub taken_err : (copy : Copied) (journal : List Entry) (start recorded new : Known) (place : ℕ) (entry : Entry) (queue after : List Noted) → place < length journal → entry ≡ get_or journal place entry → Taking copy journal start recorded place queue →
    TakesOne entry recorded new queue after ⊎ ((new ≡ recorded) × (after ≡ queue)) → Taken copy journal start new after
taken_err copy journal start recorded new place entry queue after within is taking (inl one) = taken_by copy journal start new (place + 1) after (taking_more copy journal start recorded new place entry queue after within is one taking)
taken_err copy journal start recorded new place entry queue after within is taking (inr same) = rw (same.0, same.1) (taken_by copy journal start recorded place queue taking)

pub without_unsent : (copy : Copied) (journal : List Entry) (old new : Known) (queue : List Noted) (unsent : Option Noted) → unsent ≡ None → Taken copy journal old new (all_of queue unsent) → Taken copy journal old new queue
without_unsent copy journal old new queue unsent e taken = rw e at taken

-- ---- nothing is new
pub none_in : (queue : List Noted) → (0 < length queue → ⊥) → queue ≡ []
none_in [] none = refl
none_in (x ∷ queue) none = absurd (none (omega arith))

-- what is published is the journal already
pub brought_still : (journal : List Entry) (shown after : Copied) (known now : Option Copied) (old new : Known) (before queue : List Noted) (unsent : Option Noted) (n : ℕ) →
    IsDesk known shown before old → after ≡ shown → now ≡ known → Taken shown journal old new (all_of queue unsent) → new.entries ≡ journal → unsent ≡ None → queue ≡ [] → n ≡ length new.entries →
    Brought journal shown old now after (all_of queue unsent) new (Ok n)
brought_still journal shown after known now old new before queue unsent n desk same place taken whole sent empty number =
    let none : all_of queue unsent ≡ [] = rw (sent, empty) refl in
    let ready : IsReady shown [] new = subst (λ (all : List Noted). IsReady shown all new) none taken.ready in
    record {
      desk = record {
        seen = place ∙ desk.seen ∙ ap (λ (c : Copied). Some c) (sym same);
        whole = subst IsWhole (sym same) desk.whole;
        book = ap (λ (c : Copied). c.front.book) same ∙ desk.book ∙ sym taken.book;
        ready = rw (same, none) ready;
      };
      opening = ap (λ (c : Copied). c.opening) same;
      book = taken.book;
      grows = taken.grows;
      begins = taken.begins;
      ok = (ap (λ (c : Copied). c.entries) same ∙ ap (λ (c : Copied). c.entries) ready ∙ whole, number ∙ ap (λ (es : List Entry). length es) whole, none);
      err = tt;
    }

-- ---- a publisher's journal is what it recorded
pub journal_is : (known shown : Option Copied) (all : List Noted) (recorded : Known) (v : PublisherValue) → publisher_value shown all recorded ≡ v → IsPublisher known shown all recorded → journal_of v ≡ recorded.entries
journal_is known shown all recorded v is publisher =
    ap journal_of (sym is) ∙ ap (λ (o : Option Copied). shown_in o ++ entries_of all) publisher.shown_is ∙ recorded_is publisher.copy all recorded publisher.desk.ready

pub on_err : {A E : Type 0} (r : Result A E) (P : Type 0) → P → OnErr r P
on_err (Ok x) P p = tt
on_err (Err x) P p = p
