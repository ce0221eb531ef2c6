-- The needs of reading that are met stay what they are.
use Rattle.std.proofs.Common.{◌≡◌, ◌≢◌, ℕ, Bool, true, false, cond, not, ◌&&◌, List, [], ◌∷◌, ◌++◌, map, filter, refl, sym, ap, ◌∙◌, subst, inl, inr}
use Rattle.std.specs.List.{flat_map}
use Rattle.sg_cells.specs.declared.settings.Settings.{Settings}
use Rattle.sg_cells.specs.declared.keys.Key.{Key}
use Rattle.sg_cells.specs.declared.keys.Key.TheVariants.{Row, RowEnd, Cell, CellEnd}
use Rattle.sg_cells.specs.Laws.{Has}
use Rattle.sg_modes.specs.declared.modes.Mode.{Mode}
use Rattle.sg_modes.specs.declared.modes.Mode.TheVariants.{S, U, X, RangeSS, RangeSU, RangeIN, RangeXX}
use Rattle.sg_plain.specs.Rows.{Rows}
use Rattle.sg_trace.specs.Keys.{before, is_range, meets, first_key}
use Rattle.sg_trace.specs.Needs.{is_within, is_past, is_row_key, Need, Lock, Locking, row_need, needs_at, is_met, first_unmet}
use Rattle.sg_trace.specs.Traces.{Stage, Event, Local, session_of, state, view, present_keys, IsPresent}
use Rattle.sg_trace.specs.Legal.{IsStage, IsLegal}
use Rattle.sg_laws.specs.Invariant.{IsCoded}
use Rattle.sg_reading.specs.Passed.{range_area, rows_area, HasPassed, is_passed, StaysPassed, part_needs, whole_needs, rows_needs, AreMet, RangesStay, PartsStay, RowsStay}
use Rattle.sg_laws.proofs.Order.{before_same, before_irrefl}
use Rattle.sg_laws.proofs.Present.{Lists}
use Rattle.sg_laws.proofs.Needs.{Every-left, Every-right, Every-flat-at, Every-map-at, has_filter}
use Rattle.sg_laws.proofs.AllMet.{AllMet, held_by, first_is, past_above}
use Rattle.sg_laws.proofs.Kept.{legal_good, lists_of, none_unmet}
use Rattle.sg_reading.proofs.Passing.{own_same, filter_back, ranges_are, rows_are, reads_stay}

-- only a range mode itself meets it
range_meets : (r m : Mode) → is_range r ≡ true → meets r m ≡ true → r ≡ m
range_meets RangeSS RangeSS h e = refl
range_meets RangeSU RangeSU h e = refl
range_meets RangeSS S h e = cc
range_meets RangeSS U h e = cc
range_meets RangeSS X h e = cc
range_meets RangeSS RangeSU h e = cc
range_meets RangeSS RangeIN h e = cc
range_meets RangeSS RangeXX h e = cc
range_meets RangeSU S h e = cc
range_meets RangeSU U h e = cc
range_meets RangeSU X h e = cc
range_meets RangeSU RangeSS h e = cc
range_meets RangeSU RangeIN h e = cc
range_meets RangeSU RangeXX h e = cc
range_meets RangeXX m h e = cc
range_meets S m h e = cc
range_meets U m h e = cc
range_meets X m h e = cc
range_meets RangeIN m h e = cc

met_held : (x : Local) (k : Key) (r : Mode) → is_range r ≡ true → is_met x.held (Lock k r) ≡ true → Has x.held (k, r)
met_held x k r h e = let i = held_by (meets r) x.held k e in subst (λ (m : Mode). Has x.held (k, m)) (sym (range_meets r i.0 h i.1)) i.2

at_needs : (g : Settings) (m : Locking) (V : Rows) (p : ℕ × ℕ) (x : Local) (k : Key) → is_within p k ≡ true → AllMet x (needs_at g m V k) → is_met x.held (Lock k m.range) ≡ true
at_needs g m V p x (Cell c r) i a = a.0
at_needs g m V p x (Row r) i a = cc
at_needs g m V p x RowEnd i a = cc
at_needs g m V p x CellEnd i a = cc

-- ---- lists that agree on their keys
flat_agree : (f h : Key → List Need) (xs : List Key) → ((k : Key) → Has xs k → f k ≡ h k) → flat_map f xs ≡ flat_map h xs
flat_agree f h [] e = refl
flat_agree f h (x ∷ xs) e = ap (λ ns. ns ++ flat_map f xs) (e x (inl refl)) ∙ ap (λ ns. h x ++ ns) (flat_agree f h xs (λ k m. e k (inr m)))

filter_agree : (t u : Key → Bool) (xs : List Key) → ((k : Key) → Has xs k → t k ≡ u k) → filter t xs ≡ filter u xs
filter_agree t u [] e = refl
filter_agree t u (x ∷ xs) e = ap (λ b. cond b (x ∷ filter t xs) (filter t xs)) (e x (inl refl)) ∙ ap (λ ks. cond (u x) (x ∷ ks) ks) (filter_agree t u xs (λ k m. e k (inr m)))

-- ---- a range or part of it
module _ (w : Stage) (e : Event) (es : List Event) (r : IsStage w) (l : IsLegal w (e ∷ es)) (s : ℕ) (ne : session_of e ≢ s) (m : Locking) (ranged : is_range m.range ≡ true) (p : ℕ × ℕ) where
  abbrev x : Local
  x = (state w es).of s

  lists : Lists (IsPresent w.settings (state w es)) (present_keys w (state w es))
  lists = lists_of w (state w es) (legal_good w r es l.0)

  lists' : Lists (IsPresent w.settings (state w (e ∷ es))) (present_keys w (state w (e ∷ es)))
  lists' = lists_of w (state w (e ∷ es)) (legal_good w r (e ∷ es) l)

  still : (ns old : List Need) → ns ≡ old → AreMet w es s old → AreMet w (e ∷ es) s ns
  still ns old q h = ap (λ (y : Local). first_unmet y.held ns) (own_same w e es s ne) ∙ (ap (first_unmet x.held) q ∙ h)

  same_at : (n : Key) → StaysPassed w e es s m.range (range_area p) n → (k : Key) → Has (filter (is_passed (range_area p) n) (present_keys w (state w es))) k
      → needs_at w.settings m (view (state w (e ∷ es)) s) k ≡ needs_at w.settings m (view (state w es) s) k
  same_at n st (Cell c row) h =
      let b = filter_back (is_passed (range_area p) n) (present_keys w (state w es)) (Cell c row) h in
      ap (λ b. Lock (Cell c row) m.range ∷ cond b (row_need m.row row) []) (st.sees c row (lists.sound (Cell c row) b.0) b.1)
  same_at n st (Row k) h = refl
  same_at n st RowEnd h = refl
  same_at n st CellEnd h = refl

  part_same : (n : Key) → StaysPassed w e es s m.range (range_area p) n → part_needs w (e ∷ es) s m p n ≡ part_needs w es s m p n
  part_same n st =
      ap (flat_map (needs_at w.settings m (view (state w (e ∷ es)) s))) st.keys
      ∙ flat_agree (needs_at w.settings m (view (state w (e ∷ es)) s)) (needs_at w.settings m (view (state w es) s)) (filter (is_passed (range_area p) n) (present_keys w (state w es))) (same_at n st)

  -- up to a key of the range
  part_read : (n : Key) → IsPresent w.settings (state w es) n → is_within p n ≡ true → AllMet x (part_needs w es s m p n) → HasPassed w es s m.range (range_area p) n
  part_read n there i all = record { held = at n there i (before_irrefl n); keys = at; stop = inl i }
    where
      at : (k : Key) → IsPresent w.settings (state w es) k → is_within p k ≡ true → before n k ≡ false → Has x.held (k, m.range)
      at k q j b =
          let t : is_passed (range_area p) n k ≡ true = rw (j, b) refl in
          met_held x k m.range ranged
          (at_needs w.settings m (view (state w es) s) p x k j
          (Every-flat-at (λ n. is_met x.held n ≡ true) (needs_at w.settings m (view (state w es) s)) (filter (is_passed (range_area p) n) (present_keys w (state w es))) k all
          (has_filter (is_passed (range_area p) n) (present_keys w (state w es)) k (lists.whole k q) t)))

  pub part_stays : (n : Key) → IsPresent w.settings (state w es) n → is_within p n ≡ true → AreMet w es s (part_needs w es s m p n) → (part_needs w (e ∷ es) s m p n ≡ part_needs w es s m p n) × AreMet w (e ∷ es) s (part_needs w (e ∷ es) s m p n) × IsPresent w.settings (state w (e ∷ es)) n
  part_stays n there i h =
      let read = part_read n there i (none_unmet x (part_needs w es s m p n) h) in
      let st = reads_stay w e es r l s ne m.range ranged (range_area p) (ranges_are p) n read in
      let same = part_same n st in
      (same, still (part_needs w (e ∷ es) s m p n) (part_needs w es s m p n) same h, (legal_good w r (e ∷ es) l).sound.rooted s n m.range st.passed.held)

  -- all of it, and the key past it
  abbrev end : Key
  end = first_key (is_past p) (present_keys w (state w es))

  whole_read : AllMet x (whole_needs w es s m p) → HasPassed w es s m.range (range_area p) end
  whole_read all =
      let f = first_is (is_past p) (present_keys w (state w es)) CellEnd lists.rises (lists.whole CellEnd lists.cell_end) refl in
      record {
        held = met_held x end m.range ranged (Every-right (λ n. is_met x.held n ≡ true) (flat_map (needs_at w.settings m (view (state w es) s)) (filter (is_within p) (present_keys w (state w es)))) (Lock end m.range ∷ []) all).0;
        keys = λ k q i b. met_held x k m.range ranged
            (at_needs w.settings m (view (state w es) s) p x k i
            (Every-flat-at (λ n. is_met x.held n ≡ true) (needs_at w.settings m (view (state w es) s)) (filter (is_within p) (present_keys w (state w es))) k
            (Every-left (λ n. is_met x.held n ≡ true) (flat_map (needs_at w.settings m (view (state w es) s)) (filter (is_within p) (present_keys w (state w es)))) (Lock end m.range ∷ []) all)
            (has_filter (is_within p) (present_keys w (state w es)) k (lists.whole k q) i)));
        stop = inr (record { past = f.passes; least = λ k q i. f.least k (lists.whole k q) i });
      }

  -- no key of the range lies above its end
  not_above : (n k : Key) → IsCoded n → is_past p n ≡ true → IsCoded k → is_within p k ≡ true → before n k ≡ false
  not_above n (Cell c row) hn past hk i = past_above p c row n hk i hn past
  not_above n (Row k) hn past hk i = cc
  not_above n RowEnd hn past hk i = cc
  not_above n CellEnd hn past hk i = cc

  all_passed : (n k : Key) → IsCoded n → is_past p n ≡ true → IsCoded k → is_within p k ≡ is_passed (range_area p) n k
  all_passed n k hn past hk = go (is_within p k) refl
    where
      go : (b : Bool) → is_within p k ≡ b → is_within p k ≡ (is_within p k && not (before n k))
      go true q = let f = not_above n k hn past hk q in rw (q, f) refl
      go false q = rw q refl

  pub whole_stays : AreMet w es s (whole_needs w es s m p) → (whole_needs w (e ∷ es) s m p ≡ whole_needs w es s m p) × AreMet w (e ∷ es) s (whole_needs w (e ∷ es) s m p)
  whole_stays h =
      let read = whole_read (none_unmet x (whole_needs w es s m p) h) in
      let st = reads_stay w e es r l s ne m.range ranged (range_area p) (ranges_are p) end read in
      let same = whole_same read st in
      (same, still (whole_needs w (e ∷ es) s m p) (whole_needs w es s m p) same h)
    where
      whole_same : HasPassed w es s m.range (range_area p) end → StaysPassed w e es s m.range (range_area p) end → whole_needs w (e ∷ es) s m p ≡ whole_needs w es s m p
      whole_same read st =
          let ok = legal_good w r es l.0 in
          let ok' = legal_good w r (e ∷ es) l in
          let ks = present_keys w (state w es) in
          let ks' = present_keys w (state w (e ∷ es)) in
          let f = first_is (is_past p) ks CellEnd lists.rises (lists.whole CellEnd lists.cell_end) refl in
          let there = lists.sound end f.there in
          let there' : IsPresent w.settings (state w (e ∷ es)) end = ok'.sound.rooted s end m.range st.passed.held in
          let code : IsCoded end = lists.coded end there in
          let f' = first_is (is_past p) ks' end lists'.rises (lists'.whole end there') f.passes in
          let below : before (first_key (is_past p) ks') end ≡ false = elim st.passed.stop [
            | inl i ↦ let q = (ranges_are p).apart end i in let t = f.passes in cc
            | inr n ↦ n.least (first_key (is_past p) ks') (lists'.sound (first_key (is_past p) ks') f'.there) f'.passes
          ] in
          let one : first_key (is_past p) ks' ≡ end = before_same (first_key (is_past p) ks') end below (f'.least end (lists'.whole end there') f.passes) in
          let inner : flat_map (needs_at w.settings m (view (state w (e ∷ es)) s)) (filter (is_within p) ks') ≡ flat_map (needs_at w.settings m (view (state w es) s)) (filter (is_within p) ks) =
          ap (flat_map (needs_at w.settings m (view (state w (e ∷ es)) s))) (filter_agree (is_within p) (is_passed (range_area p) end) ks' (λ k q. all_passed end k code f.passes (lists'.coded k (lists'.sound k q))))
          ∙ (part_same end st ∙ ap (flat_map (needs_at w.settings m (view (state w es) s))) (sym (filter_agree (is_within p) (is_passed (range_area p) end) ks (λ k q. all_passed end k code f.passes (lists.coded k (lists.sound k q)))))) in
          ap (λ ns. ns ++ Lock (first_key (is_past p) ks') m.range ∷ []) inner ∙ ap (λ k. flat_map (needs_at w.settings m (view (state w es) s)) (filter (is_within p) ks) ++ Lock k m.range ∷ []) one

pub parts_stay : PartsStay
parts_stay w e es r l s ne m ranged p n there i h = part_stays w e es r l s ne m ranged p n there i h

pub ranges_stay : RangesStay
ranges_stay w e es r l s ne m ranged p h = whole_stays w e es r l s ne m ranged p h

-- ---- rows
pub rows_stay : RowsStay
rows_stay w e es r l s ne m ranged n there i h =
    let st = reads_stay w e es r l s ne m ranged rows_area rows_are n read in
    let same : rows_needs w (e ∷ es) m n ≡ rows_needs w es m n = ap (map (λ k. Lock k m)) st.keys in
    (same, ap (λ (y : Local). first_unmet y.held (rows_needs w (e ∷ es) m n)) (own_same w e es s ne) ∙ (ap (first_unmet x.held) same ∙ h), (legal_good w r (e ∷ es) l).sound.rooted s n m st.passed.held)
  where
    x : Local
    x = (state w es).of s

    lists : Lists (IsPresent w.settings (state w es)) (present_keys w (state w es))
    lists = lists_of w (state w es) (legal_good w r es l.0)

    at : (k : Key) → IsPresent w.settings (state w es) k → is_row_key k ≡ true → before n k ≡ false → Has ((state w es).of s).held (k, m)
    at k q j b =
        let t : is_passed rows_area n k ≡ true = rw (j, b) refl in
        met_held ((state w es).of s) k m ranged
        (Every-map-at (λ n. is_met ((state w es).of s).held n ≡ true) (λ k. Lock k m) (filter (is_passed rows_area n) (present_keys w (state w es))) k (none_unmet ((state w es).of s) (rows_needs w es m n) h)
        (has_filter (is_passed rows_area n) (present_keys w (state w es)) k (lists.whole k q) t))

    read : HasPassed w es s m rows_area n
    read = record { held = at n there i (before_irrefl n); keys = at; stop = inl i }
