-- All shapes stay sound as rows come, are written and end.
use Rattle.std.specs.Prelude.{map, IfSome, All}
use Rattle.std.proofs.Common.{◌≡◌, ℕ, suc, arith, Bool, true, false, List, [], ◌∷◌, Option, Some, None, refl, subst}
use Rattle.std.specs.declared.cmp.Ordering.{Ordering}
use Rattle.std.specs.declared.cmp.Ordering.TheVariants.{Less, Equal, Greater}
use Rattle.std.specs.Ordering.{nat_cmp, is_lt}
use Rattle.std.specs.Map.{lookup, set_value}
use Rattle.std.specs.BTreeMap.{insert_entry}
use Rattle.sg_shape.specs.declared.shapes.Shape.{Shape}
use Rattle.sg_shape.specs.Sound.{IsSound}
use Rattle.sg_versions.specs.declared.version.Version.{Version}
use Rattle.sg_versions.specs.declared.version.WritesEnd.{WritesEnd}
use Rattle.sg_versions.specs.declared.version.WritesEnd.TheVariants.{Keep, Undo}
use Rattle.sg_versions.specs.Versions.{is_writer, fresh, written, ended, is_emptied, ended_of, settled, change_by, change_at}
use Rattle.sg_rows.specs.Table.{TableRow, IsSoundRow, AreSoundRows, loaded_row, rows_past}

pub sound_fresh : (s k : ℕ) → IsSoundRow (k, fresh s)
sound_fresh s k = record { committed = tt; live = tt }

-- with a row more
inserted_by : (k : ℕ) (v : Version Shape) (r : TableRow) (rows : List TableRow) (o : Ordering) → nat_cmp k r.0 ≡ o → IsSoundRow (k, v) → AreSoundRows (r ∷ rows) → AreSoundRows (insert_entry nat_cmp rows k v) → AreSoundRows (insert_entry nat_cmp (r ∷ rows) k v)
inserted_by k v r rows Less h here all rest = rw h (here, all)
inserted_by k v r rows Equal h here all rest = rw h (record { committed = here.committed; live = here.live }, all.1)
inserted_by k v r rows Greater h here all rest = rw h (all.0, rest)

pub sound_inserted : (k : ℕ) (v : Version Shape) (rows : List TableRow) → IsSoundRow (k, v) → AreSoundRows rows → AreSoundRows (insert_entry nat_cmp rows k v)
sound_inserted k v [] here all = (here, tt)
sound_inserted k v (r ∷ rows) here all = inserted_by k v r rows _ refl here all (sound_inserted k v rows here all.1)

-- with a shape written
set_by : (test : ℕ → Bool) (r : TableRow) (rows : List TableRow) (w : Version Shape) (b : Bool) → test r.0 ≡ b → ((k : ℕ) → IsSoundRow (k, w)) → AreSoundRows (r ∷ rows) → AreSoundRows (set_value test rows w) → AreSoundRows (set_value test (r ∷ rows) w)
set_by test r rows w true h here all rest = rw h (here r.0, all.1)
set_by test r rows w false h here all rest = rw h (all.0, rest)

sound_set : (test : ℕ → Bool) (rows : List TableRow) (w : Version Shape) → ((k : ℕ) → IsSoundRow (k, w)) → AreSoundRows rows → AreSoundRows (set_value test rows w)
sound_set test [] w here all = tt
sound_set test (r ∷ rows) w here all = set_by test r rows w _ refl here all (sound_set test rows w here all.1)

found_by : (test : ℕ → Bool) (r : TableRow) (rows : List TableRow) (v : Version Shape) (b : Bool) → test r.0 ≡ b → AreSoundRows (r ∷ rows) → (lookup test rows ≡ Some v → IfSome v.committed IsSound) → lookup test (r ∷ rows) ≡ Some v → IfSome v.committed IsSound
found_by test r rows v true h all rest found = let f = rw h at found in let same : r.1 ≡ v = cc in subst (λ (x : Version Shape). IfSome x.committed IsSound) same all.0.committed
found_by test r rows v false h all rest found = rest (rw h at found)

found_sound : (test : ℕ → Bool) (rows : List TableRow) (v : Version Shape) → AreSoundRows rows → lookup test rows ≡ Some v → IfSome v.committed IsSound
found_sound test [] v all found = absurd (cc)
found_sound test (r ∷ rows) v all found = found_by test r rows v _ refl all (found_sound test rows v all.1) found

written_by : (test : ℕ → Bool) (s : ℕ) (shape : Option Shape) (rows : List TableRow) (o : Option (Version Shape)) → lookup test rows ≡ o → IfSome shape IsSound → AreSoundRows rows → AreSoundRows (change_by test (written s shape) rows o)
written_by test s shape rows None found here all = all
written_by test s shape rows (Some v) found here all = sound_set test rows (written s shape v) (λ k. record { committed = found_sound test rows v all found; live = here }) all

pub sound_written : (test : ℕ → Bool) (s : ℕ) (shape : Option Shape) (rows : List TableRow) → IfSome shape IsSound → AreSoundRows rows → AreSoundRows (change_at test (written s shape) rows)
sound_written test s shape rows here all = written_by test s shape rows _ refl here all

-- after the end of a session's writes
ended_row : (e : WritesEnd) (r : TableRow) → IsSoundRow r → IsSoundRow (r.0, ended e r.1)
ended_row Keep r sound = record { committed = sound.live; live = tt }
ended_row Undo r sound = record { committed = sound.committed; live = tt }

ended_by : (e : WritesEnd) (s : ℕ) (r : TableRow) (b : Bool) → is_writer s r.1.writer ≡ b → IsSoundRow r → IsSoundRow (r.0, ended_of e s r.1)
ended_by e s r true h sound = rw h (ended_row e r sound)
ended_by e s r false h sound = rw h (record { committed = sound.committed; live = sound.live })

settled_by : (e : WritesEnd) (s : ℕ) (r : TableRow) (rows : List TableRow) (b : Bool) → is_emptied e s r.1 ≡ b → IsSoundRow r → AreSoundRows (settled e s rows) → AreSoundRows (settled e s (r ∷ rows))
settled_by e s r rows true h sound rest = rw h rest
settled_by e s r rows false h sound rest = rw h (ended_by e s r _ refl sound, rest)

pub sound_settled : (e : WritesEnd) (s : ℕ) (rows : List TableRow) → AreSoundRows rows → AreSoundRows (settled e s rows)
sound_settled e s [] all = tt
sound_settled e s (r ∷ rows) all = settled_by e s r rows _ refl all.0 (sound_settled e s rows all.1)

-- each row past a key
filtered_by : (k : ℕ) (r : TableRow) (rows : List TableRow) (b : Bool) → is_lt (nat_cmp k r.0) ≡ b → AreSoundRows (r ∷ rows) → AreSoundRows (rows_past (Some k) rows) → AreSoundRows (rows_past (Some k) (r ∷ rows))
filtered_by k r rows true h all rest = rw h (all.0, rest)
filtered_by k r rows false h all rest = rw h rest

pub sound_past : (last : Option ℕ) (rows : List TableRow) → AreSoundRows rows → AreSoundRows (rows_past last rows)
sound_past None rows all = all
sound_past (Some k) [] all = tt
sound_past (Some k) (r ∷ rows) all = filtered_by k r rows _ refl all (sound_past (Some k) rows all.1)

-- rows that are loaded
pub sound_loaded : (rows : List (ℕ × Shape)) → All (λ row. IsSound row.1) rows → AreSoundRows (map loaded_row rows)
sound_loaded [] all = tt
sound_loaded (x ∷ rows) all = (record { committed = all 0 x (omega arith); live = tt }, sound_loaded rows (λ k d lt. all (suc k) d (omega (arith, lt))))
