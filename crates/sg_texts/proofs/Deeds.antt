-- The lines of labels: what each tells.
use Rattle.std.proofs.Common.{◌≡◌, ℕ, ◌+◌, ◌*◌, ◌^◌, ◌<◌, List, [], ◌∷◌, ◌++◌, get_or, codes, refl, arith, sym, ap, ◌∙◌}
use Rattle.std.proofs.lemmas.List.{append_cancel_left}
use Rattle.std.specs.Fmt.{decimal}
use Rattle.std.specs.List.{flat_map}
use Rattle.sg_cells.specs.declared.keys.Key.{Key}
use Rattle.sg_modes.specs.declared.modes.Mode.{Mode}
use Rattle.sg_modes.specs.Sessions.{AreSessions}
use Rattle.sg_plain.specs.declared.statements.Answer.{Answer}
use Rattle.sg_trace.specs.declared.labels.Cause.{Cause}
use Rattle.sg_trace.specs.declared.labels.Cause.TheVariants.{Asked, NoMemory}
use Rattle.sg_trace.specs.declared.labels.Label.{Label}
use Rattle.sg_trace.specs.declared.labels.Label.TheVariants as label
use Rattle.sg_wkt.specs.Laws.{TellsApart, IsPrintable}
use Rattle.sg_texts.specs.Texts.{spaced, keys_text, answer_text, cycle_text}
use Rattle.sg_texts.specs.Laws.{IsAnswer}
use Rattle.sg_texts.specs.Labels.{lock_text, cause_text, owner_of, deed_text, label_line}
use Rattle.sg_texts.specs.Fitting.{IsKey, IsDeed, IsLabel}
use Rattle.sg_texts.proofs.Splits.{split_number}
use Rattle.sg_texts.proofs.Pieces.{by_two, by_four, by_five, keys_tell, answer_end_tells}
use Rattle.sg_texts.proofs.Modes.{SameLock, lock_tells}
use Rattle.sg_texts.proofs.Wholes.{small_session, are_keys, cycle_tells}

-- ---- each kind, to the end of the line
number_tells : (word : List ℕ) (m n : ℕ) (xs ys : List ℕ) → m < 2 ^ 64 → n < 2 ^ 64 → (word ++ decimal m) ++ 10 ∷ xs ≡ (word ++ decimal n) ++ 10 ∷ ys → (m ≡ n) × (xs ≡ ys)
number_tells word m n xs ys hm hn e =
    let line = sym (by_two word (decimal m) (10 ∷ xs)) ∙ e ∙ by_two word (decimal n) (10 ∷ ys) in
    let parts = split_number m n (10 ∷ xs) (10 ∷ ys) hm hn refl refl (append_cancel_left word (decimal m ++ 10 ∷ xs) (decimal n ++ 10 ∷ ys) line) in
    (parts.0, append_cancel_left (10 ∷ []) xs ys parts.1)

word_lock_tells : (word : List ℕ) (k l : Key) (m n : Mode) (xs ys : List ℕ) → IsKey k → IsKey l →
    (word ++ lock_text k m) ++ 10 ∷ xs ≡ (word ++ lock_text l n) ++ 10 ∷ ys → SameLock k m l n xs ys
word_lock_tells word k l m n xs ys hk hl e =
    let line = sym (by_two word (lock_text k m) (10 ∷ xs)) ∙ e ∙ by_two word (lock_text l n) (10 ∷ ys) in
    let lock = lock_tells k l m n (10 ∷ xs) (10 ∷ ys) hk hl (append_cancel_left word (lock_text k m ++ 10 ∷ xs) (lock_text l n ++ 10 ∷ ys) line) in
    record { key = lock.key; mode = lock.mode; rest = append_cancel_left (10 ∷ []) xs ys lock.rest }

abbrev wait_text : Key → Mode → List ℕ → List ℕ
wait_text k m b = codes "wait " ++ lock_text k m ++ codes " for" ++ flat_map spaced b

wait_grouped : (k : Key) (m : Mode) (b xs : List ℕ) → wait_text k m b ++ xs ≡ codes "wait " ++ (lock_text k m ++ (codes " for" ++ (keys_text b ++ xs)))
wait_grouped k m b xs = by_four (codes "wait ") (lock_text k m) (codes " for") (keys_text b) xs

wait_tells : (k l : Key) (m n : Mode) (b c xs ys : List ℕ) → IsKey k → IsKey l → AreSessions b → AreSessions c →
    wait_text k m b ++ 10 ∷ xs ≡ wait_text l n c ++ 10 ∷ ys → (b ≡ c) × SameLock k m l n xs ys
wait_tells k l m n b c xs ys hk hl hb hc e =
    let line = sym (wait_grouped k m b (10 ∷ xs)) ∙ e ∙ wait_grouped l n c (10 ∷ ys) in
    let lock = lock_tells k l m n (codes " for" ++ (keys_text b ++ 10 ∷ xs)) (codes " for" ++ (keys_text c ++ 10 ∷ ys)) hk hl
    (append_cancel_left (codes "wait ") (lock_text k m ++ (codes " for" ++ (keys_text b ++ 10 ∷ xs))) (lock_text l n ++ (codes " for" ++ (keys_text c ++ 10 ∷ ys))) line) in
    let sessions = keys_tell b c xs ys (are_keys b 0 hb) (are_keys c 0 hc) (append_cancel_left (codes " for") (keys_text b ++ 10 ∷ xs) (keys_text c ++ 10 ∷ ys) lock.rest) in
    (sessions.0, record { key = lock.key; mode = lock.mode; rest = sessions.1 })

cause_tells : (c d : Cause) (xs ys : List ℕ) → (codes "rollback " ++ cause_text c) ++ 10 ∷ xs ≡ (codes "rollback " ++ cause_text d) ++ 10 ∷ ys → (c ≡ d) × (xs ≡ ys)
cause_tells Asked Asked xs ys e = (refl, append_cancel_left (codes "rollback asked" ++ 10 ∷ []) xs ys e)
cause_tells NoMemory NoMemory xs ys e = (refl, append_cancel_left (codes "rollback memory" ++ 10 ∷ []) xs ys e)
cause_tells c d xs ys e = let clash : get_or ((codes "rollback " ++ cause_text c) ++ 10 ∷ xs) 9 0 ≡ get_or ((codes "rollback " ++ cause_text d) ++ 10 ∷ ys) 9 0 = ap (λ (text : List ℕ). get_or text 9 0) e in absurd (omega arith)

-- the first two bytes tell the kind of a label
kind : List ℕ → ℕ
kind text = get_or text 0 0 * 256 + get_or text 1 0

module _ (apart : TellsApart) (printable : IsPrintable) where
  word_answer_tells : (word : List ℕ) (a b : Answer) (xs ys : List ℕ) → IsAnswer a → IsAnswer b →
      (word ++ answer_text a) ++ 10 ∷ xs ≡ (word ++ answer_text b) ++ 10 ∷ ys → (a ≡ b) × (xs ≡ ys)
  word_answer_tells word a b xs ys ha hb e =
      let line = sym (by_two word (answer_text a) (10 ∷ xs)) ∙ e ∙ by_two word (answer_text b) (10 ∷ ys) in
      answer_end_tells apart printable a b xs ys ha hb (append_cancel_left word (answer_text a ++ 10 ∷ xs) (answer_text b ++ 10 ∷ ys) line)

  deed_tells : (l m : Label) (xs ys : List ℕ) → IsDeed l → IsDeed m → owner_of l ≡ owner_of m → deed_text l ++ 10 ∷ xs ≡ deed_text m ++ 10 ∷ ys → (l ≡ m) × (xs ≡ ys)
  unfolding kind
  deed_tells (label.Begin s t) (label.Begin u v) xs ys hl hm o e =
      let parts = number_tells (codes "begin ") t v xs ys hl hm e in
      let owner : s ≡ u = o in
      let number : t ≡ v = parts.0 in
      (cc, parts.1)
  deed_tells (label.Ask s t) (label.Ask u v) xs ys hl hm o e =
      let parts = number_tells (codes "ask ") t v xs ys hl hm e in
      let owner : s ≡ u = o in
      let number : t ≡ v = parts.0 in
      (cc, parts.1)
  deed_tells (label.Commit s t) (label.Commit u v) xs ys hl hm o e =
      let parts = number_tells (codes "commit ") t v xs ys hl hm e in
      let owner : s ≡ u = o in
      let number : t ≡ v = parts.0 in
      (cc, parts.1)
  deed_tells (label.Take s k m) (label.Take u l n) xs ys hl hm o e =
      let lock = word_lock_tells (codes "take ") k l m n xs ys hl hm e in
      let owner : s ≡ u = o in
      let key : k ≡ l = lock.key in
      let mode : m ≡ n = lock.mode in
      (cc, lock.rest)
  deed_tells (label.Put s k m) (label.Put u l n) xs ys hl hm o e =
      let lock = word_lock_tells (codes "put ") k l m n xs ys hl hm e in
      let owner : s ≡ u = o in
      let key : k ≡ l = lock.key in
      let mode : m ≡ n = lock.mode in
      (cc, lock.rest)
  deed_tells (label.Wait s k m b) (label.Wait u l n c) xs ys hl hm o e =
      let waits = wait_tells k l m n b c xs ys hl.0 hm.0 hl.1 hm.1 e in
      let owner : s ≡ u = o in
      let blockers : b ≡ c = waits.0 in
      let key : k ≡ l = waits.1.key in
      let mode : m ≡ n = waits.1.mode in
      (cc, waits.1.rest)
  deed_tells (label.Victim s c) (label.Victim u d) xs ys hl hm o e =
      let word = codes "victim" in
      let cycles = cycle_tells apart printable c d xs ys hl hm
      (append_cancel_left word (cycle_text c ++ 10 ∷ xs) (cycle_text d ++ 10 ∷ ys) (sym (by_two word (cycle_text c) (10 ∷ xs)) ∙ e ∙ by_two word (cycle_text d) (10 ∷ ys))) in
      let owner : s ≡ u = o in
      let cycle : c ≡ d = cycles.0 in
      (cc, cycles.1)
  deed_tells (label.Answer s a) (label.Answer u b) xs ys hl hm o e =
      let answers = word_answer_tells (codes "answer ") a b xs ys hl hm e in
      let owner : s ≡ u = o in
      let answer : a ≡ b = answers.0 in
      (cc, answers.1)
  deed_tells (label.Rollback s c) (label.Rollback u d) xs ys hl hm o e =
      let causes = cause_tells c d xs ys e in
      let owner : s ≡ u = o in
      let cause : c ≡ d = causes.0 in
      (cc, causes.1)
  deed_tells l m xs ys hl hm o e = let clash : kind (deed_text l ++ 10 ∷ xs) ≡ kind (deed_text m ++ 10 ∷ ys) = ap kind e in absurd (omega arith)

  -- ---- the line
  line_grouped : (l : Label) (xs : List ℕ) → label_line l ++ xs ≡ codes "  session " ++ (decimal (owner_of l) ++ (codes " " ++ (deed_text l ++ 10 ∷ xs)))
  line_grouped l xs = by_five (codes "  session ") (decimal (owner_of l)) (codes " ") (deed_text l) (10 ∷ []) xs

  pub label_tells : (l m : Label) (xs ys : List ℕ) → IsLabel l → IsLabel m → label_line l ++ xs ≡ label_line m ++ ys → (l ≡ m) × (xs ≡ ys)
  label_tells l m xs ys hl hm e =
      let line = sym (line_grouped l xs) ∙ e ∙ line_grouped m ys in
      let one = split_number (owner_of l) (owner_of m) (codes " " ++ (deed_text l ++ 10 ∷ xs)) (codes " " ++ (deed_text m ++ 10 ∷ ys))
      (small_session (owner_of l) hl.owner) (small_session (owner_of m) hm.owner) refl refl
      (append_cancel_left (codes "  session ") (decimal (owner_of l) ++ (codes " " ++ (deed_text l ++ 10 ∷ xs))) (decimal (owner_of m) ++ (codes " " ++ (deed_text m ++ 10 ∷ ys))) line) in
      deed_tells l m xs ys hl.deed hm.deed one.0 (append_cancel_left (codes " ") (deed_text l ++ 10 ∷ xs) (deed_text m ++ 10 ∷ ys) one.1)
