-- The parts of a text, one after another.
use Rattle.std.proofs.Common.{◌≡◌, ℕ, ◌+◌, ◌^◌, ◌≤◌, ◌<◌, List, [], ◌∷◌, ◌++◌, length, get_or, codes, refl, arith, sym, ap, subst, ◌∙◌}
use Rattle.std.specs.Prelude.{All}
use Rattle.std.proofs.lemmas.List.{append_assoc, append_cancel_left}
use Rattle.std.proofs.lemmas.List.Elements.{All-nil, All-cons}
use Rattle.std.specs.Char.{is_ascii_digit}
use Rattle.std.specs.Fmt.{decimal}
use Rattle.std.specs.List.{flat_map, enumerate_from}
use Rattle.sg_modes.specs.Sessions.{IsSession, AreSessions, RisingAbove}
use Rattle.sg_plain.specs.declared.statements.Answer.{Answer}
use Rattle.sg_plain.specs.Rows.{Rows}
use Rattle.sg_wkt.specs.Laws.{TellsApart, IsPrintable}
use Rattle.sg_texts.specs.declared.others.Ending.{Ending}
use Rattle.sg_texts.specs.declared.others.Ending.TheVariants.{RolledBack, Victim, NoMemory}
use Rattle.sg_texts.specs.declared.others.Other.{Other}
use Rattle.sg_texts.specs.Texts.{Commit, spaced, keys_text, answer_line, commit_text, owner_text, cycle_text, ending_text, ending_tail, other_text, count_line, row_line, rows_text}
use Rattle.sg_texts.specs.Laws.{AreKeys, IsAnswer, IsCommit, IsEnding, IsOther, IsRow}
use Rattle.sg_texts.proofs.Splits.{split, all_digits}
use Rattle.sg_texts.proofs.Pieces.{by_two, by_three, by_four, first, first_of_all, rest_of_all, unequal, SameOwner, owner_tells, keys_tell, answer_line_tells, row_tells}

-- ---- regrouping
by_commit : (a b c d e xs : List ℕ) → ((((a ++ b) ++ c) ++ d) ++ e) ++ xs ≡ (a ++ b) ++ (c ++ (d ++ (e ++ xs)))
by_commit a b c d e xs = simp append_assoc

-- sessions are small numbers
pub are_keys : (ns : List ℕ) (low : ℕ) → RisingAbove low ns → AreKeys ns
are_keys [] low h = All-nil (λ (n : ℕ). n < 2 ^ 32)
are_keys (n ∷ ns) low h = All-cons (λ (n : ℕ). n < 2 ^ 32) n ns (let most : n ≤ 64 = h.1 in omega arith) (are_keys ns n h.2)

-- ---- pieces one after another, to a text that begins otherwise
module _ {A : Type 0} (piece : A → List ℕ) (Is : A → Type 0) (Ends : List ℕ → Type 0)
    (tells : (a b : A) (xs ys : List ℕ) → Is a → Is b → piece a ++ xs ≡ piece b ++ ys → (a ≡ b) × (xs ≡ ys))
    (goes_on : (a : A) (xs ys : List ℕ) → Ends ys → ys ≡ piece a ++ xs → ⊥) where
  pub pieces_tell : (some others : List A) (xs ys : List ℕ) → All Is some → All Is others → Ends xs → Ends ys →
      flat_map piece some ++ xs ≡ flat_map piece others ++ ys → (some ≡ others) × (xs ≡ ys)
  pieces_tell [] [] xs ys ha hb ex ey e = (refl, e)
  pieces_tell [] (b ∷ others) xs ys ha hb ex ey e = absurd (goes_on b (flat_map piece others ++ ys) xs ex (e ∙ by_two (piece b) (flat_map piece others) ys))
  pieces_tell (a ∷ some) [] xs ys ha hb ex ey e = absurd (goes_on a (flat_map piece some ++ xs) ys ey (sym e ∙ by_two (piece a) (flat_map piece some) xs))
  pieces_tell (a ∷ some) (b ∷ others) xs ys ha hb ex ey e =
      let line = sym (by_two (piece a) (flat_map piece some) xs) ∙ e ∙ by_two (piece b) (flat_map piece others) ys in
      let one = tells a b (flat_map piece some ++ xs) (flat_map piece others ++ ys) (first_of_all Is a some ha) (first_of_all Is b others hb) line in
      let rest = pieces_tell some others xs ys (rest_of_all Is a some ha) (rest_of_all Is b others hb) ex ey one.1 in
      let head : a ≡ b = one.0 in
      let tail : some ≡ others = rest.0 in
      (cc, rest.1)

pub small_session : (n : ℕ) → IsSession n → n < 2 ^ 64
small_session n h = let most : n ≤ 64 = h.1 in omega arith

-- ---- commits: the text goes on with no answer and no commit
pub record Ends (text : List ℕ) : Type 0 where
  pub no_answer : first text ≡ 32 → ⊥
  pub no_commit : first text ≡ 99 → ⊥

abbrev commit_of : ℕ → ℕ → List Answer → Commit
commit_of session transaction answers = record { session = session; transaction = transaction; answers = answers }

-- behind the answers of a commit comes no further one
no_answer_after : (n : ℕ) (cs : List Commit) (xs : List ℕ) → Ends xs → first (flat_map commit_text (enumerate_from n cs) ++ xs) ≡ 32 → ⊥
no_answer_after n [] xs h e = h.no_answer e
no_answer_after n (c ∷ cs) xs h e = unequal 99 32 refl e

module _ (apart : TellsApart) (printable : IsPrintable) where
  commit_tells : (n : ℕ) (c d : Commit) (xs ys : List ℕ) → IsCommit c → IsCommit d → (first xs ≡ 32 → ⊥) → (first ys ≡ 32 → ⊥) →
      commit_text (n, c) ++ xs ≡ commit_text (n, d) ++ ys → (c ≡ d) × (xs ≡ ys)
  commit_tells n c d xs ys hc hd nx ny e =
      let ones = flat_map answer_line c.answers in
      let others = flat_map answer_line d.answers in
      let front = codes "commit " ++ decimal n in
      let line = sym (by_commit (codes "commit ") (decimal n) (owner_text c.session c.transaction) (10 ∷ []) ones xs) ∙ e ∙ by_commit (codes "commit ") (decimal n) (owner_text d.session d.transaction) (10 ∷ []) others ys in
      let owner = owner_tells c.session c.transaction d.session d.transaction (10 ∷ (ones ++ xs)) (10 ∷ (others ++ ys))
      (small_session c.session hc.session) hc.transaction (small_session d.session hd.session) hd.transaction refl refl
      (append_cancel_left front (owner_text c.session c.transaction ++ 10 ∷ (ones ++ xs)) (owner_text d.session d.transaction ++ 10 ∷ (others ++ ys)) line) in
      let answers = pieces_tell answer_line IsAnswer (λ (text : List ℕ). first text ≡ 32 → ⊥) (answer_line_tells apart printable) (λ a zs text no e. no (ap first e))
      c.answers d.answers xs ys hc.answers hd.answers nx ny (append_cancel_left (10 ∷ []) (ones ++ xs) (others ++ ys) owner.rest) in
      let whose : c.session ≡ d.session = owner.session in
      let number : c.transaction ≡ d.transaction = owner.transaction in
      let same_answers : c.answers ≡ d.answers = answers.0 in
      let same : commit_of c.session c.transaction c.answers ≡ commit_of d.session d.transaction d.answers = cc in
      (same, answers.1)

  pub commits_tell : (n : ℕ) (cs ds : List Commit) (xs ys : List ℕ) → All IsCommit cs → All IsCommit ds → Ends xs → Ends ys →
      flat_map commit_text (enumerate_from n cs) ++ xs ≡ flat_map commit_text (enumerate_from n ds) ++ ys → (cs ≡ ds) × (xs ≡ ys)
  commits_tell n [] [] xs ys hc hd ex ey e = (refl, e)
  commits_tell n [] (d ∷ ds) xs ys hc hd ex ey e = absurd (ex.no_commit (ap first e))
  commits_tell n (c ∷ cs) [] xs ys hc hd ex ey e = absurd (ey.no_commit (sym (ap first e)))
  commits_tell n (c ∷ cs) (d ∷ ds) xs ys hc hd ex ey e =
      let ones = flat_map commit_text (enumerate_from (n + 1) cs) in
      let others = flat_map commit_text (enumerate_from (n + 1) ds) in
      let line = sym (by_two (commit_text (n, c)) ones xs) ∙ e ∙ by_two (commit_text (n, d)) others ys in
      let one = commit_tells n c d (ones ++ xs) (others ++ ys) (first_of_all IsCommit c cs hc) (first_of_all IsCommit d ds hd)
      (no_answer_after (n + 1) cs xs ex) (no_answer_after (n + 1) ds ys ey) line in
      let rest = commits_tell (n + 1) cs ds xs ys (rest_of_all IsCommit c cs hc) (rest_of_all IsCommit d ds hd) ex ey one.1 in
      let head : c ≡ d = one.0 in
      let tail : cs ≡ ds = rest.0 in
      (cc, rest.1)

  -- ---- rows, to a text that begins with no row
  counted : (things : List ℕ) (n : ℕ) (xs : List ℕ) → count_line things n ++ xs ≡ things ++ (decimal n ++ 10 ∷ xs)
  counted things n xs = by_three things (decimal n) (10 ∷ []) xs

  -- what follows the number of things
  pub behind_count : (things : List ℕ) (m n : ℕ) (xs ys : List ℕ) → count_line things m ++ xs ≡ count_line things n ++ ys → xs ≡ ys
  behind_count things m n xs ys e =
      let line = sym (counted things m xs) ∙ e ∙ counted things n ys in
      let parts = split is_ascii_digit (decimal m) (decimal n) (10 ∷ xs) (10 ∷ ys) (all_digits m) (all_digits n) refl refl
      (append_cancel_left things (decimal m ++ 10 ∷ xs) (decimal n ++ 10 ∷ ys) line) in
      append_cancel_left (10 ∷ []) xs ys parts.1

  pub rows_tell : (rows others : Rows) (xs ys : List ℕ) → All IsRow rows → All IsRow others → (first xs ≡ 32 → ⊥) → (first ys ≡ 32 → ⊥) →
      rows_text rows ++ xs ≡ rows_text others ++ ys → (rows ≡ others) × (xs ≡ ys)
  rows_tell rows others xs ys hr ho nx ny e =
      let ones = flat_map row_line rows in
      let theirs = flat_map row_line others in
      let count = count_line (codes "rows ") in
      let line = sym (by_two (count (length rows)) ones xs) ∙ e ∙ by_two (count (length others)) theirs ys in
      pieces_tell row_line IsRow (λ (text : List ℕ). first text ≡ 32 → ⊥) (row_tells apart printable) (λ row zs text no e. no (ap first e))
      rows others xs ys hr ho nx ny (behind_count (codes "rows ") (length rows) (length others) (ones ++ xs) (theirs ++ ys) line)

  -- ---- the other transactions, to the line of the rows, whose third byte is a w
  abbrev third : List ℕ → ℕ
  third text = get_or text 2 0

  no_rows : (e : Ending) (xs : List ℕ) → third (ending_text e ++ xs) ≡ 119 → ⊥
  no_rows RolledBack xs e = unequal 108 119 refl e
  no_rows (Victim cycle) xs e = unequal 99 119 refl e
  no_rows NoMemory xs e = unequal 32 119 refl e

  -- an owner and an ending, to the end of the line
  abbrev behind_word : ℕ → ℕ → Ending → List ℕ → List ℕ
  behind_word s t e xs = owner_text s t ++ (ending_tail e ++ 10 ∷ xs)

  pub cycle_tells : (cycle other : List ℕ) (xs ys : List ℕ) → AreSessions cycle → AreSessions other → cycle_text cycle ++ 10 ∷ xs ≡ cycle_text other ++ 10 ∷ ys →
      (cycle ≡ other) × (xs ≡ ys)
  cycle_tells cycle other xs ys hc ho e =
      let word = codes " cycle" in
      let line = sym (by_two word (flat_map spaced cycle) (10 ∷ xs)) ∙ e ∙ by_two word (flat_map spaced other) (10 ∷ ys) in
      keys_tell cycle other xs ys (are_keys cycle 0 hc) (are_keys other 0 ho) (append_cancel_left word (keys_text cycle ++ 10 ∷ xs) (keys_text other ++ 10 ∷ ys) line)

  ending_tells : (e f : Ending) (s t u v : ℕ) (xs ys : List ℕ) → IsEnding e → IsEnding f → s < 2 ^ 64 → t < 2 ^ 64 → u < 2 ^ 64 → v < 2 ^ 64 →
      ending_text e ++ behind_word s t e xs ≡ ending_text f ++ behind_word u v f ys → (e ≡ f) × SameOwner s t u v xs ys
  ending_tells RolledBack RolledBack s t u v xs ys he hf hs ht hu hv e =
      let owner = owner_tells s t u v (10 ∷ xs) (10 ∷ ys) hs ht hu hv refl refl
      (append_cancel_left (codes "rolled back") (owner_text s t ++ 10 ∷ xs) (owner_text u v ++ 10 ∷ ys) e) in
      (refl, record { session = owner.session; transaction = owner.transaction; rest = append_cancel_left (10 ∷ []) xs ys owner.rest })
  ending_tells NoMemory NoMemory s t u v xs ys he hf hs ht hu hv e =
      let owner = owner_tells s t u v (10 ∷ xs) (10 ∷ ys) hs ht hu hv refl refl
      (append_cancel_left (codes "no memory") (owner_text s t ++ 10 ∷ xs) (owner_text u v ++ 10 ∷ ys) e) in
      (refl, record { session = owner.session; transaction = owner.transaction; rest = append_cancel_left (10 ∷ []) xs ys owner.rest })
  ending_tells (Victim c) (Victim d) s t u v xs ys he hf hs ht hu hv e =
      let owner = owner_tells s t u v (cycle_text c ++ 10 ∷ xs) (cycle_text d ++ 10 ∷ ys) hs ht hu hv refl refl
      (append_cancel_left (codes "victim") (behind_word s t (Victim c) xs) (behind_word u v (Victim d) ys) e) in
      let cycles = cycle_tells c d xs ys he hf owner.rest in
      (ap Victim cycles.0, record { session = owner.session; transaction = owner.transaction; rest = cycles.1 })
  ending_tells RolledBack (Victim d) s t u v xs ys he hf hs ht hu hv e = absurd (unequal 114 118 refl (ap first e))
  ending_tells RolledBack NoMemory s t u v xs ys he hf hs ht hu hv e = absurd (unequal 114 110 refl (ap first e))
  ending_tells (Victim c) RolledBack s t u v xs ys he hf hs ht hu hv e = absurd (unequal 118 114 refl (ap first e))
  ending_tells (Victim c) NoMemory s t u v xs ys he hf hs ht hu hv e = absurd (unequal 118 110 refl (ap first e))
  ending_tells NoMemory RolledBack s t u v xs ys he hf hs ht hu hv e = absurd (unequal 110 114 refl (ap first e))
  ending_tells NoMemory (Victim d) s t u v xs ys he hf hs ht hu hv e = absurd (unequal 110 118 refl (ap first e))

  abbrev other_of : ℕ → ℕ → Ending → Other
  other_of session transaction ending = record { session = session; transaction = transaction; ending = ending }

  grouped : (o : Other) (xs : List ℕ) → other_text o ++ xs ≡ ending_text o.ending ++ behind_word o.session o.transaction o.ending xs
  grouped o xs = by_four (ending_text o.ending) (owner_text o.session o.transaction) (ending_tail o.ending) (10 ∷ []) xs

  other_tells : (o p : Other) (xs ys : List ℕ) → IsOther o → IsOther p → other_text o ++ xs ≡ other_text p ++ ys → (o ≡ p) × (xs ≡ ys)
  other_tells o p xs ys ho hp e =
      let end = ending_tells o.ending p.ending o.session o.transaction p.session p.transaction xs ys ho.ending hp.ending
      (small_session o.session ho.session) ho.transaction (small_session p.session hp.session) hp.transaction (sym (grouped o xs) ∙ e ∙ grouped p ys) in
      let whose : o.session ≡ p.session = end.1.session in
      let number : o.transaction ≡ p.transaction = end.1.transaction in
      let ending : o.ending ≡ p.ending = end.0 in
      let same : other_of o.session o.transaction o.ending ≡ other_of p.session p.transaction p.ending = cc in
      (same, end.1.rest)

  pub others_tell : (os ps : List Other) (xs ys : List ℕ) → All IsOther os → All IsOther ps → third xs ≡ 119 → third ys ≡ 119 →
      flat_map other_text os ++ xs ≡ flat_map other_text ps ++ ys → (os ≡ ps) × (xs ≡ ys)
  others_tell = pieces_tell other_text IsOther (λ (text : List ℕ). third text ≡ 119) other_tells
      (λ o zs text rows e. no_rows o.ending (behind_word o.session o.transaction o.ending zs) (ap third (sym (e ∙ grouped o zs)) ∙ rows))

  -- ---- the whole
  ending_ends : (e : Ending) (xs : List ℕ) → Ends (ending_text e ++ xs)
  ending_ends RolledBack xs = record { no_answer = unequal 114 32 refl; no_commit = unequal 114 99 refl }
  ending_ends (Victim cycle) xs = record { no_answer = unequal 118 32 refl; no_commit = unequal 118 99 refl }
  ending_ends NoMemory xs = record { no_answer = unequal 110 32 refl; no_commit = unequal 110 99 refl }

  -- what follows the commits: the other transactions, the rows and a further text
  pub others_end : (os : List Other) (rows : Rows) (xs : List ℕ) → Ends (flat_map other_text os ++ (rows_text rows ++ xs))
  others_end [] rows xs = record { no_answer = unequal 114 32 refl; no_commit = unequal 114 99 refl }
  others_end (o ∷ os) rows xs =
      let rest = flat_map other_text os ++ (rows_text rows ++ xs) in
      subst Ends (sym (by_two (other_text o) (flat_map other_text os) (rows_text rows ++ xs) ∙ grouped o rest))
      (ending_ends o.ending (behind_word o.session o.transaction o.ending rest))
