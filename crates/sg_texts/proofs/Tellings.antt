-- What the whole text of a report tells.
use Rattle.std.proofs.Common.{◌≡◌, ℕ, List, [], ◌∷◌, ◌++◌, length, codes, refl, arith, sym, ap, ◌∙◌}
use Rattle.std.specs.Prelude.{All, Option, Some, None, IfSome}
use Rattle.std.proofs.lemmas.List.{append_assoc, append_cancel_left}
use Rattle.std.specs.List.{flat_map}
use Rattle.sg_modes.specs.Sessions.{IsSession}
use Rattle.sg_plain.specs.Rows.{Rows}
use Rattle.sg_trace.specs.declared.labels.Label.{Label}
use Rattle.sg_wkt.specs.Laws.{TellsApart, IsPrintable}
use Rattle.sg_texts.specs.Texts.{Commit}
use Rattle.sg_texts.specs.declared.others.Other.{Other}
use Rattle.sg_texts.specs.Texts.{keys_text, commits_text, other_text, rows_text, count_line}
use Rattle.sg_texts.specs.Laws.{AreKeys}
use Rattle.sg_texts.specs.Labels.{label_line, labels_text}
use Rattle.sg_texts.specs.Fitting.{IsLabel}
use Rattle.sg_texts.specs.Told.{Told, ToldTells, if_asked, schedule_text, told_text}
use Rattle.sg_texts.proofs.Pieces.{by_two, first, unequal, keys_tell}
use Rattle.sg_texts.proofs.Wholes.{pieces_tell, behind_count, commits_tell, others_tell, others_end, rows_tell}
use Rattle.sg_texts.proofs.Deeds.{label_tells}

by_told : (a b c d e : List ℕ) → (((a ++ b) ++ c) ++ d) ++ e ≡ a ++ (b ++ (c ++ (d ++ e)))
by_told a b c d e = simp append_assoc

-- ---- the schedule, to the end of the text
turns_are_keys : (turns : List ℕ) → All IsSession turns → AreKeys turns
turns_are_keys turns h k d within = let most = (h k d within).1 in omega arith

schedule_tells : (turns others : List ℕ) → All IsSession turns → All IsSession others → schedule_text turns ≡ schedule_text others → turns ≡ others
schedule_tells turns others ht ho e =
    let word = codes "schedule" in
    let line = sym (by_two word (keys_text turns) (10 ∷ [])) ∙ e ∙ by_two word (keys_text others) (10 ∷ []) in
    (keys_tell turns others [] [] (turns_are_keys turns ht) (turns_are_keys others ho) (append_cancel_left word (keys_text turns ++ 10 ∷ []) (keys_text others ++ 10 ∷ []) line)).0

asked_schedule_tells : (s t : Option (List ℕ)) → IfSome s (λ turns. All IsSession turns) → IfSome t (λ turns. All IsSession turns) →
    if_asked schedule_text s ≡ if_asked schedule_text t → s ≡ t
asked_schedule_tells None None hs ht e = refl
asked_schedule_tells (Some turns) (Some others) hs ht e = ap Some (schedule_tells turns others hs ht e)
asked_schedule_tells None (Some others) hs ht e = absurd (unequal 0 115 refl (ap first e))
asked_schedule_tells (Some turns) None hs ht e = absurd (unequal 115 0 refl (ap first e))

-- it begins with no blank, and not like the labels
no_blank : (s : Option (List ℕ)) → first (if_asked schedule_text s) ≡ 32 → ⊥
no_blank None e = unequal 0 32 refl e
no_blank (Some turns) e = unequal 115 32 refl e

no_labels : (s : Option (List ℕ)) → first (if_asked schedule_text s) ≡ 108 → ⊥
no_labels None e = unequal 0 108 refl e
no_labels (Some turns) e = unequal 115 108 refl e

-- ---- what follows the rows
abbrev end_text : Option (List Label) → Option (List ℕ) → List ℕ
end_text labels schedule = if_asked labels_text labels ++ if_asked schedule_text schedule

end_no_blank : (labels : Option (List Label)) (s : Option (List ℕ)) → first (end_text labels s) ≡ 32 → ⊥
end_no_blank None s e = no_blank s e
end_no_blank (Some labels) s e = unequal 108 32 refl e

module _ (apart : TellsApart) (printable : IsPrintable) where
  labels_tell : (labels others : List Label) (xs ys : List ℕ) → All IsLabel labels → All IsLabel others → (first xs ≡ 32 → ⊥) → (first ys ≡ 32 → ⊥) →
      labels_text labels ++ xs ≡ labels_text others ++ ys → (labels ≡ others) × (xs ≡ ys)
  labels_tell labels others xs ys hl ho nx ny e =
      let ones = flat_map label_line labels in
      let theirs = flat_map label_line others in
      let count = count_line (codes "labels ") in
      let line = sym (by_two (count (length labels)) ones xs) ∙ e ∙ by_two (count (length others)) theirs ys in
      pieces_tell label_line IsLabel (λ (text : List ℕ). first text ≡ 32 → ⊥) (label_tells apart printable) (λ label zs text no e. no (ap first e))
      labels others xs ys hl ho nx ny (behind_count apart printable (codes "labels ") (length labels) (length others) (ones ++ xs) (theirs ++ ys) line)

  end_tells : (l m : Option (List Label)) (s t : Option (List ℕ)) → IfSome l (λ labels. All IsLabel labels) → IfSome m (λ labels. All IsLabel labels) →
      IfSome s (λ turns. All IsSession turns) → IfSome t (λ turns. All IsSession turns) → end_text l s ≡ end_text m t → (l ≡ m) × (s ≡ t)
  end_tells None None s t hl hm hs ht e = (refl, asked_schedule_tells s t hs ht e)
  end_tells (Some labels) (Some others) s t hl hm hs ht e =
      let parts = labels_tell labels others (if_asked schedule_text s) (if_asked schedule_text t) hl hm (no_blank s) (no_blank t) e in
      (ap Some parts.0, asked_schedule_tells s t hs ht parts.1)
  end_tells None (Some others) s t hl hm hs ht e = absurd (no_labels s (ap first e))
  end_tells (Some labels) None s t hl hm hs ht e = absurd (no_labels t (sym (ap first e)))

  -- ---- the whole
  abbrev told_of : List Commit → List Other → Rows → Option (List Label) → Option (List ℕ) → Told
  told_of commits others rows labels schedule = record { commits = commits; others = others; rows = rows; labels = labels; schedule = schedule }

  whole : (told : Told) → told_text told ≡ commits_text told.commits ++ (flat_map other_text told.others ++ (rows_text told.rows ++ end_text told.labels told.schedule))
  whole told = by_told (commits_text told.commits) (flat_map other_text told.others) (rows_text told.rows) (if_asked labels_text told.labels) (if_asked schedule_text told.schedule)

  pub told_tells : ToldTells
  told_tells r s hr hs e =
      let one = end_text r.labels r.schedule in
      let other = end_text s.labels s.schedule in
      let line = sym (whole r) ∙ e ∙ whole s in
      let committed = commits_tell apart printable 1 r.commits s.commits (flat_map other_text r.others ++ (rows_text r.rows ++ one)) (flat_map other_text s.others ++ (rows_text s.rows ++ other))
      hr.commits hs.commits (others_end apart printable r.others r.rows one) (others_end apart printable s.others s.rows other) line in
      let undone = others_tell apart printable r.others s.others (rows_text r.rows ++ one) (rows_text s.rows ++ other) hr.others hs.others refl refl committed.1 in
      let kept = rows_tell apart printable r.rows s.rows one other hr.rows hs.rows (end_no_blank r.labels r.schedule) (end_no_blank s.labels s.schedule) undone.1 in
      let ends = end_tells r.labels s.labels r.schedule s.schedule hr.labels hs.labels hr.schedule hs.schedule kept.1 in
      let commits : r.commits ≡ s.commits = committed.0 in
      let others : r.others ≡ s.others = undone.0 in
      let rows : r.rows ≡ s.rows = kept.0 in
      let labels : r.labels ≡ s.labels = ends.0 in
      let schedule : r.schedule ≡ s.schedule = ends.1 in
      let same : told_of r.commits r.others r.rows r.labels r.schedule ≡ told_of s.commits s.others s.rows s.labels s.schedule = cc in
      same
