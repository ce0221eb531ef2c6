use Rattle.std.proofs.Common.{◌≡◌, suc, ◌-◌, ◌+◌, length, ap, sym, ◌∙◌, arith}
use Rattle.sg_script.specs.declared.sessions.SessionScript.{SessionScript}
use Rattle.sg_script.specs.Plans.{above_all, numbers_of}
use Rattle.sg_script.proofs.Lasts.{above_all-last}
use Rattle.sg_script.proofs.phrases.least_session.Goals as goal

pub returns-in-len1-up : goal.returns-in-len1-up
returns-in-len1-up c =
    let one : suc (length c.sessions.result.now - 1) ≡ length c.sessions.result.now = omega arith in
    ap (λ n. n + 1) (c.from.ensures ∙ c.number.ensures.number) ∙ ap (λ (s : SessionScript). s.session + 1) c.last-item.is
    ∙ sym (above_all-last (λ s. s.session) c.sessions.result.now _ _ one)
    ∙ ap (λ ss. above_all (numbers_of ss)) c.sessions.ensures.all
