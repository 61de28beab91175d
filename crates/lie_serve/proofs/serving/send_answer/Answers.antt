-- The link's count says whose memory was wanting.
use Rattle.std.proofs.Common.{refl, subst, inl, true, false, ℕ}
use Rattle.lie_http.specs.AnswerText.{answer_text}
use Rattle.lie_serve.specs.Serving.{HasRisen}
use Rattle.lie_serve.proofs.Sending.{starved_end, not_starved, sends_fixed}
use Rattle.lie_serve.proofs.serving.send_answer.Goals as goal

pub returns-in-Err-Failed : goal.returns-in-Err-Failed
returns-in-Err-Failed g c =
    (c.args.answer.now.status, answer_text c.args.answer.now, inl (refl, refl), rw c.in-Err-Failed.field-0-is at c.in-Err-Failed.ensures)

pub returns-then-has_risen : goal.returns-then-has_risen
returns-then-has_risen g c =
    let old = g.L.Link.line c.args.link.now in
    let new = g.L.Link.line c.write_answer.new.link in
    let text = answer_text c.args.answer.now in
    let risen = subst (HasRisen c.starved-before.result c.starved.result) c.if-has_risen.true c.has_risen.ensures in
    let rose : HasRisen old.counts.starved new.counts.starved true =
    subst (λ (n : ℕ). HasRisen n new.counts.starved true) c.starved-before.ensures (subst (λ
    (n : ℕ). HasRisen c.starved-before.result n true) c.starved.ensures risen) in (
      c.args.answer.now.status,
      text,
      inl (refl, refl),
      starved_end old new text
          (rw c.in-Err-NoMemory.field-0-is at c.in-Err-NoMemory.ensures) rose,
    )

pub returns-else-has_risen : goal.returns-else-has_risen
returns-else-has_risen g c =
    let old = g.L.Link.line c.args.link.now in
    let new = g.L.Link.line c.write_answer.new.link in
    let text = answer_text c.args.answer.now in
    let kept = subst (HasRisen c.starved-before.result c.starved.result) c.if-has_risen.false c.has_risen.ensures in
    let stayed : HasRisen old.counts.starved new.counts.starved false =
    subst (λ (n : ℕ). HasRisen n new.counts.starved false) c.starved-before.ensures (subst (λ
    (n : ℕ). HasRisen c.starved-before.result n false) c.starved.ensures kept) in
    sends_fixed old new (g.L.Link.line c.send_no_memory.new.link) c.args.answer.now c.send_no_memory.result (not_starved old new text
    (rw c.in-Err-NoMemory.field-0-is at c.in-Err-NoMemory.ensures) stayed) c.send_no_memory.ensures
