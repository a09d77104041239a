use Rattle.std.proofs.Common.{◌∙◌, inl, refl}
use Rattle.utd_session.specs.Databases.{state_of}
use Rattle.utd_session.proofs.TextLemmas.{answered_text, refused_unread, text_takes}
use Rattle.utd_session.proofs.feeding.answer_to_ended.Goals as goal

pub returns-in-Some-clause-reply : goal.returns-in-Some-clause-reply
returns-in-Some-clause-reply g c place bytes h =
    let t = c.in-Some.ensures.is place bytes h in
    answered_text c.start.result place c.in-Some.text.now bytes c.args.number (state_of c.args.database.now) (state_of c.answer_to_text.new.database) c.args.texts.now c.answer_to_text.new.texts c.answer_to_text.result (c.start.ensures ∙ h.start) t.1 t.0 c.answer_to_text.ensures.answered

pub returns-in-Some-clause-cost : goal.returns-in-Some-clause-cost
returns-in-Some-clause-cost g c place bytes h =
    let t = c.in-Some.ensures.is place bytes h in
    text_takes c.start.result place c.in-Some.text.now bytes (state_of c.args.database.now) c.args.steps.now c.answer_to_text.new.steps (c.start.ensures ∙ h.start) t.1 t.0 c.answer_to_text.ensures.cost

pub returns-in-None-clause-reply : goal.returns-in-None-clause-reply
returns-in-None-clause-reply g c place bytes h =
    refused_unread place bytes c.args.number (state_of c.args.database.now) c.args.texts.now c.refusal.result (c.in-None.ensures.is place bytes h) c.refusal.ensures

pub returns-in-None-clause-cost : goal.returns-in-None-clause-cost
returns-in-None-clause-cost g c place bytes h = inl refl
