use Rattle.std.proofs.Common.{sym, ◌∙◌}
use Rattle.utd_lexer.proofs.TextLemmas.{plain-step, quote-step}
use Rattle.utd_lexer.proofs.prefix.text_behind.Goals as goal

pub body-preserved-in-Quote : goal.body-preserved-in-Quote
body-preserved-in-Quote c =
    let i = c.body.invariant in
    let s = quote-step _ _ _ c.in-Quote.ensures.0 _ i.within (sym c.split_at.ensures.back ∙ c.in-Quote.ensures.1) c.in_ok-push_char-in-Quote.ensures i.taken i.on in
    record { within = s.0; taken = s.1; on = s.2 }

pub body-preserved : goal.body-preserved
body-preserved c =
    let i = c.body.invariant in
    let s = plain-step _ _ _ c.in-Plain.ensures.0 _ c.in-Plain.c i.within (sym c.split_at.ensures.back ∙ c.in-Plain.ensures.1) c.in-Plain.ensures.2 c.in_ok-push_char-in-Plain.ensures i.taken i.on in
    record { within = s.0; taken = s.1; on = s.2 }
