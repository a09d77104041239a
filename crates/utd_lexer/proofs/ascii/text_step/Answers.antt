use Rattle.std.proofs.Common.{◌∷◌, sym, ap, ◌∙◌}
use Rattle.utd_lexer.proofs.WrittenLemmas.{text-written}
use Rattle.utd_lexer.proofs.AsciiLemmas.{front-bytes}
use Rattle.utd_lexer.proofs.ascii.text_step.Goals as goal

pub returns-then-ends_text : goal.returns-then-ends_text
returns-then-ends_text c =
    let behind = c.in-Some.behind.now in
    let at = sym c.split_at.ensures.back ∙ c.in-Some.ensures.cases.0 ∙ ap (λ z. z ∷ behind) c.if-quote-eq39.true in
    text-written c.args.body.now c.split_at.result.0.now behind c.unquoted_bytes-n.result c.unquoted_bytes-n.ensures at (c.ends_text.ensures c.if-ends_text.true) (front-bytes c.args.body.now c.split_at.result.0.now c.unquoted_bytes-n.result c.requires c.split_at.ensures.front)
