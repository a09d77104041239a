use Rattle.std.proofs.Common.{◌∙◌, ◌++◌, ap, sym, arith, length-append}
use Rattle.utd_lexer.specs.Tokens.{place_after}
use Rattle.utd_lexer.proofs.PlaceLemmas.{place_after-append}
use Rattle.utd_session.proofs.unfinished.Unfinished.extend.Goals as goal

pub returns-clause-more : goal.returns-clause-more
returns-clause-more c place bytes h =
    let piece = c.args.piece.now in
    record {
      start = h.start;
      next = c.place_behind-self.ensures ∙ ap (λ p. place_after p piece) h.next ∙ sym (place_after-append place bytes piece);
      size = omega (arith, h.size, length-append bytes piece);
      kept = λ l. c.in_ok-keep.ensures.short l ∙ ap (λ b. b ++ piece) (h.kept (omega arith));
      none = c.in_ok-keep.ensures.long;
    }
