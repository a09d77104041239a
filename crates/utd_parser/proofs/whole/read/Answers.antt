use Rattle.std.proofs.Common.{◌∙◌, sym, ap, arith}
use Rattle.utd_syntax.specs.Verdict.{verdict}
use Rattle.utd_ranges.specs.Limits.{limits}
use Rattle.utd_builder.specs.Building.{pieces}
use Rattle.utd_parser.specs.Frames.{load_of, symbols_of}
use Rattle.utd_parser.proofs.Trees.{some-left, verdict-left, verdict-over}
use Rattle.utd_parser.proofs.whole.read.Goals as goal

pub split_at-requires : goal.split_at-requires
split_at-requires c = c.token.invariant.0

pub returns-then-is_empty : goal.returns-then-is_empty
returns-then-is_empty c = c.token.invariant.1 ∙ ap (λ z. verdict limits (pieces z) (symbols_of c.token.reading.stack) (load_of c.token.reading.load)) (sym c.split_at.ensures.back) ∙ c.in_ok-pass.ensures ∙ verdict-over _ _ _ (sym c.is_empty.ensures ∙ c.if-is_empty.true)

pub token-preserved : goal.token-preserved
token-preserved c = (let some = some-left _ (sym c.is_empty.ensures ∙ c.if-is_empty.false) in omega (arith, some, c.split_at.ensures.back_len), c.token.invariant.1 ∙ ap (λ z. verdict limits (pieces z) (symbols_of c.token.reading.stack) (load_of c.token.reading.load)) (sym c.split_at.ensures.back) ∙ c.in_ok-pass.ensures ∙ verdict-left _ _ c.token.at _ _ c.split_at.ensures.back (sym c.is_empty.ensures ∙ c.if-is_empty.false))
