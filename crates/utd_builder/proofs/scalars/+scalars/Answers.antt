use Rattle.std.proofs.Common.{◌∷◌, refl, sym, ◌∙◌, ap, arith}
use Rattle.utd_syntax.specs.declared.terminal.Terminal.TheVariants as t
use Rattle.utd_syntax.specs.Pieces.{first, bytes_of}
use Rattle.utd_syntax.specs.Read.{read_conj, read_prod, read_scalar, read_sum}
use Rattle.utd_syntax.specs.Table.{ThePrimary, TheSign, MoreProd, MoreSum, TheNeg, MoreAnd, MoreOr}
use Rattle.utd_syntax.specs.Written as written
use Rattle.utd_syntax.proofs.Reader.{read}
use Rattle.utd_syntax.proofs.ReadScalars.{dash-takes}
use Rattle.utd_builder.specs.Building.{left}
use Rattle.utd_builder.specs.Choices.{comparison_at, sum_word_at, product_word_at, function_at, pair_function_at, end_bracket_at}
use Rattle.utd_builder.proofs.Steps.{at, at-both, less, no-more, just}
use Rattle.utd_builder.proofs.ScalarRows.{done-MoreOr, done-MoreAnd, done-MoreCmp, done-MoreSum, done-MoreProd, scalar-to-conj, conj-to-neg, neg-to-cmp, cmp-to-sum, sum-to-prod, prod-to-sign, sign-to-primary, step-ThePrimary, step-AfterScalar, step-InParens, step-InPair, step-Comma, step-NegativeDigits, is-comparison, more-comparison, is-sum_word, more-sum_word, is-product_word, more-product_word, is-function, more-function, is-pair_function, more-pair_function, row-MoreCmp-comparison, row-MoreSum-sum_word, row-MoreProd-product_word, row-ThePrimary-function, row-ThePrimary-pair_function, end-bracket}
use Rattle.utd_builder.proofs.scalars.+scalars.Goals as goal

pub negation-negation-requires : goal.negation-negation-requires
negation-negation-requires u c = (omega (arith, less t.Not (left c.args.cursor) (left c.skip.result) (sym c.terminal.ensures ∙ c.in-Not.is) refl c.skip.ensures), tt)

pub negation-returns-in_ok-new-in-Not : goal.negation-returns-in_ok-new-in-Not
negation-returns-in_ok-new-in-Not u c = rw c.in_ok-new-in-Not.ensures.ok (record { shorter = omega (arith, no-more (left c.args.cursor) (left c.skip.result) c.skip.ensures, c.in_ok-inner-in-Not.ensures.shorter); goes_on = λ stack k x h. let h1 = at t.Not _ _ (left c.args.cursor) (left c.skip.result) (TheNeg ∷ stack) k x (sym c.terminal.ensures ∙ c.in-Not.is) refl c.place-place.ensures refl c.skip.ensures h in c.in_ok-inner-in-Not.ensures.goes_on _ _ x h1 })

pub negation-comparison-requires : goal.negation-comparison-requires
negation-comparison-requires u c = (omega arith, tt)

pub negation-returns-in_ok-only-in_default : goal.negation-returns-in_ok-only-in_default
negation-returns-in_ok-only-in_default u c = record { shorter = omega (arith, c.in_ok-only-in_default.ensures.shorter); goes_on = λ stack k x h. let h1 = neg-to-cmp (left c.args.cursor) _ k x (λ e. c.in_default.not-Not (c.terminal.ensures ∙ e)) h in c.in_ok-only-in_default.ensures.goes_on _ _ x h1 }

pub comparison-sum-requires : goal.comparison-sum-requires
comparison-sum-requires u c = (omega arith, tt)

pub comparison-returns-in-None : goal.comparison-returns-in-None
comparison-returns-in-None u c = record { shorter = omega (arith, c.in_ok-left.ensures.shorter); goes_on = λ stack k x h. let h1 = cmp-to-sum (left c.args.cursor) _ k x h in let h2 = c.in_ok-left.ensures.goes_on _ _ x h1 in done-MoreCmp (left c.in_ok-left.next) _ _ x (ap comparison_at (sym c.terminal.ensures) ∙ sym c.comparison_word.ensures ∙ c.in-None.is) h2 }

pub comparison-sum-requires-in-Some : goal.comparison-sum-requires-in-Some
comparison-sum-requires-in-Some u c = (omega (arith, c.in_ok-left.ensures.shorter, less (written.comparison c.in-Some.word) (left c.in_ok-left.next) (left c.skip.result) (is-comparison (first (left c.in_ok-left.next)) c.in-Some.word (ap comparison_at (sym c.terminal.ensures) ∙ sym c.comparison_word.ensures ∙ c.in-Some.is)) (more-comparison c.in-Some.word) c.skip.ensures), tt)

pub comparison-returns-in_ok-right-in-Some : goal.comparison-returns-in_ok-right-in-Some
comparison-returns-in_ok-right-in-Some u c = record { shorter = omega (arith, c.in_ok-left.ensures.shorter, no-more (left c.in_ok-left.next) (left c.skip.result) c.skip.ensures, c.in_ok-right-in-Some.ensures.shorter); goes_on = λ stack k x h. let h1 = cmp-to-sum (left c.args.cursor) _ k x h in let h2 = c.in_ok-left.ensures.goes_on _ _ x h1 in let h3 = at (written.comparison c.in-Some.word) _ _ (left c.in_ok-left.next) (left c.skip.result) _ _ x (is-comparison (first (left c.in_ok-left.next)) c.in-Some.word (ap comparison_at (sym c.terminal.ensures) ∙ sym c.comparison_word.ensures ∙ c.in-Some.is)) (more-comparison c.in-Some.word) c.place-place.ensures refl c.skip.ensures h2 in let h4 = row-MoreCmp-comparison c.in-Some.word _ _ _ _ _ _ x h3 in c.in_ok-right-in-Some.ensures.goes_on _ _ x h4 }

pub sign-minus-requires : goal.sign-minus-requires
sign-minus-requires u c = (omega arith, (sym c.terminal.ensures ∙ c.in-Dash.is))

pub sign-returns-in-Dash : goal.sign-returns-in-Dash
sign-returns-in-Dash u c = c.minus.ensures

pub sign-primary-requires : goal.sign-primary-requires
sign-primary-requires u c = (omega arith, tt)

pub sign-returns-in_ok-only-in_default : goal.sign-returns-in_ok-only-in_default
sign-returns-in_ok-only-in_default u c = record { shorter = omega (arith, c.in_ok-only-in_default.ensures.shorter); goes_on = λ stack k x h. let h1 = sign-to-primary (left c.args.cursor) _ k x (λ e. c.in_default.not-Dash (c.terminal.ensures ∙ e)) h in c.in_ok-only-in_default.ensures.goes_on _ _ x h1 }

pub minus-returns-in_ok-digits-in-Digits : goal.minus-returns-in_ok-digits-in-Digits
minus-returns-in_ok-digits-in-Digits u c = record { shorter = omega (arith, no-more (left c.args.cursor) (left c.skip-behind.result) c.skip-behind.ensures, no-more (left c.skip-behind.result) (left c.skip.result) c.skip.ensures); goes_on = λ stack k x h. let h1 = at t.Dash _ _ (left c.args.cursor) (left c.skip-behind.result) (TheSign ∷ stack) k x c.requires refl c.place-place.ensures refl c.skip-behind.ensures h in let h2 = at-both t.Dash t.Digits c.place-place.result (bytes_of (left c.args.cursor)) (left c.args.cursor) (left c.skip-behind.result) (TheSign ∷ stack) k x (sym c.terminal.ensures ∙ c.in-Digits.is) h1 in step-NegativeDigits _ _ (left c.skip-behind.result) (left c.skip.result) _ _ x c.place-at.ensures c.in_ok-digits-in-Digits.ensures c.skip.ensures h2 }

pub minus-sign-requires : goal.minus-sign-requires
minus-sign-requires u c = (omega (arith, less t.Dash (left c.args.cursor) (left c.skip-behind.result) c.requires refl c.skip-behind.ensures), tt)

pub minus-returns-in_ok-new-in_default : goal.minus-returns-in_ok-new-in_default
minus-returns-in_ok-new-in_default u c = rw c.in_ok-new-in_default.ensures.ok (record { shorter = omega (arith, no-more (left c.args.cursor) (left c.skip-behind.result) c.skip-behind.ensures, c.in_ok-inner-in_default.ensures.shorter); goes_on = λ stack k x h. let h1 = at t.Dash _ _ (left c.args.cursor) (left c.skip-behind.result) (TheSign ∷ stack) k x c.requires refl c.place-place.ensures refl c.skip-behind.ensures h in let h2 = (sym (dash-takes (first (left c.skip-behind.result)) c.place-place.result (bytes_of (left c.args.cursor)) (read (left c.skip-behind.result)) stack k (λ e. c.in_default.not-Digits (c.terminal.ensures ∙ e))) ∙ h1) in c.in_ok-inner-in_default.ensures.goes_on _ _ x h2 })

pub parenthesized-scalar-requires : goal.parenthesized-scalar-requires
parenthesized-scalar-requires u c = (omega (arith, less t.Open (left c.args.cursor) (left c.skip.result) c.requires refl c.skip.ensures), tt)

pub parenthesized-scalar-requires-in-Colon : goal.parenthesized-scalar-requires-in-Colon
parenthesized-scalar-requires-in-Colon u c = (omega (arith, less t.Open (left c.args.cursor) (left c.skip.result) c.requires refl c.skip.ensures, c.in_ok-begin.ensures.shorter, no-more (left c.in_ok-begin.next) (left c.skip-in-Colon.result) c.skip-in-Colon.ensures), tt)

pub parenthesized-returns-in_ok-end-in-Colon : goal.parenthesized-returns-in_ok-end-in-Colon
parenthesized-returns-in_ok-end-in-Colon u c = record { shorter = omega (arith, no-more (left c.args.cursor) (left c.skip.result) c.skip.ensures, c.in_ok-begin.ensures.shorter, no-more (left c.in_ok-begin.next) (left c.skip-in-Colon.result) c.skip-in-Colon.ensures, c.in_ok-end-in-Colon.ensures.shorter, no-more (left c.in_ok-end-in-Colon.last) (left c.skip-in-Colon-2.result) c.skip-in-Colon-2.ensures); goes_on = λ stack k x h. let h1 = at t.Open _ _ (left c.args.cursor) (left c.skip.result) (ThePrimary ∷ stack) k x c.requires refl c.place-place.ensures refl c.skip.ensures h in let h2 = c.in_ok-begin.ensures.goes_on _ _ x h1 in let h3 = at t.Colon _ _ (left c.in_ok-begin.next) (left c.skip-in-Colon.result) _ _ x (sym c.terminal.ensures ∙ c.in-Colon.is) refl refl refl c.skip-in-Colon.ensures h2 in let h4 = c.in_ok-end-in-Colon.ensures.goes_on _ _ x h3 in end-bracket c.end_bracket-bracket.result (left c.in_ok-end-in-Colon.last) (left c.skip-in-Colon-2.result) _ _ x (c.end_bracket-bracket.ensures ∙ ap end_bracket_at c.terminal-in-Colon.ensures) c.skip-in-Colon-2.ensures h4 }

pub parenthesized-returns-in_default : goal.parenthesized-returns-in_default
parenthesized-returns-in_default u c = record { shorter = omega (arith, no-more (left c.args.cursor) (left c.skip.result) c.skip.ensures, c.in_ok-begin.ensures.shorter, no-more (left c.in_ok-begin.next) (left c.skip-in_default.result) c.skip-in_default.ensures); goes_on = λ stack k x h. let h1 = at t.Open _ _ (left c.args.cursor) (left c.skip.result) (ThePrimary ∷ stack) k x c.requires refl c.place-place.ensures refl c.skip.ensures h in let h2 = c.in_ok-begin.ensures.goes_on _ _ x h1 in step-AfterScalar _ _ (left c.in_ok-begin.next) (left c.skip-in_default.result) _ _ x (λ e. c.in_default.not-Colon (c.terminal.ensures ∙ e)) refl refl c.skip-in_default.ensures h2 }

pub bracketed-scalar-requires : goal.bracketed-scalar-requires
bracketed-scalar-requires u c = (omega (arith, less t.OpenBracket (left c.args.cursor) (left c.skip.result) c.requires refl c.skip.ensures), tt)

pub bracketed-scalar-requires-2 : goal.bracketed-scalar-requires-2
bracketed-scalar-requires-2 u c = (omega (arith, less t.OpenBracket (left c.args.cursor) (left c.skip.result) c.requires refl c.skip.ensures, c.in_ok-begin.ensures.shorter, no-more (left c.in_ok-begin.next) (left c.skip-2.result) c.skip-2.ensures), tt)

pub bracketed-returns : goal.bracketed-returns
bracketed-returns u c = record { shorter = omega (arith, no-more (left c.args.cursor) (left c.skip.result) c.skip.ensures, c.in_ok-begin.ensures.shorter, no-more (left c.in_ok-begin.next) (left c.skip-2.result) c.skip-2.ensures, c.in_ok-end.ensures.shorter, no-more (left c.in_ok-end.last) (left c.skip-3.result) c.skip-3.ensures); goes_on = λ stack k x h. let h1 = at t.OpenBracket _ _ (left c.args.cursor) (left c.skip.result) (ThePrimary ∷ stack) k x c.requires refl c.place-place.ensures refl c.skip.ensures h in let h2 = c.in_ok-begin.ensures.goes_on _ _ x h1 in let h3 = just t.Colon (left c.in_ok-begin.next) (left c.skip-2.result) _ _ x c.skip-2.ensures h2 in let h4 = c.in_ok-end.ensures.goes_on _ _ x h3 in end-bracket c.end_bracket-bracket.result (left c.in_ok-end.last) (left c.skip-3.result) _ _ x (c.end_bracket-bracket.ensures ∙ ap end_bracket_at c.terminal.ensures) c.skip-3.ensures h4 }

pub function-scalar-requires : goal.function-scalar-requires
function-scalar-requires u c = (omega (arith, less (written.function c.args.word) (left c.args.cursor) (left c.skip.result) c.requires (more-function c.args.word) c.skip.ensures, no-more (left c.skip.result) (left c.skip-2.result) c.skip-2.ensures), tt)

pub function-returns : goal.function-returns
function-returns u c = record { shorter = omega (arith, no-more (left c.args.cursor) (left c.skip.result) c.skip.ensures, no-more (left c.skip.result) (left c.skip-2.result) c.skip-2.ensures, c.in_ok-inner.ensures.shorter, no-more (left c.in_ok-inner.next) (left c.skip-3.result) c.skip-3.ensures); goes_on = λ stack k x h. let h1 = at (written.function c.args.word) _ _ (left c.args.cursor) (left c.skip.result) (ThePrimary ∷ stack) k x c.requires (more-function c.args.word) c.place-place.ensures refl c.skip.ensures h in let h2 = row-ThePrimary-function c.args.word _ _ _ _ _ _ x h1 in let h3 = step-InParens _ _ (left c.skip.result) (left c.skip-2.result) _ _ x refl refl c.skip-2.ensures h2 in let h4 = c.in_ok-inner.ensures.goes_on _ _ x h3 in just t.Close (left c.in_ok-inner.next) (left c.skip-3.result) _ _ x c.skip-3.ensures h4 }

pub pair-scalar-requires : goal.pair-scalar-requires
pair-scalar-requires u c = (omega (arith, less (written.pair_function c.args.word) (left c.args.cursor) (left c.skip.result) c.requires (more-pair_function c.args.word) c.skip.ensures, no-more (left c.skip.result) (left c.skip-2.result) c.skip-2.ensures), tt)

pub pair-scalar-requires-2 : goal.pair-scalar-requires-2
pair-scalar-requires-2 u c = (omega (arith, less (written.pair_function c.args.word) (left c.args.cursor) (left c.skip.result) c.requires (more-pair_function c.args.word) c.skip.ensures, no-more (left c.skip.result) (left c.skip-2.result) c.skip-2.ensures, c.in_ok-left.ensures.shorter, no-more (left c.in_ok-left.next) (left c.skip-3.result) c.skip-3.ensures), tt)

pub pair-returns : goal.pair-returns
pair-returns u c = record { shorter = omega (arith, no-more (left c.args.cursor) (left c.skip.result) c.skip.ensures, no-more (left c.skip.result) (left c.skip-2.result) c.skip-2.ensures, c.in_ok-left.ensures.shorter, no-more (left c.in_ok-left.next) (left c.skip-3.result) c.skip-3.ensures, c.in_ok-right.ensures.shorter, no-more (left c.in_ok-right.end) (left c.skip-4.result) c.skip-4.ensures); goes_on = λ stack k x h. let h1 = at (written.pair_function c.args.word) _ _ (left c.args.cursor) (left c.skip.result) (ThePrimary ∷ stack) k x c.requires (more-pair_function c.args.word) c.place-place.ensures refl c.skip.ensures h in let h2 = row-ThePrimary-pair_function c.args.word _ _ _ _ _ _ x h1 in let h3 = step-InPair _ _ (left c.skip.result) (left c.skip-2.result) _ _ x refl refl c.skip-2.ensures h2 in let h4 = c.in_ok-left.ensures.goes_on _ _ x h3 in let h5 = step-Comma _ _ (left c.in_ok-left.next) (left c.skip-3.result) _ _ x refl refl c.skip-3.ensures h4 in let h6 = c.in_ok-right.ensures.goes_on _ _ x h5 in just t.Close (left c.in_ok-right.end) (left c.skip-4.result) _ _ x c.skip-4.ensures h6 }

pub primary-function-requires : goal.primary-function-requires
primary-function-requires u c = (omega arith, (is-function (first (left c.args.cursor)) c.in-Some.word (ap function_at (sym c.terminal-terminal.ensures) ∙ sym c.function_word.ensures ∙ c.in-Some.is)))

pub primary-returns-in-Some : goal.primary-returns-in-Some
primary-returns-in-Some u c = c.function.ensures

pub primary-pair-requires : goal.primary-pair-requires
primary-pair-requires u c = (omega arith, (is-pair_function (first (left c.args.cursor)) c.in-Some-pair_word.word (ap pair_function_at (sym c.terminal-terminal.ensures) ∙ sym c.pair_word.ensures ∙ c.in-Some-pair_word.is)))

pub primary-returns-in-Some-pair_word : goal.primary-returns-in-Some-pair_word
primary-returns-in-Some-pair_word u c = c.pair.ensures

pub primary-parenthesized-requires : goal.primary-parenthesized-requires
primary-parenthesized-requires u c = (omega arith, (sym c.terminal-terminal.ensures ∙ c.in-Open.is))

pub primary-returns-in-Open : goal.primary-returns-in-Open
primary-returns-in-Open u c = c.parenthesized.ensures

pub primary-bracketed-requires : goal.primary-bracketed-requires
primary-bracketed-requires u c = (omega arith, (sym c.terminal-terminal.ensures ∙ c.in-OpenBracket.is))

pub primary-returns-in-OpenBracket : goal.primary-returns-in-OpenBracket
primary-returns-in-OpenBracket u c = c.bracketed.ensures

pub primary-extreme-requires : goal.primary-extreme-requires
primary-extreme-requires u c = (sym c.terminal-terminal.ensures ∙ c.in-First.is)

pub primary-returns-in-First : goal.primary-returns-in-First
primary-returns-in-First u c = c.extreme.ensures

pub primary-extreme-requires-in-Last : goal.primary-extreme-requires-in-Last
primary-extreme-requires-in-Last u c = (sym c.terminal-terminal.ensures ∙ c.in-Last.is)

pub primary-returns-in-Last : goal.primary-returns-in-Last
primary-returns-in-Last u c = c.extreme-in-Last.ensures

pub primary-attribute-requires : goal.primary-attribute-requires
primary-attribute-requires u c = (sym c.terminal-terminal.ensures ∙ c.in-Name.is)

pub primary-returns-in-Name : goal.primary-returns-in-Name
primary-returns-in-Name u c = c.attribute.ensures

pub primary-integer-requires : goal.primary-integer-requires
primary-integer-requires u c = (sym c.terminal-terminal.ensures ∙ c.in-Digits.is)

pub primary-returns-in-Digits : goal.primary-returns-in-Digits
primary-returns-in-Digits u c = c.integer.ensures

pub primary-text-requires : goal.primary-text-requires
primary-text-requires u c = (sym c.terminal-terminal.ensures ∙ c.in-Quoted.is)

pub primary-returns-in-Quoted : goal.primary-returns-in-Quoted
primary-returns-in-Quoted u c = c.text.ensures

pub primary-date-requires : goal.primary-date-requires
primary-date-requires u c = (sym c.terminal-terminal.ensures ∙ c.in-Date.is)

pub primary-returns-in-Date : goal.primary-returns-in-Date
primary-returns-in-Date u c = c.date.ensures

pub primary-moment-requires : goal.primary-moment-requires
primary-moment-requires u c = (sym c.terminal-terminal.ensures ∙ c.in-Moment.is)

pub primary-returns-in-Moment : goal.primary-returns-in-Moment
primary-returns-in-Moment u c = c.moment.ensures

pub primary-returns-in-True : goal.primary-returns-in-True
primary-returns-in-True u c = record { shorter = omega (arith, no-more (left c.args.cursor) (left c.skip.result) c.skip.ensures); goes_on = λ stack k x h. at t.True _ _ (left c.args.cursor) (left c.skip.result) (ThePrimary ∷ stack) k x (sym c.terminal-terminal.ensures ∙ c.in-True.is) refl c.place.ensures refl c.skip.ensures h }

pub primary-returns-in_default-terminal : goal.primary-returns-in_default-terminal
primary-returns-in_default-terminal u c = record { shorter = omega (arith, no-more (left c.args.cursor) (left c.skip-in_default-terminal.result) c.skip-in_default-terminal.ensures); goes_on = λ stack k x h. step-ThePrimary _ _ (left c.args.cursor) (left c.skip-in_default-terminal.result) _ k x (ap function_at (sym c.terminal-terminal.ensures) ∙ sym c.function_word.ensures ∙ c.in_default.is) (ap pair_function_at (sym c.terminal-terminal.ensures) ∙ sym c.pair_word.ensures ∙ c.in_default-pair_word.is) (λ e. c.in_default-terminal.not-Open (c.terminal-terminal.ensures ∙ e)) (λ e. c.in_default-terminal.not-OpenBracket (c.terminal-terminal.ensures ∙ e)) (λ e. c.in_default-terminal.not-First (c.terminal-terminal.ensures ∙ e)) (λ e. c.in_default-terminal.not-Last (c.terminal-terminal.ensures ∙ e)) (λ e. c.in_default-terminal.not-Name (c.terminal-terminal.ensures ∙ e)) (λ e. c.in_default-terminal.not-Digits (c.terminal-terminal.ensures ∙ e)) (λ e. c.in_default-terminal.not-Quoted (c.terminal-terminal.ensures ∙ e)) (λ e. c.in_default-terminal.not-Date (c.terminal-terminal.ensures ∙ e)) (λ e. c.in_default-terminal.not-Moment (c.terminal-terminal.ensures ∙ e)) (λ e. c.in_default-terminal.not-True (c.terminal-terminal.ensures ∙ e)) c.place-in_default-terminal.ensures refl c.skip-in_default-terminal.ensures h }

pub disjunction-conjunction-requires : goal.disjunction-conjunction-requires
disjunction-conjunction-requires u c = (omega arith, tt)

pub disjunction-chain-init : goal.disjunction-chain-init
disjunction-chain-init u c = rw c.in_ok-tree.ensures.ok ((λ stack k x h. let h1 = scalar-to-conj (left c.args.cursor) _ k x h in c.in_ok-first.ensures.goes_on _ _ x h1), c.in_ok-first.ensures.shorter)

pub disjunction-disjoined-requires : goal.disjunction-disjoined-requires
disjunction-disjoined-requires u c = (omega (arith, c.chain.invariant.1), (sym c.terminal.ensures ∙ c.in-Or.is))

pub disjunction-chain-smaller : goal.disjunction-chain-smaller
disjunction-chain-smaller u c = omega (arith, c.in_ok-so_far.ensures.shorter)

pub disjunction-chain-preserved : goal.disjunction-chain-preserved
disjunction-chain-preserved u c = ((λ stack k x h. c.in_ok-so_far.ensures.goes_on stack (λ w. k (w.0, w.1)) x (c.chain.invariant.0 stack k x h)), omega (arith, c.chain.invariant.1, c.in_ok-so_far.ensures.shorter))

pub disjunction-returns : goal.disjunction-returns
disjunction-returns u c = record { shorter = c.chain.invariant.1; goes_on = λ stack k x h. done-MoreOr (left c.chain.so_far.1) _ _ x (λ e. c.in_default.not-Or (c.terminal.ensures ∙ e)) (c.chain.invariant.0 stack k x h) }

pub disjoined-conjunction-requires : goal.disjoined-conjunction-requires
disjoined-conjunction-requires u c = (omega (arith, less t.Or (left c.args.cursor) (left c.skip.result) c.requires refl c.skip.ensures), tt)

pub disjoined-returns : goal.disjoined-returns
disjoined-returns u c = rw c.in_ok-tree.ensures.ok (record { shorter = omega (arith, less t.Or (left c.args.cursor) (left c.skip.result) c.requires refl c.skip.ensures, c.in_ok-right.ensures.shorter); goes_on = λ stack k x h. let h1 = at t.Or _ _ (left c.args.cursor) (left c.skip.result) (MoreOr ∷ stack) (λ vs. k (vs.0 (read_scalar c.args.so_far.value), vs.1)) x c.requires refl c.place-place.ensures refl c.skip.ensures h in c.in_ok-right.ensures.goes_on _ _ x h1 })

pub conjunction-negation-requires : goal.conjunction-negation-requires
conjunction-negation-requires u c = (omega arith, tt)

pub conjunction-chain-init : goal.conjunction-chain-init
conjunction-chain-init u c = ((λ stack k x h. let h1 = conj-to-neg (left c.args.cursor) _ k x h in c.in_ok-first.ensures.goes_on _ _ x h1), c.in_ok-first.ensures.shorter)

pub conjunction-conjoined-requires : goal.conjunction-conjoined-requires
conjunction-conjoined-requires u c = (omega (arith, c.chain.invariant.1), (sym c.terminal.ensures ∙ c.in-And.is))

pub conjunction-chain-smaller : goal.conjunction-chain-smaller
conjunction-chain-smaller u c = omega (arith, c.in_ok-so_far.ensures.shorter)

pub conjunction-chain-preserved : goal.conjunction-chain-preserved
conjunction-chain-preserved u c = ((λ stack k x h. c.in_ok-so_far.ensures.goes_on stack (λ w. k (w.0, w.1)) x (c.chain.invariant.0 stack k x h)), omega (arith, c.chain.invariant.1, c.in_ok-so_far.ensures.shorter))

pub conjunction-returns : goal.conjunction-returns
conjunction-returns u c = record { shorter = c.chain.invariant.1; goes_on = λ stack k x h. done-MoreAnd (left c.chain.so_far.1) _ _ x (λ e. c.in_default.not-And (c.terminal.ensures ∙ e)) (c.chain.invariant.0 stack k x h) }

pub conjoined-negation-requires : goal.conjoined-negation-requires
conjoined-negation-requires u c = (omega (arith, less t.And (left c.args.cursor) (left c.skip.result) c.requires refl c.skip.ensures), tt)

pub conjoined-returns : goal.conjoined-returns
conjoined-returns u c = rw c.in_ok-inner.ensures.ok (record { shorter = omega (arith, less t.And (left c.args.cursor) (left c.skip.result) c.requires refl c.skip.ensures, c.in_ok-right.ensures.shorter); goes_on = λ stack k x h. let h1 = at t.And _ _ (left c.args.cursor) (left c.skip.result) (MoreAnd ∷ stack) (λ vs. k (vs.0 (read_conj c.args.so_far), vs.1)) x c.requires refl c.place-place.ensures refl c.skip.ensures h in c.in_ok-right.ensures.goes_on _ _ x h1 })

pub sum-product-requires : goal.sum-product-requires
sum-product-requires u c = (omega arith, tt)

pub sum-chain-init : goal.sum-chain-init
sum-chain-init u c = ((λ stack k x h. let h1 = sum-to-prod (left c.args.cursor) _ k x h in c.in_ok-first.ensures.goes_on _ _ x h1), c.in_ok-first.ensures.shorter)

pub sum-added-requires : goal.sum-added-requires
sum-added-requires u c = (omega (arith, c.chain.invariant.1), (is-sum_word (first (left c.chain.so_far.1)) c.in-Some.word (ap sum_word_at (sym c.terminal.ensures) ∙ sym c.sum_word.ensures ∙ c.in-Some.is)))

pub sum-chain-smaller : goal.sum-chain-smaller
sum-chain-smaller u c = omega (arith, c.in_ok-so_far.ensures.shorter)

pub sum-chain-preserved : goal.sum-chain-preserved
sum-chain-preserved u c = ((λ stack k x h. c.in_ok-so_far.ensures.goes_on stack (λ w. k (w.0, w.1)) x (c.chain.invariant.0 stack k x h)), omega (arith, c.chain.invariant.1, c.in_ok-so_far.ensures.shorter))

pub sum-returns : goal.sum-returns
sum-returns u c = record { shorter = c.chain.invariant.1; goes_on = λ stack k x h. done-MoreSum (left c.chain.so_far.1) _ _ x (ap sum_word_at (sym c.terminal.ensures) ∙ sym c.sum_word.ensures ∙ c.in_default.is) (c.chain.invariant.0 stack k x h) }

pub added-product-requires : goal.added-product-requires
added-product-requires u c = (omega (arith, less (written.sum_word c.args.word) (left c.args.cursor) (left c.skip.result) c.requires (more-sum_word c.args.word) c.skip.ensures), tt)

pub added-returns : goal.added-returns
added-returns u c = rw c.in_ok-inner.ensures.ok (record { shorter = omega (arith, less (written.sum_word c.args.word) (left c.args.cursor) (left c.skip.result) c.requires (more-sum_word c.args.word) c.skip.ensures, c.in_ok-right.ensures.shorter); goes_on = λ stack k x h. let h1 = at (written.sum_word c.args.word) _ _ (left c.args.cursor) (left c.skip.result) (MoreSum ∷ stack) (λ vs. k (vs.0 (read_sum c.args.so_far), vs.1)) x c.requires (more-sum_word c.args.word) c.place-place.ensures refl c.skip.ensures h in let h2 = row-MoreSum-sum_word c.args.word _ _ _ _ _ _ x h1 in c.in_ok-right.ensures.goes_on _ _ x h2 })

pub product-sign-requires : goal.product-sign-requires
product-sign-requires u c = (omega arith, tt)

pub product-chain-init : goal.product-chain-init
product-chain-init u c = ((λ stack k x h. let h1 = prod-to-sign (left c.args.cursor) _ k x h in c.in_ok-first.ensures.goes_on _ _ x h1), c.in_ok-first.ensures.shorter)

pub product-multiplied-requires : goal.product-multiplied-requires
product-multiplied-requires u c = (omega (arith, c.chain.invariant.1), (is-product_word (first (left c.chain.so_far.1)) c.in-Some.word (ap product_word_at (sym c.terminal.ensures) ∙ sym c.product_word.ensures ∙ c.in-Some.is)))

pub product-chain-smaller : goal.product-chain-smaller
product-chain-smaller u c = omega (arith, c.in_ok-so_far.ensures.shorter)

pub product-chain-preserved : goal.product-chain-preserved
product-chain-preserved u c = ((λ stack k x h. c.in_ok-so_far.ensures.goes_on stack (λ w. k (w.0, w.1)) x (c.chain.invariant.0 stack k x h)), omega (arith, c.chain.invariant.1, c.in_ok-so_far.ensures.shorter))

pub product-returns : goal.product-returns
product-returns u c = record { shorter = c.chain.invariant.1; goes_on = λ stack k x h. done-MoreProd (left c.chain.so_far.1) _ _ x (ap product_word_at (sym c.terminal.ensures) ∙ sym c.product_word.ensures ∙ c.in_default.is) (c.chain.invariant.0 stack k x h) }

pub multiplied-sign-requires : goal.multiplied-sign-requires
multiplied-sign-requires u c = (omega (arith, less (written.product_word c.args.word) (left c.args.cursor) (left c.skip.result) c.requires (more-product_word c.args.word) c.skip.ensures), tt)

pub multiplied-returns : goal.multiplied-returns
multiplied-returns u c = rw c.in_ok-inner.ensures.ok (record { shorter = omega (arith, less (written.product_word c.args.word) (left c.args.cursor) (left c.skip.result) c.requires (more-product_word c.args.word) c.skip.ensures, c.in_ok-right.ensures.shorter); goes_on = λ stack k x h. let h1 = at (written.product_word c.args.word) _ _ (left c.args.cursor) (left c.skip.result) (MoreProd ∷ stack) (λ vs. k (vs.0 (read_prod c.args.so_far), vs.1)) x c.requires (more-product_word c.args.word) c.place-place.ensures refl c.skip.ensures h in let h2 = row-MoreProd-product_word c.args.word _ _ _ _ _ _ x h1 in c.in_ok-right.ensures.goes_on _ _ x h2 })
