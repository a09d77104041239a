use Rattle.std.proofs.Common.{◌∷◌, refl, sym, ◌∙◌, ap, subst, arith}
use Rattle.utd_syntax.specs.declared.terminal.Terminal.TheVariants as t
use Rattle.utd_syntax.specs.Pieces.{first}
use Rattle.utd_syntax.specs.Plain as plain
use Rattle.utd_syntax.specs.Read.{read_operand, read_terms}
use Rattle.utd_syntax.specs.Table.{TheOperand, TheExtend, TheSummarize, MoreInfix, TheUsing, AfterOperand}
use Rattle.utd_syntax.specs.Written as written
use Rattle.utd_builder.specs.Building.{left}
use Rattle.utd_builder.specs.Choices.{infix_word_at}
use Rattle.utd_builder.proofs.Steps.{at, less, no-more, just}
use Rattle.utd_builder.proofs.RelationRows.{done-MoreInfix, done-MorePostfix, not-infix, rel-to-terms, terms-to-term, term-to-rel_primary, rel_primary-to-operand, using_part-to-operand, step-TheOperand, step-AfterOperand, is-infix_word, more-infix_word, more-pack_word, row-MoreInfix-infix_word, row-AfterOperand-infix_word, row-TheOperand-pack_word}
use Rattle.utd_syntax.proofs.FormEnds.{Starts_using, Starts_extend, Starts_summarize, Starts_literal}
use Rattle.utd_syntax.proofs.FirstTokens.{rel-as-using, rel_primary-as-extend, rel_primary-as-summarize, operand-as-literal, using_part-as-extend, using_part-as-summarize}
use Rattle.utd_builder.specs.Choices.{is_infix, is_postfix}
use Rattle.utd_builder.proofs.relations.+relations.Goals as goal

pub rel-using-requires : goal.rel-using-requires
rel-using-requires u c = (omega arith, (sym c.terminal.ensures ∙ c.in-Using.is))

pub rel-returns-in_ok-new-in-Using : goal.rel-returns-in_ok-new-in-Using
rel-returns-in_ok-new-in-Using u c = rw c.in_ok-new-in-Using.ensures.ok (record { shorter = omega (arith, c.in_ok-only-in-Using.ensures.shorter); goes_on = λ stack k x h. let h1 = (sym (rel-as-using (left c.args.cursor) stack k (subst Starts_using (sym (sym c.terminal.ensures ∙ c.in-Using.is)) tt)) ∙ h) in c.in_ok-only-in-Using.ensures.goes_on _ _ x h1 })

pub rel-terms-requires : goal.rel-terms-requires
rel-terms-requires u c = (omega arith, tt)

pub rel-returns-in_ok-new-in_default : goal.rel-returns-in_ok-new-in_default
rel-returns-in_ok-new-in_default u c = rw c.in_ok-new-in_default.ensures.ok (record { shorter = omega (arith, c.in_ok-only-in_default.ensures.shorter); goes_on = λ stack k x h. let h1 = rel-to-terms (left c.args.cursor) _ k x (λ e. c.in_default.not-Using (c.terminal.ensures ∙ e)) h in c.in_ok-only-in_default.ensures.goes_on _ _ x h1 })

pub terms-term-requires : goal.terms-term-requires
terms-term-requires u c = (omega arith, tt)

pub terms-chain-init : goal.terms-chain-init
terms-chain-init u c = ((λ stack k x h. let h1 = terms-to-term (left c.args.cursor) _ k x h in c.in_ok-first.ensures.goes_on _ _ x h1), c.in_ok-first.ensures.shorter)

pub terms-joined-requires : goal.terms-joined-requires
terms-joined-requires u c = (omega (arith, c.chain.invariant.1), (ap is_infix (sym c.terminal.ensures) ∙ sym c.is_infix.ensures ∙ c.chain-test.true))

pub terms-chain-smaller : goal.terms-chain-smaller
terms-chain-smaller u c = omega (arith, c.in_ok-so_far.ensures.shorter)

pub terms-chain-preserved : goal.terms-chain-preserved
terms-chain-preserved u c = ((λ stack k x h. c.in_ok-so_far.ensures.goes_on stack (λ w. k (w.0, w.1)) x (c.chain.invariant.0 stack k x h)), omega (arith, c.chain.invariant.1, c.in_ok-so_far.ensures.shorter))

pub terms-returns : goal.terms-returns
terms-returns u c = record { shorter = c.chain.invariant.1; goes_on = λ stack k x h. done-MoreInfix (left c.chain.so_far.1) _ _ x (ap is_infix (sym c.terminal.ensures) ∙ sym c.is_infix.ensures ∙ c.chain-test.false) (c.chain.invariant.0 stack k x h) }

pub joined-term-requires : goal.joined-term-requires
joined-term-requires u c = (omega (arith, less (written.infix_word c.in-Some.word) (left c.args.cursor) (left c.skip.result) (is-infix_word (first (left c.args.cursor)) c.in-Some.word (ap infix_word_at (sym c.terminal.ensures) ∙ sym c.infix_word.ensures ∙ c.in-Some.is)) (more-infix_word c.in-Some.word) c.skip.ensures), tt)

pub joined-returns-in_ok-right-in-Some : goal.joined-returns-in_ok-right-in-Some
joined-returns-in_ok-right-in-Some u c = rw c.in_ok-inner.ensures.ok (record { shorter = omega (arith, less (written.infix_word c.in-Some.word) (left c.args.cursor) (left c.skip.result) (is-infix_word (first (left c.args.cursor)) c.in-Some.word (ap infix_word_at (sym c.terminal.ensures) ∙ sym c.infix_word.ensures ∙ c.in-Some.is)) (more-infix_word c.in-Some.word) c.skip.ensures, c.in_ok-right-in-Some.ensures.shorter); goes_on = λ stack k x h. let h1 = at (written.infix_word c.in-Some.word) _ _ (left c.args.cursor) (left c.skip.result) (MoreInfix ∷ stack) (λ vs. k (vs.0 (read_terms c.args.so_far), vs.1)) x (is-infix_word (first (left c.args.cursor)) c.in-Some.word (ap infix_word_at (sym c.terminal.ensures) ∙ sym c.infix_word.ensures ∙ c.in-Some.is)) (more-infix_word c.in-Some.word) c.place-place.ensures refl c.skip.ensures h in let h2 = row-MoreInfix-infix_word c.in-Some.word _ _ _ _ _ _ x h1 in c.in_ok-right-in-Some.ensures.goes_on _ _ x h2 })

pub joined-term-requires-in-None : goal.joined-term-requires-in-None
joined-term-requires-in-None u c = (omega (arith, less t.Not (left c.args.cursor) (left c.skip-in-None.result) (not-infix (first (left c.args.cursor)) c.requires (ap infix_word_at (sym c.terminal.ensures) ∙ sym c.infix_word.ensures ∙ c.in-None.is)) refl c.skip-in-None.ensures, no-more (left c.skip-in-None.result) (left c.skip-in-None-2.result) c.skip-in-None-2.ensures), tt)

pub joined-returns-in_ok-right-in-None : goal.joined-returns-in_ok-right-in-None
joined-returns-in_ok-right-in-None u c = rw c.in_ok-inner.ensures.ok (record { shorter = omega (arith, less t.Not (left c.args.cursor) (left c.skip-in-None.result) (not-infix (first (left c.args.cursor)) c.requires (ap infix_word_at (sym c.terminal.ensures) ∙ sym c.infix_word.ensures ∙ c.in-None.is)) refl c.skip-in-None.ensures, no-more (left c.skip-in-None.result) (left c.skip-in-None-2.result) c.skip-in-None-2.ensures, c.in_ok-right-in-None.ensures.shorter); goes_on = λ stack k x h. let h1 = at t.Not _ _ (left c.args.cursor) (left c.skip-in-None.result) (MoreInfix ∷ stack) (λ vs. k (vs.0 (read_terms c.args.so_far), vs.1)) x (not-infix (first (left c.args.cursor)) c.requires (ap infix_word_at (sym c.terminal.ensures) ∙ sym c.infix_word.ensures ∙ c.in-None.is)) refl c.place-place.ensures refl c.skip-in-None.ensures h in let h2 = just t.Matching (left c.skip-in-None.result) (left c.skip-in-None-2.result) _ _ x c.skip-in-None-2.ensures h1 in c.in_ok-right-in-None.ensures.goes_on _ _ x h2 })

pub term-rel_primary-requires : goal.term-rel_primary-requires
term-rel_primary-requires u c = (omega arith, tt)

pub term-chain-init : goal.term-chain-init
term-chain-init u c = ((λ stack k x h. let h1 = term-to-rel_primary (left c.args.cursor) _ k x h in c.in_ok-first.ensures.goes_on _ _ x h1), c.in_ok-first.ensures.shorter)

pub term-postfixed-requires : goal.term-postfixed-requires
term-postfixed-requires u c = (ap is_postfix (sym c.terminal.ensures) ∙ sym c.is_postfix.ensures ∙ c.chain-test.true)

pub term-chain-smaller : goal.term-chain-smaller
term-chain-smaller u c = omega (arith, c.in_ok-so_far.ensures.shorter)

pub term-chain-preserved : goal.term-chain-preserved
term-chain-preserved u c = ((λ stack k x h. c.in_ok-so_far.ensures.goes_on stack (λ w. k (w.0, w.1)) x (c.chain.invariant.0 stack k x h)), omega (arith, c.chain.invariant.1, c.in_ok-so_far.ensures.shorter))

pub term-returns : goal.term-returns
term-returns u c = record { shorter = c.chain.invariant.1; goes_on = λ stack k x h. done-MorePostfix (left c.chain.so_far.1) _ _ x (ap is_postfix (sym c.terminal.ensures) ∙ sym c.is_postfix.ensures ∙ c.chain-test.false) (c.chain.invariant.0 stack k x h) }

pub rel_primary-extend-requires : goal.rel_primary-extend-requires
rel_primary-extend-requires u c = (omega arith, (sym c.terminal.ensures ∙ c.in-Extend.is))

pub rel_primary-returns-in_ok-only-in-Extend : goal.rel_primary-returns-in_ok-only-in-Extend
rel_primary-returns-in_ok-only-in-Extend u c = record { shorter = omega (arith, c.in_ok-only-in-Extend.ensures.shorter); goes_on = λ stack k x h. let h1 = (sym (rel_primary-as-extend (left c.args.cursor) stack k (subst Starts_extend (sym (sym c.terminal.ensures ∙ c.in-Extend.is)) tt)) ∙ h) in c.in_ok-only-in-Extend.ensures.goes_on _ _ x h1 }

pub rel_primary-summarize-requires : goal.rel_primary-summarize-requires
rel_primary-summarize-requires u c = (omega arith, (sym c.terminal.ensures ∙ c.in-Summarize.is))

pub rel_primary-returns-in_ok-only-in-Summarize : goal.rel_primary-returns-in_ok-only-in-Summarize
rel_primary-returns-in_ok-only-in-Summarize u c = record { shorter = omega (arith, c.in_ok-only-in-Summarize.ensures.shorter); goes_on = λ stack k x h. let h1 = (sym (rel_primary-as-summarize (left c.args.cursor) stack k (subst Starts_summarize (sym (sym c.terminal.ensures ∙ c.in-Summarize.is)) tt)) ∙ h) in c.in_ok-only-in-Summarize.ensures.goes_on _ _ x h1 }

pub rel_primary-operand-requires : goal.rel_primary-operand-requires
rel_primary-operand-requires u c = (omega arith, tt)

pub rel_primary-returns-in_ok-only-in_default : goal.rel_primary-returns-in_ok-only-in_default
rel_primary-returns-in_ok-only-in_default u c = record { shorter = omega (arith, c.in_ok-only-in_default.ensures.shorter); goes_on = λ stack k x h. let h1 = rel_primary-to-operand (left c.args.cursor) _ k x (λ e. c.in_default.not-Extend (c.terminal.ensures ∙ e)) (λ e. c.in_default.not-Summarize (c.terminal.ensures ∙ e)) h in c.in_ok-only-in_default.ensures.goes_on _ _ x h1 }

pub operand-enclosed-requires : goal.operand-enclosed-requires
operand-enclosed-requires u c = (omega arith, (sym c.terminal.ensures ∙ c.in-Open.is))

pub operand-returns-in-Open : goal.operand-returns-in-Open
operand-returns-in-Open u c = c.enclosed.ensures

pub operand-packed-requires : goal.operand-packed-requires
operand-packed-requires u c = (omega arith, (sym c.terminal.ensures ∙ c.in-Pack.is))

pub operand-returns-in-Pack : goal.operand-returns-in-Pack
operand-returns-in-Pack u c = c.packed.ensures

pub operand-packed-requires-in-Unpack : goal.operand-packed-requires-in-Unpack
operand-packed-requires-in-Unpack u c = (omega arith, (sym c.terminal.ensures ∙ c.in-Unpack.is))

pub operand-returns-in-Unpack : goal.operand-returns-in-Unpack
operand-returns-in-Unpack u c = c.packed-in-Unpack.ensures

pub operand-returns-in_ok-only-in-Relation : goal.operand-returns-in_ok-only-in-Relation
operand-returns-in_ok-only-in-Relation u c = record { shorter = omega (arith, c.in_ok-only-in-Relation.ensures.shorter); goes_on = λ stack k x h. let h1 = (sym (operand-as-literal (left c.args.cursor) stack k (subst Starts_literal (sym (sym c.terminal.ensures ∙ c.in-Relation.is)) tt)) ∙ h) in c.in_ok-only-in-Relation.ensures.goes_on _ _ x h1 }

pub operand-returns-in_ok-name-in_default : goal.operand-returns-in_ok-name-in_default
operand-returns-in_ok-name-in_default u c = record { shorter = omega (arith, no-more (left c.args.cursor) (left c.in_ok-name-in_default.next) c.in_ok-name-in_default.ensures.2); goes_on = λ stack k x h. step-TheOperand _ _ (left c.args.cursor) (left c.in_ok-name-in_default.next) _ k x (λ e. c.in_default.not-Open (c.terminal.ensures ∙ e)) (λ e. c.in_default.not-Relation (c.terminal.ensures ∙ e)) (λ e. c.in_default.not-Pack (c.terminal.ensures ∙ e)) (λ e. c.in_default.not-Unpack (c.terminal.ensures ∙ e)) c.in_ok-name-in_default.ensures.0 c.in_ok-name-in_default.ensures.1 c.in_ok-name-in_default.ensures.2 h }

pub enclosed-rel-requires : goal.enclosed-rel-requires
enclosed-rel-requires u c = (omega (arith, less t.Open (left c.args.cursor) (left c.skip.result) c.requires refl c.skip.ensures), tt)

pub enclosed-returns : goal.enclosed-returns
enclosed-returns u c = record { shorter = omega (arith, no-more (left c.args.cursor) (left c.skip.result) c.skip.ensures, c.in_ok-inner.ensures.shorter, no-more (left c.in_ok-inner.next) (left c.skip-2.result) c.skip-2.ensures); goes_on = λ stack k x h. let h1 = at t.Open _ _ (left c.args.cursor) (left c.skip.result) (TheOperand ∷ stack) k x c.requires refl c.place-place.ensures refl c.skip.ensures h in let h2 = c.in_ok-inner.ensures.goes_on _ _ x h1 in just t.Close (left c.in_ok-inner.next) (left c.skip-2.result) _ _ x c.skip-2.ensures h2 }

pub packed-rel-requires : goal.packed-rel-requires
packed-rel-requires u c = (omega (arith, less (written.pack_word c.args.word) (left c.args.cursor) (left c.skip.result) c.requires (more-pack_word c.args.word) c.skip.ensures), tt)

pub packed-returns : goal.packed-returns
packed-returns u c = record { shorter = omega (arith, no-more (left c.args.cursor) (left c.skip.result) c.skip.ensures, c.in_ok-inner.ensures.shorter, no-more (left c.in_ok-inner.next) (left c.skip-2.result) c.skip-2.ensures, c.in_ok-names.ensures.shorter); goes_on = λ stack k x h. let h1 = at (written.pack_word c.args.word) _ _ (left c.args.cursor) (left c.skip.result) (TheOperand ∷ stack) k x c.requires (more-pack_word c.args.word) c.place-place.ensures refl c.skip.ensures h in let h2 = row-TheOperand-pack_word c.args.word _ _ _ _ _ _ x h1 in let h3 = c.in_ok-inner.ensures.goes_on _ _ x h2 in let h4 = just t.On (left c.in_ok-inner.next) (left c.skip-2.result) _ _ x c.skip-2.ensures h3 in c.in_ok-names.ensures.goes_on _ _ x h4 }

pub extend-rel-requires : goal.extend-rel-requires
extend-rel-requires u c = (omega (arith, less t.Extend (left c.args.cursor) (left c.skip.result) c.requires refl c.skip.ensures), tt)

pub extend-returns : goal.extend-returns
extend-returns u c = record { shorter = omega (arith, no-more (left c.args.cursor) (left c.skip.result) c.skip.ensures, c.in_ok-inner.ensures.shorter, no-more (left c.in_ok-inner.next) (left c.skip-2.result) c.skip-2.ensures, c.in_ok-sets.ensures.shorter); goes_on = λ stack k x h. let h1 = at t.Extend _ _ (left c.args.cursor) (left c.skip.result) (TheExtend ∷ stack) k x c.requires refl c.place-place.ensures refl c.skip.ensures h in let h2 = c.in_ok-inner.ensures.goes_on _ _ x h1 in let h3 = just t.Colon (left c.in_ok-inner.next) (left c.skip-2.result) _ _ x c.skip-2.ensures h2 in c.in_ok-sets.ensures.goes_on _ _ x h3 }

pub summarize-rel-requires : goal.summarize-rel-requires
summarize-rel-requires u c = (omega (arith, less t.Summarize (left c.args.cursor) (left c.skip.result) c.requires refl c.skip.ensures), tt)

pub summarize-returns : goal.summarize-returns
summarize-returns u c = record { shorter = omega (arith, no-more (left c.args.cursor) (left c.skip.result) c.skip.ensures, c.in_ok-inner.ensures.shorter, no-more (left c.in_ok-inner.next) (left c.skip-2.result) c.skip-2.ensures, c.in_ok-by.ensures.shorter, no-more (left c.in_ok-by.behind) (left c.skip-3.result) c.skip-3.ensures, c.in_ok-sums.ensures.shorter); goes_on = λ stack k x h. let h1 = at t.Summarize _ _ (left c.args.cursor) (left c.skip.result) (TheSummarize ∷ stack) k x c.requires refl c.place-place.ensures refl c.skip.ensures h in let h2 = c.in_ok-inner.ensures.goes_on _ _ x h1 in let h3 = just t.By (left c.in_ok-inner.next) (left c.skip-2.result) _ _ x c.skip-2.ensures h2 in let h4 = c.in_ok-by.ensures.goes_on _ _ x h3 in let h5 = just t.Colon (left c.in_ok-by.behind) (left c.skip-3.result) _ _ x c.skip-3.ensures h4 in c.in_ok-sums.ensures.goes_on _ _ x h5 }

pub using-using_part-requires : goal.using-using_part-requires
using-using_part-requires u c = (omega (arith, less t.Using (left c.args.cursor) (left c.skip.result) c.requires refl c.skip.ensures, c.in_ok-names.ensures.shorter, no-more (left c.in_ok-names.next) (left c.skip-2.result) c.skip-2.ensures), tt)

pub using-returns : goal.using-returns
using-returns u c = record { shorter = omega (arith, no-more (left c.args.cursor) (left c.skip.result) c.skip.ensures, c.in_ok-names.ensures.shorter, no-more (left c.in_ok-names.next) (left c.skip-2.result) c.skip-2.ensures, c.in_ok-part.ensures.shorter); goes_on = λ stack k x h. let h1 = at t.Using _ _ (left c.args.cursor) (left c.skip.result) (TheUsing ∷ stack) k x c.requires refl c.place-place.ensures refl c.skip.ensures h in let h2 = c.in_ok-names.ensures.goes_on _ _ x h1 in let h3 = just t.Colon (left c.in_ok-names.next) (left c.skip-2.result) _ _ x c.skip-2.ensures h2 in c.in_ok-part.ensures.goes_on _ _ x h3 }

pub using_part-extend-requires : goal.using_part-extend-requires
using_part-extend-requires u c = (omega arith, (sym c.terminal.ensures ∙ c.in-Extend.is))

pub using_part-returns-in_ok-only-in-Extend : goal.using_part-returns-in_ok-only-in-Extend
using_part-returns-in_ok-only-in-Extend u c = record { shorter = omega (arith, c.in_ok-only-in-Extend.ensures.shorter); goes_on = λ stack k x h. let h1 = (sym (using_part-as-extend (left c.args.cursor) stack k (subst Starts_extend (sym (sym c.terminal.ensures ∙ c.in-Extend.is)) tt)) ∙ h) in c.in_ok-only-in-Extend.ensures.goes_on _ _ x h1 }

pub using_part-summarize-requires : goal.using_part-summarize-requires
using_part-summarize-requires u c = (omega arith, (sym c.terminal.ensures ∙ c.in-Summarize.is))

pub using_part-returns-in_ok-only-in-Summarize : goal.using_part-returns-in_ok-only-in-Summarize
using_part-returns-in_ok-only-in-Summarize u c = record { shorter = omega (arith, c.in_ok-only-in-Summarize.ensures.shorter); goes_on = λ stack k x h. let h1 = (sym (using_part-as-summarize (left c.args.cursor) stack k (subst Starts_summarize (sym (sym c.terminal.ensures ∙ c.in-Summarize.is)) tt)) ∙ h) in c.in_ok-only-in-Summarize.ensures.goes_on _ _ x h1 }

pub using_part-operand-requires : goal.using_part-operand-requires
using_part-operand-requires u c = (omega arith, tt)

pub using_part-used-requires : goal.using_part-used-requires
using_part-used-requires u c = (omega (arith, c.in_ok-left-in_default.ensures.shorter), tt)

pub using_part-returns-in_ok-part-in_default : goal.using_part-returns-in_ok-part-in_default
using_part-returns-in_ok-part-in_default u c = record { shorter = omega (arith, c.in_ok-left-in_default.ensures.shorter, c.in_ok-part-in_default.ensures.shorter); goes_on = λ stack k x h. let h1 = using_part-to-operand (left c.args.cursor) _ k x (λ e. c.in_default.not-Extend (c.terminal.ensures ∙ e)) (λ e. c.in_default.not-Summarize (c.terminal.ensures ∙ e)) h in let h2 = c.in_ok-left-in_default.ensures.goes_on _ _ x h1 in c.in_ok-part-in_default.ensures.goes_on _ (λ w. k (w.0, w.1)) x h2 }

pub used-operand-requires : goal.used-operand-requires
used-operand-requires u c = (omega (arith, less (written.infix_word c.in-Some.word) (left c.args.cursor) (left c.skip.result) (is-infix_word (first (left c.args.cursor)) c.in-Some.word (ap infix_word_at (sym c.terminal.ensures) ∙ sym c.infix_word.ensures ∙ c.in-Some.is)) (more-infix_word c.in-Some.word) c.skip.ensures), tt)

pub used-returns-in_ok-second-in-Some : goal.used-returns-in_ok-second-in-Some
used-returns-in_ok-second-in-Some u c = record { shorter = omega (arith, no-more (left c.args.cursor) (left c.skip.result) c.skip.ensures, c.in_ok-second-in-Some.ensures.shorter); goes_on = λ stack k x h. let h1 = at (written.infix_word c.in-Some.word) _ _ (left c.args.cursor) (left c.skip.result) (AfterOperand ∷ stack) (λ vs. k (vs.0 (read_operand c.args.first), vs.1)) x (is-infix_word (first (left c.args.cursor)) c.in-Some.word (ap infix_word_at (sym c.terminal.ensures) ∙ sym c.infix_word.ensures ∙ c.in-Some.is)) (more-infix_word c.in-Some.word) c.place-place.ensures refl c.skip.ensures h in let h2 = row-AfterOperand-infix_word c.in-Some.word _ _ _ _ _ _ x h1 in c.in_ok-second-in-Some.ensures.goes_on _ _ x h2 }

pub used-used_otherwise-requires : goal.used-used_otherwise-requires
used-used_otherwise-requires u c = (omega arith, ap infix_word_at (sym c.terminal.ensures) ∙ sym c.infix_word.ensures ∙ c.in-None.is)

pub used-returns-in-None : goal.used-returns-in-None
used-returns-in-None u c = c.used_otherwise.ensures

pub used_otherwise-operand-requires : goal.used_otherwise-operand-requires
used_otherwise-operand-requires u c = (omega (arith, less t.Not (left c.args.cursor) (left c.skip-behind.result) (sym c.terminal.ensures ∙ c.in-Not.is) refl c.skip-behind.ensures, no-more (left c.skip-behind.result) (left c.skip.result) c.skip.ensures), tt)

pub used_otherwise-returns-in_ok-second-in-Not : goal.used_otherwise-returns-in_ok-second-in-Not
used_otherwise-returns-in_ok-second-in-Not u c = record { shorter = omega (arith, no-more (left c.args.cursor) (left c.skip-behind.result) c.skip-behind.ensures, no-more (left c.skip-behind.result) (left c.skip.result) c.skip.ensures, c.in_ok-second-in-Not.ensures.shorter); goes_on = λ stack k x h. let h1 = at t.Not _ _ (left c.args.cursor) (left c.skip-behind.result) (AfterOperand ∷ stack) (λ vs. k (vs.0 (read_operand c.args.first), vs.1)) x (sym c.terminal.ensures ∙ c.in-Not.is) refl c.place-place.ensures refl c.skip-behind.ensures h in let h2 = just t.Matching (left c.skip-behind.result) (left c.skip.result) _ _ x c.skip.ensures h1 in c.in_ok-second-in-Not.ensures.goes_on _ _ x h2 }

pub used_otherwise-returns-in_ok-names-in-OpenBrace : goal.used_otherwise-returns-in_ok-names-in-OpenBrace
used_otherwise-returns-in_ok-names-in-OpenBrace u c = record { shorter = omega (arith, no-more (left c.args.cursor) (left c.skip-behind.result) c.skip-behind.ensures, c.in_ok-names-in-OpenBrace.ensures.shorter); goes_on = λ stack k x h. let h1 = at t.OpenBrace _ _ (left c.args.cursor) (left c.skip-behind.result) (AfterOperand ∷ stack) (λ vs. k (vs.0 (read_operand c.args.first), vs.1)) x (sym c.terminal.ensures ∙ c.in-OpenBrace.is) refl c.place-place.ensures refl c.skip-behind.ensures h in c.in_ok-names-in-OpenBrace.ensures.goes_on _ (λ w. k (plain.UsingProject (read_operand c.args.first) w.0, w.1)) x h1 }

pub used_otherwise-returns-in_ok-condition-in_default : goal.used_otherwise-returns-in_ok-condition-in_default
used_otherwise-returns-in_ok-condition-in_default u c = record { shorter = omega (arith, no-more (left c.args.cursor) (left c.skip-behind.result) c.skip-behind.ensures, c.in_ok-condition-in_default.ensures.shorter); goes_on = λ stack k x h. let h1 = step-AfterOperand _ _ (left c.args.cursor) (left c.skip-behind.result) _ (λ vs. k (vs.0 (read_operand c.args.first), vs.1)) x c.requires (λ e. c.in_default.not-Not (c.terminal.ensures ∙ e)) (λ e. c.in_default.not-OpenBrace (c.terminal.ensures ∙ e)) c.place-place.ensures refl c.skip-behind.ensures h in c.in_ok-condition-in_default.ensures.goes_on _ _ x h1 }
