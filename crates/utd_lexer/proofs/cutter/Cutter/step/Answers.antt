use Rattle.std.proofs.Common.{sym, ◌∙◌, ap, [], ◌∷◌, refl, true}
use Rattle.utd_lexer.specs.declared.cutter.Mode.TheVariants.{Between}
use Rattle.utd_lexer.specs.Cutting.{next, run, blank_next}
use Rattle.utd_lexer.proofs.CutLemmas.{run-append, whole-of, outside-of}
use Rattle.utd_lexer.proofs.BlankLemmas.{can_be_blank-append}
use Rattle.utd_lexer.proofs.cutter.Cutter.step.Goals.{else-outside-via-then-outside+else-byte-eq59, else-outside-via-else-outside}
use Rattle.utd_lexer.proofs.StayLemmas.{stays-so, stays-mode, stays-blank}
use Rattle.utd_lexer.proofs.cutter.Cutter.step.Goals as goal

pub returns-then-stays-clause-since : goal.returns-then-stays-clause-since
returns-then-stays-clause-since c bytes h =
    let m = c.args.self.now.mode in
    let blank = c.args.self.now.blank in
    let s = stays-so m blank c.args.byte (sym c.stays.ensures ∙ c.if-stays.true) in
    (stays-mode m blank c.args.byte bytes s h.0, stays-blank m blank c.args.byte bytes s h.0 h.1)

pub returns-then-stays-clause-ends : goal.returns-then-stays-clause-ends
returns-then-stays-clause-ends c bytes h =
    let s = stays-so c.args.self.now.mode c.args.self.now.blank c.args.byte (sym c.stays.ensures ∙ c.if-stays.true) in
    (λ e. cc, λ w. absurd (s.on w.0))

pub returns-else-outside-clause-ends : goal.returns-else-outside-clause-ends
returns-else-outside-clause-ends c bytes h = (
  λ e. cc,
  λ w. elim c.else-outside.branch [
    | else-outside-via-then-outside+else-byte-eq59 b ↦ absurd (b.if-byte-eq59.false w.0)
    | else-outside-via-else-outside b ↦ cc (outside-of bytes _ h.0 w.1, c.is_outside-outside.ensures, b.if-outside.false)
  ],
)

pub returns-then-byte-eq59-clause-ends : goal.returns-then-byte-eq59-clause-ends
returns-then-byte-eq59-clause-ends c bytes h = (λ e. (c.if-byte-eq59.true, whole-of bytes _ h.0 (sym c.is_outside-outside.ensures ∙ c.if-outside.true)), λ w. refl)

pub returns-else-outside-clause-since : goal.returns-else-outside-clause-since
returns-else-outside-clause-since c bytes h = (c.next-self.ensures ∙ ap (λ m. next m c.args.byte) h.0 ∙ sym (run-append Between bytes (c.args.byte ∷ [])), c.blank_next-blank.ensures ∙ ap (λ m. blank_next m c.args.self.now.blank c.args.byte) h.0 ∙ ap (λ x. blank_next (run Between bytes) x c.args.byte) h.1 ∙ sym (can_be_blank-append Between true bytes (c.args.byte ∷ [])))
