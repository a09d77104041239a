use Rattle.std.proofs.Common.{◌≡◌, ◌∷◌, [], ◌+◌, ◌++◌, take, length, drop, get_or, ap, sym, subst, arith, append-nil, length-drop, ◌∙◌}
use Rattle.std.proofs.lemmas.List.{take_more}
use Rattle.utd_lexer.specs.declared.cutter.Cut.TheVariants.{Inside, Ends}
use Rattle.utd_lexer.specs.Cutting.{Since}
use Rattle.utd_session.specs.Statements.{first_place, EndsOne}
use Rattle.utd_session.proofs.StatementLemmas.{none-yet, one-ends}
use Rattle.utd_session.proofs.SessionLemmas.{step-passing, step-ends}
use Rattle.utd_session.proofs.feeding.next_end.Goals as goal

pub byte-init : goal.byte-init
byte-init c = record {
  within = omega arith;
  none = λ place bytes h. none-yet place bytes;
  since = λ bytes h. subst (Since c.args.cutter.now) (sym (append-nil bytes)) h;
}

pub byte-preserved : goal.byte-preserved
byte-preserved c =
    let i = c.byte.invariant in
    let not_end : c.step.result ≡ Ends → ⊥ = λ e. let f : Inside ≡ Ends = sym c.in-Inside.is ∙ e in cc in
    let left : length c.split_at-in-byte.result.1.now ≡ length (drop (c.byte.at + 1) c.args.piece.now) = ap length c.split_at-in-byte.ensures.back in
    record {
      within = omega (arith, c.passing-at.ensures.within, left, length-drop (c.byte.at + 1) c.args.piece.now, c.byte-test.true);
      none = λ place bytes h. (step-passing place bytes c.args.piece.now c.split_at-in-byte.result.1.now c.byte.at c.passing-at.result c.byte.cutter c.step.new.self c.step.result c.byte-test.true c.step.ensures.since c.step.ensures.ends not_end c.split_at-in-byte.ensures.back c.passing-at.ensures.pass (i.none place bytes h) (i.since bytes h)).0;
      since = λ bytes h. (step-passing first_place bytes c.args.piece.now c.split_at-in-byte.result.1.now c.byte.at c.passing-at.result c.byte.cutter c.step.new.self c.step.result c.byte-test.true c.step.ensures.since c.step.ensures.ends not_end c.split_at-in-byte.ensures.back c.passing-at.ensures.pass (i.none first_place bytes h) (i.since bytes h)).1;
    }

pub returns-in-Ends-clause-end : goal.returns-in-Ends-clause-end
returns-in-Ends-clause-end c place bytes h =
    let at = c.byte.at in
    let piece = c.args.piece.now in
    let b = get_or piece at 0 in
    let prefix : c.split_at.result.0.now ≡ take at piece ++ b ∷ [] = c.split_at.ensures.front ∙ take_more piece at 0 c.byte-test.true in
    let s = step-ends c.byte.cutter c.step.new.self c.step.result b bytes (take at piece) c.step.ensures.since c.step.ensures.ends c.in-Ends.is (c.byte.invariant.since bytes h) in
    subst (EndsOne place bytes) (sym prefix) (one-ends place bytes (take at piece) b (c.byte.invariant.none place bytes h) s.0)
