use Rattle.std.proofs.Common.{◌++◌, sym, ap, subst, arith}
use Rattle.std.proofs.lemmas.Int.{ints}
use Rattle.point_core.specs.declared.fault.Place.{Place}
use Rattle.utd_lexer.specs.Cutting.{Since}
use Rattle.utd_session.specs.Unfinished.{IsUnfinished}
use Rattle.utd_session.specs.Statements.{cut}
use Rattle.utd_session.proofs.StatementLemmas.{place_bound}
use Rattle.utd_session.proofs.SessionLemmas.{is_kept}
use Rattle.utd_session.proofs.feeding.Session.keep.Goals as goal

pub invariant_of-result : goal.invariant_of-result
invariant_of-result c =
    let old = c.args.self in
    let new = c.extend.new.self in
    let bound = place_bound old.unfinished.next c.args.piece.now in
    let line = ap (λ (p : Place). p.line) c.in-Ok.ensures.next in
    let column = ap (λ (p : Place). p.column) c.in-Ok.ensures.next in
    let start_line = ap (λ (p : Place). p.line) c.extend.ensures.start in
    let start_column = ap (λ (p : Place). p.column) c.extend.ensures.start in
    record {
      few = c.requires;
      numbered = omega (arith, old.numbered, c.in-Ok.ensures.size);
      begun = (omega (arith, old.begun.0, start_line), omega (arith, old.begun.1, start_column));
      placed = (omega (arith, old.placed.0, line, bound.0), omega (arith, old.placed.1, column, bound.1));
      counted = omega (arith, ints, old.counted);
    }

pub returns-clause-kept : goal.returns-clause-kept
returns-clause-kept c bytes rs h none since =
    let piece = c.args.piece.now in
    let new = c.extend.new.self in
    let k = is_kept c.args.self bytes piece rs h none in
    let u = c.in-Ok.ensures.more (cut bytes).place (cut bytes).rest h.unfinished in
    record {
      read = k.read;
      state_is = h.state_is;
      texts = k.texts;
      accepted = h.accepted;
      number = h.number;
      unfinished = subst (λ p. IsUnfinished new p (cut (bytes ++ piece)).rest) (sym k.place_is) (subst (IsUnfinished new (cut bytes).place) (sym k.rest_is) u);
      since = subst (Since c.args.cutter) (sym k.rest_is) since;
      fed = k.fed;
    }
