use Rattle.std.proofs.Common.{◌++◌, ◌∙◌, sym, ap, subst, arith}
use Rattle.std.proofs.lemmas.Int.{ints}
use Rattle.point_core.specs.declared.fault.Place.{Place}
use Rattle.utd_io.specs.Io.{Gains, GainsPrefix}
use Rattle.utd_lexer.specs.Cutting.{Since}
use Rattle.utd_session.specs.Databases.{state_of}
use Rattle.utd_session.specs.Unfinished.{IsUnfinished}
use Rattle.utd_session.specs.Statements.{cut}
use Rattle.utd_statement.specs.Readings.{Reading}
use Rattle.utd_session.proofs.SessionLemmas.{with_more, is_end, after_one, text_is, taken_in}
use Rattle.utd_session.proofs.feeding.Session.end.Goals as goal

pub reply_to_end-requires-clause-room : goal.reply_to_end-requires-clause-room
reply_to_end-requires-clause-room g c = let old = c.args.self.now in omega (arith, ints, old.counted, old.few)

pub invariant_of-self : goal.invariant_of-self
invariant_of-self g c =
    let b = with_more c.args.self.now c.reply_to_end.new.unfinished c.args.prefix.now c.reply_to_end.ensures.size c.reply_to_end.ensures.start c.reply_to_end.ensures.next in
    let old = c.args.self.now in
    record { few = c.requires.few; numbered = b.0; begun = b.1; placed = b.2; counted = omega (arith, ints, old.counted, c.reply_to_end.ensures.count, c.requires.some) }

pub invariant_of-self-in_default-write_all : goal.invariant_of-self-in_default-write_all
invariant_of-self-in_default-write_all g c =
    let b = with_more c.args.self.now c.reply_to_end.new.unfinished c.args.prefix.now c.reply_to_end.ensures.size c.reply_to_end.ensures.start c.reply_to_end.ensures.next in
    let old = c.args.self.now in
    record { few = c.requires.few; numbered = b.0; begun = b.1; placed = b.2; counted = omega (arith, ints, old.counted, c.reply_to_end.ensures.count, c.requires.some) }

pub returns-in_default-write_all-clause-write : goal.returns-in_default-write_all-clause-write
returns-in_default-write_all-clause-write g c bytes rs h e =
    let old = c.args.self.now in
    let q = c.in-Ok.ensures.reply (cut bytes).place (cut bytes).rest h.unfinished in
    let r : Reading = q.0 in
    let text = q.2.0 ∙ text_is old bytes rs r h in (
      r,
      q.1,
      (
        subst (λ t. GainsPrefix (g.K.Sink.written c.args.out.now) t (g.K.Sink.written c.write_all.new.sink)) (c.deref.ensures.value ∙ text) c.in_default-write_all.ensures.failed,
        after_one old bytes rs r (state_of c.reply_to_end.new.database) h q.3,
      ),
    )

pub invariant_of-self-2 : goal.invariant_of-self-2
invariant_of-self-2 g c =
    let old = c.args.self.now in
    let b = with_more old c.reply_to_end.new.unfinished c.args.prefix.now c.reply_to_end.ensures.size c.reply_to_end.ensures.start c.reply_to_end.ensures.next in
    let start_line = ap (λ (p : Place). p.line) c.restart.ensures.start in
    let start_column = ap (λ (p : Place). p.column) c.restart.ensures.start in
    let next_line = ap (λ (p : Place). p.line) c.restart.ensures.place in
    let next_column = ap (λ (p : Place). p.column) c.restart.ensures.place in
    record {
      few = c.requires.few;
      numbered = omega (arith, old.numbered, c.restart.ensures.size, c.requires.some);
      begun = (omega (arith, b.2.0, start_line), omega (arith, b.2.1, start_column));
      placed = (omega (arith, b.2.0, next_line), omega (arith, b.2.1, next_column));
      counted = omega (arith, ints, old.counted, c.reply_to_end.ensures.count, c.requires.some);
    }

pub returns-clause-performed : goal.returns-clause-performed
returns-clause-performed g c bytes rs h ends =
    let prefix = c.args.prefix.now in
    let old = c.args.self.now in
    let new = c.restart.new.self in
    let u = c.in-Ok.ensures.more (cut bytes).place (cut bytes).rest h.unfinished in
    let q = c.in-Ok.ensures.reply (cut bytes).place (cut bytes).rest h.unfinished in
    let r : Reading = q.0 in
    let e = is_end old bytes prefix rs r c.in-Ok.reply.accepted (state_of c.reply_to_end.new.database) c.reply_to_end.new.texts h ends q.1 q.2.1 q.3 q.4 in
    let text = q.2.0 ∙ text_is old bytes rs r h in
    let w = c.restart.ensures.next (cut bytes).place ((cut bytes).rest ++ prefix) u in (
      r,
      q.1,
      (
        record {
          read = e.read;
          state_is = e.left;
          texts = e.texts;
          accepted = c.both-self.ensures ∙ e.accepted;
          number = e.number;
          unfinished = subst (λ p. IsUnfinished new p (cut (bytes ++ prefix)).rest) (sym e.place_is) (subst (IsUnfinished new _) (sym e.rest_is) w);
          since = subst (Since c.new-self.result) (sym e.rest_is) c.new-self.ensures;
          fed = e.fed;
        },
        subst (λ t. Gains (g.K.Sink.written c.args.out.now) t (g.K.Sink.written c.write_all.new.sink)) (c.deref.ensures.value ∙ text) c.in-Ok-write_all.ensures.bytes,
      ),
    )

pub returns-in_default-clause-cost : goal.returns-in_default-clause-cost
returns-in_default-clause-cost g c bytes rs h = taken_in c.args.self.now bytes rs c.args.prefix.now _ _ h (c.reply_to_end.ensures.cost (cut bytes).place (cut bytes).rest h.unfinished)

pub returns-in_default-write_all-clause-cost : goal.returns-in_default-write_all-clause-cost
returns-in_default-write_all-clause-cost g c bytes rs h = taken_in c.args.self.now bytes rs c.args.prefix.now _ _ h (c.reply_to_end.ensures.cost (cut bytes).place (cut bytes).rest h.unfinished)

pub returns-clause-cost : goal.returns-clause-cost
returns-clause-cost g c bytes rs h = taken_in c.args.self.now bytes rs c.args.prefix.now _ _ h (c.reply_to_end.ensures.cost (cut bytes).place (cut bytes).rest h.unfinished)
