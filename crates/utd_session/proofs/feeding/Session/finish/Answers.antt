use Rattle.std.proofs.Common.{◌≡◌, ◌∙◌, true, false, sym, subst, refl}
use Rattle.utd_io.specs.Io.{Gains, GainsPrefix}
use Rattle.utd_session.specs.Statements.{cut, is_blank}
use Rattle.utd_session.proofs.StatementLemmas.{is_blank_is}
use Rattle.utd_session.proofs.SessionLemmas.{blank_is, finish-blank, finish-open, finish-blank-texts, finish-open-texts, finish-stop, finish-cut-off}
use Rattle.utd_session.proofs.feeding.Session.finish.Goals as goal

pub returns-then-is_blank-clause-finished : goal.returns-then-is_blank-clause-finished
returns-then-is_blank-clause-finished g c bytes rs h =
    let rest = (cut bytes).rest in
    let blank : is_blank rest ≡ true = sym (blank_is rest c.is_blank.result (c.is_blank.ensures rest h.since)) ∙ c.if-is_blank.true in
    finish-blank c.args.self bytes rs (g.K.Sink.written c.args.out.now) h blank

pub returns-in_default-clause-blank : goal.returns-in_default-clause-blank
returns-in_default-clause-blank g c bytes rs h blank =
    let rest = (cut bytes).rest in
    let f : true ≡ false = sym ((is_blank_is rest).1 blank) ∙ sym (blank_is rest c.is_blank.result (c.is_blank.ensures rest h.since)) ∙ c.if-is_blank.false in cc

pub returns-in_default-clause-memory : goal.returns-in_default-clause-memory
returns-in_default-clause-memory g c bytes rs h e =
    finish-stop c.args.self bytes rs (g.K.Sink.written c.args.out.now) (g.K.Sink.written c.args.out.now) h refl

pub returns-in_default-write_all-clause-blank : goal.returns-in_default-write_all-clause-blank
returns-in_default-write_all-clause-blank g c bytes rs h blank =
    let rest = (cut bytes).rest in
    let f : true ≡ false = sym ((is_blank_is rest).1 blank) ∙ sym (blank_is rest c.is_blank.result (c.is_blank.ensures rest h.since)) ∙ c.if-is_blank.false in cc

pub returns-in_default-write_all-clause-write : goal.returns-in_default-write_all-clause-write
returns-in_default-write_all-clause-write g c bytes rs h e =
    let rest = (cut bytes).rest in
    let more : is_blank rest ≡ false = sym (blank_is rest c.is_blank.result (c.is_blank.ensures rest h.since)) ∙ c.if-is_blank.false in
    finish-cut-off c.args.self bytes rs (g.K.Sink.written c.args.out.now) (g.K.Sink.written c.write_all.new.sink) h more
    (subst (λ t. GainsPrefix (g.K.Sink.written c.args.out.now) t (g.K.Sink.written c.write_all.new.sink)) (c.deref.ensures.value ∙ c.in-Ok.ensures.0) c.in_default-write_all.ensures.failed)

pub returns-clause-finished : goal.returns-clause-finished
returns-clause-finished g c bytes rs h =
    let rest = (cut bytes).rest in
    let more : is_blank rest ≡ false = sym (blank_is rest c.is_blank.result (c.is_blank.ensures rest h.since)) ∙ c.if-is_blank.false in
    finish-open c.args.self bytes rs (g.K.Sink.written c.args.out.now) (g.K.Sink.written c.write_all.new.sink) c.in-Ok.reply.accepted c.both.result h more c.in-Ok.ensures.1 c.both.ensures
    (subst (λ t. Gains (g.K.Sink.written c.args.out.now) t (g.K.Sink.written c.write_all.new.sink)) (c.deref.ensures.value ∙ c.in-Ok.ensures.0) c.in-Ok-write_all.ensures.bytes)

pub returns-clause-blank : goal.returns-clause-blank
returns-clause-blank g c bytes rs h blank =
    let rest = (cut bytes).rest in
    let f : true ≡ false = sym ((is_blank_is rest).1 blank) ∙ sym (blank_is rest c.is_blank.result (c.is_blank.ensures rest h.since)) ∙ c.if-is_blank.false in cc

pub returns-then-is_blank-clause-texts : goal.returns-then-is_blank-clause-texts
returns-then-is_blank-clause-texts g c bytes rs h =
    let rest = (cut bytes).rest in
    let blank : is_blank rest ≡ true = sym (blank_is rest c.is_blank.result (c.is_blank.ensures rest h.since)) ∙ c.if-is_blank.true in
    finish-blank-texts c.args.self bytes rs h blank

pub returns-clause-texts : goal.returns-clause-texts
returns-clause-texts g c bytes rs h =
    let rest = (cut bytes).rest in
    let more : is_blank rest ≡ false = sym (blank_is rest c.is_blank.result (c.is_blank.ensures rest h.since)) ∙ c.if-is_blank.false in
    finish-open-texts c.args.self bytes rs h more
