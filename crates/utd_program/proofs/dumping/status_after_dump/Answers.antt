use Rattle.std.proofs.Common.{List, Option, IfSome, refl, sym, subst}
use Rattle.dump_core.specs.Texts.{SourceText}
use Rattle.utd_session.specs.Databases.{state_of}
use Rattle.utd_session.specs.Dumped.{EndsDump}
use Rattle.utd_session.specs.Ends.{IsAtEnd}
use Rattle.utd_session.specs.Status.{number_of}
use Rattle.dump_laws.specs.Back.{IsSound}
use Rattle.utd_program.proofs.dumping.status_after_dump.Goals as goal

pub returns-in-Some-clause-ends : goal.returns-in-Some-clause-ends
returns-in-Some-clause-ends g c =
    subst (λ (o : Option (List SourceText)). EndsDump o (state_of c.args.database.now) c.args.status (g.K.Sink.faults c.args.out.now) (g.K.Sink.faults c.dump_or_refusal.new.out)
    (g.K.Sink.written c.args.out.now) (g.K.Sink.written c.dump_or_refusal.new.out) c.dump_or_refusal.result)
    (sym c.in-Some.is) c.dump_or_refusal.ensures.ends

pub returns-in-None-clause-ends : goal.returns-in-None-clause-ends
returns-in-None-clause-ends g c =
    let before = g.K.Sink.written c.args.out.now in
    let faults = g.K.Sink.faults c.args.out.now in
    subst (λ (o : Option (List SourceText)). EndsDump o (state_of c.args.database.now) c.args.status faults faults before before c.args.status) (sym c.in-None.is) (refl, refl)

pub returns-in-Some-clause-sound : goal.returns-in-Some-clause-sound
returns-in-Some-clause-sound g c =
    subst (λ (o : Option (List SourceText)). IfSome o (λ t. IsAtEnd (number_of c.dump_or_refusal.result) → IsSound (state_of c.args.database.now))) (sym c.in-Some.is) c.dump_or_refusal.ensures.sound

pub returns-in-None-clause-sound : goal.returns-in-None-clause-sound
returns-in-None-clause-sound g c =
    subst (λ (o : Option (List SourceText)). IfSome o (λ t. IsAtEnd (number_of c.args.status) → IsSound (state_of c.args.database.now))) (sym c.in-None.is) tt
