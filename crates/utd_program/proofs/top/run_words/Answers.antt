use Rattle.std.proofs.Common.{◌≡◌, ap}
use Rattle.utd_words.specs.declared.words.Asked.TheVariants.{Dump}
use Rattle.utd_words.specs.declared.words.Script.TheVariants.{Generated}
use Rattle.utd_session.specs.Status.{number_of}
use Rattle.utd_program.proofs.BackLemmas.{memory_no_end, may_no_end}
use Rattle.utd_program.proofs.GeneratedLemmas.{may_run_not, may_dump_not, generates_not, dumps_no_generated, may_pay_not, generates_free}
use Rattle.utd_program.proofs.top.run_words.Goals as goal

pub returns-in-Err-clause-machine : goal.returns-in-Err-clause-machine
returns-in-Err-clause-machine g c of_input =
    let nothing = c.without_memory in
    let left = g.S.Source.left c.args.input.now in
    may_run_not left (g.K.Sink.written c.args.out.now) nothing.result.database (number_of nothing.result.status) (ap number_of nothing.ensures.status) nothing.ensures.empty

pub returns-in-Err-clause-generated : goal.returns-in-Err-clause-generated
returns-in-Err-clause-generated g c number generated =
    let nothing = c.without_memory in
    generates_not number (g.K.Sink.written c.args.out.now) nothing.result.database (number_of nothing.result.status) (ap number_of nothing.ensures.status) nothing.ensures.empty

pub returns-in-Err-clause-dumped : goal.returns-in-Err-clause-dumped
returns-in-Err-clause-dumped g c of_input =
    let nothing = c.without_memory in
    let left = g.S.Source.left c.args.input.now in
    may_dump_not left (g.K.Sink.written c.args.out.now) nothing.result.database (number_of nothing.result.status) (ap number_of nothing.ensures.status) nothing.ensures.empty

pub returns-in-Err-clause-generated_dump : goal.returns-in-Err-clause-generated_dump
returns-in-Err-clause-generated_dump g c number generated =
    let nothing = c.without_memory in
    dumps_no_generated number (g.K.Sink.written c.args.out.now) nothing.result.database (number_of nothing.result.status) (ap number_of nothing.ensures.status) nothing.ensures.empty

pub returns-in-Err-clause-cost : goal.returns-in-Err-clause-cost
returns-in-Err-clause-cost g c of_input = may_pay_not (g.S.Source.left c.args.input.now) c.args.steps.now

pub returns-in-Err-clause-cost_generated : goal.returns-in-Err-clause-cost_generated
returns-in-Err-clause-cost_generated g c number generated = generates_free number c.args.steps.now

pub returns-in-Err-clause-again : goal.returns-in-Err-clause-again
returns-in-Err-clause-again g c of_input = may_no_end _ (g.S.Source.left c.args.input.now) (number_of c.without_memory.result.status) (ap number_of c.without_memory.ensures.status)

pub returns-in-Err-clause-again_generated : goal.returns-in-Err-clause-again_generated
returns-in-Err-clause-again_generated g c number generated at_end = absurd (memory_no_end (number_of c.without_memory.result.status) (ap number_of c.without_memory.ensures.status) at_end)

pub returns-in-Ok-Some-clause-again_generated : goal.returns-in-Ok-Some-clause-again_generated
returns-in-Ok-Some-clause-again_generated g c number e =
    let told = c.in-Ok-Some.ensures.asked in
    let found = c.in-Ok-Some.field-0-is in
    let what = c.in-Ok-Some.what-is in
    let same : c.in-Ok-Some.what ≡ Dump (Generated number) = cc in
    c.run_asked.ensures.again_generated number same
