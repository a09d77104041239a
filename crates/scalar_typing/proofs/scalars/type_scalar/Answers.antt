use Rattle.utd_syntax.specs.Read.{read_scalar}
use Rattle.scalar_typing.specs.Scalars.{typed_scalar}
use Rattle.scalar_typing.proofs.SoundLemmas.{scalar-sound, given-typed}
use Rattle.scalar_typing.proofs.scalars.type_scalar.Goals as goal

pub returns-clause-kind : goal.returns-clause-kind
returns-clause-kind c =
    let s = read_scalar c.args.s.now in
    given-typed c.args.heading.now c.scalar.result (typed_scalar c.args.types.now c.args.heading.now s) c.scalar.ensures
    (scalar-sound c.args.types.now c.args.heading.now s)
