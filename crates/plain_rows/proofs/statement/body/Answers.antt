use Rattle.std.proofs.Common.{List, sym, subst}
use Rattle.plain_rows.specs.Brought.{HasRowsOf}
use Rattle.plain_rows.specs.Lexemes.{Lexeme}
use Rattle.plain_rows.specs.Names.{IsPlainShape}
use Rattle.plain_rows.specs.Tuples.{AreTuples, BeginsWithTuples}
use Rattle.plain_rows.proofs.ReadLemmas.{is-body}
use Rattle.plain_rows.proofs.statement.body.Goals as goal

pub relation_of-requires : goal.relation_of-requires
relation_of-requires c = subst IsPlainShape (sym c.as_slice-2.ensures.value) c.in_ok-columns.ensures

pub returns : goal.returns
returns c =
    is-body _ _ _ _ _ _ _ c.in_ok-opened.ensures c.in_ok-columns.ensures
    (subst (λ z. BeginsWithTuples c.args.types.now c.in_ok-opened.opened.now z c.in_ok-given.given.items c.in_ok-given.behind.now) c.as_slice.ensures.value c.in_ok-given.ensures) c.in_ok-_rest.ensures.begins c.in_ok-_rest.ensures.ends
    (subst (λ z. (parts : List (List Lexeme)) → AreTuples c.args.types.now z c.in_ok-given.given.items parts → HasRowsOf z c.in_ok-given.given.items c.in_ok-rows.rows) c.as_slice-2.ensures.value (c.in_ok-rows.ensures c.args.types.now))
