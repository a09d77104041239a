use Rattle.std.proofs.Common.{rules, ◌≡◌, ◌∷◌, List, map, sym, subst, ◌∙◌}
use Rattle.std.proofs.lemmas.Result.{err_from_is_err_and}
use Rattle.tree_core.specs.Relvars.{Entries, read_entry, read_relvar}
use Rattle.dump_core.specs.Inserts.{HaveRelations}
use Rattle.dump_core.proofs.InsertLemmas.{entries-more, entries-refused}
use Rattle.dump_core.proofs.inserts.put_rows.Goals as goal

pub loop-name-preserved : goal.loop-name-preserved
loop-name-preserved c =
    let left : Entries = map read_entry c.loop-name.name-iterator in
    let rest : Entries = map read_entry c.next.new.self in
    let step : left ≡ (c.in-Some.name.now, read_relvar c.in-Some.relvar.now) ∷ rest = search rules in (
      tt,
      tt,
      λ rest_are. c.loop-name.invariant.2 (subst HaveRelations (sym step) (c.in_ok-put_relvar.ensures.relation, rest_are)),
      entries-more c.args.relvars.now.ordinals left rest c.in-Some.name.now (read_relvar c.in-Some.relvar.now) c.loop-name.draft c.put_relvar.new.draft step c.in_ok-put_relvar.ensures.written
          ∙ c.loop-name.invariant.3,
    )

pub returns-in_err-put_relvar-clause-too_long : goal.returns-in_err-put_relvar-clause-too_long
returns-in_err-put_relvar-clause-too_long c =
    let left : Entries = map read_entry c.loop-name.name-iterator in
    let rest : Entries = map read_entry c.next.new.self in
    let step : left ≡ (c.in-Some.name.now, read_relvar c.in-Some.relvar.now) ∷ rest = search rules in
    let p = err_from_is_err_and c.from_residual.result c.from_residual.ensures.1 in
    rw (p.1, p.2) (λ t. sym c.loop-name.invariant.3
    ∙ entries-refused c.args.relvars.now.ordinals left rest c.in-Some.name.now (read_relvar c.in-Some.relvar.now) c.loop-name.draft step (c.in_err-put_relvar.ensures.too_long t))
