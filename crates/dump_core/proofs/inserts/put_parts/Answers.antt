use Rattle.std.proofs.Common.{◌≡◌, ◌≤◌, ℕ, List, take, length, sym, ◌∙◌, ap, ap₂, subst, Some, None}
use Rattle.std.proofs.lemmas.Result.{err_from_is_err_and}
use Rattle.value_core.specs.Values.{Row, Heading}
use Rattle.utd_print.specs.Tables.{AreRows}
use Rattle.dump_core.specs.Inserts.{insert_script}
use Rattle.dump_core.specs.Drafts.{with_statement}
use Rattle.dump_core.proofs.InsertLemmas.{PartsLeft, rows-before, some-left, parts-begin, part-more, part-refused}
use Rattle.dump_core.proofs.inserts.put_parts.Goals as goal

pub part-init : goal.part-init
part-init c =
    let d = c.args.draft.now in
    subst (λ (rows : List Row). PartsLeft c.args.types.now c.args.name.now c.args.value.now c.args.size d d rows) (sym c.rows-rest.ensures.rows)
    (parts-begin c.args.types.now c.args.name.now c.args.value.now c.args.size d c.rows-rest.ensures.relation)

pub put_insert-requires : goal.put_insert-requires
put_insert-requires c =
    let value = c.args.value.now in
    let heading = c.attributes-attributes.ensures.list ∙ c.heading.ensures.heading in
    subst (λ (rows : List Row). AreRows (length c.attributes-attributes.result.now) rows) (sym c.split_rows.ensures.front)
    (subst (λ (h : Heading). AreRows (length h) (take c.args.size c.part.rest.now)) (sym heading) (rows-before (length value.heading) c.args.size c.part.rest.now c.part.invariant.rows))

pub part-preserved : goal.part-preserved
part-preserved c =
    let types = c.args.types.now in
    let name = c.args.name.now in
    let value = c.args.value.now in
    let size = c.args.size in
    let rest = c.part.rest.now in
    let before = c.args.draft.now in
    let now = c.part.draft in
    let later = c.put_insert.new.draft in
    let heading : c.attributes-attributes.result.now ≡ value.heading = c.attributes-attributes.ensures.list ∙ c.heading.ensures.heading in
    let text : insert_script types name c.attributes-attributes.result.now c.split_rows.result.0.now ≡ insert_script types name value.heading (take size rest) =
    ap₂ (insert_script types name) heading c.split_rows.ensures.front in
    let written : with_statement (insert_script types name value.heading (take size rest)) now ≡ Some later =
    ap (λ (s : List ℕ). with_statement s now) (sym text) ∙ c.in_ok-put_insert.ensures.written in
    subst (λ (rows : List Row). PartsLeft types name value size before later rows) (sym c.split_rows.ensures.back)
    (part-more types name value size before now later rest c.part.invariant c.requires (some-left rest (sym c.is_empty.ensures ∙ c.part-test.true)) written)

pub returns-in_err-put_insert-clause-too_long : goal.returns-in_err-put_insert-clause-too_long
returns-in_err-put_insert-clause-too_long c =
    let types = c.args.types.now in
    let name = c.args.name.now in
    let value = c.args.value.now in
    let size = c.args.size in
    let rest = c.part.rest.now in
    let now = c.part.draft in
    let heading : c.attributes-attributes.result.now ≡ value.heading = c.attributes-attributes.ensures.list ∙ c.heading.ensures.heading in
    let text : insert_script types name c.attributes-attributes.result.now c.split_rows.result.0.now ≡ insert_script types name value.heading (take size rest) =
    ap₂ (insert_script types name) heading c.split_rows.ensures.front in
    let p = err_from_is_err_and c.from_residual.result c.from_residual.ensures.1 in
    rw (p.1, p.2) (λ t. part-refused types name value size c.args.draft.now now rest c.part.invariant c.requires (some-left rest (sym c.is_empty.ensures ∙ c.part-test.true))
    (ap (λ (s : List ℕ). with_statement s now) (sym text) ∙ c.in_err-put_insert.ensures.too_long t))
