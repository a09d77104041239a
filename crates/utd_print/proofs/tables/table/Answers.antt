use Rattle.std.proofs.Common.{◌≡◌, ℕ, List, [], ◌∷◌, ◌++◌, map, length, codes, decimal, sym, ◌∙◌, ap, subst}
use Rattle.std.specs.List.{flat_map}
use Rattle.utd_print.specs.Tables.{AreRows, table_line, names_of, row_texts}
use Rattle.utd_print.proofs.TableLemmas.{relation-has-kinds, length-widths, table-parts}
use Rattle.utd_print.proofs.tables.table.Goals as goal

pub column_widths-requires : goal.column_widths-requires
column_widths-requires c = relation-has-kinds c.args.r.now c.attributes-attributes.result.now c.rows-rows.result.now c.rows-rows.ensures.relation (c.attributes-attributes.ensures.list ∙ c.heading.ensures.heading) c.rows-rows.ensures.rows

pub put_names-requires : goal.put_names-requires
put_names-requires c =
    let attributes = c.attributes-attributes.result.now in
    let lines : List (List (List ℕ)) = names_of attributes ∷ map (row_texts c.args.types.now) c.rows-rows.result.now in
    ap length c.as_slice.ensures.value ∙ length-widths lines (length attributes) c.in_ok-widths.widths.items c.in_ok-widths.ensures

pub put_rows-requires : goal.put_rows-requires
put_rows-requires c =
    let attributes = c.attributes-attributes.result.now in
    let lines : List (List (List ℕ)) = names_of attributes ∷ map (row_texts c.args.types.now) c.rows-rows.result.now in
    let count : length c.as_slice-2.result.now ≡ length attributes = ap length c.as_slice-2.ensures.value ∙ length-widths lines (length attributes) c.in_ok-widths.widths.items c.in_ok-widths.ensures in
    subst (λ n. AreRows n c.rows-rows.result.now) (sym count)
    (relation-has-kinds c.args.r.now attributes c.rows-rows.result.now c.rows-rows.ensures.relation (c.attributes-attributes.ensures.list ∙ c.heading.ensures.heading) c.rows-rows.ensures.rows)

pub returns : goal.returns
returns c =
    let w = c.in_ok-widths.widths.items in
    let types = c.args.types.now in
    let attributes = c.attributes-attributes.result.now in
    let rows = c.rows-rows.result.now in
    let lines : List (List (List ℕ)) = map (row_texts types) rows in
    let first : c.as_slice.result.now ≡ w = c.as_slice.ensures.value in
    let second : c.as_slice-2.result.now ≡ w = c.as_slice-2.ensures.value in
    let names : c.put_names.new.out.items ≡ table_line w (names_of attributes) =
    c.in_ok-put_names.ensures ∙ ap (λ z. z ++ table_line c.as_slice.result.now (names_of attributes)) c.new-out.ensures.items ∙ ap (λ z. table_line z (names_of attributes)) first in
    let below : c.put_rows.new.out.items ≡ table_line w (names_of attributes) ++ flat_map (table_line w) lines =
    c.in_ok-put_rows.ensures ∙ ap (λ z. z ++ flat_map (table_line c.as_slice-2.result.now) lines) names ∙ ap (λ z. table_line w (names_of attributes) ++ flat_map (table_line z) lines) second in
    let counted : c.put_count.new.out.items ≡ ((table_line w (names_of attributes) ++ flat_map (table_line w) lines) ++ codes "rows: ") ++ decimal (length rows) =
    c.in_ok-put_count.ensures ∙ ap (λ z. z ++ decimal (length rows)) (c.in_ok-extend_from_slice.ensures.items ∙ ap (λ z. z ++ codes "rows: ") below) in
    c.in_ok-push.ensures.items ∙ ap (λ z. z ++ 10 ∷ []) counted
    ∙ table-parts types c.args.r.now attributes rows w (c.attributes-attributes.ensures.list ∙ c.heading.ensures.heading) c.rows-rows.ensures.rows c.in_ok-widths.ensures
