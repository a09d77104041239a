use Rattle.std.proofs.Common.{◌≡◌, [], List, Some, Ok, sym, ap, ◌∙◌}
use Rattle.utd_syntax.specs.declared.parts.Element.{Element as ElementTree}
use Rattle.utd_syntax.specs.Read.{read_element_list}
use Rattle.value_core.specs.Values.{Name, Heading}
use Rattle.scalar_core.specs.declared.tree.Scalar.{Scalar}
use Rattle.tree_core.specs.Trees.{read_sets}
use Rattle.relation_typing.specs.Items.{elements_typed}
use Rattle.relation_typing.specs.Shapes.{shape_made}
use Rattle.relation_typing.proofs.ShapeLemmas.{of-shape, not-nil}
use Rattle.relation_typing.proofs.shapes.tuple_like.Goals as goal

pub returns-then-branch : goal.returns-then-branch
returns-then-branch c =
    let types = c.args.types.now in
    let list = c.args.tuple.now.elements.elements.list.items in
    let sets = c.elements_like.new.sets.items in
    let typed : (before made : Heading) → shape_made before c.args.shape.now ≡ Some made → elements_typed types [] ([], before) (read_element_list list) ≡ Ok (read_sets sets, made) =
    λ before made h.
    ap (λ (l : List ElementTree). elements_typed types [] ([], before) (read_element_list l)) (sym c.as_slice-elements.ensures.value)
    ∙ (ap (λ (from : Heading). elements_typed types from ([], before) (read_element_list c.as_slice-elements.result.now)) (sym c.in_ok-from.ensures)
    ∙ (ap (λ (l : List (Name × Scalar)). elements_typed types c.in_ok-from.from (read_sets l, before) (read_element_list c.as_slice-elements.result.now)) (sym c.in_ok-list.ensures.items)
    ∙ c.in_ok-elements_like.ensures c.if-branch.true before made h)) in
    of-shape types c.args.heading.now c.args.shape.now c.args.tuple.now.place c.args.tuple.now.elements.place (read_element_list list) (read_sets sets)
    c.requires.shape (not-nil c.args.shape.now c.is_empty.result c.is_empty.ensures c.if-is_empty.false) typed
