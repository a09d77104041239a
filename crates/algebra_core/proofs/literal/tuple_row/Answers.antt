use Rattle.std.proofs.Common.{◌≡◌, [], map, refl, sym, ap, ◌∙◌, subst}
use Rattle.value_core.specs.Plain.{plain}
use Rattle.value_core.specs.Values.{Row}
use Rattle.tree_core.specs.Trees.{read_sets}
use Rattle.meaning_core.specs.Scalars.{AreTypedOver}
use Rattle.meaning_core.proofs.MadeLemmas.{given_typed}
use Rattle.algebra_core.proofs.literal.tuple_row.Goals as goal

pub extended_row-requires : goal.extended_row-requires
extended_row-requires c =
    let empty : c.make-none.result ≡ [] = c.make-none.ensures ∙ ap (map plain) c.new.ensures.items in
    subst (λ (row : Row). AreTypedOver row (read_sets c.args.sets.now)) (sym empty)
    (given_typed c.requires.0 [] (read_sets c.args.sets.now) c.requires.1.made [] c.requires.1.makes refl)
