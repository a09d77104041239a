use Rattle.std.proofs.Common.{◌≡◌, sym, ap, ◌∙◌, ℕ, List, Option, option_map}
use Rattle.tree_core.specs.Trees.{Tree, named, read_form, read_tree}
use Rattle.tree_core.specs.declared.tree.InfixWord.{InfixWord}
use Rattle.tree_core.specs.declared.tree.InfixWord.TheVariants.{Union}
use Rattle.meaning_core.proofs.MadeLemmas.{same_name}
use Rattle.assign_core.specs.Insertions.{joined_under}
use Rattle.assign_core.proofs.insertion.with_operand.Goals as goal

pub returns-in-Union-Named-clause-is : goal.returns-in-Union-Named-clause-is
returns-in-Union-Named-clause-is c =
    let t = c.args.assignment.now in
    let l = c.args.left.now in
    let list : Option (List ℕ) = option_map (λ z. z.now) c.args.list in
    let here = same_name c.in-Union-Named.name t.target (sym c.if-eq.ensures) in
    let named_is : read_tree l ≡ named l.place l.heading t.target = ap (read_form l.place l.heading) c.in-Union-Named.is-1 ∙ ap (named l.place l.heading) here in
    record {
      nodes = record { place = c.requires.0; heading = c.requires.1; at = l.place; headed = l.heading };
      is =
          ap (λ (z : Tree). record { target = t.target; tree = z })
          (c.requires.2
          ∙ (ap (λ (w : InfixWord). joined_under t.tree.place t.tree.heading list c.requires.0 c.requires.1 w (read_tree l) (read_tree c.args.operand.now)) c.in-Union-Named.is-0
          ∙ ap (λ (z : Tree). joined_under t.tree.place t.tree.heading list c.requires.0 c.requires.1 Union z (read_tree c.args.operand.now)) named_is));
    }
