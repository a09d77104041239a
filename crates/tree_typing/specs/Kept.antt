-- Kept views as the expressions that they stand for.
--     kept_rel      an operator of names under USING, or PACK of a name
--     infix_of_names      the typing of an operator between two names under USING
use Rattle.utd_syntax.specs.declared.words.PackWord.TheVariants.{Pack}
use Rattle.utd_syntax.specs.Plain as syntax
use Rattle.utd_syntax.specs.Plain.{Word, NameListP, RelP, OperandP, KeptP}
use Rattle.point_core.specs.declared.fault.Place.{Place}
use Rattle.point_core.specs.Faults.{OrFault}
use Rattle.scalar_typing.specs.Typings.{◌>>=◌}
use Rattle.node_typing.specs.Usings.{using_infix_rule}
use Rattle.tree_core.specs.Trees.{Tree}
use Rattle.tree_core.specs.declared.tree.InfixWord.{InfixWord}
use Rattle.tree_typing.specs.Scopes.{Scope}
use Rattle.tree_typing.specs.Trees.{relvar_typed}

abbrev pub rel_of : OperandP → RelP
rel_of o = syntax.OfTerms (syntax.OneTerm (syntax.OneRelPrimary (syntax.OfOperand o)))

abbrev pub kept_rel : KeptP → RelP
kept_rel (syntax.KeptInfix place list l at w r) = syntax.OfUsing (syntax.Using place list (syntax.UsingInfix (syntax.Relvar l) at w (syntax.Relvar r)))
kept_rel (syntax.KeptNotMatching place list l at r) = syntax.OfUsing (syntax.Using place list (syntax.UsingNotMatching (syntax.Relvar l) at (syntax.Relvar r)))
kept_rel (syntax.KeptProject place list w p) = syntax.OfUsing (syntax.Using place list (syntax.UsingProject (syntax.Relvar w) p))
kept_rel (syntax.KeptPack place w list) = rel_of (syntax.PackOn place Pack (rel_of (syntax.Relvar w)) list)

abbrev pub infix_of_names : Scope → Place → NameListP → Place → InfixWord → Word → Word → OrFault Tree
infix_of_names scope place list at word l r = do
  left ← relvar_typed scope l
  right ← relvar_typed scope r
  using_infix_rule place list at word left right
