-- What surrounds an operator, as its evaluation keeps it.
--     around_of      what it is read as, for the heading of the operator
--     MayStand      an expression may stand there
--     IsListed, KeepsList, IsSwept, AreSwept, AreSummed      what its operator keeps of the list, each for itself
use Rattle.std.specs.Prelude.{ℕ, List, IsTrue}
use Rattle.value_core.specs.Values.{Heading}
use Rattle.scalar_core.specs.Expressions.{Expr}
use Rattle.tree_core.specs.Trees.{Tree, PlainSets, PlainAggregate, heading_of}
use Rattle.meaning_core.specs.Meanings.{Around, plainly, names_at}
use Rattle.meaning_core.specs.Typing.{IsList, is_part}
use Rattle.eval_using.specs.Using.{around, HasList, IsSweptBy, AreSweptBy, IsSummedBy}
use Rattle.algebra_core.specs.declared.surrounding.Surrounding.{Surrounding}
use Rattle.algebra_core.specs.declared.surrounding.Surrounding.TheVariants.{Plainly, Using}

abbrev pub around_of : Surrounding → Heading → Around
around_of Plainly heading = plainly
around_of (Using place commalist) heading = around place heading commalist.now

-- the positions are a list of the operator's heading
abbrev pub IsListed : Surrounding → Heading → Type 0
IsListed Plainly heading = Unit {0}
IsListed (Using place commalist) heading = IsList heading commalist.now

-- the expression may be the part of the USING that surrounds it
abbrev pub IsPartOf : Surrounding → Tree → Type 0
IsPartOf Plainly t = Unit {0}
IsPartOf (Using place commalist) t = IsTrue (is_part (names_at (heading_of t) commalist.now) t)

pub record MayStand (s : Surrounding) (t : Tree) : Type 0 where
  pub list : IsListed s (heading_of t)
  pub part : IsPartOf s t

-- ---- what its operator keeps of the list

-- an operand has the listed attributes
abbrev pub KeepsList : Surrounding → Heading → Heading → Type 0
KeepsList Plainly heading from = Unit {0}
KeepsList (Using place commalist) heading from = HasList heading commalist.now from

abbrev pub IsSwept : Surrounding → Heading → Heading → Expr → Type 0
IsSwept Plainly heading from e = Unit {0}
IsSwept (Using place commalist) heading from e = IsSweptBy heading commalist.now from e

abbrev pub AreSwept : Surrounding → Heading → Heading → PlainSets → Type 0
AreSwept Plainly heading from sets = Unit {0}
AreSwept (Using place commalist) heading from sets = AreSweptBy heading commalist.now from sets

abbrev pub AreSummed : Surrounding → Heading → Heading → List ℕ → List PlainAggregate → Type 0
AreSummed Plainly heading from by aggregates = Unit {0}
AreSummed (Using place commalist) heading from by aggregates = IsSummedBy heading commalist.now from by aggregates
