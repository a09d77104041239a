-- What an operator keeps of the list of the USING that surrounds it, from what its node keeps.
use Rattle.std.proofs.Common.{ℕ, List}
use Rattle.std.proofs.lemmas.Bool.{and_parts}
use Rattle.point_core.specs.declared.fault.Place.{Place}
use Rattle.value_core.specs.Values.{Heading}
use Rattle.scalar_core.specs.Expressions.{Expr}
use Rattle.tree_core.specs.Trees.{Tree, PlainSets, PlainAggregate, infix_of, project, restrict, extend, summarize, heading_of}
use Rattle.tree_core.specs.declared.tree.InfixWord.{InfixWord}
use Rattle.algebra_core.specs.Surroundings.{IsPartOf, KeepsList, IsSwept, AreSwept, AreSummed}
use Rattle.algebra_core.specs.declared.surrounding.Surrounding.{Surrounding}
use Rattle.algebra_core.specs.declared.surrounding.Surrounding.TheVariants.{Plainly, Using}

pub infix_part : (s : Surrounding) (place : Place) (h : Heading) (word : InfixWord) (l r : Tree) → IsPartOf s (infix_of place h word l r)
    → KeepsList s h (heading_of l) × KeepsList s h (heading_of r)
infix_part Plainly place h word l r is = (tt, tt)
infix_part (Using at commalist) place h word l r is = and_parts _ _ is

pub project_part : (s : Surrounding) (place : Place) (h : Heading) (kept : List ℕ) (t : Tree) → IsPartOf s (project place h kept t) → KeepsList s h (heading_of t)
project_part Plainly place h kept t is = tt
project_part (Using at commalist) place h kept t is = is

pub restrict_part : (s : Surrounding) (place : Place) (h : Heading) (c : Expr) (t : Tree) → IsPartOf s (restrict place h c t) → IsSwept s h (heading_of t) c
restrict_part Plainly place h c t is = tt
restrict_part (Using at commalist) place h c t is = is

pub extend_part : (s : Surrounding) (place : Place) (h : Heading) (sets : PlainSets) (t : Tree) → IsPartOf s (extend place h sets t)
    → KeepsList s h (heading_of t) × AreSwept s h (heading_of t) sets
extend_part Plainly place h sets t is = (tt, tt)
extend_part (Using at commalist) place h sets t is =
    let first = and_parts _ _ is in
    let more = and_parts _ _ first.1 in
    (first.0, record { swept = more.0; kept = more.1 })

pub summarize_part : (s : Surrounding) (place : Place) (h : Heading) (by : List ℕ) (aggregates : List PlainAggregate) (t : Tree) → IsPartOf s (summarize place h by aggregates t)
    → KeepsList s h (heading_of t) × AreSummed s h (heading_of t) by aggregates
summarize_part Plainly place h by aggregates t is = (tt, tt)
summarize_part (Using at commalist) place h by aggregates t is =
    let first = and_parts _ _ is in
    let more = and_parts _ _ first.1 in
    (first.0, record { grouped = more.0; unnamed = more.1 })
