-- Operators under USING by the heading of the node and the positions of the list there.
--     around      what surrounds the operator
--     HasList      an operand has the listed attributes, of the same kinds
--     IsSweptBy, AreSweptBy, IsSummedBy      what an operator that asks expressions keeps of its list
use Rattle.std.specs.Prelude.{ℕ, List, not, IsTrue}
use Rattle.std.specs.List.{list_any, list_all}
use Rattle.std.specs.Str.{bytes_eq}
use Rattle.point_core.specs.declared.fault.Place.{Place}
use Rattle.value_core.specs.Attributes.{among}
use Rattle.value_core.specs.Values.{Heading}
use Rattle.scalar_core.specs.Expressions.{Expr}
use Rattle.tree_core.specs.Trees.{PlainSets, PlainAggregate}
use Rattle.meaning_core.specs.Meanings.{Around, in_using, names_at, positions_of}
use Rattle.meaning_core.specs.Typing.{are_in, is_swept, names_none}

abbrev pub around : Place → Heading → List ℕ → Around
around place heading commalist = in_using place (names_at heading commalist)

-- where the listed attributes of a heading stand in an operand's
abbrev pub listed : Heading → List ℕ → Heading → List ℕ
listed heading commalist from = positions_of from (names_at heading commalist)

abbrev pub HasList : Heading → List ℕ → Heading → Type 0
HasList heading commalist from = IsTrue (are_in heading (names_at heading commalist) from)

abbrev pub IsSweptBy : Heading → List ℕ → Heading → Expr → Type 0
IsSweptBy heading commalist from e = IsTrue (is_swept (listed heading commalist from) e)

-- each item is sweepable, and none stands in place of a listed attribute
pub record AreSweptBy (heading : Heading) (commalist : List ℕ) (from : Heading) (sets : PlainSets) : Type 0 where
  pub swept : IsTrue (list_all (λ s. is_swept (listed heading commalist from) s.1) sets)
  pub kept : IsTrue (not (list_any (λ n. list_any (λ s. bytes_eq n s.0) sets) (names_at heading commalist)))

-- the listed attributes are among those of the groups, and no aggregate names one
pub record IsSummedBy (heading : Heading) (commalist : List ℕ) (from : Heading) (by : List ℕ) (aggregates : List PlainAggregate) : Type 0 where
  pub grouped : IsTrue (list_all (among by) (listed heading commalist from))
  pub unnamed : IsTrue (list_all (λ a. names_none (listed heading commalist from) a.form) aggregates)
