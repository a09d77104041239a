-- What operators under USING mean, where the operands have the heading of the node: their positions are those of the list.
use Rattle.std.proofs.Common.{◌≡◌, ℕ, List, Option, Some, None, refl, sym, ◌∙◌, subst}
use Rattle.std.specs.Prelude.{is_none}
use Rattle.std.specs.Bool.{IsTrue}
use Rattle.base_core.specs.Outcomes.{then_give}
use Rattle.point_core.specs.Faults.{OrFault}
use Rattle.point_core.specs.declared.fault.Place.{Place}
use Rattle.value_core.specs.RowPacking.{packed, unpacked}
use Rattle.value_core.specs.Values.{Row, Heading, is_heading}
use Rattle.scalar_core.specs.Expressions.{Expr}
use Rattle.scalar_core.specs.Sweeping.{sweep_fault, IsSweepable}
use Rattle.relation_core.specs.Answers.{under}
use Rattle.meaning_core.specs.Meanings.{limited, opened, closed, positions_of, names_at}
use Rattle.meaning_core.specs.Typing.{IsList}
use Rattle.eval_using.specs.Using.{around, listed, IsSweptBy}
use Rattle.eval_using.proofs.ListLemmas.{positions_back}

module _ (place : Place) (heading : Heading) (commalist : List ℕ) (headed : IsTrue (is_heading heading)) (list : IsList heading commalist) where
  back_in : (from : Heading) → heading ≡ from → commalist ≡ positions_of from (names_at heading commalist)
  back_in from same = sym (positions_back heading commalist headed list) ∙ (λ t. positions_of (same t) (names_at heading commalist))

  -- what an operator on sets of rows gives of the unpacked rows of operands with the node's heading, packed
  pub set_meant : (op : List Row → List Row → List Row) (left right : Heading) (r s : List Row) → heading ≡ left → heading ≡ right
      → under left (limited place (packed commalist (op (unpacked commalist r) (unpacked commalist s))))
      ≡ under heading (closed (around place heading commalist) place heading (op (opened (around place heading commalist) left r) (opened (around place heading commalist) right s)))
  set_meant op left right r s l m =
      λ t. under (sym l t) (limited place (packed (sym (positions_back heading commalist headed list) t) (op (unpacked (back_in left l t) r) (unpacked (back_in right m t) s))))

  -- rows of the node's heading, packed
  pub rows_meant : (rows : List Row) → under heading (limited place (packed commalist rows)) ≡ under heading (closed (around place heading commalist) place heading rows)
  rows_meant rows = λ t. under heading (limited place (packed (sym (positions_back heading commalist headed list) t) rows))

  -- what an operator gives of unpacked rows of the node's heading, and of those of another operand, packed
  pub pair_meant : (op : List Row → List Row → List Row) (left right : Heading) (r s : List Row) → heading ≡ left
      → under left (limited place (packed commalist (op (unpacked commalist r) (unpacked (listed heading commalist right) s))))
      ≡ under heading (closed (around place heading commalist) place heading (op (opened (around place heading commalist) left r) (opened (around place heading commalist) right s)))
  pair_meant op left right r s l =
      λ t. under (sym l t) (limited place (packed (sym (positions_back heading commalist headed list) t) (op (unpacked (back_in left l t) r) (unpacked (listed heading commalist right) s))))

  -- what an operator that may have a fault gives of unpacked rows of the node's heading, packed
  pub rule_meant : (op : List Row → OrFault (List Row)) (from : Heading) (r : List Row) → heading ≡ from
      → under from (then_give (op (unpacked commalist r)) (λ rows. limited place (packed commalist rows)))
      ≡ under heading (then_give (op (opened (around place heading commalist) from r)) (closed (around place heading commalist) place heading))
  rule_meant op from r same =
      λ t. under (sym same t) (then_give (op (unpacked (back_in from same t) r)) (λ rows. limited place (packed (sym (positions_back heading commalist headed list) t) rows)))

  -- the listed attributes of an operand with the node's heading
  pub listed_back : (from : Heading) → heading ≡ from → commalist ≡ listed heading commalist from
  listed_back from same = back_in from same

  pub sweepable_back : (from : Heading) → heading ≡ from → (e : Expr) → IsSweptBy heading commalist from e → IsSweepable commalist e
  sweepable_back from same e h = is_not (sweep_fault commalist e) (subst (λ ps. IsTrue (is_none (sweep_fault ps e))) (sym (back_in from same)) h)
    where
      is_not : {X : Type 0} (o : Option X) → IsTrue (is_none o) → o ≡ None
      is_not None h = refl
      is_not (Some x) h = absurd cc
