-- Row expressions as plain data: an operator, its place, and its parts.
--     read e      the plain expression of a tree
use Rattle.std.specs.Prelude.{ℕ}
use Rattle.point_core.specs.declared.fault.Place.{Place}
use Rattle.value_core.specs.declared.kind.Kind.{Kind}
use Rattle.value_core.specs.Values.{Value}
use Rattle.value_core.specs.Plain.{plain}
use Rattle.scalar_core.specs.declared.operators.OneOp.{OneOp}
use Rattle.scalar_core.specs.declared.operators.OneOp.TheVariants as one_op
use Rattle.scalar_core.specs.declared.operators.PairOp.{PairOp}
use Rattle.scalar_core.specs.declared.operators.PairOp.TheVariants as pair_op
use Rattle.scalar_core.specs.declared.tree.Scalar.{Scalar}
use Rattle.scalar_core.specs.declared.tree.Parts.{Parts, Parts'}
use Rattle.scalar_core.specs.declared.tree.ScalarForm.{ScalarForm, Constant, Attribute, Not', Negate', BeginOf', EndOf', PreOf', PostOf', CountOf', NextOf', PriorOf', And, Or, Add, Subtract, Multiply, Divide, Concat, Compare, Allen, Member, Select, UnionOf, IntersectOf, MinusOf}

-- an expression. A constant has its kind, an attribute its position in the heading
pub data Expr : Type 0 where
  constant : Place → Kind → Value → Expr
  attribute : Place → ℕ → Expr
  one : OneOp → Place → Expr → Expr
  pair : PairOp → Place → Expr → Expr → Expr
  and_expr : Place → Expr → Expr → Expr
  or_expr : Place → Expr → Expr → Expr

-- the expression of a form at a place, and those of the two parts
abbrev mutual
  pub read_form : Place → ScalarForm → Expr
  read_form at (Constant kind v) = constant at kind (plain v)
  read_form at (Attribute i) = attribute at i
  read_form at (Not' p place form) = one one_op.Not at (read_form place form)
  read_form at (Negate' p place form) = one one_op.Negate at (read_form place form)
  read_form at (BeginOf' p place form) = one one_op.BeginOf at (read_form place form)
  read_form at (EndOf' p place form) = one one_op.EndOf at (read_form place form)
  read_form at (PreOf' t p place form) = one (one_op.PreOf t) at (read_form place form)
  read_form at (PostOf' t p place form) = one (one_op.PostOf t) at (read_form place form)
  read_form at (CountOf' t p place form) = one (one_op.CountOf t) at (read_form place form)
  read_form at (NextOf' t p place form) = one (one_op.NextOf t) at (read_form place form)
  read_form at (PriorOf' t p place form) = one (one_op.PriorOf t) at (read_form place form)
  read_form at (And parts) = and_expr at (read_left parts) (read_right parts)
  read_form at (Or parts) = or_expr at (read_left parts) (read_right parts)
  read_form at (Add parts) = pair pair_op.Add at (read_left parts) (read_right parts)
  read_form at (Subtract parts) = pair pair_op.Subtract at (read_left parts) (read_right parts)
  read_form at (Multiply parts) = pair pair_op.Multiply at (read_left parts) (read_right parts)
  read_form at (Divide parts) = pair pair_op.Divide at (read_left parts) (read_right parts)
  read_form at (Concat parts) = pair pair_op.Concat at (read_left parts) (read_right parts)
  read_form at (Compare w parts) = pair (pair_op.Compare w) at (read_left parts) (read_right parts)
  read_form at (Allen w t parts) = pair (pair_op.Allen w t) at (read_left parts) (read_right parts)
  read_form at (Member t parts) = pair (pair_op.Member t) at (read_left parts) (read_right parts)
  read_form at (Select e t parts) = pair (pair_op.Select e t) at (read_left parts) (read_right parts)
  read_form at (UnionOf t parts) = pair (pair_op.UnionOf t) at (read_left parts) (read_right parts)
  read_form at (IntersectOf t parts) = pair (pair_op.IntersectOf t) at (read_left parts) (read_right parts)
  read_form at (MinusOf t parts) = pair (pair_op.MinusOf t) at (read_left parts) (read_right parts)

  pub read_left : Parts → Expr
  read_left (Parts' p place form q other_place other_form) = read_form place form

  pub read_right : Parts → Expr
  read_right (Parts' p other_place other_form q place form) = read_form place form

abbrev pub read : Scalar → Expr
read e = read_form e.place e.form
