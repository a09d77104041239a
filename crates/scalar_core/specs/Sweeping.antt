-- Expressions whose value changes only at cuts that their comparisons tell.
--     sweep_fault commalist e      the place of the first name of an attribute of the list that is in no atom
--     names_any commalist e      whether the expression names an attribute of the list
use Rattle.std.specs.Prelude.{◌≡◌, ℕ, Bool, true, false, not, ◌&&◌, ◌||◌, cond, List, [], ◌∷◌, ◌++◌, Option, Some, None}
use Rattle.point_core.specs.declared.fault.Place.{Place}
use Rattle.value_core.specs.Attributes.{among}
use Rattle.scalar_core.specs.Expressions.{Expr, constant, attribute, one, pair, and_expr, or_expr}
use Rattle.scalar_core.specs.declared.operators.OneOp.{OneOp}
use Rattle.scalar_core.specs.declared.operators.OneOp.TheVariants.{BeginOf, EndOf}
use Rattle.scalar_core.specs.declared.operators.PairOp.{PairOp}
use Rattle.scalar_core.specs.declared.operators.PairOp.TheVariants.{Compare, Allen, Member}

-- ---- names

-- the first of some places, and of two
abbrev pub first_place : List Place → Option Place
first_place [] = None
first_place (p ∷ ps) = Some p

abbrev pub first_of : Option Place → Option Place → Option Place
first_of None second = second
first_of (Some place) second = Some place

-- the places of the names of listed attributes, in the order of the text
abbrev pub named_places : List ℕ → Expr → List Place
named_places commalist (constant place kind v) = []
named_places commalist (attribute place i) = cond (among commalist i) (place ∷ []) []
named_places commalist (one op place e) = named_places commalist e
named_places commalist (pair op place l r) = named_places commalist l ++ named_places commalist r
named_places commalist (and_expr place l r) = named_places commalist l ++ named_places commalist r
named_places commalist (or_expr place l r) = named_places commalist l ++ named_places commalist r

-- the expression names an attribute of the list
abbrev pub names_any : List ℕ → Expr → Bool
names_any commalist (constant place kind v) = false
names_any commalist (attribute place i) = among commalist i
names_any commalist (one op place e) = names_any commalist e
names_any commalist (pair op place l r) = names_any commalist l || names_any commalist r
names_any commalist (and_expr place l r) = names_any commalist l || names_any commalist r
names_any commalist (or_expr place l r) = names_any commalist l || names_any commalist r

-- ---- atoms

-- the operator is a comparison
abbrev pub is_comparison : PairOp → Bool
is_comparison (Compare w) = true
is_comparison (Allen w t) = true
is_comparison (Member t) = true
is_comparison _ = false

-- the attribute A of the list of which the expression is exactly A, BEGIN(A) or END(A)
abbrev pub if_among : List ℕ → ℕ → Option ℕ
if_among commalist i = cond (among commalist i) (Some i) None

abbrev pub attribute_of : List ℕ → Expr → Option ℕ
attribute_of commalist (attribute place i) = if_among commalist i
attribute_of commalist _ = None

abbrev pub end_attribute : List ℕ → OneOp → Expr → Option ℕ
end_attribute commalist BeginOf e = attribute_of commalist e
end_attribute commalist EndOf e = attribute_of commalist e
end_attribute commalist _ e = None

abbrev pub swept_attribute : List ℕ → Expr → Option ℕ
swept_attribute commalist (attribute place i) = if_among commalist i
swept_attribute commalist (one op place e) = end_attribute commalist op e
swept_attribute commalist _ = None

-- the one side is A, BEGIN(A) or END(A), and the other names no attribute of the list
abbrev pub is_swept_by : List ℕ → Option ℕ → Expr → Bool
is_swept_by commalist None other = false
is_swept_by commalist (Some i) other = not (names_any commalist other)

-- a comparison of the two is an atom
abbrev pub is_swept : List ℕ → Expr → Expr → Bool
is_swept commalist l r = is_swept_by commalist (swept_attribute commalist l) r || is_swept_by commalist (swept_attribute commalist r) l

abbrev pub is_atom : List ℕ → PairOp → Expr → Expr → Bool
is_atom commalist op l r = is_comparison op && is_swept commalist l r

-- ---- sweepable expressions

-- the places of the names that are in no atom, in the order of the text
abbrev pub unswept : List ℕ → Expr → List Place
unswept commalist (constant place kind v) = []
unswept commalist (attribute place i) = cond (among commalist i) (place ∷ []) []
unswept commalist (one op place e) = unswept commalist e
unswept commalist (pair op place l r) = cond (is_atom commalist op l r) [] (unswept commalist l ++ unswept commalist r)
unswept commalist (and_expr place l r) = unswept commalist l ++ unswept commalist r
unswept commalist (or_expr place l r) = unswept commalist l ++ unswept commalist r

-- where the expression is not sweepable
abbrev pub sweep_fault : List ℕ → Expr → Option Place
sweep_fault commalist e = first_place (unswept commalist e)

-- each name of a listed attribute is in an atom
abbrev pub IsSweepable : List ℕ → Expr → Type 0
IsSweepable commalist e = sweep_fault commalist e ≡ None
