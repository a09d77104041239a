-- The items of an assignment, and assignments, as plain data.
--     PlainItem, PlainAssignment      what they are read as
--     read_item, read_assignment      how they are read
use Rattle.std.specs.Prelude.{ℕ, List, map, Option, option_map}
use Rattle.point_core.specs.declared.fault.Place.{Place}
use Rattle.value_core.specs.Values.{Name, Heading}
use Rattle.scalar_core.specs.declared.tree.Scalar.{Scalar}
use Rattle.scalar_core.specs.Expressions.{Expr, read}
use Rattle.tree_core.specs.Trees.{PlainSets, Tree, read_sets, read_tree}
use Rattle.tree_core.specs.declared.item.Change.{Change}
use Rattle.tree_core.specs.declared.item.Item.{Item}
use Rattle.tree_core.specs.declared.item.ItemForm.{ItemForm}
use Rattle.tree_core.specs.declared.item.ItemForm.TheVariants.{Set, Insert, Delete, DeleteRows, Update, Terminate}
use Rattle.tree_core.specs.declared.declaration.Assignment.{Assignment}

-- a portion: intervals beside attribute positions
abbrev pub PlainPortion : Type 0
PlainPortion = List (ℕ × Expr)

-- which rows change, and at which of their points
pub record PlainChange : Type 0 where
  pub commalist : Option (List ℕ)
  pub portion : Option PlainPortion
  pub condition : Option Expr

pub data PlainItemForm : Type 0 where
  set_to : Tree → PlainItemForm
  insert : Option (List ℕ) → Tree → PlainItemForm
  delete : Option (List ℕ) → Tree → PlainItemForm
  delete_rows : PlainChange → PlainItemForm
  update : PlainChange → PlainSets → PlainItemForm
  terminate : Expr → Place → Option Expr → PlainItemForm

-- an item: the place of its first token, its target and the target's heading
pub record PlainItem : Type 0 where
  pub place : Place
  pub target : Name
  pub heading : Heading
  pub form : PlainItemForm

-- a relvar and the expression that it gets as its value
pub record PlainAssignment : Type 0 where
  pub target : Name
  pub tree : Tree

-- ---- reading

abbrev pub read_portion : List (ℕ × Scalar) → PlainPortion
read_portion portion = map (λ (p : ℕ × Scalar). (p.0, read p.1)) portion

abbrev pub read_change : Change → PlainChange
read_change c = record { commalist = c.commalist; portion = option_map read_portion c.portion; condition = option_map read c.condition }

abbrev pub read_item_form : ItemForm → PlainItemForm
read_item_form (Set t) = set_to (read_tree t)
read_item_form (Insert commalist t) = insert commalist (read_tree t)
read_item_form (Delete commalist t) = delete commalist (read_tree t)
read_item_form (DeleteRows change) = delete_rows (read_change change)
read_item_form (Update change sets) = update (read_change change) (read_sets sets)
read_item_form (Terminate at at_place condition) = terminate (read at) at_place (option_map read condition)

abbrev pub read_item : Item → PlainItem
read_item i = record { place = i.place; target = i.target; heading = i.heading; form = read_item_form i.form }

abbrev pub read_assignment : Assignment → PlainAssignment
read_assignment a = record { target = a.target; tree = read_tree a.tree }
