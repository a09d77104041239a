-- Boxes with a key and a label by the key alone.
use Rattle.std.specs.Prelude.{◌≡◌, ℕ, List, length}
use Rattle.std.specs.declared.cmp.Ordering.{Ordering}
use Rattle.std.specs.Cmp.{IsTotalOrder}
use Rattle.std.proofs.lemmas.Cmp.{on_total}
use Rattle.cell_sweep.specs.Rows.{key_cmp, key_total}
use Rattle.cell_boxes.specs.Answers.{PlainKeyedCellBox}
use Rattle.cell_packing.specs.Covering.{Among}
use Rattle.cell_boxes.specs.Rows.{PlainCellBox, IsRow}

-- without the label
abbrev pub key_of : {K P : Type 0} → PlainKeyedCellBox K P → PlainCellBox K
key_of x = (x.0, x.2)

abbrev pub label_of : {K P : Type 0} → PlainKeyedCellBox K P → P
label_of x = x.1

-- by key, and then by sides
abbrev pub keyed_cmp : {K P : Type 0} → (K → K → Ordering) → PlainKeyedCellBox K P → PlainKeyedCellBox K P → Ordering
keyed_cmp order a b = key_cmp order (key_of a) (key_of b)

pub keyed_total : {K P : Type 0} {order : K → K → Ordering} → IsTotalOrder order → IsTotalOrder (keyed_cmp {K = K} {P = P} order)
keyed_total {K} {P} o = on_total (λ (x : PlainKeyedCellBox K P). key_of x) (key_total o)

-- the key and the label of one number are those of one row, and each row has its number
pub record ArePaired {K P : Type 0} (rows : List (PlainKeyedCellBox K P)) (keys : List (PlainCellBox K)) (labels : List P) : Type 0 where
  pub count : length labels ≡ length keys
  pub from : (i : ℕ) (x : PlainCellBox K) (l : P) → IsRow keys i x → IsRow labels i l → Among (x.0, l, x.1) rows
  pub to : (z : PlainKeyedCellBox K P) → Among z rows → (i : ℕ) × IsRow keys i (key_of z) × IsRow labels i (label_of z)
