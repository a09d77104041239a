-- Boxes of one side whose packed form has the boxes of rows.
use Rattle.std.proofs.Common.{◌≡◌, ℕ, ◌≤ℤ◌, List, [], ◌∷◌, map, length, get_or, Option, Some, refl, sym, ap, ◌∙◌, subst}
use Rattle.std.specs.Bool.{IsTrue}
use Rattle.std.specs.List.{All}
use Rattle.std.specs.Option.{IfSome}
use Rattle.std.proofs.lemmas.List.Elements.{Contains-get_or}
use Rattle.base_core.proofs.IntLemmas.{le_itself}
use Rattle.base_core.proofs.MemberLemmas.{In-map}
use Rattle.base_core.proofs.SetLemmas.{In, In-from_Contains}
use Rattle.point_core.specs.Points.{number, IsPointOf}
use Rattle.point_core.specs.declared.any_type.AnyPoint.{AnyPoint}
use Rattle.point_core.specs.declared.any_type.AnyType.{AnyType}
use Rattle.cell_packing.specs.Boxed.{Boxed, packed_boxes}
use Rattle.cell_packing.specs.Packed.{Has, firsts}
use Rattle.cell_packing.proofs.PackedBoxes.{among_in}
use Rattle.cell_core.specs.Boxes.{IsBox}
use Rattle.cell_core.specs.Cells.{box_numbers, row_numbers}
use Rattle.cell_core.proofs.PackedGridPoints.{AllHave, in_packed_box}
use Rattle.value_core.specs.Order.{row_total, row_separates}
use Rattle.value_core.specs.Values.{Row, Heading, row_cmp, rows_of, fits_heading}
use Rattle.relation_core.specs.Parts.{kind_at}
use Rattle.u_set.specs.Boxes.{type_of, types_at, others, unboxed}
use Rattle.u_set.proofs.KeptLemmas.{one_listed}
use Rattle.u_set.proofs.BridgeLemmas.{AreRowsOf}

abbrev Ends : Type 0
Ends = AnyPoint × AnyPoint

pub some_is : {X : Type 0} (P : X → Type 0) (o : Option X) (x : X) → o ≡ Some x → IfSome o P → P x
some_is P o x e h = subst (λ q. IfSome q P) e h

pub types_there : (heading : Heading) (commalist : List ℕ) → length commalist ≡ 1 → (t : AnyType) → t ≡ type_of (kind_at heading (get_or commalist 0 0)) → types_at heading commalist ≡ t ∷ []
types_there heading commalist one t type = ap (types_at heading) (sym (one_listed commalist (get_or commalist 0 0) one refl)) ∙ ap (λ (u : AnyType). u ∷ []) (sym type)

pub has_firsts : (t : AnyType) (sides : List Ends) → IsBox IsPointOf (t ∷ []) sides → (i : Ends) → i ≡ get_or sides 0 i → number i.0 ≤ℤ number i.1 → Has (box_numbers number sides) (firsts (box_numbers number sides))
has_firsts t [] h i e o = absurd h
has_firsts t (s ∷ []) h i e o = (le_itself (number s.0), subst (λ (x : Ends). number x.0 ≤ℤ number x.1) e o, tt)
has_firsts t (s ∷ u ∷ sides) h i e o = absurd h.1

-- the labels of boxes are those of the rows, so they fit
pub labels_given : (heading : Heading) (commalist : List ℕ) (k : ℕ) (rows : List Row) (cells : List (Row × List Ends)) → AllHave k (map (row_numbers number) cells)
    → All (λ b. Has (box_numbers number b.1) (firsts (box_numbers number b.1))) cells → AreRowsOf heading commalist rows (packed_boxes row_cmp k (map (row_numbers number) cells))
    → All (λ b. IsTrue (fits_heading (others commalist heading) b.0)) cells
labels_given heading commalist k rows cells have first are = λ j d l.
    let b : Row × List Ends = get_or cells j d in
    let boxes : List (Boxed Row) = map (row_numbers number) cells in
    let i : In (row_numbers number b) boxes = (In-map (row_numbers number) (row_numbers number b) cells).1 (b, In-from_Contains cells b (Contains-get_or cells j d l), refl) in
    let p = in_packed_box row_cmp row_total row_separates k boxes have b.0 (firsts (box_numbers number b.1)) (box_numbers number b.1, (among_in (row_numbers number b) boxes).1 i, first j d l) in
    are.labels (b.0, p.0) ((among_in (b.0, p.0) (packed_boxes row_cmp k boxes)).0 p.1)

-- and so their list is that of the rows
pub list_given : (heading own : Heading) (at : ℕ) (commalist : List ℕ) (k : ℕ) (rows : List Row) (boxes : List (Boxed Row)) → own ≡ heading → at ∷ [] ≡ commalist → k ≡ 1 → AreRowsOf heading commalist rows (packed_boxes row_cmp k boxes)
    → rows_of (map (unboxed own (at ∷ [])) (packed_boxes row_cmp 1 boxes)) ≡ rows
list_given heading own at commalist k rows boxes same back one are = (λ t. rows_of (map (unboxed (same t) (back t)) (packed_boxes row_cmp (sym one t) boxes))) ∙ sym are.are
