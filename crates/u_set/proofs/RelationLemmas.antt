-- What boxes give as a relation.
use Rattle.std.proofs.Common.{◌≡◌, ℕ, ◌<◌, List, Result, length, get_or, map, sym, ap, ◌∙◌, subst, refl}
use Rattle.std.specs.Bool.{IsTrue}
use Rattle.std.specs.List.{All}
use Rattle.std.specs.Result.{MatchResult}
use Rattle.std.proofs.lemmas.List.Elements.{Contains-get_or}
use Rattle.base_core.proofs.SetLemmas.{In, In-from_Contains}
use Rattle.base_core.proofs.MemberLemmas.{In-map, list_all-In}
use Rattle.point_core.specs.declared.any_type.AnyPoint.{AnyPoint}
use Rattle.point_core.specs.Points.{number}
use Rattle.value_core.specs.Values.{Row, Heading, Relation, IsRelation, rows_of, most_rows, fits_heading}
use Rattle.value_core.specs.declared.refuse.RowsRefuse.{RowsRefuse}
use Rattle.value_core.specs.declared.refuse.RowsRefuse.TheVariants.{TooMany, Memory}
use Rattle.relation_core.specs.Answers.{IsAnswer, IsRefusal}
use Rattle.cell_packing.specs.Boxed.{Boxed}
use Rattle.cell_core.specs.Cells.{row_numbers}
use Rattle.cell_core.specs.declared.boxes.CellRefuse.{CellRefuse}
use Rattle.cell_core.specs.declared.boxes.CellRefuse.TheVariants.{Limit as OfLimit}
use Rattle.u_set.specs.Boxes.{AreIntervals, IsShaped, others, unboxed}
use Rattle.u_set.proofs.BoxLemmas.{shaped_from_fit}
use Rattle.u_set.proofs.BridgeLemmas.{AreRowsOf}

-- ---- the rows of a relation

pub relation_shaped : (r : Relation) → IsRelation r → (commalist : List ℕ) → AreIntervals r.heading commalist → (x : Row) → In x r.rows → IsShaped r.heading commalist x
relation_shaped r is commalist intervals x i = shaped_from_fit r.heading commalist intervals x ((list_all-In (fits_heading r.heading) r.rows).0 is.fitting x i)

-- of one of two relations with one heading
pub shaped_under : (heading : Heading) (r : Relation) → heading ≡ r.heading → IsRelation r → (commalist : List ℕ) → AreIntervals heading commalist → (x : Row) → In x r.rows → IsShaped heading commalist x
shaped_under heading r same is commalist intervals x i =
    subst (λ (h : Heading). IsShaped h commalist x) (sym same) (relation_shaped r is commalist (subst (λ (h : Heading). AreIntervals h commalist) same intervals) x i)

-- ---- boxes of points, read as the boxes of some rows

module _ (heading : Heading) (commalist : List ℕ) (rows : List Row) (boxes : List (Boxed Row)) (are : AreRowsOf heading commalist rows boxes) where
  module _ (form : List (Row × List (AnyPoint × AnyPoint))) (same : map (row_numbers number) form ≡ boxes) where
    pub rows_read : rows_of (map (unboxed heading commalist) (map (row_numbers number) form)) ≡ rows
    rows_read = ap (λ bs. rows_of (map (unboxed heading commalist) bs)) same ∙ sym are.are

    pub labels_read : All (λ b. IsTrue (fits_heading (others commalist heading) b.0)) form
    labels_read = λ j d l.
        let b = get_or form j d in
        let i : In b form = In-from_Contains form b (Contains-get_or form j d l) in
        are.labels (row_numbers number b) (subst (In (row_numbers number b)) same ((In-map (row_numbers number) (row_numbers number b) form).1 (b, i, refl)))

  -- too many boxes are too many rows
  pub too_many : (n : ℕ) → n < length boxes → n < length rows
  too_many n l = subst (λ m. n < m) (sym are.many) l

  -- so what is answered to the boxes is the answer of the rows
  pub answer_read : (form : List (Row × List (AnyPoint × AnyPoint))) → map (row_numbers number) form ≡ boxes → (h : Heading) → h ≡ heading → (result : Result Relation RowsRefuse)
      → (let read = rows_of (map (unboxed h commalist) (map (row_numbers number) form)) in MatchResult result (IsAnswer h read) (IsRefusal read))
      → MatchResult result (IsAnswer heading rows) (IsRefusal rows)
  answer_read form same h e result given =
      let read : rows_of (map (unboxed h commalist) (map (row_numbers number) form)) ≡ rows = (λ t. rows_of (map (unboxed (e t) commalist) (map (row_numbers number) form))) ∙ rows_read form same in
      subst (λ (k : Heading). MatchResult result (IsAnswer k rows) (IsRefusal rows)) e
      (subst (λ (s : List Row). MatchResult result (IsAnswer h s) (IsRefusal s)) read given)

  -- and boxes are refused for too many rows alone
  pub refusal_read : (cause : CellRefuse) (refuse : RowsRefuse) → (refuse ≡ TooMany → cause ≡ OfLimit) → (cause ≡ OfLimit → most_rows < length boxes) → IsRefusal rows refuse
  refusal_read cause TooMany many limit = too_many most_rows (limit (many refl))
  refusal_read cause Memory many limit = tt
