-- One attribute more of the row that a box gives.
use Rattle.std.proofs.Common.{◌≡◌, inl, inr, ℕ, suc, ◌+◌, ◌<◌, true, false, List, [], ◌∷◌, ◌++◌, map, take, drop, length, get_or, refl, sym, ap, ◌∙◌, subst, arith}
use Rattle.std.specs.Prelude.{slice_index_or, if◌then◌else◌}
use Rattle.std.specs.Bool.{IsTrue}
use Rattle.std.proofs.lemmas.Bool.{true≢false, and_parts, and_from, cases_lt}
use Rattle.std.proofs.lemmas.List.{append_assoc, take_more, drop_more, drop_all, get_or-map, length-map, map_push}
use Rattle.point_core.specs.declared.any_type.AnyType.{AnyType}
use Rattle.point_core.specs.declared.any_type.AnyPoint.{AnyPoint}
use Rattle.point_core.specs.Points.{line_of, number, IsPointOf}
use Rattle.interval_core.specs.Members.{Span, HasEndsIn, span}
use Rattle.value_core.specs.declared.kind.Kind.{Kind}
use Rattle.value_core.specs.Attributes.{value_at, among}
use Rattle.value_core.specs.declared.kind.Kind.TheVariants.{Truth}
use Rattle.value_core.specs.declared.value.Value.{Value as Held}
use Rattle.value_core.specs.Plain.{plain}
use Rattle.value_core.specs.Values.{Name, Value, Row, Heading, truth, interval, fits, fits_heading}
use Rattle.relation_core.specs.Parts.{kind_at}
use Rattle.cell_packing.specs.Packed.{nowhere}
use Rattle.cell_core.specs.Boxes.{IsBox}
use Rattle.cell_core.specs.Cells.{box_numbers}
use Rattle.cell_core.specs.Numbering.{numbers_of}
use Rattle.cell_core.proofs.BackLemmas.{box_length, box_ends}
use Rattle.u_set.specs.Boxes.{place_of, type_of, types_at, unless, others_from, unboxed_from}
use Rattle.u_set.proofs.BoxLemmas.{listed_at, value_at-get}

-- ---- the side of a listed attribute

pub side_at : (heading : Heading) (commalist : List ℕ) (i : ℕ) (sides : List (AnyPoint × AnyPoint)) → IsTrue (among commalist i) → IsBox IsPointOf (types_at heading commalist) sides
    → (place_of commalist i < length sides) × ((d : AnyPoint × AnyPoint) → HasEndsIn IsPointOf (type_of (kind_at heading i)) (get_or sides (place_of commalist i) d)
    × (get_or (box_numbers number sides) (place_of commalist i) nowhere ≡ span number (get_or sides (place_of commalist i) d)))
side_at heading commalist i sides listed box =
    let p = listed_at commalist i listed in
    let many : length sides ≡ length commalist = box_length IsPointOf (types_at heading commalist) sides box ∙ length-map commalist (λ j. type_of (kind_at heading j)) in
    let here : place_of commalist i < length (types_at heading commalist) = subst (λ n. place_of commalist i < n) (sym (length-map commalist (λ j. type_of (kind_at heading j)))) p.0 in
    let l : place_of commalist i < length sides = omega (arith, p.0) in
    let t : AnyType = type_of (kind_at heading i) in
    let same : get_or (types_at heading commalist) (place_of commalist i) t ≡ type_of (kind_at heading i) =
    get_or-map (λ j. type_of (kind_at heading j)) commalist (place_of commalist i) 0 t p.0 ∙ ap (λ j. type_of (kind_at heading j)) p.1 in (
      l,
      λ d. (
        subst (λ u. HasEndsIn IsPointOf u (get_or sides (place_of commalist i) d)) same (box_ends IsPointOf (types_at heading commalist) sides box (place_of commalist i) t d here),
        get_or-map (numbers_of number) sides (place_of commalist i) d nowhere l,
      ),
    )

-- ---- one side more

pub value_held : (values : List Held) (i : ℕ) (v : Held) → i < length values → v ≡ get_or values i v → value_at (map plain values) i ≡ plain v
value_held values i v l is =
    value_at-get (map plain values) i ∙ get_or-map plain values i v (truth false) l ∙ ap plain (sym is)

pub box_push : {T P : Type 0} (has : T → P → Type 0) (ts : List T) (v : List (P × P)) (t : T) (i : P × P) → IsBox has ts v → HasEndsIn has t i → IsBox has (ts ++ t ∷ []) (v ++ i ∷ [])
box_push has [] [] t i h g = (g, tt)
box_push has [] (j ∷ v) t i h g = absurd h
box_push has (u ∷ ts) [] t i h g = absurd h
box_push has (u ∷ ts) (j ∷ v) t i h g = (h.0, box_push has ts v t i h.1 g)

-- ---- one attribute more

pub fits_push : (h : Heading) (row : Row) (a : Name × Kind) (v : Value) → IsTrue (fits_heading h row) → IsTrue (fits a.1 v) → IsTrue (fits_heading (h ++ a ∷ []) (row ++ v ∷ []))
fits_push [] [] a v f g = and_from (fits a.1 v) true g refl
fits_push [] (w ∷ row) a v f g = absurd (true≢false (sym f))
fits_push (b ∷ h) [] a v f g = absurd (true≢false (sym f))
fits_push (b ∷ h) (w ∷ row) a v f g =
    let p = and_parts (fits b.1 w) (fits_heading h row) f in
    and_from (fits b.1 w) (fits_heading (h ++ a ∷ []) (row ++ v ∷ [])) p.0 (fits_push h row a v p.1 g)

-- a list that has elements is its first one and the rest
pub first_and_rest : {X : Type 0} (xs : List X) (d : X) → 0 < length xs → xs ≡ get_or xs 0 d ∷ drop 1 xs
first_and_rest [] d h = absurd (omega arith)
first_and_rest (x ∷ xs) d h = refl

module _ (heading : Heading) (commalist : List ℕ) (i : ℕ) (l : i < length heading) where
  abbrev here : Name × Kind
  here = get_or heading i ([], Truth)

  abbrev rest : Heading
  rest = drop (i + 1) heading

  split : drop i heading ≡ get_or heading i ([], Truth) ∷ drop (i + 1) heading
  split = drop_more heading i ([], Truth) l

  next : suc i ≡ i + 1
  next = omega arith

  pub unboxed_listed : (label : Row) (spans : List Span) → among commalist i ≡ true
      → unboxed_from i commalist (drop i heading) label spans ≡ interval (line_of (type_of (kind_at heading i))) (get_or spans (place_of commalist i) nowhere) ∷ unboxed_from (i + 1) commalist (drop (i + 1) heading) label spans
  unboxed_listed label spans e =
      let v : Value = interval (line_of (type_of (kind_at heading i))) (get_or spans (place_of commalist i) nowhere) in
      ap (λ h. unboxed_from i commalist h label spans) split
      ∙ (λ t. (if e t then v else slice_index_or label 0 (truth false)) ∷ unboxed_from (suc i) commalist (drop (i + 1) heading) (if e t then label else drop 1 label) spans)
      ∙ ap (λ m. v ∷ unboxed_from m commalist (drop (i + 1) heading) label spans) next

  pub unboxed_unlisted : (v : Value) (label : Row) (spans : List Span) → among commalist i ≡ false
      → unboxed_from i commalist (drop i heading) (v ∷ label) spans ≡ v ∷ unboxed_from (i + 1) commalist (drop (i + 1) heading) label spans
  unboxed_unlisted v label spans e =
      let u : Value = interval (line_of (type_of (kind_at heading i))) (get_or spans (place_of commalist i) nowhere) in
      ap (λ h. unboxed_from i commalist h (v ∷ label) spans) split
      ∙ (λ t. (if e t then u else slice_index_or (v ∷ label) 0 (truth false)) ∷ unboxed_from (suc i) commalist (drop (i + 1) heading) (if e t then v ∷ label else drop 1 (v ∷ label)) spans)
      ∙ ap (λ m. v ∷ unboxed_from m commalist (drop (i + 1) heading) label spans) next

  pub others_listed : among commalist i ≡ true → others_from i commalist (drop i heading) ≡ others_from (i + 1) commalist (drop (i + 1) heading)
  others_listed e =
      ap (others_from i commalist) split
      ∙ (λ t. unless (e t) (get_or heading i ([], Truth)) (others_from (suc i) commalist (drop (i + 1) heading)))
      ∙ ap (λ m. others_from m commalist (drop (i + 1) heading)) next

  others_unlisted : among commalist i ≡ false → others_from i commalist (drop i heading) ≡ get_or heading i ([], Truth) ∷ others_from (i + 1) commalist (drop (i + 1) heading)
  others_unlisted e =
      ap (others_from i commalist) split
      ∙ (λ t. unless (e t) (get_or heading i ([], Truth)) (others_from (suc i) commalist (drop (i + 1) heading)))
      ∙ ap (λ m. get_or heading i ([], Truth) ∷ others_from m commalist (drop (i + 1) heading)) next

  -- the label has a value for an attribute that is not listed
  pub label_next : (used : ℕ) (label : List Held) → among commalist i ≡ false → IsTrue (fits_heading (others_from i commalist (drop i heading)) (map plain (drop used label)))
      → (used < length label) × ((v : Held) → v ≡ get_or label used v → IsTrue (fits (kind_at heading i) (plain v))
      × IsTrue (fits_heading (others_from (i + 1) commalist (drop (i + 1) heading)) (map plain (drop (used + 1) label)))
      × (map plain (drop used label) ≡ plain v ∷ map plain (drop (used + 1) label)))
  label_next used label e f =
      let a : Name × Kind = get_or heading i ([], Truth) in
      let os : Heading = others_from (i + 1) commalist (drop (i + 1) heading) in
      let g : IsTrue (fits_heading (a ∷ os) (map plain (drop used label))) = subst (λ (h : Heading). IsTrue (fits_heading h (map plain (drop used label)))) (others_unlisted e) f in
      elim (cases_lt used (length label)) [
        | inl b ↦ (
          b,
          λ v is.
              let d : drop used label ≡ v ∷ drop (used + 1) label = drop_more label used v b ∙ ap (λ w. w ∷ drop (used + 1) label) (sym is) in
              let m : map plain (drop used label) ≡ plain v ∷ map plain (drop (used + 1) label) = ap (map plain) d in
              let w = and_parts (fits a.1 (plain v)) (fits_heading os (map plain (drop (used + 1) label))) (subst (λ (r : Row). IsTrue (fits_heading (a ∷ os) r)) m g) in
              (w.0, w.1, m),
        )
        | inr past ↦ absurd (true≢false (sym (subst (λ (r : List Held). IsTrue (fits_heading (a ∷ os) (map plain r))) (drop_all used label past) g)))
      ]

  -- one value more of the row, where the attribute is listed and where it is not
  module _ (label : List Held) (spans : List Span) (target : Row) (used : ℕ) (values : List Held) (v : Held) where
    one_more : (tail : Row) → map plain (values ++ v ∷ []) ++ tail ≡ map plain values ++ plain v ∷ tail
    one_more tail = ap (λ r. r ++ tail) (map_push plain values v) ∙ append_assoc (map plain values) (plain v ∷ []) tail

    fits_more : IsTrue (fits (kind_at heading i) (plain v)) → IsTrue (fits_heading (take i heading) (map plain values)) → IsTrue (fits_heading (take (i + 1) heading) (map plain (values ++ v ∷ [])))
    fits_more f g =
        let a : Name × Kind = get_or heading i ([], Truth) in
        subst (λ (h : Heading). IsTrue (fits_heading h (map plain (values ++ v ∷ [])))) (sym (take_more heading i ([], Truth) l))
        (subst (λ (r : Row). IsTrue (fits_heading (take i heading ++ a ∷ []) r)) (sym (map_push plain values v)) (fits_push (take i heading) (map plain values) a (plain v) g f))

    pub listed_more : among commalist i ≡ true → plain v ≡ interval (line_of (type_of (kind_at heading i))) (get_or spans (place_of commalist i) nowhere) → IsTrue (fits (kind_at heading i) (plain v))
        → map plain values ++ unboxed_from i commalist (drop i heading) (map plain (drop used label)) spans ≡ target
        → IsTrue (fits_heading (others_from i commalist (drop i heading)) (map plain (drop used label))) → IsTrue (fits_heading (take i heading) (map plain values))
        → (map plain (values ++ v ∷ []) ++ unboxed_from (i + 1) commalist (drop (i + 1) heading) (map plain (drop used label)) spans ≡ target)
        × IsTrue (fits_heading (others_from (i + 1) commalist (drop (i + 1) heading)) (map plain (drop used label)))
        × IsTrue (fits_heading (take (i + 1) heading) (map plain (values ++ v ∷ [])))
    listed_more e value f row rest done =
        let tail : Row = unboxed_from (i + 1) commalist (drop (i + 1) heading) (map plain (drop used label)) spans in
        let step : plain v ∷ tail ≡ unboxed_from i commalist (drop i heading) (map plain (drop used label)) spans = ap (λ w. w ∷ tail) value ∙ sym (unboxed_listed (map plain (drop used label)) spans e) in (
          one_more tail ∙ ap (λ r. map plain values ++ r) step ∙ row,
          subst (λ (h : Heading). IsTrue (fits_heading h (map plain (drop used label)))) (others_listed e) rest,
          fits_more f done,
        )

    pub unlisted_more : among commalist i ≡ false → v ≡ get_or label used v
        → map plain values ++ unboxed_from i commalist (drop i heading) (map plain (drop used label)) spans ≡ target
        → IsTrue (fits_heading (others_from i commalist (drop i heading)) (map plain (drop used label))) → IsTrue (fits_heading (take i heading) (map plain values))
        → (map plain (values ++ v ∷ []) ++ unboxed_from (i + 1) commalist (drop (i + 1) heading) (map plain (drop (used + 1) label)) spans ≡ target)
        × IsTrue (fits_heading (others_from (i + 1) commalist (drop (i + 1) heading)) (map plain (drop (used + 1) label)))
        × IsTrue (fits_heading (take (i + 1) heading) (map plain (values ++ v ∷ [])))
    unlisted_more e is row rest done =
        let w = (label_next used label e rest).1 v is in
        let tail : Row = unboxed_from (i + 1) commalist (drop (i + 1) heading) (map plain (drop (used + 1) label)) spans in
        let step : plain v ∷ tail ≡ unboxed_from i commalist (drop i heading) (map plain (drop used label)) spans =
        sym (unboxed_unlisted (plain v) (map plain (drop (used + 1) label)) spans e) ∙ ap (λ r. unboxed_from i commalist (drop i heading) r spans) (sym w.2) in (
          one_more tail ∙ ap (λ r. map plain values ++ r) step ∙ row,
          w.1,
          fits_more w.0 done,
        )
