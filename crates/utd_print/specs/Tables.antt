-- Tables, as bytes.
--     value_text      the text of a value
--     widths      the widths of columns
--     table      a relation's table
use Rattle.std.specs.Prelude.{◌≡◌, ℕ, ◌-◌, ◌<◌, max, nat_lt, nat_le, ℤ, unsigned_abs, Bool, true, false, ◌||◌, List, [], ◌∷◌, ◌++◌, map, fold, length, replicate, count_by, slice_index_or, codes, decimal, if◌then◌else◌, ◌==◌}
use Rattle.std.specs.Fmt.{signed_decimal}
use Rattle.std.specs.List.{flat_map, range_with_len}
use Rattle.point_core.specs.declared.any_type.AnyType.{AnyType}
use Rattle.point_core.specs.declared.any_type.AnyPoint.{AnyPoint}
use Rattle.point_core.specs.Points.{Line, integers, days, values_of, seconds, IsPointOf}
use Rattle.value_core.specs.declared.kind.Kind.{Kind}
use Rattle.value_core.specs.declared.list.OrdinalNames.{OrdinalNames}
use Rattle.value_core.specs.Values.{Value, truth, text, point, interval, Row, Heading, Relation, fits}
use Rattle.utd_print.specs.Dates.{day_text}
use Rattle.utd_print.specs.Moments.{second_text}

-- ---- values

-- the name of the value with this number of the n-th ordinal type
abbrev pub value_name : List OrdinalNames → ℕ → ℕ → List ℕ
value_name types n at = slice_index_or (slice_index_or (map (λ (o : OrdinalNames). o.values) types) n []) at []

abbrev pub point_text : List OrdinalNames → Line → ℤ → List ℕ
point_text types integers p = signed_decimal p
point_text types days p = day_text p
point_text types (values_of n) p = value_name types n (unsigned_abs p)
point_text types seconds p = second_text p

-- a byte of a text between quotes: a quote is written twice
abbrev pub quoted : ℕ → List ℕ
quoted b = if b == 39 then 39 ∷ 39 ∷ [] else b ∷ []

abbrev pub quotes_doubled : List ℕ → List ℕ
quotes_doubled bytes = flat_map quoted bytes

abbrev pub truth_text : Bool → List ℕ
truth_text true = codes "TRUE"
truth_text false = codes "FALSE"

-- an interval by the texts of its begin and its end
abbrev pub interval_text : List ℕ → List ℕ → List ℕ
interval_text begin end = 91 ∷ begin ++ 58 ∷ end ++ 93 ∷ []

abbrev pub value_text : List OrdinalNames → Value → List ℕ
value_text types (truth b) = truth_text b
value_text types (text bytes) = 39 ∷ quotes_doubled bytes ++ 39 ∷ []
value_text types (point l p) = point_text types l p
value_text types (interval l i) = interval_text (point_text types l i.0) (point_text types l i.1)

-- the texts of a row's values
abbrev pub row_texts : List OrdinalNames → Row → List (List ℕ)
row_texts types row = map (value_text types) row

-- ---- widths

-- a byte of UTF-8 that begins a character
abbrev pub begins_character : ℕ → Bool
begins_character b = nat_lt b 128 || nat_le 192 b

-- how many characters a text has
abbrev pub character_count : List ℕ → ℕ
character_count bytes = count_by begins_character bytes

-- the most characters that the lines have at this place
abbrev pub width_at : List (List (List ℕ)) → ℕ → ℕ
width_at lines at = fold (λ width line. max width (character_count (slice_index_or line at []))) 0 lines

-- the widths of the first n columns
abbrev pub widths : List (List (List ℕ)) → ℕ → List ℕ
widths lines n = map (width_at lines) (range_with_len 0 n)

-- ---- lines

-- a text behind a space, filled with spaces up to the width, a space and a bar
abbrev pub cell : ℕ → List ℕ → List ℕ
cell width t = 32 ∷ t ++ replicate (width - character_count t) 32 ++ 32 ∷ 124 ∷ []

abbrev pub cells : List ℕ → List (List ℕ) → List ℕ
cells [] texts = []
cells (w ∷ ws) [] = []
cells (w ∷ ws) (t ∷ ts) = cell w t ++ cells ws ts

abbrev pub table_line : List ℕ → List (List ℕ) → List ℕ
table_line widths texts = 124 ∷ cells widths texts ++ 10 ∷ []

-- the names of the attributes
abbrev pub names_of : Heading → List (List ℕ)
names_of heading = map (λ a. a.0) heading

-- the line of the names, a line for each row in order, and the number of rows
unfoldable pub table : List OrdinalNames → Relation → List ℕ
table types r =
    let lines = names_of r.heading ∷ map (row_texts types) r.rows in
    let columns = widths lines (length r.heading) in
    flat_map (table_line columns) lines ++ codes "rows: " ++ decimal (length r.rows) ++ 10 ∷ []

-- ---- what can be printed

-- the point is one of some type
abbrev pub HasType : AnyPoint → Type 0
HasType p = (t : AnyType) × IsPointOf t p

-- the value is one of some kind, so that its points are points of a type
abbrev pub HasKind : Value → Type 0
HasKind v = (kind : Kind) × (fits kind v ≡ true)

abbrev pub HaveKinds : Row → Type 0
HaveKinds [] = Unit {0}
HaveKinds (v ∷ vs) = HasKind v × HaveKinds vs

-- each row has n values, each of some kind
abbrev pub AreRows : ℕ → List Row → Type 0
AreRows n rows = (k : ℕ) (d : Row) → k < length rows
    → (length (slice_index_or rows k d) ≡ n) × HaveKinds (slice_index_or rows k d)
