-- Tuples and literals that write constants are typed without a refusal, and mean their rows.
--     tuple-typed      the items and the heading of a tuple
--     tuples-typed      the tuples of a literal, behind some before them
--     literal-typed      a literal: the heading, and the rows in the order of the text
use Rattle.std.proofs.Common.{◌≡◌, Bool, true, false, List, [], ◌∷◌, ◌++◌, length, map, Option, Some, None, Ok, refl, sym, ap, ap₂, ◌∙◌, append_assoc}
use Rattle.std.specs.Prelude.{if◌then◌else◌}
use Rattle.std.proofs.lemmas.Bool.{le-leb}
use Rattle.std.proofs.lemmas.List.{append-nil}
use Rattle.base_core.specs.Outcomes.{then_give, both, first_of_all}
use Rattle.point_core.specs.declared.fault.Place.{Place}
use Rattle.point_core.specs.declared.fault.Code.TheVariants.{E06, E13, E15, E17}
use Rattle.point_core.specs.Faults.{OrFault}
use Rattle.utd_syntax.specs.Plain as syntax
use Rattle.utd_syntax.specs.Plain.{Word, ScalarP, ElementP, TupleP, LiteralP}
use Rattle.value_core.specs.declared.kind.Kind.{Kind}
use Rattle.value_core.specs.declared.list.OrdinalNames.{OrdinalNames}
use Rattle.value_core.specs.Headings.{has_name}
use Rattle.value_core.specs.Limits.{most_attributes}
use Rattle.value_core.specs.Values.{Name, Value, Row, Heading, rows_of}
use Rattle.scalar_core.specs.Expressions.{Expr}
use Rattle.scalar_core.specs.ScalarValues.{value}
use Rattle.scalar_typing.specs.Typings.{Typed, refused}
use Rattle.scalar_typing.specs.Scalars.{typed_scalar}
use Rattle.tree_core.specs.Trees.{PlainSets, literal}
use Rattle.relation_core.specs.Agreement.{part_of}
use Rattle.relation_typing.specs.Attributes.{with_attribute, is_name, new_name, few_attributes}
use Rattle.relation_typing.specs.Items.{Made, item_typed, elements_typed}
use Rattle.relation_typing.specs.Literals.{tuple_typed, under_heading, next_tuple, tuples_typed, literal_typed}
use Rattle.relation_typing.specs.Shapes.{shape_made}
use Rattle.relation_typing.proofs.ShapeLemmas.{same-itself}
use Rattle.meaning_core.specs.Places.{places}
use Rattle.meaning_core.specs.Rows.{set_names, values_on, literal_row}
use Rattle.meaning_core.specs.Meanings.{literal_rows}
use Rattle.constant_laws.specs.Insertions.{Shape, MakesHeading, WritesElements, WritesTuple, WritesTuples, in_heading, WritesLiteral}
use Rattle.constant_laws.proofs.TypedScalars.{scalar-typed}

-- ---- elements

-- items have the names of a shape, and these values on each row
pub record IsItems (shape : Shape) (vs : List Value) (sets : PlainSets) : Type 0 where
  pub named : set_names sets ≡ map (λ (a : Name × Kind). a.0) shape
  pub means : (row : Row) → values_on row sets ≡ Ok vs

-- what a shape makes of a heading asks of its first name
first-of-shape : (b c : Bool) (o : Option Heading) (made : Heading) → (if b then (if c then None else o) else None) ≡ Some made → (b ≡ true) × (c ≡ false) × (o ≡ Some made)
first-of-shape true false o made e = (refl, refl, e)
first-of-shape true true o made e = absurd cc
first-of-shape false c o made e = absurd cc

new-name : (before : Heading) (w : Word) (name : Name) → w.bytes ≡ name → is_name name ≡ true → has_name before name ≡ false → new_name before w ≡ Ok name
new-name before w name e is new =
    ap (λ (b : Bool). then_give (if b then Ok w.bytes else refused w.place E06) (λ n. if has_name before n then refused w.place E15 else Ok n)) (ap is_name e ∙ is)
    ∙ (ap (λ (n : Name). if has_name before n then refused w.place E15 else Ok n) e
    ∙ ap (λ (b : Bool). if b then refused w.place E15 else Ok name) new)

element-typed : (types : List OrdinalNames) (sets : PlainSets) (before : Heading) (a : Name × Kind) (w : Word) (s : ScalarP) (e : Expr) → new_name before w ≡ Ok a.0 → typed_scalar types [] s ≡ Ok (e, a.1)
    → item_typed types [] (sets, before) w s ≡ Ok (sets ++ (a.0, e) ∷ [], with_attribute before a.0 a.1)
element-typed types sets before a w s e named typed =
    ap (λ (m : OrFault Name). then_give m (λ name. then_give (typed_scalar types [] s) (λ x. Ok (sets ++ (name, x.0) ∷ [], with_attribute before name x.1)))) named
    ∙ ap (λ (m : OrFault Typed). then_give m (λ x. Ok (sets ++ (a.0, x.0) ∷ [], with_attribute before a.0 x.1))) typed

items-more : (a : Name × Kind) (shape : Shape) (v : Value) (vs : List Value) (e : Expr) (sets : PlainSets) → ((row : Row) → value e row ≡ Ok v) → IsItems shape vs sets → IsItems (a ∷ shape) (v ∷ vs) ((a.0, e) ∷ sets)
items-more a shape v vs e sets means h = record {
  named = ap (λ (l : List Name). a.0 ∷ l) h.named;
  means = λ row. ap₂ (λ (x : OrFault Value) (y : OrFault (List Value)). both x y (λ u us. Ok (u ∷ us))) (means row) (h.means row);
}

-- the elements behind some items give their items behind these, and the heading that their shape makes
elements-typed : (types : List OrdinalNames) (shape : Shape) (vs : List Value) (list : List ElementP) (sets : PlainSets) (before made : Heading) → WritesElements types shape vs list → shape_made before shape ≡ Some made
    → (more : PlainSets) × (elements_typed types [] (sets, before) list ≡ Ok (sets ++ more, made)) × IsItems shape vs more
elements-typed types [] [] [] sets before made h e =
    let same : before ≡ made = cc in
    ([], ap₂ (λ (l : PlainSets) (m : Heading). Ok (l, m)) (sym (append-nil sets)) same, record { named = refl; means = λ row. refl })
elements-typed types (a ∷ shape) (v ∷ vs) (syntax.Element w s ∷ list) sets before made h e =
    let parts = first-of-shape (is_name a.0) (has_name before a.0) (shape_made (with_attribute before a.0 a.1) shape) made e in
    let t = scalar-typed types [] a.1 v s h.0.1 in
    let one = element-typed types sets before a w s t.e (new-name before w a.0 h.0.0 parts.0 parts.1) t.typed in
    let rest = elements-typed types shape vs list (sets ++ (a.0, t.e) ∷ []) (with_attribute before a.0 a.1) made h.1 parts.2 in (
      (a.0, t.e) ∷ rest.0,
      ap (λ (m : OrFault Made). then_give m (λ next. elements_typed types [] next list)) one ∙ (rest.1 ∙ ap (λ (l : PlainSets). Ok (l, made)) (append_assoc sets ((a.0, t.e) ∷ []) rest.0)),
      items-more a shape v vs t.e rest.0 t.means rest.2,
    )
elements-typed types _ _ _ sets before made h e = absurd h

-- ---- tuples

pub tuple-typed : (types : List OrdinalNames) (heading : Heading) (shape : Shape) (vs : List Value) (t : TupleP) → MakesHeading heading shape → WritesTuple types shape vs t
    → (sets : PlainSets) × (tuple_typed types t ≡ Ok (sets, heading)) × IsItems shape vs sets
tuple-typed types heading shape vs (syntax.Tuple at (syntax.Elements there list)) makes h =
    let got = elements-typed types shape vs list [] [] heading h makes.made in
    let few : few_attributes there heading ≡ Ok heading = ap (λ (b : Bool). if b then Ok heading else refused there E17) (le-leb (length heading) most_attributes makes.few) in (
      got.0,
      ap (λ (m : OrFault Made). then_give m (λ made. then_give (few_attributes there made.1) (λ of. Ok (made.0, of)))) got.1
          ∙ ap (λ (m : OrFault Heading). then_give m (λ of. Ok (got.0, of))) few,
      got.2,
    )

next-typed : (types : List OrdinalNames) (heading : Heading) (sets : PlainSets) (t : TupleP) → tuple_typed types t ≡ Ok (sets, heading) → next_tuple types heading t ≡ Ok sets
next-typed types heading sets (syntax.Tuple at elements) h =
    ap (λ (m : OrFault Made). then_give m (under_heading at heading)) h
    ∙ ap (λ (b : Bool). if b then Ok sets else refused at E13) (same-itself heading)

-- the row of a tuple has its values in the order of the heading
row-made : (heading : Heading) (shape : Shape) (vs : List Value) (sets : PlainSets) → IsItems shape vs sets → literal_row heading sets ≡ Ok (in_heading shape heading vs)
row-made heading shape vs sets h =
    ap (λ (m : OrFault (List Value)). then_give m (λ made. Ok (part_of (places (set_names sets ++ []) heading) (made ++ [])))) (h.means [])
    ∙ ap₂ (λ (ns : List Name) (us : List Value). Ok (part_of (places ns heading) us)) (append-nil (set_names sets) ∙ h.named) (append-nil vs)

rows-more : (heading : Heading) (shape : Shape) (vs : List Value) (values : List (List Value)) (sets : PlainSets) (more : List PlainSets) → IsItems shape vs sets
    → first_of_all (map (literal_row heading) more) ≡ Ok (map (in_heading shape heading) values)
    → first_of_all (map (literal_row heading) (sets ∷ more)) ≡ Ok (map (in_heading shape heading) (vs ∷ values))
rows-more heading shape vs values sets more h e = ap₂ (λ (x : OrFault Row) (y : OrFault (List Row)). both x y (λ u us. Ok (u ∷ us))) (row-made heading shape vs sets h) e

-- the tuples behind some give their items behind these, and mean their rows
pub tuples-typed : (types : List OrdinalNames) (heading : Heading) (shape : Shape) (values : List (List Value)) (list : List TupleP) (before : List PlainSets) → MakesHeading heading shape
    → WritesTuples types shape values list
    → (more : List PlainSets) × (tuples_typed types heading before list ≡ Ok (before ++ more)) × (first_of_all (map (literal_row heading) more) ≡ Ok (map (in_heading shape heading) values))
tuples-typed types heading shape [] [] before makes h = ([], ap Ok (sym (append-nil before)), refl)
tuples-typed types heading shape (vs ∷ values) (t ∷ list) before makes h =
    let one = tuple-typed types heading shape vs t makes h.0 in
    let rest = tuples-typed types heading shape values list (before ++ one.0 ∷ []) makes h.1 in (
      one.0 ∷ rest.0,
      ap (λ (m : OrFault PlainSets). then_give m (λ sets. tuples_typed types heading (before ++ sets ∷ []) list)) (next-typed types heading one.0 t one.1)
          ∙ (rest.1 ∙ ap Ok (append_assoc before (one.0 ∷ []) rest.0)),
      rows-more heading shape vs values one.0 rest.0 one.2 rest.2,
    )
tuples-typed types heading shape _ _ before makes h = absurd h

-- ---- literals

-- where a literal stands
abbrev pub literal_place : LiteralP → Place
literal_place (syntax.Tuples at first more) = at
literal_place (syntax.Headed at h tuples) = at

-- a literal is typed, and its tuples mean these rows as a set
pub record IsTypedLiteral (types : List OrdinalNames) (heading : Heading) (rows : List Row) (l : LiteralP) : Type 0 where
  pub tuples : List PlainSets
  pub typed : literal_typed types l ≡ Ok (literal (literal_place l) heading tuples)
  pub means : literal_rows heading tuples ≡ Ok (rows_of rows)

rows-mean : (heading : Heading) (tuples : List PlainSets) (rows made : List Row) → first_of_all (map (literal_row heading) tuples) ≡ Ok made → rows ≡ made → literal_rows heading tuples ≡ Ok (rows_of rows)
rows-mean heading tuples rows made h e = ap (λ (m : OrFault (List Row)). then_give m (λ us. Ok (rows_of us))) h ∙ ap (λ (us : List Row). Ok (rows_of us)) (sym e)

pub literal-typed : (types : List OrdinalNames) (heading : Heading) (rows : List Row) (l : LiteralP) → WritesLiteral types heading rows l → IsTypedLiteral types heading rows l
literal-typed types heading rows (syntax.Headed at w list) h =
    let got = tuples-typed types heading h.1.shape h.1.values list [] h.1.makes h.1.tuples_so in
    record {
      tuples = got.0;
      typed = ap (λ (m : OrFault Heading). then_give m (λ of. then_give (tuples_typed types of [] list) (λ all. Ok (literal at of all)))) h.0
          ∙ ap (λ (m : OrFault (List PlainSets)). then_give m (λ all. Ok (literal at heading all))) got.1;
      means = rows-mean heading got.0 rows (map (in_heading h.1.shape heading) h.1.values) got.2 h.1.rows_so;
    }
literal-typed types heading rows (syntax.Tuples at first more) h = tuples-literal h.values h.tuples_so h.rows_so
  where
    tuples-literal : (values : List (List Value)) → WritesTuples types h.shape values (first ∷ more) → rows ≡ map (in_heading h.shape heading) values → IsTypedLiteral types heading rows (syntax.Tuples at first more)
    tuples-literal [] g e = absurd g
    tuples-literal (vs ∷ values) g e =
        let one = tuple-typed types heading h.shape vs first h.makes g.0 in
        let rest = tuples-typed types heading h.shape values more (one.0 ∷ []) h.makes g.1 in
        record {
          tuples = one.0 ∷ rest.0;
          typed = ap (λ (m : OrFault Made). then_give m (λ made. then_give (tuples_typed types made.1 (made.0 ∷ []) more) (λ all. Ok (literal at made.1 all)))) one.1
              ∙ ap (λ (m : OrFault (List PlainSets)). then_give m (λ all. Ok (literal at heading all))) rest.1;
          means = rows-mean heading (one.0 ∷ rest.0) rows (map (in_heading h.shape heading) (vs ∷ values)) (rows-more heading h.shape vs values one.0 rest.0 one.2 rest.2) e;
        }
