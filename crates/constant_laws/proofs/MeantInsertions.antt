-- What the union of a base relvar with a literal of constants means: the relvar's rows and those of the literal.
--     base-means      what the name of a base relvar means
--     literal-means      what a literal means
--     union-means      what the union of both means
--     union-under-means      what it means under USING
--     insertion-means, insertion-under-means, setting-means      the relation that an assignment gives its target, as its source sees the relvars
use Rattle.std.proofs.Common.{◌≡◌, ℕ, zero, suc, ◌<◌, ◌≤◌, Bool, true, false, List, [], ◌∷◌, length, refl, sym, ap, ◌∙◌, subst, arith, Some, Ok, Err}
use Rattle.std.specs.Bool.{IsTrue}
use Rattle.std.specs.Prelude.{if◌then◌else◌}
use Rattle.std.specs.Str.{bytes_eq}
use Rattle.base_core.specs.Outcomes.{then_give}
use Rattle.base_core.proofs.SetLemmas.{Contains-from_In}
use Rattle.point_core.specs.declared.fault.Place.{Place}
use Rattle.value_core.specs.declared.constraint.Constraint.{Constraint}
use Rattle.value_core.specs.Limits.{most_rows}
use Rattle.value_core.specs.RowPacking.{packed, unpacked}
use Rattle.value_core.specs.Values.{Name, Row, Heading, Relation, rows_of, is_heading}
use Rattle.relation_core.specs.Answers.{under}
use Rattle.relation_core.specs.Operators.{united}
use Rattle.relation_core.proofs.FilterLemmas.{take_all}
use Rattle.relation_core.proofs.HeadingLemmas.{heading_ascends}
use Rattle.tree_core.specs.declared.tree.InfixWord.TheVariants.{Union}
use Rattle.tree_core.specs.Relvars.{PlainRelvar, base, Entries, relvar_named}
use Rattle.tree_core.specs.Trees.{PlainSets, named, literal, infix_of, using}
use Rattle.meaning_core.specs.Meanings.{RowsMeant, at_name, limited, literal_rows, meaning_in, relvar_meaning, known_in, positions_of, names_at}
use Rattle.meaning_core.specs.Names.{IsFirstAt, found, each_in, given, given_relvar}
use Rattle.meaning_core.specs.Typing.{IsList}
use Rattle.meaning_core.proofs.EntryLemmas.{found_first, given_first, named_first}
use Rattle.meaning_core.proofs.LimitLemmas.{limited_few}
use Rattle.meaning_core.proofs.MadeLemmas.{own_name}
use Rattle.meaning_core.proofs.PositionLemmas.{positions-back}

-- ---- names

-- where a name stands first among the entries
pub record IsFound (entries : Entries) (name : Name) (x : PlainRelvar) : Type 0 where
  pub at : ℕ
  pub within : at < length entries
  pub first : IsFirstAt entries name at x

found-by : (b : Bool) (r : Name × PlainRelvar) (rest : Entries) (name : Name) (x : PlainRelvar) → bytes_eq r.0 name ≡ b → (if b then Some r.1 else relvar_named rest name) ≡ Some x
    → (relvar_named rest name ≡ Some x → IsFound rest name x) → IsFound (r ∷ rest) name x
found-by true r rest name x same g later = let is : r.1 ≡ x = cc in record { at = zero; within = omega arith; first = (same, is) }
found-by false r rest name x other g later = let more = later g in record { at = suc more.at; within = omega (arith, more.within); first = (other, more.first) }

pub first-found : (entries : Entries) (name : Name) (x : PlainRelvar) → relvar_named entries name ≡ Some x → IsFound entries name x
first-found [] name x e = absurd cc
first-found (r ∷ rest) name x e = found-by (bytes_eq r.0 name) r rest name x refl e (first-found rest name x)

found-base : (entries : Entries) (name : Name) (old : Relation) (constraints : List Constraint) → relvar_named entries name ≡ Some (base old constraints) → found (Ok []) (known_in entries) name ≡ Ok old.rows
found-base entries name old constraints e =
    let is = first-found entries name (base old constraints) e in
    ap (λ (es : Entries). found (Ok []) (each_in relvar_meaning es) name) (sym (take_all (length entries) entries (omega arith)))
    ∙ found_first relvar_meaning (Ok []) entries name is.at (length entries) (base old constraints) is.first is.within

-- the name of a base relvar means its rows
pub base-means : (entries : Entries) (place : Place) (heading : Heading) (name : Name) (old : Relation) (constraints : List Constraint) → relvar_named entries name ≡ Some (base old constraints) → length old.rows ≤ most_rows
    → meaning_in entries (named place heading name) ≡ Ok old.rows
base-means entries place heading name old constraints e few =
    ap (λ (m : RowsMeant). then_give (at_name place m) (limited place)) (found-base entries name old constraints e)
    ∙ limited_few place old.rows few

-- ---- literals

pub literal-means : (entries : Entries) (place : Place) (heading : Heading) (tuples : List PlainSets) (rows : List Row) → literal_rows heading tuples ≡ Ok (rows_of rows)
    → meaning_in entries (literal place heading tuples) ≡ limited place (rows_of rows)
literal-means entries place heading tuples rows e = ap (λ (m : RowsMeant). then_give m (limited place)) e

-- ---- insertions

-- the rows of both, unless the literal alone or both together have too many
pub union-means : (entries : Entries) (at there : Place) (heading : Heading) (name : Name) (tuples : List PlainSets) (rows : List Row) (old : Relation) (constraints : List Constraint)
    → relvar_named entries name ≡ Some (base old constraints) → length old.rows ≤ most_rows → literal_rows heading tuples ≡ Ok (rows_of rows)
    → meaning_in entries (infix_of at heading Union (named at heading name) (literal there heading tuples)) ≡ then_give (limited there (rows_of rows)) (λ new. limited at (united old.rows new))
union-means entries at there heading name tuples rows old constraints e few means =
    ap (λ (m : RowsMeant). then_give m (λ a. then_give (meaning_in entries (literal there heading tuples)) (λ b. limited at (united a b)))) (base-means entries at heading name old constraints e few)
    ∙ ap (λ (m : RowsMeant). then_give m (λ b. limited at (united old.rows b))) (literal-means entries there heading tuples rows means)

-- ---- insertions under USING

-- the rows of both, point by point for the attributes at the positions
abbrev pub united_under : List ℕ → List Row → List Row → List Row
united_under commalist rows new = packed commalist (united (unpacked commalist rows) (unpacked commalist new))

-- the positions that the names at them have
positions-kept : (heading : Heading) (commalist : List ℕ) → IsTrue (is_heading heading) → IsList heading commalist → positions_of heading (names_at heading commalist) ≡ commalist
positions-kept heading commalist headed list = positions-back heading commalist (heading_ascends heading headed) (λ i m.
    let at = Contains-from_In commalist i m in
    subst (λ j. j < length heading) at.2 (list.within at.0 i at.1))

-- too many rows of both are told at the USING
pub union-under-means : (entries : Entries) (at there : Place) (heading : Heading) (name : Name) (tuples : List PlainSets) (rows : List Row) (old : Relation) (constraints : List Constraint) (commalist : List ℕ)
    → relvar_named entries name ≡ Some (base old constraints) → length old.rows ≤ most_rows → IsTrue (is_heading heading) → IsList heading commalist → literal_rows heading tuples ≡ Ok (rows_of rows)
    → meaning_in entries (using at heading commalist (infix_of at heading Union (named at heading name) (literal there heading tuples))) ≡ then_give (limited there (rows_of rows)) (λ new. limited at (united_under commalist old.rows new))
union-under-means entries at there heading name tuples rows old constraints commalist e few headed list means =
    let own = positions_of heading (names_at heading commalist) in
    ap (λ (m : RowsMeant). then_give m (λ a. then_give (meaning_in entries (literal there heading tuples)) (λ b. limited at (united_under own a b)))) (base-means entries at heading name old constraints e few)
    ∙ (ap (λ (m : RowsMeant). then_give m (λ b. limited at (united_under own old.rows b))) (literal-means entries there heading tuples rows means)
    ∙ ap (λ (c : List ℕ). then_give (limited there (rows_of rows)) (λ new. limited at (united_under c old.rows new))) (positions-kept heading commalist headed list))

-- ---- as an assignment's source sees it

-- the relvar has its own value given again
given-same : (entries : Entries) (name : Name) (old : Relation) (constraints : List Constraint) → relvar_named entries name ≡ Some (base old constraints)
    → relvar_named (given (Some name) (Some old) entries) name ≡ Some (base old constraints)
given-same entries name old constraints e =
    let is = first-found entries name (base old constraints) e in
    named_first (given (Some name) (Some old) entries) name is.at (given_relvar (Some name) (Some old) name (base old constraints)) (given_first (Some name) (Some old) entries name is.at (base old constraints) is.first)
    ∙ ap (λ (b : Bool). Some (if b then base old constraints else base old constraints)) (own_name name)

under-then : (heading : Heading) (m : RowsMeant) (f : List Row → RowsMeant) → under heading (then_give m f) ≡ then_give m (λ rows. under heading (f rows))
under-then heading (Ok rows) f = refl
under-then heading (Err e) f = refl

-- the relation that an insertion gives its target: the relvar's rows and those that are written. A literal that alone has too many
-- rows is refused at its own place, and too many rows of both at the insertion's
pub insertion-means : (entries : Entries) (at there : Place) (name : Name) (tuples : List PlainSets) (rows : List Row) (old : Relation) (constraints : List Constraint)
    → relvar_named entries name ≡ Some (base old constraints) → length old.rows ≤ most_rows → literal_rows old.heading tuples ≡ Ok (rows_of rows)
    → under old.heading (meaning_in (given (Some name) (Some old) entries) (infix_of at old.heading Union (named at old.heading name) (literal there old.heading tuples)))
    ≡ then_give (limited there (rows_of rows)) (λ new. under old.heading (limited at (united old.rows new)))
insertion-means entries at there name tuples rows old constraints e few means =
    ap (under old.heading) (union-means (given (Some name) (Some old) entries) at there old.heading name tuples rows old constraints (given-same entries name old constraints e) few means)
    ∙ under-then old.heading (limited there (rows_of rows)) (λ new. limited at (united old.rows new))

-- the relation that an insertion under USING gives its target, likewise
pub insertion-under-means : (entries : Entries) (at there : Place) (name : Name) (tuples : List PlainSets) (rows : List Row) (old : Relation) (constraints : List Constraint) (commalist : List ℕ)
    → relvar_named entries name ≡ Some (base old constraints) → length old.rows ≤ most_rows → IsTrue (is_heading old.heading) → IsList old.heading commalist → literal_rows old.heading tuples ≡ Ok (rows_of rows)
    → under old.heading (meaning_in (given (Some name) (Some old) entries) (using at old.heading commalist (infix_of at old.heading Union (named at old.heading name) (literal there old.heading tuples))))
    ≡ then_give (limited there (rows_of rows)) (λ new. under old.heading (limited at (united_under commalist old.rows new)))
insertion-under-means entries at there name tuples rows old constraints commalist e few headed list means =
    ap (under old.heading) (union-under-means (given (Some name) (Some old) entries) at there old.heading name tuples rows old constraints commalist (given-same entries name old constraints e) few headed list means)
    ∙ under-then old.heading (limited there (rows_of rows)) (λ new. limited at (united_under commalist old.rows new))

-- the relation that a relvar is set to
pub setting-means : (entries : Entries) (there : Place) (heading : Heading) (tuples : List PlainSets) (rows : List Row) → literal_rows heading tuples ≡ Ok (rows_of rows)
    → under heading (meaning_in entries (literal there heading tuples)) ≡ under heading (limited there (rows_of rows))
setting-means entries there heading tuples rows means = ap (under heading) (literal-means entries there heading tuples rows means)
