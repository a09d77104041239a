-- The lines of refusals and of truth values, as bytes.
--     code_text      a code and its words
--     HasLine      what a line tells
--     refusal_line, truth_line      the lines
use Rattle.std.specs.Prelude.{◌≡◌, ℕ, Bool, true, false, List, [], ◌∷◌, ◌++◌, codes, decimal}
use Rattle.point_core.specs.declared.fault.Place.{Place}
use Rattle.point_core.specs.declared.fault.Code.{Code}
use Rattle.point_core.specs.declared.fault.Code.TheVariants.{E01, E02, E03, E04, E05, E06, E10, E11, E12, E13, E14, E15, E16, E17, E18, E19, E20, E21, E22, E30, E31, E32, E33, E34, E35, E36, E40, E41, E42, E43, E44, E45, E46}
use Rattle.value_core.specs.declared.refuse.Refuse.{Refuse}
use Rattle.value_core.specs.declared.refuse.Refuse.TheVariants.{Plain, At, Broken, Memory}
use Rattle.value_core.specs.Values.{Name}

-- a code and its words
abbrev pub code_text : Code → List ℕ
code_text E01 = codes "E01 not a statement"
code_text E02 = codes "E02 not UTF-8"
code_text E03 = codes "E03 statement too long"
code_text E04 = codes "E04 statement not ended"
code_text E05 = codes "E05 nested too deep"
code_text E06 = codes "E06 literal out of range"
code_text E10 = codes "E10 unknown name"
code_text E11 = codes "E11 name taken"
code_text E12 = codes "E12 wrong type"
code_text E13 = codes "E13 headings differ"
code_text E14 = codes "E14 no such attribute"
code_text E15 = codes "E15 name repeated"
code_text E16 = codes "E16 not an interval"
code_text E17 = codes "E17 too many attributes"
code_text E18 = codes "E18 not sweepable"
code_text E19 = codes "E19 attribute not kept"
code_text E20 = codes "E20 wrong kind of relvar"
code_text E21 = codes "E21 in use"
code_text E22 = codes "E22 too many"
code_text E30 = codes "E30 out of range"
code_text E31 = codes "E31 division by zero"
code_text E32 = codes "E32 no such point"
code_text E33 = codes "E33 empty interval"
code_text E34 = codes "E34 not one interval"
code_text E35 = codes "E35 too many rows"
code_text E36 = codes "E36 text too long"
code_text E40 = codes "E40 KEY broken"
code_text E41 = codes "E41 PACKED ON broken"
code_text E42 = codes "E42 WHEN UNPACKED ON broken"
code_text E43 = codes "E43 FOREIGN KEY broken"
code_text E44 = codes "E44 HISTORY broken"
code_text E45 = codes "E45 CONSTRAINT broken"
code_text E46 = codes "E46 database full"

-- each refusal has a line; want of memory is none
abbrev pub HasLine : Refuse → Type 0
HasLine refuse = refuse ≡ Memory → ⊥

-- a place as LINE:COLUMN
abbrev pub place_text : Place → List ℕ
place_text p = decimal p.line ++ 58 ∷ decimal p.column

-- the number of a relvar's constraint; a database constraint, which has a name of its own, has none
abbrev pub number_text : Code → ℕ → List ℕ
number_text E45 number = []
number_text code number = codes " constraint " ++ decimal number

-- a broken constraint of a relvar by the relvar's name and its number, a broken database constraint by its name
unfoldable pub broken_text : Code → Name → ℕ → List ℕ
broken_text code name number = code_text code ++ codes " in " ++ name ++ number_text code number

-- a code with its place, or with the constraint that is broken
unfoldable pub cause_text : Refuse → List ℕ
cause_text (Plain code) = code_text code
cause_text (At fault) = code_text fault.code ++ codes " at " ++ place_text fault.place
cause_text (Broken code relvar number) = broken_text code relvar number
cause_text Memory = []

-- the line of the n-th statement, refused
unfoldable pub refusal_line : ℕ → Refuse → List ℕ
refusal_line n refuse = codes "statement " ++ decimal n ++ codes " refused: " ++ cause_text refuse ++ 10 ∷ []

-- the line of a truth value
abbrev pub truth_line : Bool → List ℕ
truth_line true = codes "TRUE\n"
truth_line false = codes "FALSE\n"
