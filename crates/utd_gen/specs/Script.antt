-- The generated script, as bytes.
--     tuple_text      the tuple of a number
--     insert_line     the line that inserts the tuples of consecutive numbers
--     script_of       the script of a number
--     most_tuples     the greatest number of a script, the constant of the code that has its name in capitals
use Rattle.std.specs.Prelude.{ℕ, ◌+◌, ◌-◌, ◌*◌, ◌%◌, min, List, ◌∷◌, ◌++◌, codes, decimal}
use Rattle.std.specs.Int.{div_ceil}
use Rattle.std.specs.List.{flat_map, join_by, range_with_len}
use Rattle.utd_gen.specs.declared.script.TheConstants as constants

abbrev pub most_tuples : ℕ
most_tuples = constants.MOST_TUPLES

abbrev pub interval_text : ℕ → ℕ → List ℕ
interval_text begin end = 91 ∷ decimal begin ++ 58 ∷ decimal end ++ codes "]"

-- the tuple of i: its interval begins three behind that of the number before it, and has five points
unfoldable pub tuple_text : ℕ → List ℕ
tuple_text i = codes "TUPLE {K " ++ decimal (i % 10) ++ codes ", D " ++ interval_text (3 * i) (3 * i + 4) ++ codes "}"

-- the tuples of the numbers from begin on and below end
unfoldable pub tuples_text : ℕ → ℕ → List ℕ
tuples_text begin end = join_by tuple_text (codes ", ") (range_with_len begin (end - begin))

-- the line that inserts these
unfoldable pub insert_line : ℕ → ℕ → List ℕ
insert_line begin end = codes "USING (D): INSERT GEN RELATION {" ++ tuples_text begin end ++ codes "};\n"

-- the line of the k-th thousand, from 0, of the numbers below n; the last may be shorter
abbrev pub thousand_line : ℕ → ℕ → List ℕ
thousand_line n k = insert_line (1000 * k) (min (1000 * k + 1000) n)

-- how many thousands the numbers below n begin
abbrev pub thousands : ℕ → ℕ
thousands n = div_ceil n 1000

-- the script of n: a relvar, a tuple in it for each number below n, and three answers
unfoldable pub script_of : ℕ → List ℕ
script_of n =
    codes "VAR GEN RELATION {K INTEGER, D INTERVAL(INTEGER)} USING (D): KEY {K, D};\n"
    ++ flat_map (thousand_line n) (range_with_len 0 (thousands n))
    ++ codes "PRINT SUMMARIZE GEN BY {} : {N := COUNT()};\n"
    ++ codes "PRINT SUMMARIZE (USING (D): GEN JOIN (GEN RENAME {K AS J})) BY {} : {N := COUNT()};\n"
    ++ codes "PRINT USING (D): GEN {D};\n"
