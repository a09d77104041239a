-- The script that makes a database again.
--     statements_of      its statements, in order
--     script_of      its bytes, unless a statement or the script would be too long
use Rattle.std.specs.Prelude.{ℕ, Bool, ◌&&◌, List, [], ◌∷◌, ◌++◌, length, nat_eq, nat_le, nat_lt, Option, Some, None, if◌then◌else◌}
use Rattle.std.specs.List.{flat_map, list_all}
use Rattle.value_core.specs.Limits.{most_statement_bytes, most_script_bytes}
use Rattle.tree_core.specs.Relvars.{State}
use Rattle.dump_core.specs.declared.texts.TextKind.TheVariants.{Early, View, Rule}
use Rattle.dump_core.specs.Texts.{SourceText, of_kind}
use Rattle.dump_core.specs.Inserts.{rows_of_state}

-- types and base relvars, then rows, then views, then database constraints
abbrev pub statements_of : List SourceText → State → List (List ℕ)
statements_of texts state =
    of_kind Early texts ++ rows_of_state state ++ of_kind View texts ++ of_kind Rule texts

-- a statement behind another: a byte 10 parts them, but for a statement that has no room for it
abbrev pub behind_another : List ℕ → List ℕ
behind_another s = if nat_eq (length s) most_statement_bytes then s else 10 ∷ s

-- statements one behind the other
abbrev pub lines_of : List (List ℕ) → List ℕ
lines_of [] = []
lines_of (s ∷ rest) = s ++ flat_map behind_another rest

-- a byte 10 ends the script, where there is room for it
abbrev pub ended : List ℕ → List ℕ
ended text = if nat_lt (length text) most_script_bytes then text ++ 10 ∷ [] else text

abbrev pub script_text : List (List ℕ) → List ℕ
script_text [] = []
script_text (s ∷ rest) = ended (lines_of (s ∷ rest))

-- no statement is longer than one may be, nor are all together
abbrev pub is_script : List (List ℕ) → Bool
is_script statements =
    list_all (λ s. nat_le (length s) most_statement_bytes) statements && nat_le (length (script_text statements)) most_script_bytes

abbrev pub script_with : List (List ℕ) → Option (List ℕ)
script_with statements = if is_script statements then Some (script_text statements) else None

abbrev pub script_of : List SourceText → State → Option (List ℕ)
script_of texts state = script_with (statements_of texts state)
