-- A script while it is written, statement by statement.
--     with_statement, with_statements      the script with one more, or with these
--     finished      its bytes when no statement comes any more
use Rattle.std.specs.Prelude.{ℕ, Bool, true, false, ◌&&◌, List, [], ◌∷◌, ◌++◌, length, nat_le, Option, Some, None, if◌then◌else◌}
use Rattle.std.specs.Option.{option_and_then}
use Rattle.value_core.specs.Limits.{most_statement_bytes, most_script_bytes}
use Rattle.dump_core.specs.Dumps.{behind_another, ended}

-- the bytes so far, and whether a statement is among them
pub record Written : Type 0 where
  pub text : List ℕ
  pub begun : Bool

abbrev pub nothing : Written
nothing = record { text = []; begun = false }

-- what a statement adds to a script
abbrev pub piece : Bool → List ℕ → List ℕ
piece true s = behind_another s
piece false s = s

-- whether the statement and the script with it are not too long
abbrev pub has_room : List ℕ → Written → Bool
has_room s w = nat_le (length s) most_statement_bytes && nat_le (length (w.text ++ piece w.begun s)) most_script_bytes

abbrev pub with_statement : List ℕ → Written → Option Written
with_statement s w = if has_room s w then Some (record { text = w.text ++ piece w.begun s; begun = true }) else None

abbrev pub with_statements : List (List ℕ) → Written → Option Written
with_statements [] w = Some w
with_statements (s ∷ rest) w = option_and_then (with_statements rest) (with_statement s w)

abbrev pub finished : Written → List ℕ
finished w = if w.begun then ended w.text else w.text
