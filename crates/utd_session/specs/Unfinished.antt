-- The statement that no `;` has ended yet, as it is kept.
use Rattle.std.specs.Prelude.{◌≡◌, ℕ, ◌≤◌, ◌<◌, List, [], length, nat_le, if◌then◌else◌}
use Rattle.point_core.specs.declared.fault.Place.{Place}
use Rattle.utd_lexer.specs.Tokens.{place_after}
use Rattle.utd_session.specs.declared.unfinished.Unfinished.{Unfinished}
use Rattle.utd_session.specs.Readings.{most_in_statement}

-- it begins at this place and has these bytes, which are kept unless there are too many
pub record IsUnfinished (u : Unfinished) (place : Place) (bytes : List ℕ) : Type 0 where
  pub start : u.start ≡ place
  pub next : u.next ≡ place_after place bytes
  pub size : u.size ≡ length bytes
  pub kept : u.size ≤ most_in_statement → u.bytes.items ≡ bytes
  pub none : most_in_statement < u.size → u.bytes.items ≡ []

-- the bytes that are kept of these: all of them, or none where there are too many
abbrev pub kept_of : List ℕ → List ℕ
kept_of bytes = if nat_le (length bytes) most_in_statement then bytes else []
