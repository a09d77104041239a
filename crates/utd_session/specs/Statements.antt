-- The statements of a script: each ends at a `;` that stands outside texts and comments.
use Rattle.std.specs.Prelude.{◌≡◌, ℕ, ◌==◌, Bool, true, ◌&&◌, List, [], ◌∷◌, ◌++◌, length, take, nat_le, if◌then◌else◌}
use Rattle.point_core.specs.declared.fault.Place.{Place}
use Rattle.value_core.specs.Limits.{most_script_bytes}
use Rattle.utd_lexer.specs.declared.cutter.Mode.TheVariants.{Between}
use Rattle.utd_lexer.specs.Cutting.{run, is_outside, can_be_blank, is_resting}
use Rattle.utd_lexer.specs.Tokens.{place_after}

-- a statement with its `;`, and the place where it begins; or the bytes after the last `;`
pub data Statement : Type 0 where
  Complete : Place → List ℕ → Statement
  Incomplete : Statement

-- whether the byte ends the statement that these bytes begin
abbrev pub ends : List ℕ → ℕ → Bool
ends prefix b = (b == 59) && is_outside (run Between prefix)

-- the statements that end, and the bytes after the last of them, with the place where those begin
pub record Cut : Type 0 where
  pub ended : List Statement
  pub place : Place
  pub rest : List ℕ

abbrev pub before_others : Statement → Cut → Cut
before_others s c = record { ended = s ∷ c.ended; place = c.place; rest = c.rest }

-- the cut of bytes that go on in a statement which begins at this place with these bytes
unfoldable pub cut_from : Place → List ℕ → List ℕ → Cut
cut_from place prefix [] = record { ended = []; place = place; rest = prefix }
cut_from place prefix (b ∷ bytes) =
    if ends prefix b
    then before_others (Complete place (prefix ++ b ∷ [])) (cut_from (place_after place (prefix ++ b ∷ [])) [] bytes)
    else cut_from place (prefix ++ b ∷ []) bytes

-- behind these bytes of a statement that begins at this place, no statement ends in the piece
abbrev pub NoEnd : Place → List ℕ → List ℕ → Type 0
NoEnd place bytes piece = cut_from place bytes piece ≡ record { ended = []; place = place; rest = bytes ++ piece }

-- the piece ends the statement, and nothing comes behind that
abbrev pub EndsOne : Place → List ℕ → List ℕ → Type 0
EndsOne place bytes piece = cut_from place bytes piece ≡ record {
  ended = Complete place (bytes ++ piece) ∷ [];
  place = place_after place (bytes ++ piece);
  rest = [];
}

abbrev pub first_place : Place
first_place = record { line = 1; column = 1 }

abbrev pub cut : List ℕ → Cut
cut bytes = cut_from first_place [] bytes

-- the statements that end in a text
abbrev pub complete_statements : List ℕ → List Statement
complete_statements bytes = (cut bytes).ended

-- only white space and comments, the last of which may be an unfinished `//` comment
abbrev pub is_blank : List ℕ → Bool
is_blank bytes = can_be_blank Between true bytes && is_resting (run Between bytes)

-- one more where the rest is not blank
abbrev pub incomplete_rest : List ℕ → List Statement
incomplete_rest rest = if is_blank rest then [] else Incomplete ∷ []

-- the statements of a script
abbrev pub statements : List ℕ → List Statement
statements bytes = complete_statements bytes ++ incomplete_rest (cut bytes).rest

abbrev pub most_bytes : ℕ
most_bytes = most_script_bytes

-- the statements that the machine performs: all, or of a text that is too long those that end
-- within the most bytes
unfoldable pub statements_within : List ℕ → List Statement
statements_within bytes =
    if nat_le (length bytes) most_bytes then statements bytes else complete_statements (take most_bytes bytes)
