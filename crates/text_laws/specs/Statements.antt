-- Bytes that are one statement of a script.
--     NoneEnds      no statement ends in these bytes
--     IsOneStatement      a statement ends at the last byte, and none before it
use Rattle.std.specs.Prelude.{◌≡◌, ℕ, List, [], ◌∷◌, ◌++◌, ◌==◌, true, false, ◌&&◌}
use Rattle.utd_lexer.specs.declared.cutter.Mode.TheVariants.{Between}
use Rattle.utd_lexer.specs.Cutting.{run, is_outside}

-- behind these bytes of a statement, it does not end in the others
abbrev pub NoneEnds : List ℕ → List ℕ → Type 0
NoneEnds prefix [] = Unit {0}
NoneEnds prefix (c ∷ rest) = (((c == 59) && is_outside (run Between prefix)) ≡ false) × NoneEnds (prefix ++ c ∷ []) rest

-- the last byte is a `;` outside texts and comments, and the first such
abbrev pub IsOneStatement : List ℕ → Type 0
IsOneStatement bytes =
    (front : List ℕ) × (bytes ≡ front ++ 59 ∷ []) × (is_outside (run Between front) ≡ true) × NoneEnds [] front
