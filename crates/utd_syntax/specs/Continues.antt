-- What it means that a text is not a statement at a place: the grammar alone says it.
use Rattle.std.specs.Prelude.{◌≡◌, List, [], ◌∷◌, ◌++◌}
use Rattle.point_core.specs.declared.fault.Place.{Place}
use Rattle.utd_syntax.specs.Pieces.{Piece, place_of}
use Rattle.utd_syntax.specs.Plain.{StatementP}
use Rattle.utd_syntax.specs.Terminals.{AreTokens}
use Rattle.utd_syntax.specs.Written.{Spells, of_statement}

-- some statement's tokens begin with these, and the others are tokens that can be written
abbrev pub Starts : List Piece → Type 0
Starts ts = (more : List Piece) × AreTokens more × (x : StatementP) × Spells (of_statement x) (ts ++ more) []

-- the first of these tokens and then others; or the end of the text
abbrev pub again : List Piece → List Piece → List Piece
again [] others = []
again (t ∷ ts) others = t ∷ others

-- No statement continues with the token at this place, or with the end of the text there; and one continues with
-- each token before it.
pub record NoStatement (ts : List Piece) (place : Place) : Type 0 where
  pub before : List Piece
  pub after : List Piece
  pub parts : ts ≡ before ++ after
  pub there : place_of after ≡ place
  pub starts : Starts before
  pub stuck : (others : List Piece) (x : StatementP) → Spells (of_statement x) (before ++ again after others) [] → ⊥

-- Some statement continues with the token at this place.
pub record Continues (ts : List Piece) (place : Place) : Type 0 where
  pub before : List Piece
  pub token : Piece
  pub after : List Piece
  pub parts : ts ≡ before ++ (token ∷ after)
  pub there : token.place ≡ place
  pub starts : Starts (before ++ (token ∷ []))
