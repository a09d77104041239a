-- The tokens that tuples of constants are written as, and statements that insert such tuples or set a relvar to them.
--     separated      lists of tokens with commas between them
--     IsElement types a v ls, AreElements types shape vs elements      the tokens write the values, under these names
--     IsTuple types shape vs ls      the tokens are a tuple of these values, in the order of the text
--     Head      how a statement begins
--     IsPlain types head relvar shape rows ls      the tokens are the whole statement
use Rattle.std.specs.Prelude.{◌≡◌, ℕ, List, [], ◌∷◌, ◌++◌, map, Bool, true, ◌&&◌}
use Rattle.utd_lexer.specs.declared.token.TokenKind.TheVariants.{Word, Symbol}
use Rattle.value_core.specs.declared.kind.Kind.{Kind}
use Rattle.value_core.specs.Values.{Name, Value}
pub use Rattle.constant_laws.specs.Insertions.{Shape}
use Rattle.value_core.specs.declared.list.OrdinalNames.{OrdinalNames}
use Rattle.plain_rows.specs.Lexemes.{Lexeme, Begins, is_word}
use Rattle.plain_rows.specs.Written.{colon, IsConstant}

-- ---- symbols and words

abbrev pub symbol : ℕ → Lexeme
symbol c = (Symbol, c ∷ [])

abbrev pub comma : Lexeme
comma = symbol 44

abbrev pub open_brace : Lexeme
open_brace = symbol 123

abbrev pub close_brace : Lexeme
close_brace = symbol 125

abbrev pub semicolon : Lexeme
semicolon = symbol 59

abbrev pub tuple_word : Lexeme
tuple_word = (Word, 84 ∷ 85 ∷ 80 ∷ 76 ∷ 69 ∷ [])

abbrev pub relation_word : Lexeme
relation_word = (Word, 82 ∷ 69 ∷ 76 ∷ 65 ∷ 84 ∷ 73 ∷ 79 ∷ 78 ∷ [])

abbrev pub insert_word : Lexeme
insert_word = (Word, 73 ∷ 78 ∷ 83 ∷ 69 ∷ 82 ∷ 84 ∷ [])

abbrev pub using_word : Lexeme
using_word = (Word, 85 ∷ 83 ∷ 73 ∷ 78 ∷ 71 ∷ [])

abbrev pub open_bracket : Lexeme
open_bracket = symbol 40

abbrev pub close_bracket : Lexeme
close_bracket = symbol 41

abbrev pub assign_symbol : Lexeme
assign_symbol = (Symbol, 58 ∷ 61 ∷ [])

-- each list behind a comma, and with commas between them
abbrev pub followed : List (List Lexeme) → List Lexeme
followed [] = []
followed (p ∷ ps) = comma ∷ (p ++ followed ps)

abbrev pub separated : List (List Lexeme) → List Lexeme
separated [] = []
separated (p ∷ ps) = p ++ followed ps

-- ---- tuples

-- a name and a constant of its kind
abbrev pub IsElement : List OrdinalNames → Name × Kind → Value → List Lexeme → Type 0
IsElement types a v ls = (constant : List Lexeme) × (ls ≡ (Word, a.0) ∷ constant) × IsConstant types a.1 v constant

abbrev pub AreElements : List OrdinalNames → Shape → List Value → List (List Lexeme) → Type 0
AreElements types [] [] [] = Unit {0}
AreElements types (a ∷ shape) (v ∷ vs) (p ∷ ps) = IsElement types a v p × AreElements types shape vs ps
AreElements types _ _ _ = ⊥

pub record IsTuple (types : List OrdinalNames) (shape : Shape) (vs : List Value) (ls : List Lexeme) : Type 0 where
  pub elements : List (List Lexeme)
  pub spelled : ls ≡ tuple_word ∷ open_brace ∷ (separated elements ++ close_brace ∷ [])
  pub written : AreElements types shape vs elements

abbrev pub AreTuples : List OrdinalNames → Shape → List (List Value) → List (List Lexeme) → Type 0
AreTuples types shape [] [] = Unit {0}
AreTuples types shape (vs ∷ rows) (p ∷ ps) = IsTuple types shape vs p × AreTuples types shape rows ps
AreTuples types shape _ _ = ⊥

-- ---- statements

-- a relvar is set, or rows are inserted, or they are inserted under USING with these names
pub data Head : Type 0 where
  Sets : Head
  Inserts : Head
  InsertsUnder : List Name → Head

-- names with commas between them
abbrev pub lone : Name → List Lexeme
lone n = (Word, n) ∷ []

abbrev pub listed : List Name → List Lexeme
listed names = separated (map lone names)

-- USING, the names in brackets, and a `:`
abbrev pub using_list : List Name → List Lexeme
using_list names = using_word ∷ open_bracket ∷ (listed names ++ close_bracket ∷ colon ∷ [])

-- the name and `:=`, or INSERT and the name, or these behind USING
abbrev pub target : Head → Name → List Lexeme
target Sets relvar = (Word, relvar) ∷ assign_symbol ∷ []
target Inserts relvar = insert_word ∷ (Word, relvar) ∷ []
target (InsertsUnder names) relvar = using_list names ++ insert_word ∷ (Word, relvar) ∷ []

-- RELATION, the tuples in braces, and a `;`
abbrev pub body : List (List Lexeme) → List Lexeme
body tuples = relation_word ∷ open_brace ∷ (separated tuples ++ close_brace ∷ semicolon ∷ [])

pub record IsPlain (types : List OrdinalNames) (head : Head) (relvar : Name) (shape : Shape) (rows : List (List Value)) (ls : List Lexeme) : Type 0 where
  pub tuples : List (List Lexeme)
  pub spelled : ls ≡ target head relvar ++ body tuples
  pub written : AreTuples types shape rows tuples

-- ---- the front of bytes

pub record BeginsWithElement (types : List OrdinalNames) (bytes : List ℕ) (a : Name × Kind) (v : Value) (rest : List ℕ) : Type 0 where
  pub lexemes : List Lexeme
  pub begins : Begins bytes lexemes rest
  pub written : IsElement types a v lexemes

-- behind a comma
pub record BeginsWithNext (types : List OrdinalNames) (bytes : List ℕ) (a : Name × Kind) (v : Value) (rest : List ℕ) : Type 0 where
  pub lexemes : List Lexeme
  pub begins : Begins bytes (comma ∷ lexemes) rest
  pub written : IsElement types a v lexemes

-- one element for each name, each behind a comma
pub record BeginsWithMore (types : List OrdinalNames) (bytes : List ℕ) (shape : Shape) (vs : List Value) (rest : List ℕ) : Type 0 where
  pub elements : List (List Lexeme)
  pub begins : Begins bytes (followed elements) rest
  pub written : AreElements types shape vs elements

abbrev pub are_words : Shape → Bool
are_words [] = true
are_words (a ∷ shape) = is_word a.0 && are_words shape

-- the values are this one and those of the elements, each of which is behind a comma
pub record HasValues (types : List OrdinalNames) (shape : Shape) (bytes : List ℕ) (first : Value) (values : List Value) (rest : List ℕ) : Type 0 where
  pub vs : List Value
  pub held : values ≡ first ∷ vs
  pub more : BeginsWithMore types bytes shape vs rest

pub record BeginsWithTuple (types : List OrdinalNames) (bytes : List ℕ) (shape : Shape) (vs : List Value) (rest : List ℕ) : Type 0 where
  pub lexemes : List Lexeme
  pub begins : Begins bytes lexemes rest
  pub written : IsTuple types shape vs lexemes

-- a tuple behind a comma
pub record BeginsWithNextTuple (types : List OrdinalNames) (bytes : List ℕ) (shape : Shape) (vs : List Value) (rest : List ℕ) : Type 0 where
  pub lexemes : List Lexeme
  pub begins : Begins bytes (comma ∷ lexemes) rest
  pub written : IsTuple types shape vs lexemes

-- the rows are this one and those of the tuples, each of which is behind a comma
pub record HasRows (types : List OrdinalNames) (shape : Shape) (bytes : List ℕ) (first : List Value) (rows : List (List Value)) (rest : List ℕ) : Type 0 where
  pub others : List (List Value)
  pub tuples : List (List Lexeme)
  pub held : rows ≡ first ∷ others
  pub begins : Begins bytes (followed tuples) rest
  pub written : AreTuples types shape others tuples

-- tuples, at least one, with commas between them
pub record BeginsWithTuples (types : List OrdinalNames) (bytes : List ℕ) (shape : Shape) (rows : List (List Value)) (rest : List ℕ) : Type 0 where
  pub first : List Value
  pub others : List (List Value)
  pub held : rows ≡ first ∷ others
  pub tuples : List (List Lexeme)
  pub begins : Begins bytes (separated tuples) rest
  pub written : AreTuples types shape (first ∷ others) tuples
