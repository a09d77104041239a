-- What the functions that look for one token or gap find at the front of characters.
use Rattle.std.specs.Prelude.{◌≡◌, ◌≢◌, ℕ, List, [], ◌∷◌, ◌++◌, Option, Some, None, true, length, encode_utf8_all}
use Rattle.utd_lexer.specs.declared.token.TokenKind.{TokenKind}
use Rattle.utd_lexer.specs.declared.token.TokenKind.TheVariants.{Word, Integer, Text, Symbol}
use Rattle.utd_lexer.specs.declared.prefix.Prefix.{Prefix}
use Rattle.utd_lexer.specs.declared.prefix.Prefix.TheVariants.{Gap as OfGap, Token as OfToken, Nothing}
use Rattle.utd_lexer.specs.declared.prefix.First.{First}
use Rattle.utd_lexer.specs.declared.prefix.First.TheVariants.{Word as OfWord, Integer as OfInteger, Lone, Other}
use Rattle.utd_lexer.specs.declared.prefix.Turn.{Turn}
use Rattle.utd_lexer.specs.declared.prefix.Turn.TheVariants.{Ends, Quote, Plain}
use Rattle.utd_lexer.specs.declared.ascii.Step.{Step}
use Rattle.utd_lexer.specs.declared.ascii.Step.TheVariants as steps
use Rattle.std.specs.Char.{is_ascii_digit}
use Rattle.utd_lexer.specs.Parts.{Lacks}
use Rattle.utd_lexer.specs.Tokens.{starts, among, IsToken, spelling, Gap, spelling_of_gap, IsGap, NoPrefix, EndsAt}

-- the length of the token of this kind at the front, or that none stands there
abbrev pub TokenFront : TokenKind → List ℕ → Option ℕ → Type 0
TokenFront k cs None = (v rest : List ℕ) → cs ≡ spelling k v ++ rest → IsToken k v rest → ⊥
TokenFront k cs (Some n) = (v : List ℕ) × (rest : List ℕ) × (cs ≡ spelling k v ++ rest) × IsToken k v rest × (length (spelling k v) ≡ n)

-- the same of a gap
abbrev pub GapFront : List ℕ → Option ℕ → Type 0
GapFront cs None = (g : Gap) (rest : List ℕ) → cs ≡ spelling_of_gap g ++ rest → IsGap g rest → ⊥
GapFront cs (Some n) = (g : Gap) × (rest : List ℕ) × (cs ≡ spelling_of_gap g ++ rest) × IsGap g rest × (length (spelling_of_gap g) ≡ n)

-- the same of a word, an integer or a symbol
abbrev pub PlainPrefix : List ℕ → Option (TokenKind × ℕ) → Type 0
PlainPrefix cs None = TokenFront Word cs None × TokenFront Integer cs None × TokenFront Symbol cs None
PlainPrefix cs (Some (Text, n)) = ⊥
PlainPrefix cs (Some (Word, n)) = TokenFront Word cs (Some n)
PlainPrefix cs (Some (Integer, n)) = TokenFront Integer cs (Some n)
PlainPrefix cs (Some (Symbol, n)) = TokenFront Symbol cs (Some n)

abbrev pub PrefixIs : List ℕ → Prefix → Type 0
PrefixIs cs Nothing = NoPrefix cs
PrefixIs cs (OfGap n) = GapFront cs (Some n)
PrefixIs cs (OfToken k bytes n) = (v : List ℕ) × (rest : List ℕ) × (cs ≡ spelling k v ++ rest) × IsToken k v rest × (length (spelling k v) ≡ n) × (bytes ≡ encode_utf8_all v)

abbrev pub TextPrefix : List ℕ → Option Prefix → Type 0
TextPrefix cs None = TokenFront Text cs None
TextPrefix cs (Some f) = PrefixIs cs f

-- the symbols of one character with which no symbol of two and no comment begins: ( ) [ ] { } , ; = + - * .
abbrev pub lone : List ℕ
lone = 40 ∷ 41 ∷ 91 ∷ 93 ∷ 123 ∷ 125 ∷ 44 ∷ 59 ∷ 61 ∷ 43 ∷ 45 ∷ 42 ∷ 46 ∷ []

-- what the first character alone tells of the front
abbrev pub FirstIs : ℕ → First → Type 0
FirstIs c OfWord = starts c ≡ true
FirstIs c OfInteger = is_ascii_digit c ≡ true
FirstIs c Lone = among c lone ≡ true
FirstIs c Other = Unit {0}

-- how a text goes on behind its first quote
abbrev pub TurnIs : List ℕ → Turn → Type 0
TurnIs cs Ends = (r : List ℕ) × (cs ≡ 39 ∷ r) × EndsAt Text [] r
TurnIs cs Quote = (r : List ℕ) × (cs ≡ 39 ∷ (39 ∷ r))
TurnIs cs (Plain c) = (r : List ℕ) × (cs ≡ c ∷ r) × (c ≢ 39)

-- what stands at the front of bytes of ASCII
abbrev pub StepIs : List ℕ → Step → Type 0
StepIs cs steps.Blank = GapFront cs (Some 1)
StepIs cs (steps.Token k bytes n) = PrefixIs cs (OfToken k bytes n)
StepIs cs steps.Untold = Unit {0}

-- no line ends among the bytes of a token of this kind, unless it is a text
abbrev pub IsOneLine : TokenKind → List ℕ → Type 0
IsOneLine Text bytes = Unit {0}
IsOneLine k bytes = Lacks 10 bytes
