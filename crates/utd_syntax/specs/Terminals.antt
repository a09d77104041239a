-- Written by tools/grammar; change it there.
-- How the terminals are spelled.
use Rattle.std.specs.Prelude.{◌≡◌, ℕ, List, [], ◌∷◌, Bool, true, false, ◌&&◌, ◌||◌, ◌==◌, nat_le, if◌then◌else◌}
use Rattle.utd_syntax.specs.declared.terminal.Terminal.{Terminal}
use Rattle.utd_syntax.specs.declared.terminal.Terminal.TheVariants as t
use Rattle.utd_syntax.specs.Pieces.{Piece}
use Rattle.utd_syntax.specs.Table.{same, same_bytes}
use Rattle.utd_syntax.specs.Literals.{is_digit, are_digits}

-- a reserved word and a symbol have one spelling; of a name, an integer and a text this is one
abbrev pub spelling : Terminal → List ℕ
spelling t.All = 65 ∷ 76 ∷ 76 ∷ []
spelling t.After = 65 ∷ 70 ∷ 84 ∷ 69 ∷ 82 ∷ []
spelling t.And = 65 ∷ 78 ∷ 68 ∷ []
spelling t.As = 65 ∷ 83 ∷ []
spelling t.Ask = 65 ∷ 83 ∷ 75 ∷ []
spelling t.Before = 66 ∷ 69 ∷ 70 ∷ 79 ∷ 82 ∷ 69 ∷ []
spelling t.Begin = 66 ∷ 69 ∷ 71 ∷ 73 ∷ 78 ∷ []
spelling t.Begins = 66 ∷ 69 ∷ 71 ∷ 73 ∷ 78 ∷ 83 ∷ []
spelling t.Boolean = 66 ∷ 79 ∷ 79 ∷ 76 ∷ 69 ∷ 65 ∷ 78 ∷ []
spelling t.But = 66 ∷ 85 ∷ 84 ∷ []
spelling t.By = 66 ∷ 89 ∷ []
spelling t.Char = 67 ∷ 72 ∷ 65 ∷ 82 ∷ []
spelling t.Constraint = 67 ∷ 79 ∷ 78 ∷ 83 ∷ 84 ∷ 82 ∷ 65 ∷ 73 ∷ 78 ∷ 84 ∷ []
spelling t.Count = 67 ∷ 79 ∷ 85 ∷ 78 ∷ 84 ∷ []
spelling t.Date = 68 ∷ 65 ∷ 84 ∷ 69 ∷ []
spelling t.Delete = 68 ∷ 69 ∷ 76 ∷ 69 ∷ 84 ∷ 69 ∷ []
spelling t.Drop = 68 ∷ 82 ∷ 79 ∷ 80 ∷ []
spelling t.End = 69 ∷ 78 ∷ 68 ∷ []
spelling t.Ends = 69 ∷ 78 ∷ 68 ∷ 83 ∷ []
spelling t.Extend = 69 ∷ 88 ∷ 84 ∷ 69 ∷ 78 ∷ 68 ∷ []
spelling t.False = 70 ∷ 65 ∷ 76 ∷ 83 ∷ 69 ∷ []
spelling t.First = 70 ∷ 73 ∷ 82 ∷ 83 ∷ 84 ∷ []
spelling t.Foreign = 70 ∷ 79 ∷ 82 ∷ 69 ∷ 73 ∷ 71 ∷ 78 ∷ []
spelling t.History = 72 ∷ 73 ∷ 83 ∷ 84 ∷ 79 ∷ 82 ∷ 89 ∷ []
spelling t.In = 73 ∷ 78 ∷ []
spelling t.IncludedIn = 73 ∷ 78 ∷ 67 ∷ 76 ∷ 85 ∷ 68 ∷ 69 ∷ 68 ∷ 95 ∷ 73 ∷ 78 ∷ []
spelling t.Includes = 73 ∷ 78 ∷ 67 ∷ 76 ∷ 85 ∷ 68 ∷ 69 ∷ 83 ∷ []
spelling t.Insert = 73 ∷ 78 ∷ 83 ∷ 69 ∷ 82 ∷ 84 ∷ []
spelling t.Integer = 73 ∷ 78 ∷ 84 ∷ 69 ∷ 71 ∷ 69 ∷ 82 ∷ []
spelling t.Intersect = 73 ∷ 78 ∷ 84 ∷ 69 ∷ 82 ∷ 83 ∷ 69 ∷ 67 ∷ 84 ∷ []
spelling t.Interval = 73 ∷ 78 ∷ 84 ∷ 69 ∷ 82 ∷ 86 ∷ 65 ∷ 76 ∷ []
spelling t.IsEmpty = 73 ∷ 83 ∷ 95 ∷ 69 ∷ 77 ∷ 80 ∷ 84 ∷ 89 ∷ []
spelling t.IsNotEmpty = 73 ∷ 83 ∷ 95 ∷ 78 ∷ 79 ∷ 84 ∷ 95 ∷ 69 ∷ 77 ∷ 80 ∷ 84 ∷ 89 ∷ []
spelling t.Join = 74 ∷ 79 ∷ 73 ∷ 78 ∷ []
spelling t.Key = 75 ∷ 69 ∷ 89 ∷ []
spelling t.Last = 76 ∷ 65 ∷ 83 ∷ 84 ∷ []
spelling t.Matching = 77 ∷ 65 ∷ 84 ∷ 67 ∷ 72 ∷ 73 ∷ 78 ∷ 71 ∷ []
spelling t.Max = 77 ∷ 65 ∷ 88 ∷ []
spelling t.Meets = 77 ∷ 69 ∷ 69 ∷ 84 ∷ 83 ∷ []
spelling t.Merges = 77 ∷ 69 ∷ 82 ∷ 71 ∷ 69 ∷ 83 ∷ []
spelling t.Min = 77 ∷ 73 ∷ 78 ∷ []
spelling t.Minus = 77 ∷ 73 ∷ 78 ∷ 85 ∷ 83 ∷ []
spelling t.Moment = 77 ∷ 79 ∷ 77 ∷ 69 ∷ 78 ∷ 84 ∷ []
spelling t.Next = 78 ∷ 69 ∷ 88 ∷ 84 ∷ []
spelling t.Not = 78 ∷ 79 ∷ 84 ∷ []
spelling t.On = 79 ∷ 78 ∷ []
spelling t.Or = 79 ∷ 82 ∷ []
spelling t.Overlaps = 79 ∷ 86 ∷ 69 ∷ 82 ∷ 76 ∷ 65 ∷ 80 ∷ 83 ∷ []
spelling t.Pack = 80 ∷ 65 ∷ 67 ∷ 75 ∷ []
spelling t.Packed = 80 ∷ 65 ∷ 67 ∷ 75 ∷ 69 ∷ 68 ∷ []
spelling t.Portion = 80 ∷ 79 ∷ 82 ∷ 84 ∷ 73 ∷ 79 ∷ 78 ∷ []
spelling t.Post = 80 ∷ 79 ∷ 83 ∷ 84 ∷ []
spelling t.Pre = 80 ∷ 82 ∷ 69 ∷ []
spelling t.Print = 80 ∷ 82 ∷ 73 ∷ 78 ∷ 84 ∷ []
spelling t.Prior = 80 ∷ 82 ∷ 73 ∷ 79 ∷ 82 ∷ []
spelling t.References = 82 ∷ 69 ∷ 70 ∷ 69 ∷ 82 ∷ 69 ∷ 78 ∷ 67 ∷ 69 ∷ 83 ∷ []
spelling t.Relation = 82 ∷ 69 ∷ 76 ∷ 65 ∷ 84 ∷ 73 ∷ 79 ∷ 78 ∷ []
spelling t.Rename = 82 ∷ 69 ∷ 78 ∷ 65 ∷ 77 ∷ 69 ∷ []
spelling t.Sum = 83 ∷ 85 ∷ 77 ∷ []
spelling t.Summarize = 83 ∷ 85 ∷ 77 ∷ 77 ∷ 65 ∷ 82 ∷ 73 ∷ 90 ∷ 69 ∷ []
spelling t.Terminate = 84 ∷ 69 ∷ 82 ∷ 77 ∷ 73 ∷ 78 ∷ 65 ∷ 84 ∷ 69 ∷ []
spelling t.Then = 84 ∷ 72 ∷ 69 ∷ 78 ∷ []
spelling t.True = 84 ∷ 82 ∷ 85 ∷ 69 ∷ []
spelling t.Tuple = 84 ∷ 85 ∷ 80 ∷ 76 ∷ 69 ∷ []
spelling t.TypeWord = 84 ∷ 89 ∷ 80 ∷ 69 ∷ []
spelling t.Union = 85 ∷ 78 ∷ 73 ∷ 79 ∷ 78 ∷ []
spelling t.Unpack = 85 ∷ 78 ∷ 80 ∷ 65 ∷ 67 ∷ 75 ∷ []
spelling t.Unpacked = 85 ∷ 78 ∷ 80 ∷ 65 ∷ 67 ∷ 75 ∷ 69 ∷ 68 ∷ []
spelling t.Update = 85 ∷ 80 ∷ 68 ∷ 65 ∷ 84 ∷ 69 ∷ []
spelling t.Using = 85 ∷ 83 ∷ 73 ∷ 78 ∷ 71 ∷ []
spelling t.Var = 86 ∷ 65 ∷ 82 ∷ []
spelling t.Virtual = 86 ∷ 73 ∷ 82 ∷ 84 ∷ 85 ∷ 65 ∷ 76 ∷ []
spelling t.When = 87 ∷ 72 ∷ 69 ∷ 78 ∷ []
spelling t.Where = 87 ∷ 72 ∷ 69 ∷ 82 ∷ 69 ∷ []
spelling t.Open = 40 ∷ []
spelling t.Close = 41 ∷ []
spelling t.OpenBracket = 91 ∷ []
spelling t.CloseBracket = 93 ∷ []
spelling t.OpenBrace = 123 ∷ []
spelling t.CloseBrace = 125 ∷ []
spelling t.Comma = 44 ∷ []
spelling t.Semicolon = 59 ∷ []
spelling t.Colon = 58 ∷ []
spelling t.Assign = 58 ∷ 61 ∷ []
spelling t.Equal = 61 ∷ []
spelling t.NotEqual = 60 ∷ 62 ∷ []
spelling t.Less = 60 ∷ []
spelling t.LessEqual = 60 ∷ 61 ∷ []
spelling t.Greater = 62 ∷ []
spelling t.GreaterEqual = 62 ∷ 61 ∷ []
spelling t.Plus = 43 ∷ []
spelling t.Dash = 45 ∷ []
spelling t.Star = 42 ∷ []
spelling t.Slash = 47 ∷ []
spelling t.Bars = 124 ∷ 124 ∷ []
spelling t.Dot = 46 ∷ []
spelling t.Name = 88 ∷ []
spelling t.Digits = 48 ∷ []
spelling t.Quoted = []
spelling t.Finish = []

abbrev pub reserved : List Terminal
reserved = t.All ∷ t.After ∷ t.And ∷ t.As ∷ t.Ask ∷ t.Before ∷ t.Begin ∷ t.Begins ∷ t.Boolean ∷ t.But ∷ t.By ∷ t.Char ∷ t.Constraint ∷ t.Count ∷ t.Date ∷ t.Delete ∷ t.Drop ∷ t.End ∷ t.Ends ∷ t.Extend ∷ t.False ∷ t.First ∷ t.Foreign ∷ t.History ∷ t.In ∷ t.IncludedIn ∷ t.Includes ∷ t.Insert ∷ t.Integer ∷ t.Intersect ∷ t.Interval ∷ t.IsEmpty ∷ t.IsNotEmpty ∷ t.Join ∷ t.Key ∷ t.Last ∷ t.Matching ∷ t.Max ∷ t.Meets ∷ t.Merges ∷ t.Min ∷ t.Minus ∷ t.Moment ∷ t.Next ∷ t.Not ∷ t.On ∷ t.Or ∷ t.Overlaps ∷ t.Pack ∷ t.Packed ∷ t.Portion ∷ t.Post ∷ t.Pre ∷ t.Print ∷ t.Prior ∷ t.References ∷ t.Relation ∷ t.Rename ∷ t.Sum ∷ t.Summarize ∷ t.Terminate ∷ t.Then ∷ t.True ∷ t.Tuple ∷ t.TypeWord ∷ t.Union ∷ t.Unpack ∷ t.Unpacked ∷ t.Update ∷ t.Using ∷ t.Var ∷ t.Virtual ∷ t.When ∷ t.Where ∷ []

abbrev pub symbols : List Terminal
symbols = t.Open ∷ t.Close ∷ t.OpenBracket ∷ t.CloseBracket ∷ t.OpenBrace ∷ t.CloseBrace ∷ t.Comma ∷ t.Semicolon ∷ t.Colon ∷ t.Assign ∷ t.Equal ∷ t.NotEqual ∷ t.Less ∷ t.LessEqual ∷ t.Greater ∷ t.GreaterEqual ∷ t.Plus ∷ t.Dash ∷ t.Star ∷ t.Slash ∷ t.Bars ∷ t.Dot ∷ []

-- the one of these that is spelled so, or this other
abbrev pub spelled_among : List Terminal → Terminal → List ℕ → Terminal
spelled_among [] other b = other
spelled_among (x ∷ xs) other b = if same_bytes (spelling x) b then x else spelled_among xs other b

-- what a word is, and what a symbol is
abbrev pub word_terminal : List ℕ → Terminal
word_terminal b = spelled_among reserved t.Name b

abbrev pub symbol_terminal : List ℕ → Terminal
symbol_terminal b = spelled_among symbols t.Finish b

abbrev pub is_letter : ℕ → Bool
is_letter c = (nat_le 65 c && nat_le c 90) || (nat_le 97 c && nat_le c 122) || (c == 95)

abbrev pub are_letters : List ℕ → Bool
are_letters [] = true
are_letters (c ∷ cs) = (is_letter c || is_digit c) && are_letters cs

-- a word of ASCII letters, digits and "_" that does not begin with a digit
abbrev pub is_plain_word : List ℕ → Bool
is_plain_word [] = false
is_plain_word (c ∷ cs) = is_letter c && are_letters cs

-- there is such a token: a reserved word or a symbol spelled so, a name of ASCII, an integer, or a text
abbrev pub is_token : Terminal → List ℕ → Bool
is_token t.Name b = is_plain_word b && same (word_terminal b) t.Name
is_token t.Digits [] = false
is_token t.Digits b = are_digits b
is_token t.Quoted b = true
is_token t.Finish b = false
is_token x b = same_bytes (spelling x) b

abbrev pub AreTokens : List Piece → Type 0
AreTokens [] = Unit {0}
AreTokens (p ∷ ps) = (is_token p.terminal p.bytes ≡ true) × AreTokens ps
