-- A statement's characters as tokens, white space and comments in turn.
use Rattle.std.specs.Prelude.{◌≡◌, ℕ, ◌+◌, ◌≤◌, ◌^◌, ◌-◌, List, [], ◌∷◌, ◌++◌, Bool, true, false, ◌==◌, ◌||◌, ◌&&◌, not, if◌then◌else◌, encode_utf8_all}
use Rattle.std.specs.Char.{is_ascii_digit}
use Rattle.unicode_ident.specs.Ident.{is_xid_start, is_xid_continue}
use Rattle.point_core.specs.declared.fault.Place.{Place}
use Rattle.utd_lexer.specs.declared.token.TokenKind.{TokenKind}
use Rattle.utd_lexer.specs.declared.token.TokenKind.TheVariants.{Word, Integer, Text, Symbol}
use Rattle.utd_lexer.specs.declared.token.Token.{Token}
use Rattle.utd_lexer.specs.Parts.{is_space, Lacks, LacksEnd}

-- the place behind a byte, and behind bytes
abbrev pub next_place : Place → ℕ → Place
next_place p b =
    if b == 10 then record { line = p.line + 1; column = 1 } else record { line = p.line; column = p.column + 1 }

abbrev pub place_after : Place → List ℕ → Place
place_after p [] = p
place_after p (b ∷ bs) = place_after (next_place p b) bs

-- the place behind characters, which are bytes in UTF-8
abbrev pub past : Place → List ℕ → Place
past p cs = place_after p (encode_utf8_all cs)

-- a character that may begin a word, and one with which a word may go on
abbrev pub starts : ℕ → Bool
starts c = is_xid_start c || (c == 95)

abbrev pub continues : ℕ → Bool
continues c = is_xid_continue c

-- a character that is no quote
abbrev pub unquoted : ℕ → Bool
unquoted c = not (c == 39)

abbrev pub among : ℕ → List ℕ → Bool
among c [] = false
among c (x ∷ xs) = (c == x) || among c xs

-- the symbols of one character: ( ) [ ] { } , ; : = < > + - * / .
abbrev pub singles : List ℕ
singles = 40 ∷ 41 ∷ 91 ∷ 93 ∷ 123 ∷ 125 ∷ 44 ∷ 59 ∷ 58 ∷ 61 ∷ 60 ∷ 62 ∷ 43 ∷ 45 ∷ 42 ∷ 47 ∷ 46 ∷ []

-- what makes a symbol of two characters with the first one: := <> <= >= ||
abbrev pub seconds : ℕ → List ℕ
seconds c =
    if c == 58 then 61 ∷ [] else (if c == 60 then 62 ∷ 61 ∷ [] else (if c == 62 then 61 ∷ [] else (
    if c == 124 then 124 ∷ [] else [])))

-- two characters that begin a comment: // and /*
abbrev pub opens_comment : ℕ → ℕ → Bool
opens_comment c d = (c == 47) && ((d == 47) || (d == 42))

abbrev pub AllOf : (ℕ → Bool) → List ℕ → Type 0
AllOf p [] = Unit {0}
AllOf p (x ∷ xs) = (p x ≡ true) × AllOf p xs

-- the characters are those of a token of this kind; of a text, those between its quotes
abbrev pub IsOfKind : TokenKind → List ℕ → Type 0
IsOfKind Word [] = ⊥
IsOfKind Word (c ∷ cs) = (starts c ≡ true) × AllOf continues cs
IsOfKind Integer [] = ⊥
IsOfKind Integer (c ∷ cs) = AllOf is_ascii_digit (c ∷ cs)
IsOfKind Text cs = Unit {0}
IsOfKind Symbol [] = ⊥
IsOfKind Symbol (a ∷ []) = among a singles ≡ true
IsOfKind Symbol (a ∷ (b ∷ [])) = among b (seconds a) ≡ true
IsOfKind Symbol (a ∷ (b ∷ (c ∷ cs))) = ⊥

-- the characters with each quote among them written twice
abbrev pub doubled : List ℕ → List ℕ
doubled [] = []
doubled (c ∷ cs) = if c == 39 then 39 ∷ (39 ∷ doubled cs) else c ∷ doubled cs

-- how a token is written
abbrev pub spelling : TokenKind → List ℕ → List ℕ
spelling Word cs = cs
spelling Integer cs = cs
spelling Text cs = 39 ∷ (doubled cs ++ 39 ∷ [])
spelling Symbol cs = cs

-- whether a token goes on with a character behind it, or a comment begins with it in place of a symbol
abbrev pub goes_on : TokenKind → List ℕ → ℕ → Bool
goes_on Word cs d = continues d
goes_on Integer cs d = is_ascii_digit d
goes_on Text cs d = d == 39
goes_on Symbol [] d = false
goes_on Symbol (a ∷ []) d = among d (seconds a) || opens_comment a d
goes_on Symbol (a ∷ (b ∷ cs)) d = false

abbrev pub EndsAt : TokenKind → List ℕ → List ℕ → Type 0
EndsAt k cs [] = Unit {0}
EndsAt k cs (d ∷ rest) = goes_on k cs d ≡ false

-- the longest token of this kind, these characters behind it
abbrev pub IsToken : TokenKind → List ℕ → List ℕ → Type 0
IsToken k cs rest = IsOfKind k cs × EndsAt k cs rest

-- what stands between tokens: white space, a comment /* .. */, a comment // .. up to the byte 10 or up to the end
pub data Gap : Type 0 where
  blank : ℕ → Gap
  block line last : List ℕ → Gap

abbrev pub spelling_of_gap : Gap → List ℕ
spelling_of_gap (blank c) = c ∷ []
spelling_of_gap (block cs) = 47 ∷ (42 ∷ (cs ++ 42 ∷ (47 ∷ [])))
spelling_of_gap (line cs) = 47 ∷ (47 ∷ (cs ++ 10 ∷ []))
spelling_of_gap (last cs) = 47 ∷ (47 ∷ cs)

-- a gap, these characters behind it
abbrev pub IsGap : Gap → List ℕ → Type 0
IsGap (blank c) rest = is_space c ≡ true
IsGap (block cs) rest = LacksEnd cs
IsGap (line cs) rest = Lacks 10 cs
IsGap (last cs) rest = Lacks 10 cs × (rest ≡ [])

-- a token of these characters at this place
abbrev pub token_at : Place → TokenKind → List ℕ → Token
token_at p k cs = record { kind = k; place = p; bytes = encode_utf8_all cs }

-- The characters from this place on are these tokens, with gaps between them.
pub data Lexed : Place → List ℕ → List Token → Type 0 where
  done : (p : Place) → Lexed p [] []
  gap : (p : Place) (g : Gap) (rest : List ℕ) (ts : List Token) → IsGap g rest
      → Lexed (past p (spelling_of_gap g)) rest ts → Lexed p (spelling_of_gap g ++ rest) ts
  token : (p : Place) (k : TokenKind) (cs rest : List ℕ) (ts : List Token) → IsToken k cs rest
      → Lexed (past p (spelling k cs)) rest ts → Lexed p (spelling k cs ++ rest) (token_at p k cs ∷ ts)

-- neither a gap nor a token stands at the front of these characters
abbrev pub NoPrefix : List ℕ → Type 0
NoPrefix cs = ((g : Gap) (rest : List ℕ) → cs ≡ spelling_of_gap g ++ rest → IsGap g rest → ⊥)
    × ((k : TokenKind) (v rest : List ℕ) → cs ≡ spelling k v ++ rest → IsToken k v rest → ⊥)

-- Behind gaps and tokens, this is the first place at which neither stands.
pub data Stuck : Place → List ℕ → Place → Type 0 where
  here : (p : Place) (c : ℕ) (cs : List ℕ) → NoPrefix (c ∷ cs) → Stuck p (c ∷ cs) p
  past_gap : (p q : Place) (g : Gap) (rest : List ℕ) → IsGap g rest
      → Stuck (past p (spelling_of_gap g)) rest q → Stuck p (spelling_of_gap g ++ rest) q
  past_token : (p q : Place) (k : TokenKind) (cs rest : List ℕ) → IsToken k cs rest
      → Stuck (past p (spelling k cs)) rest q → Stuck p (spelling k cs ++ rest) q

-- so many more bytes have a place
abbrev pub Fits : Place → ℕ → Type 0
Fits p n = (p.line + n ≤ 2 ^ 32 - 1) × (p.column + n ≤ 2 ^ 32 - 1)
