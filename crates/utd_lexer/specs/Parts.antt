-- A script's bytes as parts: texts, comments and other bytes.
use Rattle.std.specs.Prelude.{◌≡◌, ◌≢◌, ℕ, List, [], ◌∷◌, ◌++◌, ◌==◌, Bool, true, ◌||◌, ◌⊎◌}

-- a byte outside texts and comments, a text, a comment /* .. */, a comment // .. up to the byte 10
pub data Part : Type 0 where
  plain : ℕ → Part
  text block line : List ℕ → Part

abbrev pub bytes_of_part : Part → List ℕ
bytes_of_part (plain b) = b ∷ []
bytes_of_part (text bs) = 39 ∷ (bs ++ 39 ∷ [])
bytes_of_part (block bs) = 47 ∷ 42 ∷ (bs ++ 42 ∷ 47 ∷ [])
bytes_of_part (line bs) = 47 ∷ 47 ∷ (bs ++ 10 ∷ [])

-- the byte is nowhere in these
abbrev pub Lacks : ℕ → List ℕ → Type 0
Lacks b [] = Unit {0}
Lacks b (x ∷ xs) = (x ≢ b) × Lacks b xs

-- nowhere in these stands `/` behind `*`
abbrev pub LacksEnd : List ℕ → Type 0
LacksEnd [] = Unit {0}
LacksEnd (x ∷ []) = Unit {0}
LacksEnd (x ∷ y ∷ ys) = (x ≡ 42 → y ≢ 47) × LacksEnd (y ∷ ys)

abbrev pub IsPart : Part → Type 0
IsPart (plain b) = b ≢ 39
IsPart (text bs) = Lacks 39 bs
IsPart (block bs) = LacksEnd bs
IsPart (line bs) = Lacks 10 bs

-- a `/` that begins a comment with the byte behind it is no part of its own
abbrev pub IsApart : Part → List Part → Type 0
IsApart (plain b) (plain s ∷ earlier) = s ≡ 47 → (b ≢ 47) × (b ≢ 42)
IsApart (block bs) (plain s ∷ earlier) = s ≢ 47
IsApart (line bs) (plain s ∷ earlier) = s ≢ 47
IsApart p earlier = Unit {0}

-- the parts of these bytes, the last one first
abbrev pub AreParts : List Part → Type 0
AreParts [] = Unit {0}
AreParts (p ∷ earlier) = IsPart p × IsApart p earlier × AreParts earlier

abbrev pub bytes_of : List Part → List ℕ
bytes_of [] = []
bytes_of (p ∷ earlier) = bytes_of earlier ++ bytes_of_part p

-- the bytes are whole parts: what comes next stands outside texts and comments
abbrev pub IsWhole : List ℕ → Type 0
IsWhole bytes = (parts : List Part) × AreParts parts × (bytes ≡ bytes_of parts)

-- white space
abbrev pub is_space : ℕ → Bool
is_space b = (b == 9) || (b == 10) || (b == 13) || (b == 32)

-- white space and comments
abbrev pub AllBlank : List Part → Type 0
AllBlank [] = Unit {0}
AllBlank (plain b ∷ ps) = (is_space b ≡ true) × AllBlank ps
AllBlank (text bs ∷ ps) = ⊥
AllBlank (block bs ∷ ps) = AllBlank ps
AllBlank (line bs ∷ ps) = AllBlank ps

-- only white space and whole comments, and perhaps behind them an unfinished comment // ..
abbrev pub IsBlank : List ℕ → Type 0
IsBlank bytes = (ps : List Part) × AreParts ps × AllBlank ps × ((bytes ≡ bytes_of ps) ⊎ ((bs : List ℕ) × Lacks 10 bs × (bytes ≡ bytes_of ps ++ (47 ∷ 47 ∷ bs))))
