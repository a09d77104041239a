-- How the cutter takes one byte after another: where it stands, and what bytes it was given.
use Rattle.std.specs.Prelude.{◌≡◌, ◌≢◌, ℕ, List, [], ◌∷◌, ◌++◌, if◌then◌else◌, ◌==◌, Bool, true, false, ◌&&◌, ◌||◌, not}
use Rattle.utd_lexer.specs.declared.cutter.Mode.{Mode}
use Rattle.utd_lexer.specs.declared.cutter.Mode.TheVariants.{Between, Slash, Text, Block, Star, Line}
use Rattle.utd_lexer.specs.declared.cutter.Cutter.{Cutter}
use Rattle.utd_lexer.specs.declared.cutter.Cut.{Cut}
use Rattle.utd_lexer.specs.declared.cutter.Cut.TheVariants.{Inside, Ends}
use Rattle.utd_lexer.specs.Parts.{is_space}

-- where the bytes stand after one more
abbrev pub next : Mode → ℕ → Mode
next Between b = if b == 39 then Text else (if b == 47 then Slash else Between)
next Slash b = if b == 42 then Block else (if b == 47 then Line else (if b == 39 then Text else Between))
next Text b = if b == 39 then Between else Text
next Block b = if b == 42 then Star else Block
next Star b = if b == 47 then Between else (if b == 42 then Star else Block)
next Line b = if b == 10 then Between else Line

-- where they stand after all of these
abbrev pub run : Mode → List ℕ → Mode
run m [] = m
run m (b ∷ bs) = run (next m b) bs

-- between parts, or behind a `/` that may be one
abbrev pub is_outside : Mode → Bool
is_outside Between = true
is_outside Slash = true
is_outside _ = false

-- between parts
abbrev pub is_between : Mode → Bool
is_between Between = true
is_between _ = false

-- whether the bytes can still be blank with one more
abbrev pub blank_next : Mode → Bool → ℕ → Bool
blank_next Between ok b = ok && (is_space b || (b == 47))
blank_next Slash ok b = ok && ((b == 42) || (b == 47))
blank_next _ ok b = ok

-- whether these bytes can still be blank
abbrev pub can_be_blank : Mode → Bool → List ℕ → Bool
can_be_blank m ok [] = ok
can_be_blank m ok (b ∷ bs) = can_be_blank (next m b) (blank_next m ok b) bs

-- outside texts and block comments
abbrev pub is_resting : Mode → Bool
is_resting Between = true
is_resting Line = true
is_resting _ = false

-- a byte with which no text and no comment begins, and no statement ends: none of ' / ;
abbrev pub is_plain : ℕ → Bool
is_plain b = not (b == 39) && (not (b == 47) && not (b == 59))

-- the byte changes nothing: the bytes stand after it where they stood, are blank or not as they were, and it ends no statement
abbrev pub Passes : Cutter → ℕ → Type 0
Passes c b = (next c.mode b ≡ c.mode) × (blank_next c.mode c.blank b ≡ c.blank) × (is_outside c.mode ≡ true → b ≢ 59)

abbrev pub AllPass : Cutter → List ℕ → Type 0
AllPass c [] = Unit {0}
AllPass c (b ∷ bs) = Passes c b × AllPass c bs

-- whether the byte changes nothing
abbrev pub stays : Cutter → ℕ → Bool
stays c b = is_between c.mode && (not c.blank && (not (b == 39) && (not (b == 47) && not (b == 59))))

-- these bytes were given since the last end of a statement
abbrev pub Since : Cutter → List ℕ → Type 0
Since c bytes = (c.mode ≡ run Between bytes) × (c.blank ≡ can_be_blank Between true bytes)

-- the bytes since the last end of a statement, after one more
abbrev pub since_then : Cut → List ℕ → ℕ → List ℕ
since_then Ends bytes b = []
since_then Inside bytes b = bytes ++ b ∷ []
