-- Names that stand for themselves, and the columns of tuples that are read here.
--     AllNames, AreNameWords      words of ASCII that are no reserved ones, and not too long: all of a list, those of a shape
--     Ascending      the names of a shape are in the order of their bytes, each once
--     IsPlainShape      what a shape must be for its tuples to be read
use Rattle.std.specs.Prelude.{◌≡◌, ◌≤◌, true, List, [], ◌∷◌, length}
use Rattle.std.specs.declared.cmp.Ordering.TheVariants.{Less}
use Rattle.value_core.specs.declared.kind.Kind.{Kind}
use Rattle.value_core.specs.Limits.{most_attributes}
use Rattle.value_core.specs.Values.{Name, name_cmp}
use Rattle.plain_rows.specs.Tuples.{Shape, are_words}
pub use Rattle.plain_rows.specs.Words.{IsNameWord}

abbrev pub AllNames : List Name → Type 0
AllNames [] = Unit {0}
AllNames (n ∷ names) = IsNameWord n × AllNames names

abbrev pub AreNameWords : Shape → Type 0
AreNameWords [] = Unit {0}
AreNameWords (a ∷ shape) = IsNameWord a.0 × AreNameWords shape

-- the names of the shape are behind this one
abbrev pub AllBehind : Name × Kind → Shape → Type 0
AllBehind a [] = Unit {0}
AllBehind a (b ∷ rest) = (name_cmp a.0 b.0 ≡ Less) × AllBehind a rest

abbrev pub Ascending : Shape → Type 0
Ascending [] = Unit {0}
Ascending (a ∷ rest) = AllBehind a rest × Ascending rest

-- Names of words, none of which is reserved or too long, and not too many.
pub record IsPlainShape (shape : Shape) : Type 0 where
  pub words : are_words shape ≡ true
  pub named : AreNameWords shape
  pub few : length shape ≤ most_attributes
