-- Where names stand among others.
use Rattle.std.specs.Prelude.{ℕ, suc, List, [], ◌∷◌, map, if◌then◌else◌}
use Rattle.std.specs.Str.{bytes_eq}
use Rattle.value_core.specs.Values.{Name, Heading}

-- where the name stands among the names; past their end where it does not
abbrev pub place_among : List Name → Name → ℕ
place_among [] name = 0
place_among (n ∷ names) name = if bytes_eq n name then 0 else suc (place_among names name)

-- for each attribute of a heading, where its name stands among the names
abbrev pub places : List Name → Heading → List ℕ
places names to = map (λ a. place_among names a.0) to
