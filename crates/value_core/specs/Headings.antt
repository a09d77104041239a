-- Headings made from lists of attributes.
--     has_name, position_of, first_repeat      which names stand in a list, where, and the first that stands twice
--     IsHeadingOf, IsHeadingRefusal      what a list of attributes gives
use Rattle.std.specs.Prelude.{◌≡◌, ℕ, suc, ◌+◌, ◌<◌, Bool, [], ◌∷◌, ◌++◌, length, Option, Some, None, IsTrue, if◌then◌else◌}
use Rattle.std.specs.List.{list_any}
use Rattle.std.specs.List.Sorted.{IsPermutation}
use Rattle.std.specs.Str.{bytes_eq}
use Rattle.value_core.specs.Values.{Name, Heading, is_heading}
pub use Rattle.value_core.specs.Limits.{most_attributes}
use Rattle.value_core.specs.declared.refuse.HeadingRefuse.{HeadingRefuse}
use Rattle.value_core.specs.declared.refuse.HeadingRefuse.TheVariants.{Repeated, TooMany, Memory}

-- whether an attribute has the name
abbrev pub has_name : Heading → Name → Bool
has_name list name = list_any (λ a. bytes_eq a.0 name) list

-- where the name stands in the heading; past its end where it does not
abbrev pub position_of : Heading → Name → ℕ
position_of [] name = 0
position_of (a ∷ rest) name = if bytes_eq a.0 name then 0 else suc (position_of rest name)

-- the least index of an attribute whose name one before it has; n attributes stand in front
abbrev pub repeat_after : Heading → ℕ → Heading → Option ℕ
repeat_after prefix n [] = None
repeat_after prefix n (a ∷ rest) = if has_name prefix a.0 then Some n else repeat_after (prefix ++ a ∷ []) (n + 1) rest

abbrev pub first_repeat : Heading → Option ℕ
first_repeat list = repeat_after [] 0 list

-- the heading has the list's attributes, which have different names
pub record IsHeadingOf (list heading : Heading) : Type 0 where
  pub different : first_repeat list ≡ None
  pub same : IsPermutation list heading
  pub ordered : IsTrue (is_heading heading)

-- why a list of attributes is refused
abbrev pub IsHeadingRefusal : Heading → HeadingRefuse → Type 0
IsHeadingRefusal list (Repeated i) = first_repeat list ≡ Some i
IsHeadingRefusal list TooMany = (first_repeat list ≡ None) × (most_attributes < length list)
IsHeadingRefusal list Memory = Unit {0}
