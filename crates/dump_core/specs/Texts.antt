-- The texts of statements that are kept for the script.
--     SourceText      a text with its kind and the name that it declares
--     kept, forgotten      a text more, and those of a name away
--     of_kind      the texts of one kind
use Rattle.std.specs.Prelude.{ℕ, Bool, true, false, not, List, [], ◌∷◌, ◌++◌, map}
use Rattle.std.specs.List.{filter}
use Rattle.std.specs.Str.{bytes_eq}
use Rattle.dump_core.specs.declared.texts.TextKind.{TextKind}
use Rattle.dump_core.specs.declared.texts.TextKind.TheVariants.{Early, View, Rule}

pub record SourceText : Type 0 where
  pub kind : TextKind
  pub name : List ℕ
  pub bytes : List ℕ

-- the texts with one more
abbrev pub kept : TextKind → List ℕ → List ℕ → List SourceText → List SourceText
kept kind name bytes texts = texts ++ record { kind = kind; name = name; bytes = bytes } ∷ []

-- the texts without those that declare the name
abbrev pub forgotten : List ℕ → List SourceText → List SourceText
forgotten name texts = filter (λ t. not (bytes_eq t.name name)) texts

abbrev pub same_kind : TextKind → TextKind → Bool
same_kind Early Early = true
same_kind View View = true
same_kind Rule Rule = true
same_kind _ _ = false

-- the bytes of the texts of this kind, in order
abbrev pub of_kind : TextKind → List SourceText → List (List ℕ)
of_kind kind texts = map (λ t. t.bytes) (filter (λ t. same_kind t.kind kind) texts)
