-- How the reading of a script ends, and the texts that are there then.
use Rattle.std.specs.Prelude.{◌≡◌, ◌⊎◌, ℕ, List, Option, None, MatchOption}
use Rattle.dump_core.specs.Texts.{SourceText}
use Rattle.utd_session.specs.declared.script.Ran.{Ran}
use Rattle.utd_session.specs.declared.status.Status.TheVariants.{AllAccepted, SomeRefused}
use Rattle.utd_session.specs.Status.{number_of}

-- the script was read to its end, and all of it performed
abbrev pub IsAtEnd : ℕ → Type 0
IsAtEnd answered = (answered ≡ number_of AllAccepted) ⊎ (answered ≡ number_of SomeRefused)

-- there are texts exactly where the script was read to its end
abbrev pub HasTextsAtEnd : Option (List SourceText) → ℕ → Type 0
HasTextsAtEnd texts answered = MatchOption texts (IsAtEnd answered → ⊥) (λ _. IsAtEnd answered)

-- the reading ended before the end of the script
abbrev pub IsEarly : Ran → Type 0
IsEarly ran = (ran.texts ≡ None) × (IsAtEnd (number_of ran.status) → ⊥)
