-- How a run ends: the number of each status, and the line that goes with it.
use Rattle.std.specs.Prelude.{◌≡◌, ℕ, List, [], ◌∷◌, ◌++◌, codes}
use Rattle.utd_session.specs.declared.status.Status.{Status}
use Rattle.utd_session.specs.declared.status.Status.TheVariants.{AllAccepted, SomeRefused, BadUsage, ReadFailed, WriteFailed, NoMemory, TooLong, CannotDump}

abbrev pub number_of : Status → ℕ
number_of AllAccepted = 0
number_of SomeRefused = 1
number_of BadUsage = 2
number_of ReadFailed = 3
number_of WriteFailed = 4
number_of NoMemory = 5
number_of TooLong = 6
number_of CannotDump = 7

-- it is the number of a status
abbrev pub IsStatus : ℕ → Type 0
IsStatus answered = (status : Status) × (answered ≡ number_of status)

-- the line that goes with a status
unfoldable pub line_of : Status → List ℕ
line_of AllAccepted = []
line_of SomeRefused = []
line_of BadUsage = codes "usage: utd [--generate N] [--dump]" ++ 10 ∷ []
line_of ReadFailed = codes "utd: read failed" ++ 10 ∷ []
line_of WriteFailed = codes "utd: write failed" ++ 10 ∷ []
line_of NoMemory = codes "utd: out of memory" ++ 10 ∷ []
line_of TooLong = codes "utd: more than 16777216 bytes" ++ 10 ∷ []
line_of CannotDump = codes "utd: cannot dump" ++ 10 ∷ []
