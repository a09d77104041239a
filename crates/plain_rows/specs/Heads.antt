-- How statements begin, and how their rows come to the relvar where it has this heading.
--     names_in words, list_names list      the names of words, and of a list of them
--     head_of head      what a head stands for
--     IsListing heading commalist names      a list of these names stands at these positions of the heading
--     IsWayOf head heading bringing      what begins so brings rows in this way
--     BeginsWithNames, HasNames      names at the front of bytes
use Rattle.std.specs.Prelude.{◌≡◌, ℕ, List, ◌∷◌, map}
use Rattle.utd_syntax.specs.declared.word.Word.{Word}
use Rattle.utd_syntax.specs.declared.parts.NameList.{NameList}
use Rattle.utd_syntax.specs.Plain.{NameListP}
use Rattle.utd_syntax.specs.Read.{read_name_list, read_list}
use Rattle.value_core.specs.Values.{Name, Heading}
use Rattle.node_typing.specs.Lists.{names_of_words, listed_names}
use Rattle.constant_laws.specs.Insertions.{Bringing, Setting, Adding, AddingUnder, IsListed}
use Rattle.plain_rows.specs.declared.heads.Head.{Head as Begun}
use Rattle.plain_rows.specs.declared.heads.Head.TheVariants as begun
use Rattle.plain_rows.specs.Lexemes.{Begins}
use Rattle.plain_rows.specs.Names.{AllNames}
use Rattle.plain_rows.specs.Tuples.{Head, Sets, Inserts, InsertsUnder, followed, lone, listed}

abbrev pub names_in : List Word → List Name
names_in words = names_of_words (read_name_list words)

abbrev pub list_names : NameList → List Name
list_names list = listed_names (read_list list)

abbrev pub head_of : Begun → Head
head_of begun.Set = Sets
head_of begun.Insert = Inserts
head_of (begun.InsertUnder list) = InsertsUnder (list_names list)

-- the names of a USING can be written
abbrev pub AreListNames : Head → Type 0
AreListNames (InsertsUnder names) = AllNames names
AreListNames _ = Unit {0}

pub record IsListing (heading : Heading) (commalist : List ℕ) (names : List Name) : Type 0 where
  pub list : NameListP
  pub same : listed_names list ≡ names
  pub is : IsListed heading commalist list

abbrev pub IsWayOf : Head → Heading → Bringing → Type 0
IsWayOf Sets heading Setting = Unit {0}
IsWayOf Inserts heading Adding = Unit {0}
IsWayOf (InsertsUnder names) heading (AddingUnder commalist) = IsListing heading commalist names
IsWayOf _ heading _ = ⊥

-- ---- the front of bytes

-- names with commas between them
pub record BeginsWithNames (bytes : List ℕ) (names : List Name) (rest : List ℕ) : Type 0 where
  pub begins : Begins bytes (listed names) rest
  pub named : AllNames names

-- the names are this one and others, each of which is behind a comma
pub record HasNames (bytes : List ℕ) (first : Name) (names : List Name) (rest : List ℕ) : Type 0 where
  pub others : List Name
  pub held : names ≡ first ∷ others
  pub begins : Begins bytes (followed (map lone others)) rest
  pub named : AllNames others
