-- What a statement does to the texts of the declarations that stand.
--     Keeping, keeping_of      what a statement that is accepted does to them
--     texts_after      the texts after a statement
use Rattle.std.specs.Prelude.{ℕ, Bool, true, false, List}
use Rattle.utd_lexer.specs.Gaps.{without_gaps}
use Rattle.utd_syntax.specs.Plain as syntax
use Rattle.utd_syntax.specs.Plain.{StatementP, VarFormP}
use Rattle.dump_core.specs.declared.texts.TextKind.{TextKind}
use Rattle.dump_core.specs.declared.texts.TextKind.TheVariants.{Early, View, Rule}
use Rattle.dump_core.specs.Texts.{SourceText, kept, forgotten}
use Rattle.utd_statement.specs.Readings.{Reading, Tree, Refused}

-- the text is kept, with its kind and under its name; the text of a name is forgotten; or the texts stay
pub data Keeping : Type 0 where
  Keeps : TextKind → List ℕ → Keeping
  Forgets : List ℕ → Keeping
  Leaves : Keeping

-- a base relvar's declaration stands before all rows, a view's behind them
abbrev pub kind_of : VarFormP → TextKind
kind_of (syntax.BaseRelvar at heading constraints) = Early
kind_of (syntax.View at rel) = View
kind_of (syntax.Kept at kept) = View

-- a declaration is kept, a history's under the name of its view; what is dropped is forgotten
abbrev pub keeping_of : StatementP → Keeping
keeping_of syntax.Nothing = Leaves
keeping_of (syntax.DeclareOrdinal at w values) = Keeps Early w.bytes
keeping_of (syntax.DeclareRelvar at w form) = Keeps (kind_of form) w.bytes
keeping_of (syntax.DeclareHistory at w heading key since began during lasted point) = Keeps Early w.bytes
keeping_of (syntax.DeclareLog at log source attribute) = Leaves
keeping_of (syntax.DeclareRule at w test) = Keeps Rule w.bytes
keeping_of (syntax.Drop at w) = Forgets w.bytes
keeping_of (syntax.DropRule at con w) = Forgets w.bytes
keeping_of (syntax.Print at rel) = Leaves
keeping_of (syntax.Ask at test) = Leaves
keeping_of (syntax.Assignment assignment) = Leaves

-- the texts with that of the statement, if it is kept
abbrev pub begun : Keeping → List ℕ → List SourceText → List SourceText
begun (Keeps kind name) bytes texts = kept kind name bytes texts
begun (Forgets name) bytes texts = texts
begun Leaves bytes texts = texts

-- the texts after a statement, by whether it is accepted
abbrev pub settled : Keeping → List ℕ → Bool → List SourceText → List SourceText
settled keeping bytes false texts = texts
settled (Keeps kind name) bytes true texts = kept kind name bytes texts
settled (Forgets name) bytes true texts = forgotten name texts
settled Leaves bytes true texts = texts

abbrev pub keeping_in : Reading → Keeping
keeping_in (Tree tree) = keeping_of tree
keeping_in (Refused refuse) = Leaves

-- the texts after a statement of these bytes, which is read so, by whether it is accepted: its text begins with its first token
abbrev pub texts_after : List ℕ → Reading → Bool → List SourceText → List SourceText
texts_after bytes reading accepted texts = settled (keeping_in reading) (without_gaps bytes) accepted texts
