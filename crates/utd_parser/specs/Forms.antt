-- Written by tools/grammar; change it there.
-- The forms of the parser as those of the table.
use Rattle.std.specs.Prelude.{ℕ, List, [], ◌∷◌}
use Rattle.utd_syntax.specs.Table as table
use Rattle.utd_syntax.specs.Written.{ordinal_word, since_word, during_word, over_word, at_word, log_word, of_word, kept_word}
use Rattle.utd_parser.specs.declared.form.PlaceWord.{PlaceWord}
use Rattle.utd_parser.specs.declared.form.PlaceWord.TheVariants as words
use Rattle.utd_parser.specs.declared.form.Form.{Form}
use Rattle.utd_parser.specs.declared.form.Form.TheVariants as forms
use Rattle.utd_parser.specs.declared.form.Taking.{Taking}
use Rattle.utd_parser.specs.declared.form.Taking.TheVariants as takings
use Rattle.utd_parser.specs.declared.form.Row.{Row}
use Rattle.utd_parser.specs.declared.form.Row.TheVariants as lines
use Rattle.utd_parser.specs.declared.form.Turn.{Turn}
use Rattle.utd_parser.specs.declared.form.Turn.TheVariants as turns

-- how a word that is reserved at its place is spelled
abbrev pub spelled_as : PlaceWord → List ℕ
spelled_as words.Ordinal = ordinal_word
spelled_as words.Since = since_word
spelled_as words.During = during_word
spelled_as words.Over = over_word
spelled_as words.At = at_word
spelled_as words.Log = log_word
spelled_as words.Of = of_word
spelled_as words.Kept = kept_word

abbrev pub form_of : Form → table.Symbol
form_of forms.TheName = table.TheName
form_of forms.Comma = table.Comma
form_of forms.DateText = table.DateText
form_of forms.MomentText = table.MomentText
form_of forms.NegativeDigits = table.NegativeDigits
form_of forms.ThePrimary = table.ThePrimary
form_of forms.AfterName = table.AfterName
form_of forms.AfterScalar = table.AfterScalar
form_of forms.EndOfSelector = table.EndOfSelector
form_of forms.InParens = table.InParens
form_of forms.InPair = table.InPair
form_of forms.InPoint = table.InPoint
form_of forms.TheSign = table.TheSign
form_of forms.TheProd = table.TheProd
form_of forms.MoreProd = table.MoreProd
form_of forms.TheSum = table.TheSum
form_of forms.MoreSum = table.MoreSum
form_of forms.TheCmp = table.TheCmp
form_of forms.MoreCmp = table.MoreCmp
form_of forms.TheNeg = table.TheNeg
form_of forms.TheConj = table.TheConj
form_of forms.MoreAnd = table.MoreAnd
form_of forms.TheScalar = table.TheScalar
form_of forms.MoreOr = table.MoreOr
form_of forms.ThePoint = table.ThePoint
form_of forms.TheKind = table.TheKind
form_of forms.TheAttribute = table.TheAttribute
form_of forms.MoreAttributes = table.MoreAttributes
form_of forms.InHeading = table.InHeading
form_of forms.TheHeading = table.TheHeading
form_of forms.MoreNames = table.MoreNames
form_of forms.InNames = table.InNames
form_of forms.InList = table.InList
form_of forms.TheNames = table.TheNames
form_of forms.TheList = table.TheList
form_of forms.TheSomeNames = table.TheSomeNames
form_of forms.TheParenName = table.TheParenName
form_of forms.TheElement = table.TheElement
form_of forms.MoreElements = table.MoreElements
form_of forms.InElements = table.InElements
form_of forms.TheElements = table.TheElements
form_of forms.TheSomeElements = table.TheSomeElements
form_of forms.TheTuple = table.TheTuple
form_of forms.MoreTuples = table.MoreTuples
form_of forms.InTuples = table.InTuples
form_of forms.TheTuples = table.TheTuples
form_of forms.TheLiteral = table.TheLiteral
form_of forms.AfterRelation = table.AfterRelation
form_of forms.TheSetItem = table.TheSetItem
form_of forms.MoreSetItems = table.MoreSetItems
form_of forms.TheSets = table.TheSets
form_of forms.EmptyParens = table.EmptyParens
form_of forms.TheAggregateForm = table.TheAggregateForm
form_of forms.TheAggregate = table.TheAggregate
form_of forms.MoreAggregates = table.MoreAggregates
form_of forms.TheAggregates = table.TheAggregates
form_of forms.TheRenaming = table.TheRenaming
form_of forms.MoreRenamings = table.MoreRenamings
form_of forms.TheRenamings = table.TheRenamings
form_of forms.ThePortion = table.ThePortion
form_of forms.MaybePortion = table.MaybePortion
form_of forms.MaybeWhere = table.MaybeWhere
form_of forms.InProjection = table.InProjection
form_of forms.TheOperand = table.TheOperand
form_of forms.TheExtend = table.TheExtend
form_of forms.TheSummarize = table.TheSummarize
form_of forms.TheRelPrimary = table.TheRelPrimary
form_of forms.TheTerm = table.TheTerm
form_of forms.MorePostfix = table.MorePostfix
form_of forms.TheTerms = table.TheTerms
form_of forms.MoreInfix = table.MoreInfix
form_of forms.TheUsing = table.TheUsing
form_of forms.TheRel = table.TheRel
form_of forms.TheUsingPart = table.TheUsingPart
form_of forms.AfterOperand = table.AfterOperand
form_of forms.TheKey = table.TheKey
form_of forms.TheForeign = table.TheForeign
form_of forms.TheUsedConstraint = table.TheUsedConstraint
form_of forms.TheConstraint = table.TheConstraint
form_of forms.MoreConstraints = table.MoreConstraints
form_of forms.InRel = table.InRel
form_of forms.TheKept = table.TheKept
form_of forms.AfterKept = table.AfterKept
form_of forms.InKept = table.InKept
form_of forms.TheVarForm = table.TheVarForm
form_of forms.TheComparison = table.TheComparison
form_of forms.AfterLeft = table.AfterLeft
form_of forms.TheTest = table.TheTest
form_of forms.TheUsedDeletion = table.TheUsedDeletion
form_of forms.TheUsedItem = table.TheUsedItem
form_of forms.TheDeletion = table.TheDeletion
form_of forms.TheItem = table.TheItem
form_of forms.MoreItems = table.MoreItems
form_of forms.TheAssign = table.TheAssign
form_of forms.TheStatement = table.TheStatement
form_of forms.AfterDrop = table.AfterDrop
form_of forms.AfterLog = table.AfterLog
form_of (forms.Just x) = table.Just x
form_of (forms.Worded w) = table.Worded (spelled_as w)

abbrev pub forms_of : List Form → List table.Symbol
forms_of [] = []
forms_of (f ∷ fs) = form_of f ∷ forms_of fs

abbrev pub taking_of : Taking → table.Taking
taking_of takings.Plain = table.Plain
taking_of takings.Operator = table.Operator
taking_of takings.Separator = table.Separator
taking_of takings.Negated = table.Negated
taking_of takings.Dated = table.Dated
taking_of takings.Timed = table.Timed
taking_of (takings.Opens inner) = table.Opens (forms_of inner.now)
taking_of (takings.OperatorOpens inner) = table.OperatorOpens (forms_of inner.now)

abbrev pub row_of : Row → table.Row
row_of (lines.On x how next) = table.on x (taking_of how) (forms_of next.now)
row_of (lines.Spelt w next) = table.spelt (spelled_as w) (forms_of next.now)
row_of (lines.Before x y how next how' next') = table.before x y (taking_of how) (forms_of next.now) (taking_of how') (forms_of next'.now)

abbrev pub rows_of : List Row → List table.Row
rows_of [] = []
rows_of (r ∷ rs) = row_of r ∷ rows_of rs

-- the rows of a form; a single token has none in the list
abbrev pub listed_rows : Form → List table.Row
listed_rows (forms.Just x) = []
listed_rows (forms.Worded w) = []
listed_rows f = table.rows (form_of f)

abbrev pub turn_of : Turn → table.Turn
turn_of turns.Never = table.Never
turn_of turns.Ends = table.Ends
turn_of (turns.Takes how next) = table.Takes (taking_of how) (forms_of next.now)
