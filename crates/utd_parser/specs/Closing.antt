-- Forms that end before each token that closes.
use Rattle.std.specs.Prelude.{Bool, true, false}
use Rattle.utd_parser.specs.declared.form.Form.{Form}
use Rattle.utd_parser.specs.declared.form.Form.TheVariants as forms

-- the form goes on with none of the tokens that close what stands before them
abbrev pub ends_at_closing : Form → Bool
ends_at_closing forms.AfterName = true
ends_at_closing forms.MoreProd = true
ends_at_closing forms.MoreSum = true
ends_at_closing forms.MoreCmp = true
ends_at_closing forms.MoreAnd = true
ends_at_closing forms.MoreOr = true
ends_at_closing forms.MaybePortion = true
ends_at_closing forms.MaybeWhere = true
ends_at_closing forms.MorePostfix = true
ends_at_closing forms.MoreInfix = true
ends_at_closing forms.MoreConstraints = true
ends_at_closing _ = false
