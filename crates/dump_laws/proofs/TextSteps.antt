-- A kept text that is performed anew, at the head of a script or behind a byte 10.
--     keeping-moved      a statement with its places moved is kept alike
--     of-said      what type checking gives is added to the state
--     text-first-step, text-later-step      the law
--     declared-text, declared-accepted      what is told of such a statement
use Rattle.std.proofs.Common.{◌≡◌, ℕ, Bool, true, cond, List, [], ◌∷◌, ◌++◌, Ok, Err, IfOk, refl, sym, ap, ◌∙◌, subst}
use Rattle.point_core.specs.declared.fault.Place.{Place}
use Rattle.point_core.specs.declared.fault.Code.TheVariants.{E45}
use Rattle.point_core.specs.Faults.{OrFault}
use Rattle.value_core.specs.declared.list.OrdinalNames.{OrdinalNames}
use Rattle.value_core.specs.declared.refuse.Refuse.TheVariants.{Broken}
use Rattle.tree_core.specs.Relvars.{State}
use Rattle.meaning_core.specs.Declarations.{with_rule}
use Rattle.dump_core.specs.Texts.{SourceText, kept}
use Rattle.utd_lexer.specs.Gaps.{without_gaps}
use Rattle.utd_syntax.specs.Plain as syntax
use Rattle.utd_syntax.specs.Plain.{StatementP}
use Rattle.type_check.specs.Checks.{Plain, checked, IsTypedPlain}
use Rattle.type_check.proofs.CheckLemmas.{checked-typed}
use Rattle.utd_statement.specs.Answers.{Changed, answer, of_checked, of_tree, unless_fault, if_allowed, is_accepted}
use Rattle.utd_statement.specs.Keeping.{Keeping, keeping_of, settled, texts_after}
use Rattle.utd_statement.specs.Readings.{Tree as TreeOf, IsText}
use Rattle.place_laws.specs.Moved.{moved_statement}
use Rattle.text_laws.specs.Statements.{IsOneStatement}
use Rattle.text_laws.proofs.GapFronts.{gaps-once, gaps-behind}
use Rattle.text_laws.proofs.OneStatements.{one-begun, one-behind}
use Rattle.text_laws.proofs.TextLaws.{text-first, text-later}
use Rattle.typing_laws.specs.Saying.{Said, said_ordinal, said_base, said_view, said_stored, said_history, said_rule, moved_said, plain_of, IsFree, with_said}
use Rattle.typing_laws.proofs.SaidLaws.{said-moved-names, with-ordinal, with-base, with-view, with-stored, with-history, with-said-rule}
use Rattle.typing_laws.proofs.SaysElsewhere.{says-elsewhere}
use Rattle.typing_laws.proofs.SayingLaws.{says-checked}
use Rattle.dump_laws.specs.Replays.{lacks, IsHeld, IsStepFor, Declares}

-- ---- places

pub keeping-moved : (f : Place → Place) (tree : StatementP) → keeping_of (moved_statement f tree) ≡ keeping_of tree
keeping-moved f syntax.Nothing = refl
keeping-moved f (syntax.DeclareOrdinal at w values) = refl
keeping-moved f (syntax.DeclareRelvar at w (syntax.BaseRelvar there h constraints)) = refl
keeping-moved f (syntax.DeclareRelvar at w (syntax.View there rel)) = refl
keeping-moved f (syntax.DeclareRelvar at w (syntax.Kept there kept)) = refl
keeping-moved f (syntax.DeclareLog at log source attribute) = refl
keeping-moved f (syntax.DeclareHistory at v h key b p d i t) = refl
keeping-moved f (syntax.DeclareRule at w test) = refl
keeping-moved f (syntax.Drop at w) = refl
keeping-moved f (syntax.DropRule at con w) = refl
keeping-moved f (syntax.Print at rel) = refl
keeping-moved f (syntax.Ask at test) = refl
keeping-moved f (syntax.Assignment assignment) = refl

-- ---- what is added to the state

pub of-said : (r : State) (d : Said) → IsTypedPlain r (plain_of d) → IsHeld r d → of_checked r (plain_of d) ≡ Changed (with_said r d)
of-said r (said_ordinal name names) typed h = ap Changed (with-ordinal r name names)
of-said r (said_base name heading cs) typed h = ap Changed (with-base r name heading cs)
of-said r (said_view name t) typed h = ap Changed (with-view r name t)
of-said r (said_stored name t) typed h = ap if_allowed (h typed.0) ∙ ap Changed (with-stored r name t)
of-said r (said_history made) typed h = ap Changed (with-history r made)
of-said r (said_rule name t) typed h = ap (λ (b : Bool). if_allowed (cond b (Ok (with_rule name t r)) (Err (Broken E45 name 0)))) h ∙ ap Changed (with-said-rule r name t)

-- ---- the law

module _ (w r : State) (types more : List OrdinalNames) (t : SourceText) (d : Said) (is : IsStepFor w r types more t d) where
  -- the statement is typed and performed, wherever its places lie
  typed-moved : (f : Place → Place) → checked r (moved_statement f is.text.tree) ≡ Ok (plain_of (moved_said f d))
  typed-moved f =
      let says = says-elsewhere (lacks r) f (record w { ordinals = types }) r more is.alike is.ordinals is.logs is.text.tree d is.known is.text.says in
      says-checked r (moved_statement f is.text.tree) (moved_said f d) says (subst (IsFree r) (sym (said-moved-names f d)) is.free) (is.room f)

  -- what is given can be performed
  plain-moved : (f : Place → Place) → IsTypedPlain r (plain_of (moved_said f d))
  plain-moved f = subst (λ (p : OrFault Plain). IfOk p (IsTypedPlain r)) (typed-moved f) (checked-typed r is.fits (moved_statement f is.text.tree))

  answered-moved : (f : Place → Place) → of_tree r (moved_statement f is.text.tree) ≡ Changed (with_said r (moved_said f d))
  answered-moved f = ap (unless_fault (of_checked r)) (typed-moved f) ∙ of-said r (moved_said f d) (plain-moved f) (is.held f)

  declares : (q : Place) (bytes : List ℕ) (f : Place → Place) → IsText q bytes (TreeOf (moved_statement f is.text.tree)) → without_gaps bytes ≡ t.bytes → IsOneStatement bytes
      → Declares q bytes r t d
  declares q bytes f text begun one = record {
    move = f;
    tree = moved_statement f is.text.tree;
    text = text;
    keeping = keeping-moved f is.text.tree ∙ is.text.keeping;
    typed = typed-moved f;
    answered = answered-moved f;
    begun = begun;
    one = one;
  }

  -- the text is one statement
  text-one : IsOneStatement t.bytes
  text-one = subst IsOneStatement (sym is.text.begun) (one-begun is.text.bytes is.text.one)

  pub text-first-step : (q : Place) → Declares q t.bytes r t d
  text-first-step q =
      let first = text-first is.text.place q is.text.bytes is.text.tree is.text.text in
      declares q t.bytes first.0 (subst (λ (b : List ℕ). IsText q b (TreeOf (moved_statement first.0 is.text.tree))) (sym is.text.begun) first.1)
      (ap without_gaps is.text.begun ∙ (gaps-once is.text.bytes ∙ sym is.text.begun)) text-one

  pub text-later-step : (q : Place) → Declares q (10 ∷ t.bytes) r t d
  text-later-step q =
      let later = text-later is.text.place q is.text.bytes is.text.tree is.text.text in
      declares q (10 ∷ t.bytes) later.0 (subst (λ (b : List ℕ). IsText q (10 ∷ b) (TreeOf (moved_statement later.0 is.text.tree))) (sym is.text.begun) later.1)
      (ap (λ (b : List ℕ). without_gaps (10 ∷ b)) is.text.begun ∙ (gaps-behind is.text.bytes ∙ sym is.text.begun)) (one-behind t.bytes text-one)

-- ---- what is told of such a statement

module _ (q : Place) (bytes : List ℕ) (r : State) (t : SourceText) (d : Said) (is : Declares q bytes r t d) where
  pub declared-accepted : is_accepted (answer r (TreeOf is.tree)) ≡ true
  declared-accepted = ap is_accepted is.answered

  pub declared-text : (texts : List SourceText) → texts_after bytes (TreeOf is.tree) true texts ≡ texts ++ t ∷ []
  declared-text texts = ap (λ (k : Keeping). settled k (without_gaps bytes) true texts) is.keeping ∙ ap (λ (b : List ℕ). kept t.kind t.name b texts) is.begun
