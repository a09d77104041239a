-- What a declaration says at another place, and in a state where what it names is alike: the same, moved.
--     says-elsewhere      the law
--     says-stays      the same where it stays at its place
--     said-same      what is said, moved nowhere
use Rattle.std.proofs.Common.{◌≡◌, false, List, [], ◌++◌, Ok, refl, sym, ap, subst}
use Rattle.std.specs.Prelude.{Bool}
use Rattle.point_core.specs.declared.fault.Place.{Place}
use Rattle.utd_syntax.specs.Plain as syntax
use Rattle.utd_syntax.specs.Plain.{Word, PointP, HeadingP, KeyP, KeptP, StatementP}
use Rattle.value_core.specs.declared.list.OrdinalNames.{OrdinalNames}
use Rattle.value_core.specs.Values.{Name, Heading}
use Rattle.scalar_typing.specs.Names.{point_type}
use Rattle.relation_typing.specs.Headings.{heading_typed}
use Rattle.tree_core.specs.declared.declaration.HistoryData.{HistoryData}
use Rattle.tree_core.specs.Relvars.{State}
use Rattle.tree_core.specs.Trees.{Tree}
use Rattle.tree_core.specs.Uses.{names_any}
use Rattle.declaration_typing.specs.Histories.{facts_typed}
use Rattle.declaration_typing.specs.Rules.{rule_scope}
use Rattle.place_laws.specs.Moved.{moved_word, moved_point, moved_heading, moved_key, moved_kept, moved_statement}
use Rattle.place_laws.proofs.SameTrees.{statement-same}
use Rattle.meaning_laws.specs.Likeness.{Alike}
use Rattle.meaning_laws.specs.Moved.{moved_tree}
use Rattle.meaning_laws.proofs.SameMoved.{tree-same, test-same}
use Rattle.row_typing_laws.proofs.ElsewhereHeadings.{heading-follows}
use Rattle.row_typing_laws.proofs.ElsewhereNames.{point-follows, word-follows}
use Rattle.typing_laws.specs.Saying.{Said, said_ordinal, said_base, said_view, said_stored, said_history, said_rule, Says, IsSaidHistory, IsSaidStored, moved_history, moved_said, said_names_any}
use Rattle.typing_laws.proofs.ConstraintsElsewhere.{constraints-elsewhere, few-constraints-elsewhere}
use Rattle.typing_laws.proofs.DeclarationsElsewhere.{few-values-follows, ends-follow, facts-follow}
use Rattle.typing_laws.proofs.KeptElsewhere.{bases-elsewhere, kept-elsewhere}
use Rattle.typing_laws.proofs.LogsAlike.{SameLogs}
use Rattle.typing_laws.proofs.TreesElsewhere.{tree-elsewhere, test-elsewhere}

module _ (some : Name → Bool) (f : Place → Place) (s r : State) (more : List OrdinalNames) (alike : Alike some s.relvars r.relvars) (types : r.ordinals ≡ s.ordinals ++ more)
    (logs : SameLogs some s.relvars r.relvars) where
  -- beside the ordinal types there
  beside : (P : List OrdinalNames → Type 0) → P (s.ordinals ++ more) → P r.ordinals
  beside P h = subst P (sym types) h

  heading-there : (h : HeadingP) (heading : Heading) → heading_typed s.ordinals h ≡ Ok heading → heading_typed r.ordinals (moved_heading f h) ≡ Ok heading
  heading-there h heading e = beside (λ list. heading_typed list (moved_heading f h) ≡ Ok heading) (heading-follows f s.ordinals more h heading e)

  history-there : (at : Place) (v : Word) (h : HeadingP) (key : KeyP) (b p d i : Word) (t : PointP) (made : HistoryData) → IsSaidHistory s at v h key b p d i t made
      → IsSaidHistory r (f at) (moved_word f v) (moved_heading f h) (moved_key f key) (moved_word f b) (moved_word f p) (moved_word f d) (moved_word f i) (moved_point f t) (moved_history f made)
  history-there at v h key b p d i t made is = record {
    view = word-follows f v made.view is.view;
    since = word-follows f b made.since is.since;
    during = word-follows f d made.during is.during;
    facts = beside (λ list. facts_typed list (moved_heading f h) (moved_key f key) ≡ Ok (made.heading, made.key)) (facts-follow f s.ordinals more h key (made.heading, made.key) is.facts);
    over = beside (λ list. point_type list (moved_point f t) ≡ Ok made.over) (point-follows f s.ordinals more t made.over is.over);
    ends = ends-follow f made.heading p i (made.point, made.span) is.ends;
    place = ap f is.place;
  }

  stored-there : (w : Word) (kept : KeptP) (name : Name) (t : Tree) → names_any some t ≡ false → IsSaidStored s w kept name t → IsSaidStored r (moved_word f w) (moved_kept f kept) name (moved_tree f t)
  stored-there w kept name t none is = record {
    view = word-follows f w name is.view;
    last = is.last;
    bases = bases-elsewhere f some s r alike kept t is.last none is.tree is.bases;
    tree = kept-elsewhere f some s r alike more types kept t none is.tree;
  }

  pub says-elsewhere : (tree : StatementP) (d : Said) → said_names_any some d ≡ false → Says s tree d → Says r (moved_statement f tree) (moved_said f d)
  says-elsewhere (syntax.DeclareOrdinal at w values) (said_ordinal name names) none says = (word-follows f w name says.0, few-values-follows f values names says.1)
  says-elsewhere (syntax.DeclareRelvar at w (syntax.BaseRelvar there h cs)) (said_base name heading typed) none says =
      (word-follows f w name says.0, heading-there h heading says.1, constraints-elsewhere f some s r alike name heading [] cs typed none says.2, few-constraints-elsewhere f cs says.3)
  says-elsewhere (syntax.DeclareRelvar at w (syntax.View there rel)) (said_view name t) none says =
      (word-follows f w name says.0, tree-elsewhere f some s r more alike types rel t none says.1)
  says-elsewhere (syntax.DeclareRelvar at w (syntax.Kept there kept)) (said_stored name t) none says = stored-there w kept name t none says
  says-elsewhere (syntax.DeclareHistory at v h key b p d i t) (said_history made) none says = history-there at v h key b p d i t made says
  says-elsewhere (syntax.DeclareRule at w test) (said_rule name t) none says =
      (word-follows f w name says.0, test-elsewhere f some (rule_scope s) (rule_scope r) more alike types logs test t none says.1)
  says-elsewhere _ _ none says = absurd says

pub said-same : (d : Said) → moved_said (λ p. p) d ≡ d
said-same (said_ordinal name names) = refl
said-same (said_base name heading typed) = refl
said-same (said_view name t) = ap (said_view name) (tree-same t)
said-same (said_stored name t) = ap (said_stored name) (tree-same t)
said-same (said_history made) = refl
said-same (said_rule name t) = ap (said_rule name) (test-same t)

module _ (some : Name → Bool) (s r : State) (more : List OrdinalNames) (alike : Alike some s.relvars r.relvars) (types : r.ordinals ≡ s.ordinals ++ more)
    (logs : SameLogs some s.relvars r.relvars) where
  pub says-stays : (tree : StatementP) (d : Said) → said_names_any some d ≡ false → Says s tree d → Says r tree d
  says-stays tree d none says =
      let there : Says r (moved_statement (λ p. p) tree) (moved_said (λ p. p) d) = says-elsewhere some (λ p. p) s r more alike types logs tree d none says in
      subst (Says r tree) (said-same d) (subst (λ (x : StatementP). Says r x (moved_said (λ p. p) d)) (statement-same tree) there)
