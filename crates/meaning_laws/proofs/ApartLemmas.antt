-- States of which all names are known, and those of which all that are declared are.
--     none-named, none-test-named, none-apart      no name is unknown
--     declared-apart      the names that have no entry are unknown
--     names-fewer, view-fewer      fewer names are unknown
use Rattle.std.proofs.Common.{◌≡◌, ℕ, Bool, false, not, List, [], ◌∷◌, ◌++◌, refl, sym, ap, ◌∙◌, append_assoc}
use Rattle.std.specs.Prelude.{◌||◌}
use Rattle.std.proofs.lemmas.Bool.{or_parts, not-false, not_from_true}
use Rattle.value_core.specs.Values.{Name}
use Rattle.tree_core.specs.Relvars.{PlainRelvar, base, view, Entries, log}
use Rattle.tree_core.specs.Trees.{Tree, named, literal, infix_of, project, rename, restrict, extend, summarize, pack, unpack, using, Test, relate, is_empty, is_not_empty}
use Rattle.tree_core.specs.Uses.{names_any, test_names_any}
use Rattle.meaning_core.specs.WellMade.{AreRelvars}
use Rattle.meaning_core.proofs.ElsewhereLemmas.{view_names, IsApart}
use Rattle.meaning_laws.specs.Likeness.{has_entry}
use Rattle.meaning_laws.proofs.EachAlike.{relvar-has}
use Rattle.meaning_laws.proofs.EntriesFound.{has-more}

-- ---- no name is unknown

pub none-named : (t : Tree) → names_any (λ name. false) t ≡ false
none-named (named place h name) = refl
none-named (literal place h tuples) = refl
none-named (infix_of place h word l r) = λ i. none-named l i || none-named r i
none-named (project place h kept t) = none-named t
none-named (rename place h names t) = none-named t
none-named (restrict place h c t) = none-named t
none-named (extend place h sets t) = none-named t
none-named (summarize place h by aggregates t) = none-named t
none-named (pack place h commalist t) = none-named t
none-named (unpack place h commalist t) = none-named t
none-named (using place h commalist t) = none-named t

pub none-test-named : (t : Test) → test_names_any (λ name. false) t ≡ false
none-test-named (relate place word commalist l r) = λ i. none-named l i || none-named r i
none-test-named (is_empty place t) = none-named t
none-test-named (is_not_empty place t) = none-named t

none-view : (x : PlainRelvar) → view_names (λ name. false) x ≡ false
none-view (base value constraints) = refl
none-view (view t kind) = none-named t
none-view (log of side last value) = refl

pub none-apart : (es : Entries) → IsApart (λ name. false) es
none-apart [] = tt
none-apart (e ∷ es) = (λ q. none-view e.1, none-apart es)

-- ---- names without an entry

-- what names none of some names none of fewer names
module _ (some more : Name → Bool) (fewer : (name : Name) → some name ≡ false → more name ≡ false) where
  pub names-fewer : (t : Tree) → names_any some t ≡ false → names_any more t ≡ false
  names-fewer (named place h name) none = fewer name none
  names-fewer (literal place h tuples) none = refl
  names-fewer (infix_of place h word l r) none = let parts = or_parts (names_any some l) (names_any some r) none in λ i. names-fewer l parts.0 i || names-fewer r parts.1 i
  names-fewer (project place h kept t) none = names-fewer t none
  names-fewer (rename place h names t) none = names-fewer t none
  names-fewer (restrict place h c t) none = names-fewer t none
  names-fewer (extend place h sets t) none = names-fewer t none
  names-fewer (summarize place h by aggregates t) none = names-fewer t none
  names-fewer (pack place h commalist t) none = names-fewer t none
  names-fewer (unpack place h commalist t) none = names-fewer t none
  names-fewer (using place h commalist t) none = names-fewer t none

  pub view-fewer : (x : PlainRelvar) → view_names some x ≡ false → view_names more x ≡ false
  view-fewer (base value constraints) none = refl
  view-fewer (view t kind) none = names-fewer t none
  view-fewer (log of side last value) none = refl

-- the entries before a relvar or view are among all
declared-from : (sizes : List ℕ) (es before rest : Entries) → es ≡ before ++ rest → AreRelvars sizes before rest → IsApart (λ name. not (has_entry es name)) rest
declared-from sizes es before [] whole all = tt
declared-from sizes es before (e ∷ rest) whole all =
    let fewer : (name : Name) → not (has_entry before name) ≡ false → not (has_entry es name) ≡ false = λ name q.
    ap (λ (l : Entries). not (has_entry l name)) whole ∙ not_from_true (has_entry (before ++ e ∷ rest) name) (has-more before (e ∷ rest) name (not-false (has_entry before name) q)) in (
      λ q. view-fewer (λ name. not (has_entry before name)) (λ name. not (has_entry es name)) fewer e.1 (relvar-has before sizes e.0 e.1 all.0),
      declared-from sizes es (before ++ e ∷ []) rest (whole ∙ sym (append_assoc before (e ∷ []) rest)) all.1,
    )

pub declared-apart : (sizes : List ℕ) (es : Entries) → AreRelvars sizes [] es → IsApart (λ name. not (has_entry es name)) es
declared-apart sizes es all = declared-from sizes es [] es refl all
