-- The law of a condition as a rule on rows.
use Rattle.std.proofs.Common.{◌≡◌, ℕ, ℤ, List, [], ◌∷◌, get_or, subst}
use Rattle.interval_core.specs.Members.{Span}
use Rattle.point_core.specs.Points.{number}
use Rattle.point_core.specs.declared.any_type.AnyPoint.{AnyPoint}
use Rattle.cell_packing.specs.Covering.{Among}
use Rattle.cell_packing.specs.Packed.{Has}
use Rattle.value_core.specs.Values.{Row}
use Rattle.value_core.specs.declared.kind.Kind.TheVariants.{Truth}
use Rattle.scalar_core.specs.Expressions.{Expr}
use Rattle.scalar_core.specs.Kinds.{IsTypedOver}
use Rattle.cell_core.specs.Cells.{box_numbers}
use Rattle.u_row.specs.Cutting.{AreCutsFrom, cells_of}
use Rattle.eval_using.specs.BoxedLaws.{sides_there, own_fits, inside_from}
use Rattle.eval_using.specs.Swept.{CanSweep, met, swept_cuts, swept_rows}
use Rattle.eval_using.specs.SteadyLaws.{swept_steady}

pub steady_there : (commalist : List ℕ) (c : Expr) (rows : List Row) (boxes : List (Row × List (AnyPoint × AnyPoint))) (row : ℕ) (h : CanSweep commalist c rows boxes row) (cell : List Span) (ps qs : List ℤ)
    → Among cell (cells_of (swept_cuts commalist (c ∷ []) rows row) (box_numbers number (get_or boxes row ([], [])).1)) → Has cell ps → Has cell qs
    → swept_rows commalist commalist (met c) rows row ps ≡ swept_rows commalist commalist (met c) rows row qs
steady_there commalist c rows boxes row h cell ps qs m a b =
    let x : Row = get_or rows row [] in
    let e = sides_there commalist rows boxes row h.boxed in
    let typed : IsTypedOver x c = (h.boxed.heading, Truth, own_fits commalist rows boxes row h.boxed, h.typed) in
    swept_steady commalist c x typed h.sweepable (subst (AreCutsFrom (swept_cuts commalist (c ∷ []) rows row) 0) e (inside_from commalist rows boxes row h.boxed (c ∷ []))) cell ps qs
    (subst (λ (box : List Span). Among cell (cells_of (swept_cuts commalist (c ∷ []) rows row) box)) e m) a b
