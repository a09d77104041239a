-- Unpacked boxes compare as the unpacked rows do.
use Rattle.std.proofs.Common.{◌≡◌, ℕ, List, length, map}
use Rattle.base_core.specs.Sets.{is_within, are_same}
use Rattle.base_core.proofs.SetLemmas.{In, Ascends}
use Rattle.value_core.specs.Order.{row_total, row_separates}
use Rattle.value_core.specs.RowPacking.{unpacked}
use Rattle.value_core.specs.Values.{Row, Heading, row_cmp}
use Rattle.cell_packing.specs.Boxed.{unpacked_boxes}
use Rattle.u_set.specs.Boxes.{AreIntervals, IsShaped, boxed, unboxed}
use Rattle.u_set.proofs.BoxLemmas.{unboxed-boxed}
use Rattle.u_set.proofs.BridgeLemmas.{box_cmp, box_total, box_separates, unpacked_image}
use Rattle.u_set.proofs.ImageLemmas.{within_alike, same_alike}

module _ (heading : Heading) (commalist : List ℕ) (intervals : AreIntervals heading commalist) (r s : List Row) (up : Ascends row_cmp r) (up' : Ascends row_cmp s)
    (shaped : (x : Row) → In x r → IsShaped heading commalist x) (shaped' : (x : Row) → In x s → IsShaped heading commalist x) where
  pub within_rows : is_within box_cmp (unpacked_boxes row_cmp (length commalist) (map (boxed commalist) r)) (unpacked_boxes row_cmp (length commalist) (map (boxed commalist) s)) ≡ is_within row_cmp (unpacked commalist r) (unpacked commalist s)
  within_rows =
      within_alike row_cmp row_total row_separates box_cmp box_total box_separates (IsShaped heading commalist) (boxed commalist) (unboxed heading commalist) (unboxed-boxed heading commalist intervals)
      (unpacked commalist r) (unpacked commalist s) (unpacked_boxes row_cmp (length commalist) (map (boxed commalist) r)) (unpacked_boxes row_cmp (length commalist) (map (boxed commalist) s))
      (unpacked_image heading commalist intervals r up shaped) (unpacked_image heading commalist intervals s up' shaped')

  pub same_rows : are_same box_cmp (unpacked_boxes row_cmp (length commalist) (map (boxed commalist) r)) (unpacked_boxes row_cmp (length commalist) (map (boxed commalist) s)) ≡ are_same row_cmp (unpacked commalist r) (unpacked commalist s)
  same_rows =
      same_alike row_cmp row_total row_separates box_cmp box_total box_separates (IsShaped heading commalist) (boxed commalist) (unboxed heading commalist) (unboxed-boxed heading commalist intervals)
      (unpacked commalist r) (unpacked commalist s) (unpacked_boxes row_cmp (length commalist) (map (boxed commalist) r)) (unpacked_boxes row_cmp (length commalist) (map (boxed commalist) s))
      (unpacked_image heading commalist intervals r up shaped) (unpacked_image heading commalist intervals s up' shaped')
