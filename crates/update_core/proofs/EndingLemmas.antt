-- The law that what an item other than TERMINATE means in a state is what it stands for in any.
use Rattle.std.specs.Prelude.{◌≡◌, refl}
use Rattle.tree_core.specs.Items.{PlainItemForm, set_to, insert, delete, delete_rows, update, terminate, PlainItem}
use Rattle.tree_core.specs.Relvars.{Entries}
use Rattle.update_core.specs.Endings.{meant_by_form, meant_by}
use Rattle.update_core.specs.Updates.{expanded, IsExpandable}

form-meant : (entries : Entries) (item : PlainItem) (form : PlainItemForm) → IsExpandable form → meant_by_form entries item form ≡ expanded item
form-meant entries item (set_to t) other = refl
form-meant entries item (insert commalist t) other = refl
form-meant entries item (delete commalist t) other = refl
form-meant entries item (delete_rows change) other = refl
form-meant entries item (update change sets) other = refl
form-meant entries item (terminate at place condition) other = absurd other

pub expanded-meant : (entries : Entries) (item : PlainItem) → IsExpandable item.form → meant_by entries item ≡ expanded item
expanded-meant entries item other = form-meant entries item item.form other
