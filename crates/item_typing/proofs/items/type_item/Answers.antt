use Rattle.std.proofs.Common.{rules}
use Rattle.item_typing.proofs.items.type_item.Goals as goal

pub returns-in-Update-default-default-Of-default-default : goal.returns-in-Update-default-default-Of-default-default
returns-in-Update-default-default-Of-default-default c = let typed = c.type_portion_update.ensures c.in-Update-default-default-Of-default-default.field-2-0 in search rules
