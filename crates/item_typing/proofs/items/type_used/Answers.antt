use Rattle.std.proofs.Common.{rules}
use Rattle.item_typing.proofs.items.type_used.Goals as goal

pub returns-in-Insert : goal.returns-in-Insert
returns-in-Insert c = let typed = c.type_used_insertion.ensures c.in-Insert.field-0 in search rules

pub returns-in-Delete : goal.returns-in-Delete
returns-in-Delete c = let typed = c.type_used_deletion.ensures c.in-Delete.field-0 in search rules

pub returns-in-Update : goal.returns-in-Update
returns-in-Update c = let typed = c.type_used_update.ensures c.in-Update.field-0 in search rules
