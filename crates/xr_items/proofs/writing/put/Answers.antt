use Rattle.std.proofs.Common.{arith}
use Rattle.xr_items.specs.declared.item.Item.TheVariants.{Buf, Inode, Begin, Done}
use Rattle.xr_items.specs.ItemLaws.{item_within}
use Rattle.xr_items.proofs.writing.put.Goals as goal

pub returns-in-Buf-clause-within : goal.returns-in-Buf-clause-within
returns-in-Buf-clause-within c = omega (arith, item_within (Buf c.in-Buf.sector), c.put_buf.ensures.length)

pub returns-in-Inode-clause-within : goal.returns-in-Inode-clause-within
returns-in-Inode-clause-within c = omega (arith, item_within (Inode c.in-Inode.ino), c.put_short.ensures.length)

pub returns-in-Begin-clause-within : goal.returns-in-Begin-clause-within
returns-in-Begin-clause-within c = omega (arith, item_within (Begin c.in-Begin.id c.in-Begin.work), c.put_work.ensures.length)

pub returns-in-Done-clause-within : goal.returns-in-Done-clause-within
returns-in-Done-clause-within c = omega (arith, item_within (Done c.in-Done.id c.in-Done.of), c.put_done.ensures.length)
