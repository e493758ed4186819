use Rattle.std.specs.Prelude.{not, ◌==◌}
use Rattle.std.specs.List.{list_any}
use Rattle.std.proofs.Common.{ℕ, rules}
use Rattle.std.proofs.lemmas.Fn.{filter_same}
use Rattle.xr_log.specs.declared.held.Slotted.{Slotted}
use Rattle.xr_log.proofs.slots.end_works.Goals as goal

pub returns-clause-table : goal.returns-clause-table
returns-clause-table c =
    filter_same _ (λ (s : Slotted). not (list_any (λ (slot : ℕ). slot == s.slot) c.args.done.now)) _ (λ x b q called. search rules) c.args.table.now.items
    c.retain.new.self.items c.retain.ensures.filtered
