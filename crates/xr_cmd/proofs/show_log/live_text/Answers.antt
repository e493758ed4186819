use Rattle.std.proofs.Common.{◌∙◌, length, sym, ap}
use Rattle.std.proofs.lemmas.List.{append_assoc}
use Rattle.xr_commit.specs.ItemsOf.{items_in}
use Rattle.xr_text.specs.LogText.{entries_text, heads_text, pending_line}
use Rattle.xr_commit.specs.Pending.{pending}
use Rattle.xr_cmd.specs.ShowLog.{all_items}
use Rattle.xr_cmd.proofs.LogItemLemmas.{joined}
use Rattle.xr_cmd.proofs.show_log.live_text.Goals as goal

pub push_entries-requires : goal.push_entries-requires
push_entries-requires c =
    ap length (c.deref-4.ensures.value ∙ sym c.deref.ensures.value) ∙ sym c.in_ok-items.ensures.number ∙ ap length (sym c.deref-5.ensures.value)

pub returns : goal.returns
returns c =
    let live = c.args.live.now in
    let lists = c.in_ok-items.items.items in
    record {
      items = items_in lists;
      are_items = rw c.deref.ensures.value at c.in_ok-items.ensures.are;
      printed = c.in_ok-push_pending.ensures ∙ (rw (c.in_ok-push_entries.ensures, c.in_ok-push_heads.ensures, c.new-text.ensures.bytes, c.deref-3.ensures.value, c.deref-4.ensures.value, c.deref-5.ensures.value, c.deref-6.ensures.value, c.in_ok-works.ensures, c.deref-2.ensures.value, joined lists)
          (append_assoc (heads_text live.heads.items) (entries_text live.entries.items (items_in lists)) (pending_line (length (pending (all_items (items_in lists)))))));
    }
