-- A fresh image's live stream is one unmount record, and it holds its own blocks with nothing pending.
use Rattle.std.proofs.Common.{◌≡◌, ◌⊎◌, ℕ, ◌<◌, ◌≤◌, ◌∙◌, List, [], ◌∷◌, length, refl, sym, subst, inl, inr, arith}
use Rattle.std.proofs.lemmas.Bool.{cases_lt}
use Rattle.std.proofs.lemmas.List.{append-nil}
use Rattle.std.proofs.lemmas.List.Elements.{All-cons, All-nil}
use Rattle.xr_base.specs.declared.geometry.TheConstants.{BLOCKS, CYCLES, UUID_BYTES}
use Rattle.xr_headers.specs.FreshImage.{fresh_image}
use Rattle.xr_headers.specs.FreshImageLaws.{block_of-fresh_image}
use Rattle.xr_headers.specs.FreshLaws.{fresh_block_of-super}
use Rattle.xr_items.specs.Transactions.{IsCoreBlock}
use Rattle.xr_items.specs.Valid.{IsBufferBlock}
use Rattle.xr_record.specs.Lsn.{lsn_number}
use Rattle.xr_record.specs.Operations.{raw_operation}
use Rattle.xr_record.specs.Rules.{IsStream}
use Rattle.xr_record.specs.Stream.{Between, Unmounting}
use Rattle.xr_record.specs.declared.entry.Entry.TheVariants.{Unmount}
use Rattle.xr_commit.specs.Chain.{IsClear}
use Rattle.xr_commit.specs.Entries.{HasEntries}
use Rattle.xr_commit.specs.LiveStream.{IsLiveIn}
use Rattle.xr_commit.specs.LogRecords.{IsHead, LogRecord, StandsAt, log_of}
use Rattle.xr_commit.specs.Operations.{HoldsOperations, KeepsUnmounts}
use Rattle.xr_commit.specs.OneRecordLaws.{one_record}
use Rattle.xr_scan.specs.FreshStateLaws.{FreshHoldsItsBlocks, FreshIsLive, unmount_head}
use Rattle.xr_scan.proofs.FreshLogLemmas.{fresh_sealed, none_later}
use Rattle.xr_scan.specs.CleanStreamLaws.{streams, unmount_body}

abbrev unmount_record : List ℕ → ℕ → LogRecord
unmount_record uuid cycle = record { head = unmount_head uuid cycle; body = unmount_body }

one_operation : (uuid : List ℕ) (cycle : ℕ) → HoldsOperations (unmount_record uuid cycle)
unfolding unmount_body raw_operation
one_operation uuid cycle = record { whole = refl; number = refl }

alone : (uuid : List ℕ) (cycle : ℕ) → KeepsUnmounts (unmount_record uuid cycle)
unfolding unmount_body raw_operation
alone uuid cycle holds = record { one = refl; own_tail = refl }

said : (uuid : List ℕ) (cycle : ℕ) → HasEntries (unmount_record uuid cycle ∷ []) (Unmount ∷ [])
said uuid cycle = record {
  each = All-cons HoldsOperations (unmount_record uuid cycle) [] (one_operation uuid cycle) (All-nil HoldsOperations);
  pieces = Unmounting ∷ [];
  o = Between;
  rest = [];
  stream = subst (λ (bytes : List ℕ). IsStream bytes (Unmounting ∷ []) Between []) (sym (append-nil unmount_body)) streams;
  entries_are = refl;
}

clear : (uuid : List ℕ) (cycle : ℕ) → IsClear (unmount_head uuid cycle) (unmount_head uuid cycle)
clear uuid cycle i near lies = let h = lies.last in absurd (omega (arith, near, h))

newest : (uuid : List ℕ) (cycle : ℕ) → length uuid ≡ UUID_BYTES → 0 < cycle → cycle < CYCLES → IsHead uuid (log_of (fresh_image uuid cycle)) (unmount_record uuid cycle)
newest uuid cycle long some small =
    let log : List ℕ = log_of (fresh_image uuid cycle) in
    let sealed = fresh_sealed uuid cycle long some small in
    record {
      at = record { stands = record { sealed = sealed; here = refl }; own = refl };
      newest = λ sector other at. elim (cases_lt 0 sector) [
        | inl later ↦ absurd (none_later uuid cycle sector other long some small later at.stands)
        | inr first ↦ (let here : sector ≡ 0 = omega (arith, first) in
            let same = one_record log 0 other (unmount_record uuid cycle) (subst (λ (s : ℕ). StandsAt log s other) here at.stands) (record { sealed = sealed; here = refl }) in
            subst (λ (r : LogRecord). lsn_number r.head.lsn ≤ lsn_number (unmount_head uuid cycle).lsn) (sym same) (omega arith))
      ];
    }

live : (uuid : List ℕ) (cycle : ℕ) → length uuid ≡ UUID_BYTES → 0 < cycle → cycle < CYCLES
    → IsLiveIn uuid (log_of (fresh_image uuid cycle)) (unmount_head uuid cycle ∷ []) (Unmount ∷ [])
live uuid cycle long some small =
    let r = unmount_record uuid cycle in
    record {
      head = r;
      newest = newest uuid cycle long some small;
      records = r ∷ [];
      chain = record { oldest = r; later = []; records_are = refl; trail = refl; ends = refl };
      reserve = All-cons (IsClear r.head) r.head [] (clear uuid cycle) (All-nil (IsClear r.head));
      unmounts = All-cons KeepsUnmounts r [] (alone uuid cycle) (All-nil KeepsUnmounts);
      heads_are = refl;
      entries_are = said uuid cycle;
      last = 0;
      items = refl;
    }

pub fresh_is_live : FreshIsLive
unfolding live unmount_body
fresh_is_live uuid cycle long some small = (live uuid cycle long some small, refl)

within : (block : ℕ) → IsCoreBlock block ⊎ IsBufferBlock block → block < BLOCKS
within block (inl core) = let h = core.last in omega (arith, h)
within block (inr (inl pool)) = let h = pool.last in omega (arith, h)
within block (inr (inr group)) = let g = group.group in let d = group.before_data in let f = group.first in omega (arith, g, d, f)

pub fresh_holds : FreshHoldsItsBlocks
fresh_holds uuid cycle long some small = record {
  superblock = record { whole = long; block = block_of-fresh_image uuid cycle 0 (omega arith) ∙ fresh_block_of-super uuid cycle };
  heads = unmount_head uuid cycle ∷ [];
  entries = Unmount ∷ [];
  live_in = live uuid cycle long some small;
  logged = [];
  log_all = refl;
  blocks = λ block has. sym (block_of-fresh_image uuid cycle block (within block has));
  works = refl;
}
