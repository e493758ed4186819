-- An exchange whose works were asked for is rolled.
use Rattle.std.proofs.Common.{◌≡◌, ℕ, List, refl, sym, ◌∙◌, ap, subst}
use Rattle.xr_balance.specs.RollGives.{RollGives}
use Rattle.xr_base.specs.declared.address.FileNo.{FileNo}
use Rattle.xr_bmap.specs.File.{AreFileStates, FileState}
use Rattle.xr_chain.proofs.FileLemmas.{address_here}
use Rattle.xr_chain.specs.ChainView.{file_at, need_of}
use Rattle.xr_chain.specs.CommittedBlocks.{IsListed, committed_of}
use Rattle.xr_chain.specs.Events.{RollsPair}
use Rattle.xr_chain.specs.ExchangeParts.{HasFile, LeavesWorks, swap_of}
use Rattle.xr_chain.specs.declared.chain.Need.{Need}
use Rattle.xr_chain.specs.declared.chain.Need.TheVariants as need
use Rattle.xr_chain.specs.declared.exchange.Ranges.{Ranges}
use Rattle.xr_group.specs.Group.{GroupState}
use Rattle.xr_items.specs.declared.work.Work.{Work}
use Rattle.xr_maps.specs.FileMaps.{address_at}

-- the files that an exchange needs are those of its work
same_pair : (r : Ranges) (one two : FileState) → need_of (swap_of r) ≡ need.Pair (file_at one.number) (file_at two.number) → (r.file.0 ≡ one.number) × (r.other.0 ≡ two.number)
same_pair r one two needs =
    let first : Need → ℕ = λ n. elim n [ need.Pair file other ↦ file.0 | _ ↦ 0 ] in
    let second : Need → ℕ = λ n. elim n [ need.Pair file other ↦ other.0 | _ ↦ 0 ] in
    (ap first needs, ap second needs)

has_listed : (files : List FileState) (groups : List GroupState) (file : FileNo) (f : FileState) → IsListed files f → AreFileStates f → file.0 ≡ f.number
    → HasFile (committed_of files groups).maps file f
has_listed files groups file f listed are same o = ap (λ k. address_at (committed_of files groups).maps k o) same ∙ address_here files f listed are o

pub rolls_pair : (one two : FileState) (work : Work) (r : Ranges) (left : List Work) → AreFileStates one → AreFileStates two → work ≡ swap_of r
    → need_of work ≡ need.Pair (file_at one.number) (file_at two.number) → LeavesWorks one two r left → RollsPair one two work left
rolls_pair one two work r left are too is needs leaves files groups first second =
    let same = same_pair r one two (ap need_of (sym is) ∙ needs) in
    let maps = (committed_of files groups).maps in
    subst (λ (w : Work). RollGives (committed_of files groups) w (committed_of files groups) left) (sym is) (record {
      keeps = record { groups = refl; maps = refl; pairs = λ f o b. refl; staging_pairs = λ b. refl; staged = λ b. refl };
      counted = λ b. refl;
      free = λ b. refl;
      piece = leaves maps (has_listed files groups r.file one first are same.0) (has_listed files groups r.other two second too same.1);
    })
