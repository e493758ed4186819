-- A file's work that is done is rolled.
use Rattle.std.proofs.Common.{◌≡◌, ◌≢◌, ℕ, ◌+◌, ◌-◌, true, cond, eqb, List, [], Some, refl, sym, ◌∙◌, ap, ⊎_elim, arith}
use Rattle.std.proofs.lemmas.Bool.{cases_eq, eq-eqb, ne_eqb}
use Rattle.xr_balance.specs.RollGives.{Moves}
use Rattle.xr_balance.specs.Settled.{Committed}
use Rattle.xr_balance.specs.Works.{in_offsets}
use Rattle.xr_base.specs.Address.{address_after}
use Rattle.xr_base.specs.declared.address.FileNo.{FileNo}
use Rattle.xr_base.specs.declared.address.Run.{Run}
use Rattle.xr_bmap.specs.File.{AreFileStates, FileState, PunchesFile, RemapsFile, slot_of_file}
use Rattle.xr_bmap.specs.Slots.{IsHole}
use Rattle.xr_chain.proofs.AwayLemmas.{bounds}
use Rattle.xr_chain.proofs.FileLemmas.{address_elsewhere, address_here, listed_after}
use Rattle.xr_chain.proofs.MoveLemmas.{has_any, has_block, put_any, put_block, took_any, took_block}
use Rattle.xr_chain.proofs.ReadinessLemmas.{same_file}
use Rattle.xr_chain.specs.ChainView.{file_at, need_of}
use Rattle.xr_chain.specs.CommittedBlocks.{IsListed, committed_of, with_state}
use Rattle.xr_chain.specs.Events.{RollsFile}
use Rattle.xr_chain.specs.FileWorks.{DoesFileWork}
use Rattle.xr_chain.specs.Readiness.{IsFileReady, IsMappedTo}
use Rattle.xr_chain.specs.declared.chain.Need.TheVariants as need
use Rattle.xr_group.specs.Group.{GroupState}
use Rattle.xr_items.specs.declared.work.MapKind.TheVariants as Mapping
use Rattle.xr_items.specs.declared.work.Work.{Work}
use Rattle.xr_items.specs.declared.work.Work.TheVariants.{Count, Free, Map, Own, Swap}
use Rattle.xr_maps.specs.FileMaps.{address_at}
use Rattle.xr_maps.specs.Holdings.{in_layout}
use Rattle.xr_maps.specs.Steps.{is_within}

-- what is mapped at the offsets of a run
pub mapped_at : (f : FileState) (off : ℕ) (run : Run) → IsMappedTo f off run → (o : ℕ) → is_within off run.len o ≡ true
    → slot_of_file f o ≡ Some (address_after run.start (o - off))
mapped_at f off run mapped o within =
    let inside = bounds off run.len o within in
    let at : off + (o - off) ≡ o = omega (arith, inside.0) in
    ap (slot_of_file f) (sym at) ∙ mapped (o - off) (omega (arith, inside.0, inside.1))

module _ (files : List FileState) (groups : List GroupState) (old new : FileState) (listed : IsListed files old) (number : new.number ≡ old.number)
    (are : AreFileStates old) (now : AreFileStates new) (file : FileNo) (same : file.0 ≡ old.number) (off : ℕ) (run : Run) where
  abbrev C : Committed
  C = committed_of files groups

  abbrev C' : Committed
  C' = committed_of (with_state files new) groups

  before : (f o : ℕ) → f ≡ old.number → address_at C.maps f o ≡ slot_of_file old o
  before f o here = ap (λ k. address_at C.maps k o) here ∙ address_here files old listed are o

  after : (f o : ℕ) → f ≡ old.number → address_at C'.maps f o ≡ slot_of_file new o
  after f o here = ap (λ k. address_at C'.maps k o) (here ∙ sym number) ∙ address_here (with_state files new) new (listed_after files old new listed number) now o

  named : (f : ℕ) → f ≡ old.number → (n : ℕ) → cond (eqb file.0 f) n 0 ≡ n
  named f here n = ap (λ t. cond t n 0) (eq-eqb file.0 f (same ∙ sym here))

  unnamed : (f : ℕ) → f ≢ old.number → (n : ℕ) → cond (eqb file.0 f) n 0 ≡ 0
  unnamed f other n = ap (λ t. cond t n 0) (ne_eqb file.0 f (λ h. other (sym h ∙ same)))

  maps_run : RemapsFile off run.len run.start old new → IsHole (slot_of_file old) off run.len → Moves C (Map Mapping.Map file off run) C'
  maps_run done hole = record {
    groups = refl;
    maps = λ f o b. ⊎_elim
        (λ (here : f ≡ old.number).
        omega (
          arith,
          ap (has_block b) (before f o here),
          ap (has_block b) (after f o here),
          named f here (in_layout b o off run),
          put_block off run o (slot_of_file old o) (slot_of_file new o) (done o) (hole o) b,
        ))
        (λ (other : f ≢ old.number).
        omega (arith, ap (has_block b) (address_elsewhere files old new listed number f o other), unnamed f other (in_layout b o off run)))
        (cases_eq f old.number);
    mapped = λ f o. ⊎_elim
        (λ (here : f ≡ old.number).
        omega (
          arith,
          ap has_any (before f o here),
          ap has_any (after f o here),
          named f here (in_offsets o off run),
          put_any off run o (slot_of_file old o) (slot_of_file new o) (done o) (hole o),
        ))
        (λ (other : f ≢ old.number).
        omega (arith, ap has_any (address_elsewhere files old new listed number f o other), unnamed f other (in_offsets o off run)))
        (cases_eq f old.number);
    pairs = λ f o b. refl;
    staging_pairs = λ b. refl;
    staged = λ b. refl;
  }

  unmaps_run : PunchesFile off run.len old new → IsMappedTo old off run → Moves C (Map Mapping.Unmap file off run) C'
  unmaps_run done mapped = record {
    groups = refl;
    maps = λ f o b. ⊎_elim
        (λ (here : f ≡ old.number).
        omega (
          arith,
          ap (has_block b) (before f o here),
          ap (has_block b) (after f o here),
          named f here (in_layout b o off run),
          took_block off run o (slot_of_file old o) (slot_of_file new o) (done o) (mapped_at old off run mapped o) b,
        ))
        (λ (other : f ≢ old.number).
        omega (arith, ap (has_block b) (address_elsewhere files old new listed number f o other), unnamed f other (in_layout b o off run)))
        (cases_eq f old.number);
    mapped = λ f o. ⊎_elim
        (λ (here : f ≡ old.number).
        omega (
          arith,
          ap has_any (before f o here),
          ap has_any (after f o here),
          named f here (in_offsets o off run),
          took_any off run o (slot_of_file old o) (slot_of_file new o) (done o) (mapped_at old off run mapped o),
        ))
        (λ (other : f ≢ old.number).
        omega (arith, ap has_any (address_elsewhere files old new listed number f o other), unnamed f other (in_offsets o off run)))
        (cases_eq f old.number);
    pairs = λ f o b. refl;
    staging_pairs = λ b. refl;
    staged = λ b. refl;
  }

pub rolls_file : (old new : FileState) (work : Work) → AreFileStates old → AreFileStates new → new.number ≡ old.number
    → need_of work ≡ need.File (file_at old.number) → IsFileReady old work → DoesFileWork old new work → RollsFile old new work []
rolls_file old new (Map Mapping.Map file off run) are now number needs ready done files groups listed = record {
  moves = maps_run files groups old new listed number are now file (same_file file.0 old.number needs) off run done ready;
  counted = λ b. refl;
  free = λ b. refl;
  new_is = refl;
}
rolls_file old new (Map Mapping.Unmap file off run) are now number needs ready done files groups listed = record {
  moves = unmaps_run files groups old new listed number are now file (same_file file.0 old.number needs) off run done ready;
  counted = λ b. refl;
  free = λ b. refl;
  new_is = refl;
}
rolls_file old new (Own kind owner off run) are now number needs ready done files groups listed = absurd done
rolls_file old new (Count kind run) are now number needs ready done files groups listed = absurd done
rolls_file old new (Free run) are now number needs ready done files groups listed = absurd done
rolls_file old new (Swap file off other other_off len) are now number needs ready done files groups listed = absurd done
