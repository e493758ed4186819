-- A group that is opened stands where its header says, and its trees part the pool.
use Rattle.std.proofs.Common.{◌≡◌, ℕ, zero, suc, ◌*◌, ◌/◌, ◌<◌, ◌≤◌, List, [], ◌∷◌, ◌++◌, length, take, get_or, slice_index, refl, sym, ap, subst, ◌∙◌, inl, inr, ⊎_elim, arith}
use Rattle.std.proofs.lemmas.Bool.{cases_lt}
use Rattle.std.proofs.lemmas.Bool.Decides.{nat_tests}
use Rattle.std.proofs.lemmas.List.{append_assoc}
use Rattle.std.proofs.lemmas.List.Elements.{Contains-append_cases, Contains-append_left, Contains-append_right}
use Rattle.std.specs.List.{Contains}
use Rattle.xr_base.specs.Image.{block_of, part}
use Rattle.xr_base.specs.declared.geometry.TheConstants.{BLOCK_BYTES, FIRST_DATA_BLOCK, GROUPS, UUID_BYTES}
use Rattle.xr_block.specs.Trees.{blocks_of_tree}
use Rattle.xr_block.specs.declared.root.Root.{Root}
use Rattle.xr_group.proofs.PartLemmas.{owned_part}
use Rattle.xr_group.specs.Group.{HasGroupHead, IsGroup, first_of_group, group_no, group_pool, head_of_blocks, root_at, trees_of_blocks, trees_of_head}
use Rattle.xr_group.specs.OpenGroup.{AreApartTrees, RefusesGroup, blocks_of_three, blocks_of_trees, opened_group}
use Rattle.xr_group.specs.Opening.{OpensHead, RefusesPool}
use Rattle.xr_group.specs.Parts.{AreGroupParts, HasGroup, IsPart, head_of, group_state_of}
use Rattle.xr_group.specs.Trees.{HasGroupTrees, parts_of}
use Rattle.xr_group.specs.declared.trees.Trees.{Trees}
use Rattle.xr_headers.specs.Headers.{IsGroupHead, group_block, group_fields, group_in, group_opening}
use Rattle.xr_headers.specs.FirstWrong.{NamesGroupField}
use Rattle.xr_headers.specs.HeaderValueLaws.{group_in-group_block}
use Rattle.xr_headers.specs.declared.codec.HeaderFault.{HeaderFault}
use Rattle.xr_base.specs.declared.address.GroupNo.{GroupNo}
use Rattle.xr_open.specs.PoolStateLaws.{first_block_is_front, parts_of_front_stay, pool_same}
use Rattle.xr_open.specs.declared.fault.OpenFault.{OpenFault}
use Rattle.xr_open.specs.declared.fault.OpenFault.TheVariants.{Header, NoMemory, Tree}
use Rattle.xr_headers.specs.Padded.{words}
use Rattle.xr_headers.specs.ReadBackLaws.{read_back}
use Rattle.xr_headers.specs.declared.group_head.GroupHead.{GroupHead}
use Rattle.xr_headers.specs.declared.layout.TheConstants.{BLOCK_CRC, UUID_PLACE}
use Rattle.xr_kinds.specs.Reverse.{reverse_form}
use Rattle.xr_pool.specs.Overlay.{AreWhole, Blocks, blocks_in, opened, owner_of, pool_size}
use Rattle.xr_pool.specs.OverlayLaws.{length-blocks_in, none_changed}
use Rattle.xr_pool.specs.Room.{HoldAllUsed}
use Rattle.xr_refcount.specs.Refcount.{reference_blocks}
use Rattle.xr_space.specs.Space.{space_blocks}

-- where the blocks stand, and whose they are

owner_is : (number : ℕ) → number < GROUPS → owner_of (first_of_group number) ≡ number
owner_is number known = grind (arith, nat_tests)

group_uuid : (head : GroupHead) → length head.uuid ≡ UUID_BYTES → part UUID_PLACE UUID_BYTES (group_block head) ≡ head.uuid
unfolding group_fields
group_uuid head whole =
    read_back BLOCK_CRC BLOCK_BYTES UUID_PLACE UUID_BYTES (group_fields head) (group_opening head) head.uuid (words head.roots ++ words head.levels ++ head.free)
    (simp append_assoc) refl whole (omega arith) (omega arith)

uuid_is : (bytes : List ℕ) (head : GroupHead) → length head.uuid ≡ UUID_BYTES → block_of bytes 0 ≡ group_block head → part UUID_PLACE UUID_BYTES bytes ≡ head.uuid
uuid_is bytes head whole is =
    sym (parts_of_front_stay BLOCK_BYTES UUID_PLACE UUID_BYTES bytes (omega arith)) ∙ ap (part UUID_PLACE UUID_BYTES) is ∙ group_uuid head whole

-- the header's own block is no header of this group
pub head_refused : (number : ℕ) (uuid bytes front : List ℕ) (fault : HeaderFault) → front ≡ take BLOCK_BYTES bytes → fault.block ≡ first_of_group number
    → NamesGroupField front (group_in front (group_no number) uuid) fault.field
    → ((v : GroupHead) → IsGroupHead v → v.group ≡ group_no number → v.uuid ≡ uuid → front ≡ group_block v → ⊥)
    → RefusesGroup number uuid (blocks_in FIRST_DATA_BLOCK bytes) (Header fault)
head_refused number uuid bytes front fault is_front place named never =
    let zero : front ≡ get_or (blocks_in FIRST_DATA_BLOCK bytes) 0 [] = is_front ∙ sym (first_block_is_front 511 bytes) in (
      place,
      inl (
        λ has. never (head_of_blocks number uuid (blocks_in FIRST_DATA_BLOCK bytes)) has.valid refl refl (zero ∙ has.head),
        subst (λ (bs : List ℕ). NamesGroupField bs (group_in bs (group_no number) uuid) fault.field) zero named,
      ),
    )

-- it is one: the overlay is the pool that the blocks are
module _ (number : ℕ) (uuid bytes front : List ℕ) (head : GroupHead) (known : number < GROUPS) (long : length uuid ≡ UUID_BYTES)
    (room : length bytes ≡ FIRST_DATA_BLOCK * BLOCK_BYTES) (is_front : front ≡ take BLOCK_BYTES bytes)
    (right : IsGroupHead head × (head.group ≡ group_no number) × (head.uuid ≡ uuid) × (front ≡ group_block head)) where
  abbrev blocks : List (List ℕ)
  blocks = blocks_in FIRST_DATA_BLOCK bytes

  zero_read : get_or blocks 0 [] ≡ group_block head
  zero_read = first_block_is_front 511 bytes ∙ sym is_front ∙ right.3

  whole_uuid : length head.uuid ≡ UUID_BYTES
  whole_uuid = ap length right.2 ∙ long

  head_found : head_of_blocks number uuid blocks ≡ head
  head_found =
      ap (λ (bs : List ℕ). group_in bs (group_no number) uuid) zero_read
      ∙ ap (λ (g : GroupNo). group_in (group_block head) g uuid) (sym right.1)
      ∙ ap (group_in (group_block head) head.group) (sym right.2)
      ∙ group_in-group_block head right.0 whole_uuid

  pub opens_head : (b : Blocks) → b ≡ opened (first_of_group number) bytes head.free → OpensHead number uuid bytes b head
  opens_head b over =
      let count : length bytes / BLOCK_BYTES ≡ FIRST_DATA_BLOCK = omega (arith, room) in
      record {
        over = over
            ∙ pool_same (blocks_in (length bytes / BLOCK_BYTES) bytes) blocks _ _ _ _ _ _ _ _ (ap (λ (n : ℕ). blocks_in n bytes) count)
            (ap (λ (h : GroupHead). h.free) (sym head_found)) refl (owner_is number known)
            (uuid_is bytes head whole_uuid (sym is_front ∙ right.3) ∙ right.2);
        head_is = sym head_found;
        has_head = record { valid = subst IsGroupHead (sym head_found) right.0; head = zero_read ∙ ap group_block (sym head_found) };
        long = long;
      }

-- a refusal of the overlay's trees is one of the blocks
refuses_pool : (number : ℕ) (uuid bytes : List ℕ) (b : Blocks) (head : GroupHead) (fault : OpenFault) → OpensHead number uuid bytes b head
    → RefusesPool b (trees_of_head head) fault
    → RefusesPool (group_pool number uuid (blocks_in FIRST_DATA_BLOCK bytes)) (trees_of_blocks number uuid (blocks_in FIRST_DATA_BLOCK bytes)) fault
refuses_pool number uuid bytes b head fault made refused =
    subst (λ (h : GroupHead). RefusesPool (group_pool number uuid (blocks_in FIRST_DATA_BLOCK bytes)) (trees_of_head h) fault) made.head_is
    (subst (λ (a : Blocks). RefusesPool a (trees_of_head head) fault) made.over refused)

pub refuses_group : (number : ℕ) (uuid bytes : List ℕ) (b : Blocks) (head : GroupHead) (fault : OpenFault) → OpensHead number uuid bytes b head
    → RefusesPool b (trees_of_head head) fault → RefusesGroup number uuid (blocks_in FIRST_DATA_BLOCK bytes) fault
refuses_group number uuid bytes b head NoMemory made refused = tt
refuses_group number uuid bytes b head (Tree fault) made refused = (made.has_head, refuses_pool number uuid bytes b head (Tree fault) made refused)
refuses_group number uuid bytes b head (Header fault) made refused =
    let is = refuses_pool number uuid bytes b head (Header fault) made refused in (is.0, inr (made.has_head, is.1))

pub opened_size : (number : ℕ) (uuid bytes : List ℕ) (b : Blocks) (head : GroupHead) → OpensHead number uuid bytes b head → pool_size b ≡ FIRST_DATA_BLOCK
opened_size number uuid bytes b head made = ap (λ (a : Blocks). pool_size a) made.over ∙ length-blocks_in FIRST_DATA_BLOCK bytes

-- the trees are a group's

four_are : (xs : List ℕ) → length xs ≡ 4 → slice_index xs 0 ∷ slice_index xs 1 ∷ slice_index xs 2 ∷ slice_index xs 3 ∷ [] ≡ xs
four_are [] long = absurd (omega (arith, long))
four_are (a ∷ []) long = absurd (omega (arith, long))
four_are (a ∷ b ∷ []) long = absurd (omega (arith, long))
four_are (a ∷ b ∷ c ∷ []) long = absurd (omega (arith, long))
four_are (a ∷ b ∷ c ∷ d ∷ []) long = refl
four_are (a ∷ b ∷ c ∷ d ∷ e ∷ rest) long = absurd (omega (arith, long))

group_opened : (number : ℕ) (uuid : List ℕ) (blocks : List (List ℕ)) → length uuid ≡ UUID_BYTES → HasGroupHead number uuid blocks
    → HasGroupTrees (group_pool number uuid blocks) (trees_of_head (head_of_blocks number uuid blocks))
    → HasGroup (group_pool number uuid blocks) (trees_of_head (head_of_blocks number uuid blocks))
group_opened number uuid blocks whole has trees =
    let head : GroupHead = head_of_blocks number uuid blocks in
    let b : Blocks = group_pool number uuid blocks in
    let same : head_of b (trees_of_head head) ≡ head =
    λ i. record { group = head.group; uuid = uuid; roots = four_are head.roots has.valid.four_roots i; levels = four_are head.levels has.valid.four_levels i; free = head.free } in
    record {
      place = record { first = refl; long = whole; kept_map = has.valid.map_bytes };
      trees = trees;
      valid = subst IsGroupHead (sym same) has.valid;
      head = has.head ∙ ap group_block (sym same);
    }

-- an overlay that was opened is a group's, as it is now and as it is kept
module _ (number : ℕ) (uuid bytes : List ℕ) (b : Blocks) (head : GroupHead) (t : Trees) (made : OpensHead number uuid bytes b head) (named : t ≡ trees_of_head head)
    (trees : HasGroupTrees b t) where
  abbrev pool : Blocks
  pool = group_pool number uuid (blocks_in FIRST_DATA_BLOCK bytes)

  abbrev top : Trees
  top = trees_of_blocks number uuid (blocks_in FIRST_DATA_BLOCK bytes)

  same_trees : t ≡ top
  same_trees = named ∙ ap trees_of_head made.head_is

  pool_trees : HasGroupTrees pool top
  pool_trees = subst (λ (r : Trees). HasGroupTrees pool r) same_trees (subst (λ (a : Blocks). HasGroupTrees a t) made.over trees)

  pub opened_parts : AreWhole b.current → AreGroupParts b t t
  opened_parts whole =
      let group_now = group_opened number uuid (blocks_in FIRST_DATA_BLOCK bytes) made.long made.has_head pool_trees in
      let whole_pool = subst (λ (a : Blocks). AreWhole a.current) made.over whole in
      let parts : AreGroupParts pool top top = record { now_group = group_now; kept_group = group_now; kept_whole = whole_pool } in
      subst (λ (a : Blocks). AreGroupParts a t t) (sym made.over) (subst (λ (r : Trees). AreGroupParts pool r r) (sym same_trees) parts)

  pub opened_right : AreWhole b.current → IsGroup number uuid (blocks_in FIRST_DATA_BLOCK bytes)
  opened_right whole = record { whole = subst (λ (a : Blocks). AreWhole a.current) made.over whole; head = made.has_head; trees = pool_trees }

  pub opened_view : group_state_of b ≡ opened_group number uuid bytes
  opened_view = ap group_state_of made.over ∙ ap (λ (ns : List ℕ). record (opened_group number uuid bytes) { changed = ns }) (none_changed (blocks_in FIRST_DATA_BLOCK bytes))

-- trees that share no block and have all that is used part the pool
module _ (b : Blocks) (t : Trees) (apart : AreApartTrees b t) where
  in_three : (n : ℕ) → Contains (space_blocks b t.space) n → Contains (blocks_of_three b t) n
  in_three n within = Contains-append_left (space_blocks b t.space) (blocks_of_tree reverse_form b t.rmap.tree) n within

  also_three : (n : ℕ) → Contains (blocks_of_tree reverse_form b t.rmap.tree) n → Contains (blocks_of_three b t) n
  also_three n within = Contains-append_right (space_blocks b t.space) (blocks_of_tree reverse_form b t.rmap.tree) n within

  later : (i j n : ℕ) → i < j → Contains (parts_of b t i) n → ¬ (Contains (parts_of b t j) n)
  later i zero n less one other = absurd (omega (arith, less))
  later zero (suc zero) n less one other = apart.rmap.1 n one other
  later (suc i) (suc zero) n less one other = absurd (omega (arith, less))
  later zero (suc (suc zero)) n less one other = apart.counts.1 n (in_three n one) other
  later (suc zero) (suc (suc zero)) n less one other = apart.counts.1 n (also_three n one) other
  later (suc (suc i)) (suc (suc zero)) n less one other = absurd (omega (arith, less))
  later i (suc (suc (suc j))) n less one other = absurd (omega (arith, other.1))

  parts_apart : (i j n : ℕ) → Contains (parts_of b t i) n → Contains (parts_of b t j) n → i ≡ j
  parts_apart i j n one other = ⊎_elim
      (λ (less : i < j). absurd (later i j n less one other))
      (λ (from : j ≤ i). ⊎_elim (λ (more : j < i). absurd (later j i n more other one)) (λ (until : i ≤ j). omega (arith, from, until)) (cases_lt j i))
      (cases_lt i j)

  is_part : (i : ℕ) → IsPart b t i
  is_part zero = apart.space
  is_part (suc zero) = apart.rmap.0
  is_part (suc (suc zero)) = apart.counts.0
  is_part (suc (suc (suc i))) = tt

  in_part : (n : ℕ) → Contains (blocks_of_trees b t) n → (i : ℕ) × Contains (parts_of b t i) n
  in_part n within = ⊎_elim
      (λ (three : Contains (blocks_of_three b t) n). ⊎_elim
      (λ (space : Contains (space_blocks b t.space) n). (0, space))
      (λ (owners : Contains (blocks_of_tree reverse_form b t.rmap.tree) n). (1, owners))
      (Contains-append_cases (space_blocks b t.space) (blocks_of_tree reverse_form b t.rmap.tree) n three))
      (λ (counts : Contains (reference_blocks b t.counts) n). (2, counts))
      (Contains-append_cases (blocks_of_three b t) (reference_blocks b t.counts) n within)

  pub trees_part : pool_size b ≡ FIRST_DATA_BLOCK → HoldAllUsed b (blocks_of_trees b t) → HasGroupTrees b t
  trees_part pool all = record {
    space = apart.space;
    rmap = apart.rmap.0;
    counts = apart.counts.0;
    parted = record {
      apart = parts_apart;
      used = λ i n held. owned_part b t i n (is_part i) held;
      every = λ n from below taken. in_part n (all n from below taken);
    };
    pool = pool;
  }

-- the trees that were found are those of the header
pub trees_found : (b : Blocks) (head : GroupHead) (one two three four : Root) → one ≡ root_at head 0 → two ≡ root_at head 1 → three ≡ root_at head 2
    → four ≡ root_at head 3 → HasGroupTrees b (trees_of_head head)
    → (let t : Trees = record { space = record { by_block = one; by_size = two }; rmap = record { tree = three }; counts = record { tree = four } } in
    (t ≡ trees_of_head head) × HasGroupTrees b t)
trees_found b head one two three four a c d e trees =
    let t : Trees = record { space = record { by_block = one; by_size = two }; rmap = record { tree = three }; counts = record { tree = four } } in
    let same : t ≡ trees_of_head head = λ i. record {
      space = record { by_block = a i; by_size = c i };
      rmap = record { tree = d i };
      counts = record { tree = e i };
    } in
    (same, subst (λ (r : Trees). HasGroupTrees b r) (sym same) trees)
