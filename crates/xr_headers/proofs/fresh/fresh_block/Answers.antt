use Rattle.std.proofs.Common.{rules}
use Rattle.xr_headers.specs.FreshImage.{fresh_block_of}
use Rattle.xr_headers.proofs.fresh.fresh_block.Goals as goal

pub returns-then-block-lt-FIRST_FILE_BLOCK : goal.returns-then-block-lt-FIRST_FILE_BLOCK
unfolding fresh_block_of
returns-then-block-lt-FIRST_FILE_BLOCK c = search rules

pub returns-then-block-lt-FIRST_GROUP_BLOCK : goal.returns-then-block-lt-FIRST_GROUP_BLOCK
unfolding fresh_block_of
returns-then-block-lt-FIRST_GROUP_BLOCK c = search rules

pub returns-else-block-lt-FIRST_GROUP_BLOCK : goal.returns-else-block-lt-FIRST_GROUP_BLOCK
unfolding fresh_block_of
returns-else-block-lt-FIRST_GROUP_BLOCK c = search rules
