pub mod LeafTreeLaws
pub mod LeafTrees
pub mod Marked
pub mod MarkedLaws
pub mod PoolState
pub mod PoolStateLaws
