pub mod BesideLemmas
pub mod FrameLemmas
pub mod FreeSetLemmas
pub mod JoinLemmas
pub mod PairLemmas
pub mod RunRecordLemmas
pub mod RunSetLemmas
pub mod SmallTreeLemmas
