pub mod BesideLemmas
pub mod JoinLemmas
pub mod PairLemmas
pub mod PairSetLemmas
pub mod PartLemmas
pub mod RecordLemmas
pub mod SearchLemmas
