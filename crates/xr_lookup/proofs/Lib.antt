pub mod CountLemmas
pub mod DescentLemmas
pub mod FoundLemmas
pub mod HighLemmas
pub mod ReachLemmas
