pub mod MemoryCallLemmas
pub mod PickLemmas
pub mod StreamLemmas
