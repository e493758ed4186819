pub mod KeyLemmas
pub mod LaidBlockLemmas
pub mod LeafBuildLemmas
pub mod LeafEditLemmas
pub mod NodeBuildLemmas
pub mod NodeEditLemmas
pub mod SearchLemmas
