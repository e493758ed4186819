pub mod ListTextLemmas
pub mod LogTextLemmas
pub mod TreeTextLemmas
