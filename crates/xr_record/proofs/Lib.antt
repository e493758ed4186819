pub mod GrowthLemmas
pub mod PushLemmas
pub mod SectorLemmas
pub mod StreamLemmas
