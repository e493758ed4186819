pub mod FirstBrokenLemmas
