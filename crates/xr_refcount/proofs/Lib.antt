pub mod CallLemmas
pub mod CarveLemmas
pub mod JoinLemmas
pub mod LookupLemmas
pub mod RecordRuleLemmas
pub mod SetRunLemmas
pub mod TestLemmas
