pub mod RemainderLemmas
pub mod TableLemmas
