pub mod FieldLemmas
pub mod FirstWrongLemmas
