pub mod Calls
pub mod CountLaws
pub mod Counts
pub mod Marks
pub mod Refcount
