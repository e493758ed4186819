pub mod BoundLaws
pub mod Bounds
pub mod FamilyLaws
pub mod Growth
pub mod Room
pub mod RoomLaws
pub mod SmallTreeLaws
