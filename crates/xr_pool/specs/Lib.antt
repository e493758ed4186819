pub mod BitLaws
pub mod Bits
pub mod Lending
pub mod Marks
pub mod Overlay
pub mod OverlayLaws
pub mod Room
pub mod RoomLaws
