pub mod Space
pub mod SpaceFrame
pub mod SpaceLaws
