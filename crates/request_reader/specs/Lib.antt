pub mod Following
pub mod Parts
