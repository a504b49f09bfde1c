pub mod GroupSets
pub mod Members
pub mod Ready
pub mod Deciding
pub mod Opening
