pub mod GroupSets
pub mod Laws
pub mod Deciding
pub mod Opening
