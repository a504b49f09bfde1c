pub mod Laws
pub mod Subsets
pub mod Words
pub mod Walks
