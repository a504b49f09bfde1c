pub mod Certifiers
pub mod Kinds
