pub mod Whole
pub mod Decoding
