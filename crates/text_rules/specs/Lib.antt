pub mod Words
pub mod Decoding
pub mod OtherWords
pub mod OtherDecoding
pub mod Kinds
pub mod Listing
