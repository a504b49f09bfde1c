pub mod Written
pub mod Hints
