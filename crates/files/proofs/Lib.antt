pub mod Determined
pub mod Passed
