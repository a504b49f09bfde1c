pub mod Defects
pub mod Flawed
