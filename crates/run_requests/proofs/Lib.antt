pub mod Loop
pub mod Granting
pub mod Opening
pub mod Writing
