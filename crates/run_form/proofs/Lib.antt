pub mod Making
pub mod Placing
pub mod Preparing
pub mod Determined
