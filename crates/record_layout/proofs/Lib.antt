pub mod Chain
pub mod Header
pub mod Tests
