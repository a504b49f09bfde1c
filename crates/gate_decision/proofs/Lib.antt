pub mod Laws
pub mod OnePass
