pub mod Endings
pub mod Laws
pub mod Stops
