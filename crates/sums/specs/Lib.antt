pub mod Quarter
pub mod Year
pub mod Sums
