pub mod Interval
pub mod Register
pub mod Layers
pub mod FullList
pub mod Changes
