pub mod Cancel
pub mod Years
