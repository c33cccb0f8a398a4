pub mod Marks
pub mod Cases
pub mod Entries
pub mod Pairs
