pub mod Postings
pub mod Years
