pub mod Misreads
pub mod Text
pub mod Unread
pub mod Names
pub mod Columns
pub mod Values
pub mod Entries
