pub mod Calendar
pub mod Refusals
pub mod Sheet
pub mod Sources
pub mod Order
pub mod Books
pub mod Runs
