pub mod Statements
pub mod Refusals
pub mod Printed
