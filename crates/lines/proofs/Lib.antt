pub mod Cuts
pub mod Numbers
pub mod Firsts
pub mod Among
pub mod Headed
pub mod Spelling
