pub mod Room
pub mod Printout
