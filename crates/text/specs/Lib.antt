pub mod Bytes
pub mod Lines
pub mod Numbers
pub mod Progress
pub mod Written
