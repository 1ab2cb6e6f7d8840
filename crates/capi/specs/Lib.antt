pub mod Given
pub mod Numbers
pub mod Calls
