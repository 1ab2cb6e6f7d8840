pub mod Refusals
pub mod Sized
pub mod Loaded
pub mod View
