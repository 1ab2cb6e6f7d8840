pub mod Room
pub mod Reading
