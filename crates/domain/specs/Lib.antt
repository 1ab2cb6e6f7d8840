pub mod State
pub mod Meaning
pub mod Effects
pub mod Domain
pub mod Entries
