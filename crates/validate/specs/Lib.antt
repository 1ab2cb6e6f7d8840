pub mod Counted
pub mod Positions
pub mod Verdict
