pub mod Texts
pub mod Outcomes
pub mod Answers
pub mod JobText
pub mod Compiling
pub mod Checking
pub mod Judging
pub mod Writing
