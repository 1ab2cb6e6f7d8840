pub mod StepList
pub mod StepIndex
pub mod Steps
pub mod Ready
pub mod Props
pub mod Explored
pub mod Arrival
