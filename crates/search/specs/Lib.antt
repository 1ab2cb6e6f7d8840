pub mod Sweeps
pub mod Table
pub mod Relaxation
pub mod Sweep
pub mod Filling
