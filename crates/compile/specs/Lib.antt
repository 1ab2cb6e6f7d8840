pub mod Program
pub mod CompiledJob
pub mod Size
pub mod Construct
pub mod Label
pub mod Laid
