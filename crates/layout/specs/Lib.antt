pub mod Column
pub mod Sheet
