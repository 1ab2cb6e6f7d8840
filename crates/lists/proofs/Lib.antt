pub mod ListLaws
pub mod ListTold
