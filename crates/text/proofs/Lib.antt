pub mod LineLaws
pub mod NumberLaws
pub mod WrittenLaws
pub mod DecimalLaws
pub mod PrintedDecimal
pub mod LineText
