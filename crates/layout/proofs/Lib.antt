pub mod ColumnLaws
pub mod LineLaws
pub mod PlanLines
pub mod LayingLaws
