pub mod StoreLaws
pub mod FrontLaws
pub mod FaultLaws
pub mod RowLaws
pub mod StoredLaws
pub mod CostLaws
