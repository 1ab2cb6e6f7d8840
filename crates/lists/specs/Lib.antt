pub mod CountedList
pub mod PlanText
pub mod CostsText
pub mod Listed
