pub mod AnswerLaws
pub mod FrontLaws
pub mod LoadedLaws
pub mod SaysLaws
pub mod CostLaws
pub mod JudgeLaws
pub mod WritingLaws
