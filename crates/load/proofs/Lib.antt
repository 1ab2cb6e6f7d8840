pub mod StageLaws
pub mod JobLaws
pub mod TaskLaws
pub mod OfferLaws
pub mod LoadingLaws
