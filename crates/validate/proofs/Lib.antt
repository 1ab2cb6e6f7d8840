pub mod MarkLaws
pub mod FollowLaws
pub mod SetLaws
pub mod VerdictLaws
pub mod MoveLaws
pub mod StepLaws
