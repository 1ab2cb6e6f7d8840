pub mod ExploredLaws
pub mod LeadLaws
pub mod IndexLaws
pub mod StepWalk
pub mod ReadyLaws
pub mod ArrivalLaws
pub mod SilentLaws
