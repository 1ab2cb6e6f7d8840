pub mod FactLaws
pub mod StateLaws
pub mod MeaningLaws
pub mod ValueLaws
pub mod EffectLaws
pub mod SuccessorLaws
pub mod CostLaws
pub mod DomainLaws
