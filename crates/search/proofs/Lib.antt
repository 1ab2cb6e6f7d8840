pub mod GraphLaws
pub mod PotentialLaws
pub mod RelaxationLaws
pub mod SweepLaws
pub mod FillLaws
pub mod LowestLaws
