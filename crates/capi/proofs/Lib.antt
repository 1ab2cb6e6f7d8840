pub mod GivesLaws
