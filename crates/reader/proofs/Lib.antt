pub mod LineLaws
pub mod AddLaws
pub mod RoomLaws
pub mod FormedLaws
pub mod ReadLaws
