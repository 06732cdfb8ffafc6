pub mod SpellingLaws
pub mod RoomLaws
