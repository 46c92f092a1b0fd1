pub mod ValueLemmas
pub mod AnswerLemmas
pub mod RoomLemmas
pub mod ShelfLemmas
