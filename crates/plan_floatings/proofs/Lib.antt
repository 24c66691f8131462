mod CallLemmas
mod OuterLemmas
mod AimsKept
pub mod FloatingCallsApart
pub mod FloatingMade
pub mod FloatingsKept
pub mod FloatingsSpare
pub mod OwnFloatings
pub mod RoomOfFloatings
