-- Lemmas of the room that this folder is named after.
pub mod Examples
pub mod Defined
pub mod Joined
pub mod Meetings
pub mod Numbers
pub mod Placing
pub mod ReadsTold
pub mod SeenCells
pub mod Shown
pub mod Sight
pub mod StatementsTold
pub mod Told
pub mod Touches
pub mod Turning
