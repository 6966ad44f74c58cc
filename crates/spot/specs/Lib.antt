pub mod Lines
pub mod Show
pub mod Seen
pub mod SeenLaws
pub mod Near
pub mod NearLaws
