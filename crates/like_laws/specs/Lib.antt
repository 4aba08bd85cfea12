pub mod Alike
pub mod Apart
pub mod Examples
pub mod LikePages
pub mod LikeViews
pub mod PlainPages
