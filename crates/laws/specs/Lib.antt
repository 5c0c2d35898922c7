pub mod Replies
pub mod Form
pub mod Cut
pub mod Shows
