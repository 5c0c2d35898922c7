pub mod Form
pub mod Says
pub mod Parts
