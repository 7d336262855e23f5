pub mod Open
pub mod KeyList
pub mod Keys
pub mod Shown
pub mod Slots
pub mod Frames
pub mod Opened
pub mod Opens
