mod Devices
mod LineTexts
pub mod NumberWords
pub mod AskedWords
mod RefusedEnds
