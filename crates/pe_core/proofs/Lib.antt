pub mod Numbers
pub mod Parts
pub mod FixedImages
pub mod Layouts
pub mod Tables
