pub mod Numbers
pub mod Parted
