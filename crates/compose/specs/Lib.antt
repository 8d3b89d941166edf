pub mod Blank
pub mod Failing
