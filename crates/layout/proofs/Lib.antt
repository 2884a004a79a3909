pub mod Measured
pub mod Known
pub mod Viewed
