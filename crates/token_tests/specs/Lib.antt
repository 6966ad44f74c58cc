pub mod Reply
pub mod Walk
pub mod Exponent
pub mod LeftOutTest
pub mod LimitTest
pub mod Tests
