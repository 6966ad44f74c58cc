pub mod CallLaws
pub mod TotalLaws
pub mod Demands
pub mod NumberLaws
pub mod WorkedCalls
