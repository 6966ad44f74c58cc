pub mod Roles
pub mod RoleLaws
pub mod Columns
pub mod ColumnLaws
pub mod Judged
pub mod JudgedLaws
pub mod Load
