pub mod Columns
pub mod ColumnsLaws
pub mod Fields
pub mod FieldsLaws
pub mod ValuesLaws
