pub mod ItemLaws
pub mod ItemRow
pub mod ItemValue
