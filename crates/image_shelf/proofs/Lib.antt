pub mod FileRows
pub mod Making
pub mod RowLaws
pub mod SectionNumbers
