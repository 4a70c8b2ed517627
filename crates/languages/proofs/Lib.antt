mod PairLaws
mod ReservedLaws
mod RisingLaws
mod SearchLaws
mod GoodLaws
mod TableLaws
pub mod Theorems
