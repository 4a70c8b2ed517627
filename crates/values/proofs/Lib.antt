pub mod Signs
mod Both
pub mod Order
pub mod Zero
pub mod Words
pub mod Letters
pub mod CodeLaws
pub mod GainOrder
