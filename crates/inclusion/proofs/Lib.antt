pub mod AlikeLaws
pub mod CountLaws
pub mod PassLaws
pub mod RowLaws
