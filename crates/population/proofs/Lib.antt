pub mod Writing
pub mod TypeLaws
pub mod PartLaws
pub mod RoleLaws
pub mod RowCells
pub mod RowLaws
pub mod PredLaws
pub mod CountLaws
