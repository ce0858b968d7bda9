-- What a reader must believe beside the model's definitions: what the code holds of an edition (Edition), of a column (Column)
-- and of a shoulder's two neighbours (Neighbours).
-- The contract of an inner step cites `ratio_in` of TurnLanes too. Laws: that an edition's factors and tables are the model's.
pub mod Edition
pub mod Column
pub mod Neighbours
pub mod TurnLanes
