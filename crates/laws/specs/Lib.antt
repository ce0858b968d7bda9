-- What a reader must believe: Lent, how numbers are laid over a lent run; `both` of Table, that two tests pass; `Puts` of Stores, that a
-- text is stored; a quotient rounded down and up (Quotient); a list in another order (Reordering). Laws: of truth values (Truth), of a
-- table that one computed test passes (Table), of a loop over a list (Walk), of stores (Stores), of a reordering (ReorderingLaws).
pub mod Lent
pub mod Quotient
pub mod Truth
pub mod Table
pub mod Walk
pub mod Stores
pub mod Reordering
pub mod ReorderingLaws
