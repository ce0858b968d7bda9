-- The text of a report and of a refusal. To be believed: Text (and `Puts` of laws, that it is stored). Laws of it: the others.
pub mod Text
pub mod Decimal
pub mod Lines
