-- Wish 7, "The order the crew drove". To be believed: Reordered, what two projects have in common and what is claimed of their reports.
-- Laws: ReorderedLaws, that it holds of what the project reader leaves; ReorderedCalls, of what the exported call leaves, and for every
-- order of a project's sites.
pub mod Reordered
pub mod ReorderedLaws
pub mod ReorderedCalls
