-- The report of a project, and demand 3. To be believed: Report, what it is, and Demand, what is claimed of it. The code's steps cite
-- Fill too, and no public call does. Laws of these: the others.
pub mod Report
pub mod Demand
pub mod DemandLaws
pub mod Fill
pub mod Accepted
pub mod NeededParts
pub mod OneReport
pub mod ReaderCauses
pub mod LinesLeft
