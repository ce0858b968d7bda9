-- The laws of specs/ that nothing there cites.
pub mod Acceptance
pub mod File
pub mod Prefix
pub mod Promise
pub mod ScanLaws
pub mod SitesRead
pub mod ScanPrefix
