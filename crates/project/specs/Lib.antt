-- The project file. To be believed: File, what its bytes say and what a scan of them answers, Causes, why it is refused, and
-- Promise, what the scan promises. Laws of these: the others.
pub mod File
pub mod Causes
pub mod Scan
pub mod Promise
pub mod SitesRead
pub mod Prefix
