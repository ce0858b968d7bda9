-- What the exported calls leave in lent runs of numbers. To be believed, since contracts cite it: Lent, SiteNumbers, LineNumbers,
-- ProjectNumbers and FileNumbers. The others are laws about these: Coding, Given, Malformed, RoundTrips and FileRoundTrips.
pub mod Lent
pub mod SiteNumbers
pub mod LineNumbers
pub mod ProjectNumbers
pub mod FileNumbers
pub mod Coding
pub mod Given
pub mod Malformed
pub mod RoundTrips
pub mod FileRoundTrips
