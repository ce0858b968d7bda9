-- What a reader must believe: Driveways, the bracket of the driveway part. Laws: that it stands at every depth, how wide and how
-- large it is.
pub mod Driveways
pub mod DrivewayLaws
