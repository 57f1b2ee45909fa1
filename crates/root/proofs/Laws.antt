-- Theorems and NormTheorems state what is proved of the root and of the size; Promises has the proofs of what is promised.
-- That `nearest_root` is nearest: NearestLaws, NearestHalf, HalfRoot, NearestRootLaws, and NoTie for the root. From the code to the definitions: Whole, Digits, PowersOfFour, FromUnits, Cut and Patterns for what both share, RootMethod for the root, Wide, Magnitude and NormMethod for the size.
pub mod Cut
pub mod Digits
pub mod FromUnits
pub mod HalfRoot
pub mod Magnitude
pub mod Marked
pub mod NearestHalf
pub mod NearestLaws
pub mod NearestRootLaws
pub mod NoTie
pub mod Norm
pub mod NormMethod
pub mod NormTheorems
pub mod Patterns
pub mod PowersOfFour
pub mod Promises
pub mod Root
pub mod RootMethod
pub mod Theorems
pub mod Units
pub mod Whole
pub mod Wide
