-- To believe: Root, which the contracts cite, Norm, and the NearestRoot that both are made of; Units and Nearest, which say what root and size have to be; of FromUnits the record Decodes, a pattern's significand and exponent. Marked is a table of sizes, and Promises what is promised.
-- The others hold what the laws are stated with. The laws stand in proofs/Laws.
pub mod Root
pub mod NearestRoot
pub mod Norm
pub mod Units
pub mod Nearest
pub mod Marked
pub mod Promises
pub mod NearestLaws
pub mod NearestHalf
pub mod HalfRoot
pub mod NearestRootLaws
pub mod Whole
pub mod Digits
pub mod FromUnits
pub mod Cut
pub mod Patterns
pub mod Wide
pub mod NormMethod
