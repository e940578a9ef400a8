-- Definitions: Link (what is answered), Unbound (its part about variables). Statements: Accepts (when linking accepts, without the definition); their proofs: Theorems. Laws: LinkLaws.
pub mod Unbound
pub mod Link
pub mod Accepts
pub mod LinkLaws
pub mod View
pub mod Theorems
