-- digests and values, in the form that the loops ask
pub mod Laws
