-- digests, values by rule, what a line says of a call
pub mod Says
-- how a line is read
pub mod Reads
