-- the order of the flash steps: another one contradicts the contracts
pub mod Order
