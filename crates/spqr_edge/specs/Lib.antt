-- What the devices of the outside mean.
pub mod Device
pub mod Memory
