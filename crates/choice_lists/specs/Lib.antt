-- Lists of choices: orders, arrangements, products, ranks.
pub mod Order
pub mod Arrangements
pub mod Falling
pub mod Choices
pub mod Products
pub mod Numbers
pub mod Locks
pub mod Laws
