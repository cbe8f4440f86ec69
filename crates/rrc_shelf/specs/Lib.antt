-- SPDX-License-Identifier: MIT
pub mod Shelves
pub mod Checks
pub mod Refusals
pub mod Asks
pub mod Offers
pub mod Readings
pub mod Upkeep
