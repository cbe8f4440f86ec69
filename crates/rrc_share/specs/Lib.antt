-- SPDX-License-Identifier: MIT
pub mod Shelf
pub mod Shared
pub mod CacheShelf
pub mod Switches
pub mod Trims
pub mod Evictions
pub mod Empty
