-- SPDX-License-Identifier: MIT
pub mod Closings
pub mod Evictions
