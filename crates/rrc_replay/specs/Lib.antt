-- SPDX-License-Identifier: MIT
pub mod Stops
pub mod Run
pub mod Archives
pub mod Audited
pub mod Unlawful
