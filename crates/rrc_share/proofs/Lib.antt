-- SPDX-License-Identifier: MIT
pub mod Chaining
pub mod Got
pub mod Shelved
pub mod Trimming
