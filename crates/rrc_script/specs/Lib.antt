-- SPDX-License-Identifier: MIT
pub mod Configs
pub mod Scripts
