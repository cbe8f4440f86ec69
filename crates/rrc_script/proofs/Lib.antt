-- SPDX-License-Identifier: MIT
pub mod Scripted
