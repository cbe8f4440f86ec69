-- SPDX-License-Identifier: MIT
pub mod Countdown
pub mod Stumbles
