-- SPDX-License-Identifier: MIT
pub mod FaultNumbers
pub mod Fits
pub mod Limits
pub mod OneReport
pub mod SpansLaw
pub mod SpansLeft
