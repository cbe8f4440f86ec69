-- SPDX-License-Identifier: MIT
pub mod AsBox
pub mod Crossing
pub mod SameMemory
pub mod Loan
pub mod Looking
pub mod Lending
pub mod Holding
