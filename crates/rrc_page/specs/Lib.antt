-- SPDX-License-Identifier: MIT
pub mod Fitting
pub mod Options
pub mod Replay
pub mod SpanLines
pub mod Spans
pub mod Texts
pub mod Told
