-- SPDX-License-Identifier: MIT
pub mod AuditLemmas
pub mod QuestionNumbers
pub mod StopLemmas
pub mod ArchiveLemmas
pub mod UnlawfulLemmas
