-- SPDX-License-Identifier: MIT
-- Histories as they were before keys had a class: the definitions of that time, which do not change. What has no key in it (bodies,
-- trust, times, replies, rules) is as it is now. Images says which histories they are now.
pub mod Asked
pub mod Fits
pub mod Lives
pub mod Judged
pub mod Snapshots
pub mod Past
pub mod Right
pub mod Chapters
pub mod Audits
