-- 5 the cache
pub mod CacheLaws
pub mod Cached
-- 6 migration: one copy, all copies, with any cache, what it keeps, the whole of it
pub mod Placing
pub mod Copying
pub mod Migrate
pub mod Moving
pub mod Keep
pub mod Migrated
-- 7 the store, on a ring with a PartialOpen page
pub mod Rollover
pub mod Stored
pub mod Same
pub mod Full
pub mod Room
pub mod Exact
-- 8 any sound image: fetch, store, the list, removal, the walk's start; with any cache
pub mod Sane
pub mod Fetching
pub mod Storing
pub mod Listed
pub mod Left
pub mod Gone
pub mod Removal
pub mod Removing
pub mod Latest
pub mod AnyCache
-- 9 any image: what every run keeps
pub mod Kept
pub mod Steps
